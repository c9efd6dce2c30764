-- Two example certificates of events with their texts, and wrong lines with the number of the line
-- that is reported (this project). `negsuc n` is -(n + 1).
use Rattle.std.specs.Prelude.{ℕ, ◌-◌, pos, negsuc, List, [], ◌∷◌, Some, None, codes, slice_set}
use Rattle.curve_law.specs.declared.cell.Cell.TheVariants.{Quiet, Still, Turn}
use Rattle.curve_law.specs.declared.kind.Kind.TheVariants.{Low, FloodBegins, EbbBegins, MarkRising, MarkFalling}
use Rattle.cert_text.specs.declared.certificate.Certificate.{Certificate}
use Rattle.cert_text.specs.Lines.{joined}

-- a certificate of the station Pier for the eight minutes from 2000-01-10T00:00Z, without a mark:
-- two still minutes, and then two quiet cells of 2 and 4 minutes
abbrev pub pier : Certificate
pier = record {
  version = 1;
  station = codes "Pier";
  begin = pos 15791040;
  end = pos 15791048;
  mark = None;
  tracks = record { turn = Still ∷ Still ∷ Quiet 2 ∷ Quiet 4 ∷ []; slack = None; mark = None };
}

-- the lines, without LF, of the text of the certificate `pier`
abbrev pub pier_lines : List (List ℕ)
pier_lines =
    codes "tide certificate 1" ∷ codes "station Pier" ∷ codes "begin 2000-01-10T00:00Z" ∷ codes "end 2000-01-10T00:08Z" ∷ codes "mark none"
    ∷ codes "track turn" ∷ codes "s" ∷ codes "s" ∷ codes "q 2" ∷ codes "q 4" ∷ codes "done" ∷ []

-- a certificate of the station Narrows with all three tracks and a mark at -0.5 of the unit; the
-- levels of its events, in millionths, are 0, negative, and of up to 14 digits. Its cells have more
-- minutes than its span: a certificate that has a text needn't be valid.
abbrev pub narrows : Certificate
narrows = record {
  version = 2;
  station = codes "Narrows";
  begin = pos 15791399;
  end = pos 15791401;
  mark = Some (negsuc 499999);
  tracks = record {
    turn = Still ∷ Turn Low (negsuc 999999) ∷ [];
    slack = Some (Turn FloodBegins (pos 0) ∷ Turn EbbBegins (pos 99999999999999) ∷ Quiet 1024 ∷ []);
    mark = Some (Turn MarkRising (negsuc 99999999999998) ∷ Turn MarkFalling (pos 7) ∷ []);
  };
}

-- the lines, without LF, of the text of the certificate `narrows`
abbrev pub narrows_lines : List (List ℕ)
narrows_lines =
    codes "tide certificate 2" ∷ codes "station Narrows" ∷ codes "begin 2000-01-10T05:59Z"
    ∷ codes "end 2000-01-10T06:01Z" ∷ codes "mark -500000"
    ∷ codes "track turn" ∷ codes "s" ∷ codes "t low -1000000"
    ∷ codes "track slack" ∷ codes "t flood 0" ∷ codes "t ebb 99999999999999" ∷ codes "q 1024"
    ∷ codes "track mark" ∷ codes "t rise -99999999999999" ∷ codes "t fall 7" ∷ codes "done" ∷ []

-- a change of one line of a text: `line` is the number of the line, counted from 1, `text` its new
-- content, without LF, and `at` the number of the line that reading then reports
pub record Change : Type 0 where
  pub line : ℕ
  pub text : List ℕ
  pub at : ℕ

-- `change line text at`: the change of line `line` to `text`, after which reading reports line
-- `at`; both count from 1
abbrev pub change : ℕ → List ℕ → ℕ → Change
change line text at = record { line = line; text = text; at = at }

-- the text of the certificate `pier` with line `c.line`, counted from 1, replaced by `c.text`
abbrev pub pier_with : Change → List ℕ
pier_with c = joined (slice_set pier_lines (c.line - 1) c.text)

-- changes of the text of the certificate `pier`, each with the line that reading then reports;
-- after each of them the bytes aren't the text of a certificate
abbrev pub changes : List Change
changes =
    change 1 (codes "tide certificate 3") 1
    ∷ change 2 (codes "station ") 2
    ∷ change 2 (codes "station a\tb") 2
    ∷ change 2 (codes "station a\u{7f}b") 2
    ∷ change 3 (codes "begin 2000-1-10T00:00Z") 3
    ∷ change 4 (codes "end 2000-01-10T24:00Z") 4
    ∷ change 5 (codes "mark -0") 5
    ∷ change 5 (codes "mark 10000000001") 5
    ∷ change 5 (codes "mark 0") 11
    ∷ change 6 (codes "track slack") 6
    ∷ change 7 (codes "q 1") 7
    ∷ change 7 (codes "q 2\r") 7
    ∷ change 7 (codes "t flood 1") 7
    ∷ change 7 (codes "t high 00") 7
    ∷ change 7 (codes "t high 100000000000000") 7
    ∷ change 7 (codes "track turn") 7
    ∷ change 7 (codes "track mark") 7
    ∷ change 7 (codes "done") 8
    ∷ change 9 (codes "q 08") 9
    ∷ change 10 (codes "q 1025") 10
    ∷ change 11 (codes "Done") 11
    ∷ []
