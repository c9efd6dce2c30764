-- An example certificate of a highest water with its text, and wrong lines with the number of the
-- line that is reported (this project).
use Rattle.std.specs.Prelude.{ℕ, ◌-◌, pos, List, [], ◌∷◌, ◌++◌, codes, replicate, slice_set}
use Rattle.cert_text.specs.Texts.{joined}
use Rattle.cert_text.specs.Worked.{Change, change}
use Rattle.peak_text.specs.declared.certificate.PeakCertificate.{PeakCertificate}
use Rattle.highest_water.specs.declared.peak_cell.PeakCell.TheVariants.{Under, Single}

-- a certificate of the highest water at the station Pier in the 64 minutes from 2000-01-10T00:00Z:
-- it is in the first minute, with a value of one foot (4,147,200,000 times 10^21)
abbrev pub pier : PeakCertificate
pier = record {
  station = codes "Pier";
  begin = pos 15791040;
  end = pos 15791104;
  peak = record {
    at = pos 15791040;
    value = pos 4147200000000000000000000000000;
    cells = replicate 16 Single ++ Under 2 ∷ Under 2 ∷ Under 4 ∷ Under 4 ∷ Under 4 ∷ Under 8 ∷ Under 8 ∷ Under 16 ∷ [];
  };
}

-- the lines, without LF, of the text of the certificate `pier`
abbrev pub pier_lines : List (List ℕ)
pier_lines =
    codes "peak certificate 1" ∷ codes "station Pier" ∷ codes "begin 2000-01-10T00:00Z" ∷ codes "end 2000-01-10T01:04Z"
    ∷ codes "at 2000-01-10T00:00Z" ∷ codes "value 4147200000000000000000000000000"
    ∷ (replicate 16 (codes "m") ++ codes "u 2" ∷ codes "u 2" ∷ codes "u 4" ∷ codes "u 4" ∷ codes "u 4" ∷ codes "u 8"
    ∷ codes "u 8" ∷ codes "u 16"
    ∷ codes "done" ∷ [])

-- the text of the certificate `pier` with line `c.line`, counted from 1, replaced by `c.text`
abbrev pub pier_with : Change → List ℕ
pier_with c = joined (slice_set pier_lines (c.line - 1) c.text)

-- changes of the text of the certificate `pier`, each with the line that reading then reports;
-- after each of them the bytes aren't the text of a certificate of a highest water. The first makes
-- the title of a certificate of events.
abbrev pub changes : List Change
changes =
    change 1 (codes "tide certificate 2") 1
    ∷ change 1 (codes "peak certificate 2") 1
    ∷ change 1 (codes "peak certificate 1\r") 1
    ∷ change 2 (codes "station ") 2
    ∷ change 3 (codes "begin 2000-01-10T00:00") 3
    ∷ change 4 (codes "end 2000-01-10T24:00Z") 4
    ∷ change 5 (codes "at  2000-01-10T00:00Z") 5
    ∷ change 6 (codes "value -0") 6
    ∷ change 6 (codes "value 00") 6
    ∷ change 6 (codes "value +1") 6
    ∷ change 6 (codes "value 10000000000000000000000000000000000000") 6
    ∷ change 7 (codes "u 1") 7
    ∷ change 7 (codes "u 1025") 7
    ∷ change 7 (codes "u 08") 7
    ∷ change 7 (codes "u -2") 7
    ∷ change 7 (codes "m ") 7
    ∷ change 7 (codes "s") 7
    ∷ change 7 (codes "done") 8
    ∷ change 31 (codes "Done") 31
    ∷ []
