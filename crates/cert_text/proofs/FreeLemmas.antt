-- No line of a certificate contains an LF.
use Rattle.std.proofs.Common.{◌≡◌, ℕ, suc, ◌+◌, ◌/◌, ◌%◌, ◌≤◌, ◌<◌, ◌^◌, true, List, [], ◌∷◌, ◌++◌, codes, map, get_or, Option, Some, None, ℤ, pos, negsuc, ◌⊎◌, inl, inr, refl, arith}
use Rattle.std.specs.Prelude.{not, unsigned_abs, decimal, All, IfSome}
use Rattle.std.specs.Fmt.{signed_decimal}
use Rattle.std.specs.List.{list_all, AllByRecursion}
use Rattle.std.specs.Char.{is_ascii_digit}
use Rattle.std.proofs.lemmas.Bool.{ne_eqb, not_from_false}
use Rattle.std.proofs.lemmas.Bool.Decides.{nat_tests}
use Rattle.std.proofs.lemmas.List.Elements.{recursion_from_All}
use Rattle.std.proofs.lemmas.List.Folds.{list_all-append}
use Rattle.std.proofs.lemmas.List.Sums.{AllPass-from_list_all, list_all-from_AllPass}
use Rattle.curve_law.specs.declared.cell.Cell.{Cell}
use Rattle.curve_law.specs.declared.cell.Cell.TheVariants as cells
use Rattle.curve_law.specs.declared.kind.Kind.{Kind}
use Rattle.curve_law.specs.declared.kind.Kind.TheVariants.{High, Low, FloodBegins, EbbBegins, MarkRising, MarkFalling}
use Rattle.zone_time.specs.Dates.{two_digits, date_text, clock_text, date_of}
use Rattle.zone_time.specs.Moments.{day_of, minute_of_day, moment_text}
use Rattle.cert_text.specs.declared.certificate.Certificate.{Certificate}
use Rattle.cert_text.specs.declared.track_name.TrackName.{TrackName}
use Rattle.cert_text.specs.declared.track_name.TrackName.TheVariants.{Turn, Slack, Mark}
use Rattle.cert_text.specs.Tracks.{track_word, kind_word}
use Rattle.cert_text.specs.Certificates.{IsStationName, IsMark, IsCellOf, IsCertificate}
use Rattle.cert_text.specs.Lines.{title_of, station_line_of, begin_line_of, end_line_of, mark_line_of, heading_of, prefix_of, cell_line_of, last_line, track_lines_of, lines_if_there, lines_of}
use Rattle.cert_text.specs.ByLine.{is_lf}
use Rattle.cert_text.proofs.NumberLemmas.{digits_of_decimal}
use Rattle.cert_text.proofs.CutLemmas.{is_free, AreFree, are_free-append}

-- ---- texts

pub free-append : (xs ys : List ℕ) → is_free xs ≡ true → is_free ys ≡ true → is_free (xs ++ ys) ≡ true
free-append xs ys ha hb = rw (list_all-append (λ (b : ℕ). not (is_lf b)) xs ys, ha, hb) refl

free_byte : (b : ℕ) → 11 ≤ b → not (is_lf b) ≡ true
free_byte b h = not_from_false _ (ne_eqb b 10 (λ e. omega (arith, h, e)))

digits_free : (text : List ℕ) → list_all is_ascii_digit text ≡ true → is_free text ≡ true
digits_free text h =
    list_all-from_AllPass (λ (b : ℕ). not (is_lf b)) text (λ k d lt. free_byte (get_or text k d)
    (above (get_or text k d) (AllPass-from_list_all is_ascii_digit text h k d lt))) where
      above : (b : ℕ) → is_ascii_digit b ≡ true → 11 ≤ b
      above b e = grind (arith, nat_tests)

pub decimal_free : (n : ℕ) → n < 10 ^ 38 → is_free (decimal n) ≡ true
decimal_free n h = digits_free (decimal n) (digits_of_decimal n h)

name_free : (name : List ℕ) → IsStationName name → is_free name ≡ true
name_free name h =
    list_all-from_AllPass (λ (b : ℕ). not (is_lf b)) name (λ k d lt. free_byte (get_or name k d) (omega (arith, (h.printed k d lt).0)))

free_digit : (n : ℕ) → not (is_lf (48 + n % 10)) ≡ true
free_digit n = free_byte (48 + n % 10) (omega arith)

spelled_free : (a b c d e f : ℕ) → is_free (two_digits a ++ two_digits b ++ codes "-" ++ two_digits c ++ codes "-"
    ++ two_digits d ++ codes "T" ++ (two_digits e ++ codes ":" ++ two_digits f) ++ codes "Z") ≡ true
unfolding two_digits
spelled_free a b c d e f = simp free_digit

pub moment_free : (m : ℤ) → is_free (moment_text m) ≡ true
unfolding moment_text date_text clock_text
moment_free m =
    spelled_free ((date_of (day_of m)).year / 100) ((date_of (day_of m)).year % 100) (date_of (day_of m)).month
    (date_of (day_of m)).day (minute_of_day m / 60) (minute_of_day m % 60)

pub signed_free : (z : ℤ) → unsigned_abs z < 10 ^ 38 → is_free (signed_decimal z) ≡ true
signed_free (pos n) h = decimal_free n h
signed_free (negsuc n) h = decimal_free (suc n) h

-- ---- lines

title_free : (v : ℕ) → (v ≡ 1) ⊎ (v ≡ 2) → is_free (title_of v) ≡ true
unfolding title_of
title_free v (inl one) = rw one refl
title_free v (inr two) = rw two refl

pub station_free : (name : List ℕ) → IsStationName name → is_free (station_line_of name) ≡ true
unfolding station_line_of
station_free name h = free-append (codes "station ") name refl (name_free name h)

pub begin_free : (m : ℤ) → is_free (begin_line_of m) ≡ true
unfolding begin_line_of
begin_free m = free-append (codes "begin ") (moment_text m) refl (moment_free m)

pub end_free : (m : ℤ) → is_free (end_line_of m) ≡ true
unfolding end_line_of
end_free m = free-append (codes "end ") (moment_text m) refl (moment_free m)

mark_free : (mark : Option ℤ) → IfSome mark IsMark → is_free (mark_line_of mark) ≡ true
unfolding mark_line_of
mark_free None h = refl
mark_free (Some z) h = free-append (codes "mark ") (signed_decimal z) refl (signed_free z (omega (arith, h)))

heading_free : (track : TrackName) → is_free (heading_of track) ≡ true
unfolding heading_of track_word
heading_free Turn = refl
heading_free Slack = refl
heading_free Mark = refl

prefix_free : (kind : Kind) → is_free (prefix_of kind) ≡ true
unfolding kind_word
prefix_free High = refl
prefix_free Low = refl
prefix_free FloodBegins = refl
prefix_free EbbBegins = refl
prefix_free MarkRising = refl
prefix_free MarkFalling = refl

cell_free : (track : TrackName) (c : Cell) → IsCellOf track c → is_free (cell_line_of c) ≡ true
unfolding cell_line_of
cell_free track (cells.Quiet n) h = free-append (codes "q ") (decimal n) refl (decimal_free n (omega (arith, h.1)))
cell_free track cells.Still h = refl
cell_free track (cells.Turn kind level) h =
    free-append (prefix_of kind) (signed_decimal level) (prefix_free kind) (signed_free level (omega (arith, h.1)))

pub last_free : is_free last_line ≡ true
unfolding last_line
last_free = refl

-- ---- all lines

cells_free : (track : TrackName) (cs : List Cell) → AllByRecursion (IsCellOf track) cs → AreFree (map cell_line_of cs)
cells_free track [] h = tt
cells_free track (c ∷ cs) h = (cell_free track c h.0, cells_free track cs h.1)

track_free : (track : TrackName) (cs : List Cell) → All (IsCellOf track) cs → AreFree (track_lines_of track cs)
track_free track cs h = (heading_free track, cells_free track cs (recursion_from_All (IsCellOf track) cs h))

there_free : (track : TrackName) (o : Option (List Cell)) → IfSome o (All (IsCellOf track)) → AreFree (lines_if_there track o)
there_free track None h = tt
there_free track (Some cs) h = track_free track cs h

pub lines_free : (c : Certificate) → IsCertificate c → AreFree (lines_of c)
lines_free c h = (
  title_free c.version h.version,
  (
    station_free c.station h.station,
    (
      begin_free c.begin,
      (
        end_free c.end,
        (
          mark_free c.mark h.mark,
          are_free-append (track_lines_of Turn c.tracks.turn) _ (track_free Turn c.tracks.turn h.turn)
              (are_free-append (lines_if_there Slack c.tracks.slack) _ (there_free Slack c.tracks.slack h.slack)
              (are_free-append (lines_if_there Mark c.tracks.mark) (last_line ∷ [])
              (there_free Mark c.tracks.mark h.crossings) (last_free, tt))),
        ),
      ),
    ),
  ),
)
