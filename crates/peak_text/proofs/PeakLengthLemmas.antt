-- The length in bytes of the text of a certificate of a highest water.
use Rattle.std.proofs.Common.{◌≡◌, ℕ, ◌+◌, ◌*◌, ◌<◌, ◌≤◌, ltb, List, [], ◌∷◌, codes, length, ℤ, inl, inr, refl, length-append, lit<, arith}
use Rattle.std.specs.Prelude.{decimal}
use Rattle.std.specs.Fmt.{signed_decimal}
use Rattle.std.specs.List.{AllByRecursion}
use Rattle.std.proofs.lemmas.Bool.{ltb-true, ltb-false, cases_Bool}
use Rattle.std.proofs.lemmas.Fmt.{length-decimal-le}
use Rattle.std.proofs.lemmas.List.Elements.{recursion_from_All}
use Rattle.zone_time.specs.Moments.{moment_text}
use Rattle.cert_text.specs.Lines.{station_line_of, begin_line_of, end_line_of, last_line}
use Rattle.cert_text.specs.Texts.{joined}
use Rattle.cert_text.proofs.NumberLemmas.{length-number}
use Rattle.cert_text.proofs.TextLemmas.{length-moment_text}
use Rattle.cert_text.proofs.LengthLemmas.{station_short, begin_short, end_short, joined-cons}
use Rattle.peak_text.specs.declared.certificate.PeakCertificate.{PeakCertificate}
use Rattle.highest_water.specs.declared.peak_cell.PeakCell.{PeakCell}
use Rattle.highest_water.specs.declared.peak_cell.PeakCell.TheVariants.{Under, Single}
use Rattle.highest_water.specs.Covers.{minutes_of, all_minutes}
use Rattle.peak_text.specs.PeakTexts.{IsPeakValue, IsPeakCell, IsPeakCertificate, peak_title, at_line_of, value_line_of, peak_cell_line_of, cell_lines_of, peak_text}

-- ---- lines

at_short : (m : ℤ) → length (at_line_of m) ≡ 20
unfolding at_line_of
at_short m = omega (arith, length-append (codes "at ") (moment_text m), length-moment_text m)

value_short : (v : ℤ) → IsPeakValue v → length (value_line_of v) ≤ 44
unfolding value_line_of
value_short v h = omega (arith, length-append (codes "value ") (signed_decimal v), length-number 37 v (lit< tt) (omega arith) h)

minutes_short : (n : ℕ) → 2 ≤ n → n ≤ 1024 → length (decimal n) + 3 ≤ 2 * n
minutes_short n low high = elim (cases_Bool (ltb n 10)) [
  | inl one ↦ omega (arith, length-decimal-le 1 n (lit< tt) (omega (arith, ltb-true n 10 one)) (omega arith))
  | inr more ↦ omega (arith, length-decimal-le 4 n (lit< tt) (omega arith) (omega arith), ltb-false n 10 more)
]

-- the line of a cell with its LF has at most 2 bytes for each minute of the cell
cell_short : (c : PeakCell) → IsPeakCell c → length (peak_cell_line_of c) + 1 ≤ 2 * minutes_of c
unfolding peak_cell_line_of
cell_short (Under n) h = omega (arith, length-append (codes "u ") (decimal n), minutes_short n h.0 h.1)
cell_short Single h = omega arith

-- ---- all lines

cells_short : (cs : List PeakCell) → AllByRecursion IsPeakCell cs → length (joined (cell_lines_of cs)) ≤ 5 + 2 * all_minutes cs
unfolding last_line all_minutes
cells_short [] h = omega arith
cells_short (c ∷ cs) h =
    omega (arith, joined-cons (peak_cell_line_of c) (cell_lines_of cs), cell_short c h.0, cells_short cs h.1)

title_short : length peak_title ≡ 18
unfolding peak_title
title_short = refl

pub text_short : (c : PeakCertificate) → IsPeakCertificate c → length (peak_text c) ≤ 545 + 2 * all_minutes c.peak.cells
unfolding peak_text
text_short c h =
    let cells = cell_lines_of c.peak.cells in
    let from_value = value_line_of c.peak.value ∷ cells in
    let from_at = at_line_of c.peak.at ∷ from_value in
    let from_end = end_line_of c.end ∷ from_at in
    let from_begin = begin_line_of c.begin ∷ from_end in
    let from_station = station_line_of c.station ∷ from_begin in
    omega (
      arith,
      joined-cons peak_title from_station,
      joined-cons (station_line_of c.station) from_begin,
      joined-cons (begin_line_of c.begin) from_end,
      joined-cons (end_line_of c.end) from_at,
      joined-cons (at_line_of c.peak.at) from_value,
      joined-cons (value_line_of c.peak.value) cells,
      title_short,
      station_short c.station h.station.short,
      begin_short c.begin,
      end_short c.end,
      at_short c.peak.at,
      value_short c.peak.value h.value,
      cells_short c.peak.cells (recursion_from_All IsPeakCell c.peak.cells h.cells),
    )

pub text_fits : (c : PeakCertificate) → IsPeakCertificate c → all_minutes c.peak.cells ≤ 5270400 → length (peak_text c) < 10542000
text_fits c h few = omega (arith, text_short c h, few)
