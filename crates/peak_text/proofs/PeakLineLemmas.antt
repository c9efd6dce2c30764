-- What is read from a line of a certificate of a highest water is what the line spells, any line
-- that spells it reads so, and no line contains an LF.
use Rattle.std.proofs.Common.{◌≡◌, ℕ, ◌≤◌, true, false, cond, List, [], ◌∷◌, ◌++◌, codes, Some, None, ℤ, refl, sym, subst, lit<, lit≤, arith}
use Rattle.std.specs.Prelude.{decimal, option_and_then}
use Rattle.std.specs.Fmt.{signed_decimal}
use Rattle.std.specs.List.{AllByRecursion}
use Rattle.std.specs.Str.{bytes_eq}
use Rattle.std.proofs.lemmas.Bool.{leb-true, le-leb, and_parts}
use Rattle.std.proofs.lemmas.List.Elements.{recursion_from_All}
use Rattle.std.proofs.lemmas.Option.{cond_some, same_Some, option_and_then_some}
use Rattle.zone_time.specs.Moments.{moment_text}
use Rattle.cert_text.specs.Lines.{last_line}
use Rattle.cert_text.specs.Workings.LineReading.{after, size_of, parse_number}
use Rattle.cert_text.proofs.NumberLemmas.{size_is, size_of-decimal, number_is, parse_number-signed}
use Rattle.cert_text.proofs.PartLemmas.{same_bytes}
use Rattle.cert_text.proofs.LineLemmas.{after_is, after-append}
use Rattle.cert_text.proofs.CutLemmas.{is_free, AreFree}
use Rattle.cert_text.proofs.FreeLemmas.{free-append, decimal_free, moment_free, signed_free, station_free, begin_free, end_free, last_free}
use Rattle.peak_text.specs.declared.certificate.PeakCertificate.{PeakCertificate}
use Rattle.highest_water.specs.declared.peak_cell.PeakCell.{PeakCell}
use Rattle.highest_water.specs.declared.peak_cell.PeakCell.TheVariants.{Under, Single}
use Rattle.peak_text.specs.PeakTexts.{IsPeakValue, IsPeakCell, IsPeakCertificate, peak_title, at_line_of, value_line_of, peak_cell_line_of, cell_lines_of, peak_lines_of}
use Rattle.peak_text.specs.PeakSpelling.{SpellsValue, SpellsPeakCell}
use Rattle.peak_text.specs.Workings.PeakLineReading.{value_of, under_for, under_of, cell_of}

-- ---- values

pub value_is : (line : List ℕ) (v : ℤ) → value_of line ≡ Some v → SpellsValue v line
unfolding value_of
value_is line v e =
    option_and_then_some (parse_number 37) (after (codes "value ") line) v e (λ text found number.
    let got = number_is 37 text v (lit≤ tt) number in
    (got.0, rw got.1 (after_is (codes "value ") line text found)))

pub value_read : (v : ℤ) (line : List ℕ) → SpellsValue v line → value_of line ≡ Some v
unfolding value_of
value_read v line h = rw (h.1, after-append (codes "value ") (signed_decimal v)) (parse_number-signed 37 v (lit< tt) (lit≤ tt) h.0)

-- ---- cells

under_for_is : (n : ℕ) (cell : PeakCell) → under_for n ≡ Some cell → SpellsPeakCell cell (codes "u " ++ decimal n)
under_for_is n cell e =
    let got = cond_some _ (Under n) cell e in
    let both = and_parts _ _ got.0 in
    subst (λ cell. SpellsPeakCell cell (codes "u " ++ decimal n)) got.1 (leb-true 2 n both.0, leb-true n 1024 both.1, refl)

under_is : (line : List ℕ) (cell : PeakCell) → under_of line ≡ Some cell → SpellsPeakCell cell line
unfolding under_of
under_is line cell e =
    option_and_then_some under_for (option_and_then (size_of 4) (after (codes "u ") line)) cell e (λ n found is.
    option_and_then_some (size_of 4) (after (codes "u ") line) n found (λ text front size.
    let written : line ≡ codes "u " ++ decimal n = rw (size_is 4 text n (lit≤ tt) size).1 (after_is (codes "u ") line text front) in
    subst (λ l. SpellsPeakCell cell l) (sym written) (under_for_is n cell is)))

pub cell_is : (line : List ℕ) (cell : PeakCell) → cell_of line ≡ Some cell → SpellsPeakCell cell line
unfolding cell_of
cell_is line cell e =
    elim (bytes_eq line (codes "m")) as (λ v. bytes_eq line (codes "m") ≡ v
    → cond v (Some Single) (under_of line) ≡ Some cell → SpellsPeakCell cell line) [
      | true ↦ λ b k. subst (λ cell. SpellsPeakCell cell line) (same_Some Single cell k) (same_bytes _ _ b)
      | false ↦ λ b k. under_is line cell k
    ] refl e

under_of-line : (n : ℕ) → 2 ≤ n → n ≤ 1024 → under_of (codes "u " ++ decimal n) ≡ Some (Under n)
unfolding under_of
under_of-line n low high =
    rw (after-append (codes "u ") (decimal n), size_of-decimal 4 n (lit< tt) (lit≤ tt) (omega arith), le-leb 2 n low, le-leb n 1024 high)
    refl

pub cell_read : (cell : PeakCell) (line : List ℕ) → SpellsPeakCell cell line → cell_of line ≡ Some cell
unfolding cell_of
cell_read (Under n) line h = rw (h.2, under_of-line n h.0 h.1) refl
cell_read Single line h = rw h refl

pub last_no_cell : cell_of last_line ≡ None
unfolding cell_of under_of after last_line
last_no_cell = refl

-- ---- no line has an LF

title_free : is_free peak_title ≡ true
unfolding peak_title
title_free = refl

at_free : (m : ℤ) → is_free (at_line_of m) ≡ true
unfolding at_line_of
at_free m = free-append (codes "at ") (moment_text m) refl (moment_free m)

value_free : (v : ℤ) → IsPeakValue v → is_free (value_line_of v) ≡ true
unfolding value_line_of
value_free v h = free-append (codes "value ") (signed_decimal v) refl (signed_free v (omega (arith, h)))

cell_free : (cell : PeakCell) → IsPeakCell cell → is_free (peak_cell_line_of cell) ≡ true
unfolding peak_cell_line_of
cell_free (Under n) h = free-append (codes "u ") (decimal n) refl (decimal_free n (omega (arith, h.1)))
cell_free Single h = refl

cells_free : (cs : List PeakCell) → AllByRecursion IsPeakCell cs → AreFree (cell_lines_of cs)
cells_free [] h = (last_free, tt)
cells_free (c ∷ cs) h = (cell_free c h.0, cells_free cs h.1)

pub lines_free : (c : PeakCertificate) → IsPeakCertificate c → AreFree (peak_lines_of c)
lines_free c h = (
  title_free,
  (
    station_free c.station h.station,
    (
      begin_free c.begin,
      (
        end_free c.end,
        (
          at_free c.peak.at,
          (value_free c.peak.value h.value, cells_free c.peak.cells (recursion_from_All IsPeakCell c.peak.cells h.cells)),
        ),
      ),
    ),
  ),
)
