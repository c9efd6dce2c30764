-- The verdict on one cell, and on the cells after it.
use Rattle.std.proofs.Common.{◌≡◌, ◌≢◌, ℕ, ◌+◌, ◌<◌, ◌≤◌, ◌==◌, ℤ, pos, ◌+ℤ◌, Fits, w32, ◌^◌, List, ◌∷◌, get_or, drop, length, true, false, refl, sym, add-one, drop-cons, arith}
use Rattle.std.proofs.lemmas.Int.{ints}
use Rattle.std.proofs.lemmas.List.{drop_all}
use Rattle.std.proofs.lemmas.Bool.Decides.{Decides-eqb}
use Rattle.curve_law.specs.declared.point.Point.{Point}
use Rattle.curve_law.specs.CurveSpec.{CurveSpec, IsSpan}
use Rattle.highest_water.specs.declared.peak.Peak.{Peak}
use Rattle.highest_water.specs.declared.peak_cell.PeakCell.{PeakCell}
use Rattle.highest_water.specs.declared.peak_cell.PeakCell.TheVariants.{Under, Single}
use Rattle.highest_water.specs.declared.verdict.PeakVerdict.{PeakVerdict}
use Rattle.highest_water.specs.declared.verdict.PeakVerdict.TheVariants.{WrongLength, Outside, NotUnder, WrongValue, Above, Accepted}
use Rattle.highest_water.specs.Covers.{minutes_of, all_minutes, is_under}
use Rattle.highest_water.specs.Verdicts.{cell_verdict, or_next, cells_verdict, is_inside, peak_verdict}
use Rattle.highest_water.specs.Workings.Findings.{under_finding, single_finding}

-- ---- one cell

pub under_finding-is_under : (c : CurveSpec) (h : Point) (a : ℤ) (number n : ℕ)
    → under_finding number (is_under c h.minute h.value a n) ≡ cell_verdict c h.minute h.value a number (Under n)
unfolding cell_verdict
under_finding-is_under c h a number n = refl

pub single_finding-at : (c : CurveSpec) (h at : Point) (number : ℕ) → at.value ≡ c.track.value at.minute
    → single_finding h number at ≡ cell_verdict c h.minute h.value at.minute number Single
unfolding cell_verdict
single_finding-at c h at number value = rw value refl

-- ---- the first of the cells that are left, and the others

cells-left : (cells : List PeakCell) (i : ℕ) (d : PeakCell) → i < length cells → drop i cells ≡ get_or cells i d ∷ drop (i + 1) cells
cells-left cells i d some = rw (add-one, drop-cons cells i d) refl

pub first-span : (c : CurveSpec) (a : ℤ) (cells : List PeakCell) (i : ℕ) (d : PeakCell) → i < length cells
    → IsSpan c a (all_minutes (drop i cells)) → IsSpan c a (minutes_of (get_or cells i d))
unfolding all_minutes
first-span c a cells i d some span =
    let first = span.first in
    let last = (rw (cells-left cells i d some) at span).last in
    record { first = first; last = omega (arith, ints) }

pub rest-span : (c : CurveSpec) (a : ℤ) (cells : List PeakCell) (i : ℕ) (d : PeakCell) → i < length cells
    → IsSpan c a (all_minutes (drop i cells))
    → IsSpan c (a +ℤ pos (minutes_of (get_or cells i d))) (all_minutes (drop (i + 1) cells))
unfolding all_minutes
rest-span c a cells i d some span =
    let first = span.first in
    let last = (rw (cells-left cells i d some) at span).last in
    record { first = omega (arith, ints); last = omega (arith, ints) }

wrong-first : (v w : PeakVerdict) → v ≢ Accepted → or_next v w ≡ v
wrong-first (WrongLength covered wanted) w wrong = refl
wrong-first Outside w wrong = refl
wrong-first (NotUnder cell) w wrong = refl
wrong-first (WrongValue written computed) w wrong = refl
wrong-first (Above cell) w wrong = refl
wrong-first Accepted w wrong = absurd (wrong refl)

-- the first verdict is that on this cell, or one on the cells after it, or there are no more cells
pub first-found : (c : CurveSpec) (h : Point) (a : ℤ) (number : ℕ) (cells : List PeakCell) (i : ℕ) (d : PeakCell)
    (all found : PeakVerdict) → i < length cells → all ≡ cells_verdict c h.minute h.value a number (drop i cells)
    → found ≡ cell_verdict c h.minute h.value a number (get_or cells i d) → found ≢ Accepted → found ≡ all
unfolding cells_verdict
first-found c h a number cells i d all found some left is wrong =
    rw (left, cells-left cells i d some, ← is) (sym (wrong-first found _ wrong))

pub rest-found : (c : CurveSpec) (h : Point) (a : ℤ) (number : ℕ) (cells : List PeakCell) (i : ℕ) (d : PeakCell)
    (all : PeakVerdict) → i < length cells → all ≡ cells_verdict c h.minute h.value a number (drop i cells)
    → Accepted ≡ cell_verdict c h.minute h.value a number (get_or cells i d) → all
    ≡ cells_verdict c h.minute h.value (a +ℤ pos (minutes_of (get_or cells i d))) (number + 1) (drop (i + 1) cells)
unfolding cells_verdict
rest-found c h a number cells i d all some left right =
    rw (left, cells-left cells i d some, ← right, ← add-one number) refl

pub none-found : (c : CurveSpec) (h : Point) (a : ℤ) (number i : ℕ) (cells : List PeakCell) (all : PeakVerdict)
    → length cells ≤ i → all ≡ cells_verdict c h.minute h.value a number (drop i cells) → Accepted ≡ all
unfolding cells_verdict
none-found c h a number i cells all none left = rw (left, drop_all i cells none) refl

-- ---- the whole

pub verdict-outside : (c : CurveSpec) (a : ℤ) (n : ℕ) (peak : Peak) → all_minutes peak.cells ≡ n
    → is_inside peak.at a n ≡ false → Outside ≡ peak_verdict c a n peak
unfolding peak_verdict
verdict-outside c a n peak whole outside =
    let all : (all_minutes peak.cells == n) ≡ true = (Decides-eqb (all_minutes peak.cells) n).1 whole in
    rw (all, outside) refl

pub verdict-inside : (c : CurveSpec) (a : ℤ) (n : ℕ) (peak : Peak) → all_minutes peak.cells ≡ n
    → is_inside peak.at a n ≡ true → cells_verdict c peak.at peak.value a 1 peak.cells ≡ peak_verdict c a n peak
unfolding peak_verdict
verdict-inside c a n peak whole inside =
    let all : (all_minutes peak.cells == n) ≡ true = (Decides-eqb (all_minutes peak.cells) n).1 whole in
    rw (all, inside) refl

-- the number of evaluations after i of n cells, and the number of the next cell
pub few-counted : (count start i n : ℕ) → count ≡ start + i + 1 → i < n → start + n ≤ 2 ^ 62 → count < 2 ^ 63
few-counted count start i n counted some few = omega arith

pub more-counted : (count start i n after : ℕ) → count ≡ start + i + 1 → i < n → after ≡ count + 1 → after ≤ start + n + 1
more-counted count start i n after counted some one = omega arith

pub all-counted : (count start i n : ℕ) → count ≡ start + i + 1 → i ≤ n → count ≤ start + n + 1
all-counted count start i n counted last = omega arith

pub number-fits : (number i n : ℕ) → number ≡ i → i < n → n < 2 ^ 32 → Fits w32 (number + 1)
number-fits number i n is some few = record { fits = omega arith }
