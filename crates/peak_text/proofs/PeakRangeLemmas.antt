-- The cells of an accepted certificate of a highest water are in the ranges of their lines.
use Rattle.std.proofs.Common.{◌≡◌, ℕ, suc, ◌==◌, ℤ, pos, ◌+ℤ◌, List, [], ◌∷◌, All}
use Rattle.std.proofs.lemmas.Bool.Decides.{Decides-eqb}
use Rattle.std.proofs.lemmas.List.Elements.{All-nil, All-cons}
use Rattle.curve_law.specs.CurveSpec.{CurveSpec}
use Rattle.highest_water.specs.declared.peak.Peak.{Peak}
use Rattle.highest_water.specs.declared.peak_cell.PeakCell.{PeakCell}
use Rattle.highest_water.specs.declared.peak_cell.PeakCell.TheVariants.{Under, Single}
use Rattle.highest_water.specs.declared.verdict.PeakVerdict.TheVariants.{NotUnder, Accepted}
use Rattle.highest_water.specs.Covers.{minutes_of, all_minutes, is_under}
use Rattle.highest_water.specs.Verdicts.{cell_verdict, cells_verdict, is_inside, peak_verdict}
use Rattle.highest_water.proofs.UnderLemmas.{under-two, under-few}
use Rattle.curve_law.proofs.VerdictLemmas.{accepted_true, tested}
use Rattle.highest_water.proofs.VerdictLemmas.{both_accepted}
use Rattle.peak_text.specs.PeakTexts.{IsPeakCell}

cell-range : (c : CurveSpec) (at value a : ℤ) (number : ℕ) (cell : PeakCell)
    → cell_verdict c at value a number cell ≡ Accepted → IsPeakCell cell
unfolding cell_verdict
cell-range c at value a number (Under n) ok =
    let under = accepted_true (is_under c at value a n) Accepted (NotUnder number) (λ e. cc) ok in
    (under-two c at value a n under, under-few c at value a n under)
cell-range c at value a number Single ok = tt

cells-range : (c : CurveSpec) (at value a : ℤ) (number : ℕ) (cells : List PeakCell)
    → cells_verdict c at value a number cells ≡ Accepted → All IsPeakCell cells
unfolding cells_verdict
cells-range c at value a number [] ok = All-nil IsPeakCell
cells-range c at value a number (cell ∷ cells) ok =
    let parts = both_accepted (cell_verdict c at value a number cell)
    (cells_verdict c at value (a +ℤ pos (minutes_of cell)) (suc number) cells) ok in
    All-cons IsPeakCell cell cells
    (cell-range c at value a number cell parts.0)
    (cells-range c at value (a +ℤ pos (minutes_of cell)) (suc number) cells parts.1)

-- if a claimed highest water is accepted, its cells have as many minutes as the span, and each cell
-- under it has 2 to 1,024 minutes, whatever the curve is
pub verdict-cells : (c : CurveSpec) (a : ℤ) (n : ℕ) (peak : Peak) → peak_verdict c a n peak ≡ Accepted
    → (all_minutes peak.cells ≡ n) × All IsPeakCell peak.cells
unfolding peak_verdict
verdict-cells c a n peak ok =
    let whole = tested (all_minutes peak.cells == n) Accepted _ _ (λ e. cc) ok in
    let inside = tested (is_inside peak.at a n) Accepted _ _ (λ e. cc) whole.1 in
    ((Decides-eqb (all_minutes peak.cells) n).0 whole.0, cells-range c peak.at peak.value a 1 peak.cells inside.1)
