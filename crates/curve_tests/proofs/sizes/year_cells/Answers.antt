use Rattle.std.proofs.Common.{◌≡◌, ap, ◌∙◌, arith}
use Rattle.curve_law.specs.Cells.{all_minutes}
use Rattle.curve_law.proofs.AcceptedLemmas.{cover-minutes}
use Rattle.curve_tests.proofs.sizes.year_cells.Goals as goal

-- the year has 527,040 minutes
pub returns : goal.returns
returns g c =
    let whole : all_minutes c.in_ok-cells.cells ≡ 527040 = ap all_minutes c.in_ok-cells.ensures.cells ∙ cover-minutes _ _ _ in
    omega arith
