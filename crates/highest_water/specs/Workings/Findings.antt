-- The verdict on a cell, as the code computes it. No public clause cites this.
use Rattle.std.specs.Prelude.{ℕ, ℤ, Bool, if◌then◌else◌}
use Rattle.std.specs.Ordering.{int_eq}
use Rattle.curve_law.specs.declared.point.Point.{Point}
use Rattle.highest_water.specs.declared.verdict.PeakVerdict.{PeakVerdict}
use Rattle.highest_water.specs.declared.verdict.PeakVerdict.TheVariants.{NotUnder, WrongValue, Above, Accepted}
use Rattle.highest_water.specs.Peaks.{is_higher}

-- the verdict on the cell with this number, which claims several minutes under the highest water;
-- the Bool says whether they are
abbrev pub under_finding : ℕ → Bool → PeakVerdict
under_finding number is_under = if is_under then Accepted else NotUnder number

-- the verdict on the value of the highest water, claimed (`written`) and the curve's (`computed`)
abbrev pub value_finding : ℤ → ℤ → PeakVerdict
value_finding written computed = if int_eq written computed then Accepted else WrongValue written computed

-- the verdict on the cell with this number, the single minute of the point `at`, for the claimed
-- highest water `highest`
abbrev pub single_finding : Point → ℕ → Point → PeakVerdict
single_finding highest number at =
    if int_eq at.minute highest.minute
    then value_finding highest.value at.value
    else (if is_higher highest.minute highest.value at.minute at.value then Above number else Accepted)
