-- The difference between the change of the cosine over some units and its slope at their beginning (this
-- project): the change over one unit is within 100,000 billionths of the slope, and over the units the
-- slope itself changes by at most the sine's step.
use Rattle.std.specs.Prelude.{ℕ, ◌+◌, ◌*◌, ◌%◌, ◌<◌, ◌≤◌, pos, ◌+ℤ◌, ◌-ℤ◌, ◌*ℤ◌, unsigned_abs}
use Rattle.fixed_sine.specs.Circle.{circle, radian}
use Rattle.fixed_sine.specs.Sine.{isin_of, icos_of}
use Rattle.fixed_sine.specs.Rate.{step_of}

-- a bound on the difference between the change of the cosine over one unit of angle (1/600,000,000
-- degree) and its slope there, in billionths times 34,377,467,708 (the units of angle in a radian)
abbrev pub each_unit : ℕ
each_unit = 100000

-- a bound on the error of rounding twice to whole billionths, in billionths times 34,377,467,708 (the
-- units of angle in a radian)
abbrev pub two_cuts : ℕ
two_cuts = 2 * radian

-- a bound on the difference between the change of the cosine over `w` units of angle (1/600,000,000
-- degree) and its slope times `w`, in billionths times 34,377,467,708 (the units of angle in a radian):
-- the change of the slope, the difference over each single unit, and rounding
unfoldable pub unit_gap_of : ℕ → ℕ
unit_gap_of w = w * step_of w + each_unit * w + two_cuts

-- from each angle, over the next w units of 1/600,000,000 degree, the cosine falls by w times the sine
-- at the beginning, within the bound `unit_gap_of w`; both in billionths times 34,377,467,708 (the
-- units of angle in a radian)
abbrev pub SlopeLaw : ℕ → Type 0
SlopeLaw w =
    (p : ℕ) → p < circle →
    unsigned_abs ((pos radian *ℤ (icos_of ((p + w) % circle) -ℤ icos_of p)) +ℤ (pos w *ℤ isin_of p)) ≤ unit_gap_of w

-- from each angle, over the next w units of 1/600,000,000 degree, the cosine falls by w times the sine
-- at the end, within the bound `unit_gap_of w`; both in billionths times 34,377,467,708 (the units of
-- angle in a radian)
abbrev pub SlopeLawBefore : ℕ → Type 0
SlopeLawBefore w =
    (p : ℕ) → p < circle →
    unsigned_abs ((pos radian *ℤ (icos_of ((p + w) % circle) -ℤ icos_of p)) +ℤ (pos w *ℤ isin_of ((p + w) % circle))) ≤ unit_gap_of w
