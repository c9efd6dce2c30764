-- The curves of a station (this project): its slope, whose changes of sign are high and low waters, and
-- its level less a mark.
use Rattle.std.specs.Prelude.{◌*◌, ◌^◌, Bool, if◌then◌else◌, ℤ, pos, ◌+ℤ◌, ◌-ℤ◌, ◌*ℤ◌}
use Rattle.curve_law.specs.declared.kind.Kind.TheVariants.{High, Low, FloodBegins, EbbBegins, MarkRising, MarkFalling}
use Rattle.curve_law.specs.CurveSpec.{CurveSpec}
use Rattle.harmonics_book.specs.declared.book.Station.{Station}
use Rattle.harmonics_book.specs.declared.book.Book.{Book}
use Rattle.station_curve.specs.Curves.{Prediction}
use Rattle.station_curve.specs.Schureman.{predicted_level, predicted_slope, predicted_millionths}
use Rattle.year_blend.specs.Weights.{total_weight}
use Rattle.year_blend.specs.Years.{year_start_of}
use Rattle.rate_bound.specs.declared.version.Version.{Version}
use Rattle.rate_bound.specs.Rates.{predicted_slope_rate, predicted_level_rate}

-- the curve whose value is the slope of a station, summed over all constituents of the book, at all
-- minutes of the book's years and the first minute after them: it rises past 0 at a low water, and
-- falls to 0 or below at a high water; in the station's unit a minute, multiplied by
-- 10^15 * 34,377,467,708 * 4,147,200,000 (34,377,467,708 units of angle are a radian, and
-- 4,147,200,000 is the total weight of a blend)
abbrev pub predicted_turn : Version → Book → Station → CurveSpec
predicted_turn version b s = record {
  first = year_start_of b.first_year;
  last = year_start_of (b.first_year +ℤ pos b.years);
  track = record { value = predicted_slope b s; note = predicted_millionths b s; rising = Low; falling = High };
  rate = predicted_slope_rate version b s;
}

-- `level` multiplied by `times` millionths, plus `plus`, less `mark`; `plus` and `mark` are in
-- millionths of the station's unit, `level` is in the station's unit, multiplied by
-- 10^15 * 4,147,200,000 (the total weight of a blend), and the result in this unit, multiplied by
-- 10^21 * 4,147,200,000
abbrev pub over_mark : ℤ → ℤ → ℤ → ℤ → ℤ
over_mark times plus mark level =
    (times *ℤ level) +ℤ (pos (10 ^ 6 * total_weight * 10 ^ 9) *ℤ (plus -ℤ mark))

-- the curve whose value is the level, summed over all constituents of the book, multiplied by
-- `times` millionths, plus `plus`, less `mark` (in millionths of the station's unit), at all minutes
-- of the book's years and the first minute after them: it changes sign at each crossing of the
-- mark; if `slack` is true, the crossings are slack waters and the mark is 0
abbrev pub predicted_mark : Version → Book → Station → ℤ → ℤ → ℤ → Bool → CurveSpec
predicted_mark version b s times plus mark slack = record {
  first = year_start_of b.first_year;
  last = year_start_of (b.first_year +ℤ pos b.years);
  track = record {
    value = λ m. over_mark times plus mark (predicted_level b s m);
    note = predicted_millionths b s;
    rising = if slack then FloodBegins else MarkRising;
    falling = if slack then EbbBegins else MarkFalling;
  };
  rate = predicted_level_rate version times b s;
}

-- the curve whose value is the slope of a station, at the minutes of the prediction `c`, with the
-- bounds on the slope's change by the rule `version`; its changes of sign are high and low waters
abbrev pub turn_spec : Version → Prediction → CurveSpec
turn_spec version c = record (predicted_turn version c.book c.station) { first = c.first; last = c.last }

-- the curve whose value is the level multiplied by `times` millionths, plus `plus`, less `mark`, at
-- the minutes of the prediction `c`, with the bounds on its change by the rule `version`; its
-- changes of sign are crossings of the mark, or slack waters if `slack` is true
abbrev pub mark_spec : Version → Prediction → ℤ → ℤ → ℤ → Bool → CurveSpec
mark_spec version c times plus mark slack =
    record (predicted_mark version c.book c.station times plus mark slack) { first = c.first; last = c.last }
