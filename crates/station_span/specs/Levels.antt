-- The level of a station at a minute (this project).
use Rattle.std.specs.Prelude.{ℤ, pos, ◌-ℤ◌, int_lt, Bool, if◌then◌else◌, Result, Ok, Err}
use Rattle.event_list.specs.Shifts.{scaled}
use Rattle.harmonics_book.specs.declared.book.Book.{Book}
use Rattle.station_curve.specs.Schureman.{predicted_slope, predicted_millionths}
use Rattle.station_table.specs.declared.basis.Basis.{Basis}
use Rattle.station_table.specs.Bases.{is_equal}
use Rattle.tide_fault.specs.declared.refusal.Refusal.{Refusal}
use Rattle.tide_fault.specs.declared.refusal.Refusal.TheVariants.{LevelNotHere}
use Rattle.station_span.specs.Sites.{Site}

-- Ok if a station with this basis (its reference and its offsets) has a level at each minute, because
-- its high and low waters have the same offsets; otherwise the refusal LevelNotHere
abbrev pub level_in : Basis → Result (Unit {0}) Refusal
level_in basis = if is_equal basis then Ok tt else Err LevelNotHere

-- the station's level at a minute, in millionths of its unit: the reference station's level at the
-- minute less the minutes of the high-water offset, multiplied by the offset's factor and rounded,
-- plus the offset's height
abbrev pub level_at : Book → Site → ℤ → ℤ
level_at book site minute = scaled site.basis.high (predicted_millionths book site.station (minute -ℤ site.basis.high.add))

-- Bool: whether the station's level rises at a minute, that is, whether the reference station's
-- slope at the minute less the minutes of the high-water offset is above 0
abbrev pub is_rising_at : Book → Site → ℤ → Bool
is_rising_at book site minute = int_lt (pos 0) (predicted_slope book site.station (minute -ℤ site.basis.high.add))
