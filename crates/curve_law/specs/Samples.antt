-- Two small curves, for tests (this project).
use Rattle.std.specs.Prelude.{Bool, ℤ, pos, negsuc, ◌+ℤ◌, ◌-ℤ◌, if◌then◌else◌, Some, None}
use Rattle.std.specs.Int.{int_rem_euclid}
use Rattle.std.specs.Ordering.{int_eq}
use Rattle.curve_law.specs.declared.kind.Kind.TheVariants.{High, Low, MarkRising, MarkFalling}
use Rattle.curve_law.specs.CurveSpec.{CurveSpec}
use Rattle.curve_law.specs.CurveStates.{CurveModel}

-- `line start falls rate`: a curve for tests over the minutes from -1,000,000 to 1,000,000: its
-- value is `start` at minute 0 and rises by 1 each minute, or falls by 1 if `falls` is true. An
-- event where it rises past 0 has the kind `Low`, where it falls to 0 `High`; its level is the
-- minute's number. `rate` is the bound on the change in a minute.
abbrev pub line : ℤ → Bool → ℤ → CurveSpec
line start falls rate = record {
  first = negsuc 999999;
  last = pos 1000000;
  track = record { value = λ m. if falls then start -ℤ m else start +ℤ m; note = λ m. m; rising = Low; falling = High };
  rate = λ a n. Some rate;
}

-- the facts about the curve `line start falls rate`: each approximate value is 1 greater than the
-- value, and the error of approximate values is 1
abbrev pub line_model : ℤ → Bool → ℤ → CurveModel
line_model start falls rate = record {
  curve_spec = line start falls rate;
  approximate = λ m. (line start falls rate).track.value m +ℤ pos 1;
  error = 1;
}

-- a curve for tests over the minutes from -1,000,000 to 1,000,000: its value is 1 at even minutes
-- and -1 at odd ones, so there is an event after each minute, with the level 0. It has no bound on
-- its change.
abbrev pub ripple : CurveSpec
ripple = record {
  first = negsuc 999999;
  last = pos 1000000;
  track = record {
    value = λ m. if int_eq (int_rem_euclid m (pos 2)) (pos 0) then pos 1 else negsuc 0;
    note = λ m. pos 0;
    rising = MarkRising;
    falling = MarkFalling;
  };
  rate = λ a n. None;
}

-- the facts about the curve `ripple`: each approximate value is 0, and the error is 1, so no side
-- of 0 is decided by an approximate value
abbrev pub ripple_model : CurveModel
ripple_model = record { curve_spec = ripple; approximate = λ m. pos 0; error = 1 }
