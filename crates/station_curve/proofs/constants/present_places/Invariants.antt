use Rattle.std.proofs.Common.{◌≡◌, take}
use Rattle.std.specs.Prelude.{filter}
use Rattle.station_curve.specs.Schureman.{constituents_of}
use Rattle.station_curve.specs.Workings.Prepared.{has_amplitude}
use Rattle.station_curve.proofs.constants.present_places.Given as goal

abbrev pub invariant-loop-k : goal.invariant-loop-k
invariant-loop-k l = l.places.items ≡ filter (has_amplitude l.station) (take l.k (constituents_of l.book))
