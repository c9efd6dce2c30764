use Rattle.std.proofs.Common.{◌≡◌, take}
use Rattle.std.specs.Prelude.{filter}
use Rattle.station_curve.proofs.Present.{waves_at}
use Rattle.station_curve.specs.Workings.Prepared.{is_present}
use Rattle.station_curve.proofs.constants.year_waves.Given as goal

abbrev pub invariant-loop-place : goal.invariant-loop-place
invariant-loop-place l = l.waves.items ≡ filter is_present (take l.place-index (waves_at l.book l.station l.year l.present))
