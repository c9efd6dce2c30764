use Rattle.std.proofs.Common.{◌≡◌, ◌*◌, ◌^◌, drop}
use Rattle.tide_answer.specs.Trials.{nothing, tally_on}
use Rattle.tide_answer.specs.Workings.Tallies.{IsUpTo}
use Rattle.tide_answer.proofs.trial.tally_stations.Given as goal

-- the sums so far and the stations that are left lead to the sums of all stations
abbrev pub invariant-loop-station : goal.invariant-loop-station
invariant-loop-station l = record {
  sum : tally_on l.stations.book nothing l.tried ≡ tally_on l.stations.book l.sum (drop l.station-index l.tried);
  few : IsUpTo (l.station-index * 2 ^ 66) l.sum;
}
