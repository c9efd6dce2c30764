use Rattle.std.proofs.Common.{sym, arith}
use Rattle.std.proofs.lemmas.List.{length-take-le, take_all}
use Rattle.tide_answer.proofs.trial.first_stations.Goals as goal

pub slice_bounds-result-end : goal.slice_bounds-result-end
slice_bounds-result-end c = sym (length-take-le 40 c.as_slice-stations.result.now (omega arith))

pub returns-then-stations-le-STATIONS-clause-exact : goal.returns-then-stations-le-STATIONS-clause-exact
returns-then-stations-le-STATIONS-clause-exact c =
    rw (← c.as_slice-stations.ensures) (sym (take_all 40 c.as_slice-stations.result.now c.if-stations-le-STATIONS.true))

pub returns-else-stations-le-STATIONS-clause-count_bound : goal.returns-else-stations-le-STATIONS-clause-count_bound
returns-else-stations-le-STATIONS-clause-count_bound c =
    let long = length-take-le 40 c.as_slice-stations.result.now (omega arith) in
    omega arith
