use Rattle.std.proofs.Common.{◌≡◌, ◌∙◌, rules, get_or}
use Rattle.std.proofs.lemmas.Result.{err_from_is_err_and}
use Rattle.tide_answer.proofs.TrialLemmas.{tally_done, tally_next, tally_refused, tally_up}
use Rattle.tide_answer.proofs.trial.tally_stations.Goals as goal

pub returns-in_err-one-clause-exact : goal.returns-in_err-one-clause-exact
returns-in_err-one-clause-exact c =
    let item : get_or c.args.tried.now c.loop-station.station-index c.station-item.result ≡ c.station-item.result = search rules in
    let p = err_from_is_err_and c.from_residual.result c.from_residual.ensures.1 in
    rw (p.1, p.2, c.loop-station.invariant.sum)
    (tally_refused _ c.args.stations.now.book c.loop-station.sum c.args.tried.now c.loop-station.station-index
    c.station-item.result _ c.loop-station-test.true (rw item c.in_err-one.ensures.exact))

pub loop-station-preserved : goal.loop-station-preserved
loop-station-preserved c =
    let item : get_or c.args.tried.now c.loop-station.station-index c.station-item.result ≡ c.station-item.result = search rules in
    let next =
    tally_next c.args.stations.now.book c.loop-station.sum c.in_ok-one.one c.args.tried.now c.loop-station.station-index
    c.station-item.result c.loop-station-test.true (rw item c.in_ok-one.ensures.exact) in
    record {
      sum = rw c.plus-sum.ensures (c.loop-station.invariant.sum ∙ next);
      few = rw c.plus-sum.ensures (tally_up c.loop-station.station-index c.loop-station.sum c.in_ok-one.one
          c.loop-station.invariant.few c.in_ok-one.ensures.count_bound);
    }

pub returns-clause-exact : goal.returns-clause-exact
returns-clause-exact c =
    c.loop-station.invariant.sum ∙ tally_done c.args.stations.now.book c.loop-station.sum c.args.tried.now
    c.loop-station.station-index c.loop-station-test.false
