use Rattle.slope_agreement.proofs.YearFits.{bound_fits, bound_kept}
use Rattle.slope_agreement.proofs.station_gaps.year_agreement.Goals as goal

pub overflow_mul-result-3 : goal.overflow_mul-result-3
overflow_mul-result-3 c = bound_fits c.args.year.now c.requires

pub returns-clause-value : goal.returns-clause-value
returns-clause-value c = (bound_kept c.args.year.now c.requires).same

pub returns-clause-size : goal.returns-clause-size
returns-clause-size c =
    let kept = bound_kept c.args.year.now c.requires in rw kept.same kept.size
