use Rattle.year_blend.proofs.WeightLemmas.{weight_within, slope_within, weight_step, slope_step}
use Rattle.year_blend.proofs.laws.weight_steps.Goals as goal

pub returns-clause-weight : goal.returns-clause-weight
returns-clause-weight c = weight_within

pub returns-clause-slope : goal.returns-clause-slope
returns-clause-slope c = slope_within

pub returns-clause-weight_step : goal.returns-clause-weight_step
returns-clause-weight_step c = weight_step

pub returns-clause-slope_step : goal.returns-clause-slope_step
returns-clause-slope_step c = slope_step
