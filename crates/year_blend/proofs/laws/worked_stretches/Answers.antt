use Rattle.year_blend.specs.Places.{year_at, place_in, place_of, plain_end_of}
use Rattle.year_blend.specs.Stretches.{stretch_of}
use Rattle.year_blend.proofs.StartLemmas.{starts}
use Rattle.year_blend.proofs.laws.worked_stretches.Goals as goal

pub returns-clause-up_to_the_end : goal.returns-clause-up_to_the_end
unfolding stretch_of plain_end_of place_of place_in year_at
returns-clause-up_to_the_end c = simp starts

pub returns-clause-past_the_end : goal.returns-clause-past_the_end
unfolding stretch_of plain_end_of place_of place_in year_at
returns-clause-past_the_end c = simp starts

pub returns-clause-over_the_blend : goal.returns-clause-over_the_blend
unfolding stretch_of plain_end_of place_of place_in year_at
returns-clause-over_the_blend c = simp starts

pub returns-clause-last_blended : goal.returns-clause-last_blended
unfolding stretch_of plain_end_of place_of place_in year_at
returns-clause-last_blended c = simp starts

pub returns-clause-after_the_blend : goal.returns-clause-after_the_blend
unfolding stretch_of plain_end_of place_of place_in year_at
returns-clause-after_the_blend c = simp starts

pub returns-clause-up_to_the_last : goal.returns-clause-up_to_the_last
unfolding stretch_of plain_end_of place_of place_in year_at
returns-clause-up_to_the_last c = simp starts
