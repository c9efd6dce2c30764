use Rattle.year_blend.specs.Places.{year_at, place_in, place_of}
use Rattle.year_blend.proofs.StartLemmas.{starts}
use Rattle.year_blend.proofs.laws.worked_places.Goals as goal

pub returns-clause-first : goal.returns-clause-first
unfolding place_of place_in year_at
returns-clause-first c = simp starts

pub returns-clause-hour_before : goal.returns-clause-hour_before
unfolding place_of place_in year_at
returns-clause-hour_before c = simp starts

pub returns-clause-first_blended : goal.returns-clause-first_blended
unfolding place_of place_in year_at
returns-clause-first_blended c = simp starts

pub returns-clause-new_year : goal.returns-clause-new_year
unfolding place_of place_in year_at
returns-clause-new_year c = simp starts

pub returns-clause-last_blended : goal.returns-clause-last_blended
unfolding place_of place_in year_at
returns-clause-last_blended c = simp starts

pub returns-clause-hour_after : goal.returns-clause-hour_after
unfolding place_of place_in year_at
returns-clause-hour_after c = simp starts

pub returns-clause-last : goal.returns-clause-last
unfolding place_of place_in year_at
returns-clause-last c = simp starts
