use Rattle.year_blend.proofs.PlaceLemmas.{place_of-rule, place_of-only}
use Rattle.year_blend.proofs.laws.unique_places.Goals as goal

pub returns-clause-some : goal.returns-clause-some
returns-clause-some c = place_of-rule

pub returns-clause-one : goal.returns-clause-one
returns-clause-one c = place_of-only
