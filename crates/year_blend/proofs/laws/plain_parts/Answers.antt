use Rattle.year_blend.proofs.PlainLemmas.{plain_rest, plain_until}
use Rattle.year_blend.proofs.laws.plain_parts.Goals as goal

pub returns-clause-rest : goal.returns-clause-rest
returns-clause-rest c = plain_rest

pub returns-clause-end : goal.returns-clause-end
returns-clause-end c = plain_until
