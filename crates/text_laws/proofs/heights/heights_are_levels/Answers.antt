use Rattle.text_laws.proofs.HeightLemmas.{row_until-is}
use Rattle.text_laws.proofs.heights.heights_are_levels.Goals as goal

pub returns : goal.returns
returns c = row_until-is
