use Rattle.highest_water.proofs.CoverLemmas.{cover-none, cover-last, cover-block}
use Rattle.highest_water.proofs.laws.spans_are_cut_into_blocks.Goals as goal

pub returns-clause-no_minute : goal.returns-clause-no_minute
returns-clause-no_minute c = cover-none

pub returns-clause-last_block : goal.returns-clause-last_block
returns-clause-last_block c = cover-last

pub returns-clause-block : goal.returns-clause-block
returns-clause-block c = cover-block
