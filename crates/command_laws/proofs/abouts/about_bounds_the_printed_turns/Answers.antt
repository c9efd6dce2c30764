use Rattle.command_laws.proofs.AboutLemmas.{bounds_turns}
use Rattle.command_laws.proofs.abouts.about_bounds_the_printed_turns.Goals as goal

pub returns : goal.returns
returns c = bounds_turns c.predicted_agreements.ensures.law c.predicted_agreements.ensures.before
