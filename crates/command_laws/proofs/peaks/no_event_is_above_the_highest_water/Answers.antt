use Rattle.command_laws.proofs.PeakLemmas.{nothing_higher}
use Rattle.command_laws.proofs.peaks.no_event_is_above_the_highest_water.Goals as goal

pub returns : goal.returns
returns c = nothing_higher c.highest_is_reported.ensures
