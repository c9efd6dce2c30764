use Rattle.command_laws.proofs.ClockLemmas.{clock_shows}
use Rattle.command_laws.proofs.clock.clock_shows_the_present_and_the_next_day.Goals as goal

pub returns : goal.returns
returns c = clock_shows
