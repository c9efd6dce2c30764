use Rattle.curve_law.proofs.TrackLemmas.{plain_list-none}
use Rattle.curve_law.proofs.laws.plain_list_of_quiet_minutes.Goals as goal

pub returns : goal.returns
returns c = plain_list-none
