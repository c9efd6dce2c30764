use Rattle.ical_sheet.proofs.PieceLemmas.{further_pieces-step, prefix-IsLongestPrefix}
use Rattle.ical_sheet.proofs.laws.lines_are_cut_between_characters.Goals as goal

pub returns-clause-longest : goal.returns-clause-longest
returns-clause-longest c = prefix-IsLongestPrefix

pub returns-clause-further : goal.returns-clause-further
returns-clause-further c = further_pieces-step
