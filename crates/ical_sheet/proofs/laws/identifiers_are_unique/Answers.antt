use Rattle.ical_sheet.proofs.IdentifierLemmas.{identifiers-apart}
use Rattle.ical_sheet.proofs.laws.identifiers_are_unique.Goals as goal

pub returns : goal.returns
returns c = identifiers-apart
