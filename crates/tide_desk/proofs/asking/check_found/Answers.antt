use Rattle.std.proofs.Common.{sym}
use Rattle.report_sheets.specs.Pages.{missing_of}
use Rattle.tide_desk.proofs.SheetLemmas.{missing_within}
use Rattle.tide_desk.proofs.asking.check_found.Goals as goal

pub unknown-requires : goal.unknown-requires
unknown-requires g c = missing_within _ c.in-Some.wanted c.in-Some-missing.place (sym c.in-Some-missing.ensures)

pub returns-in-None : goal.returns-in-None
unfolding missing_of
returns-in-None g c = rw c.in-None.is
