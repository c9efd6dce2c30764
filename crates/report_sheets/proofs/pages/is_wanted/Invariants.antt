use Rattle.std.proofs.Common.{◌≡◌, take, false}
use Rattle.report_sheets.specs.Pages.{is_wanted}
use Rattle.report_sheets.proofs.pages.is_wanted.Given as goal

abbrev pub invariant-loop-word : goal.invariant-loop-word
invariant-loop-word g l =
    is_wanted (take l.word-index l.wanted) ((goal.Sheet-dyn g (l.sheet.vtable, l.sheet.value)).sheet_spec l.sheet.value) ≡ false
