use Rattle.std.proofs.Common.{◌≡◌, map}
use Rattle.report_sheets.specs.Pages.{pages_of}
use Rattle.report_sheets.proofs.pages.fill.Given as goal

abbrev pub invariant-loop-sheet : goal.invariant-loop-sheet
invariant-loop-sheet g l =
    l.text.items
    ≡ pages_of (map (λ sheet. (goal.Sheet-dyn g (sheet.vtable, sheet.value)).sheet_spec sheet.value) l.yielded) l.wanted l.head l.events
