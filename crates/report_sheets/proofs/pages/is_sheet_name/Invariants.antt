use Rattle.std.proofs.Common.{◌≡◌, take, false}
use Rattle.std.specs.List.{list_any}
use Rattle.std.specs.Str.{bytes_eq}
use Rattle.report_sheets.proofs.pages.is_sheet_name.Given as goal

abbrev pub invariant-loop-sheet : goal.invariant-loop-sheet
invariant-loop-sheet g l =
    list_any (λ sheet. bytes_eq l.word ((goal.Sheet-dyn g (sheet.vtable, sheet.value)).sheet_spec sheet.value).word)
    (take l.sheet-index l.sheets) ≡ false
