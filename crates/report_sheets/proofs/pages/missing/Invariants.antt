use Rattle.std.proofs.Common.{◌≡◌, ℕ, ◌<◌, [], get_or, true}
use Rattle.report_sheets.proofs.WordLemmas.{is_sheet_name}
use Rattle.report_sheets.proofs.pages.missing.Given as goal

abbrev pub invariant-loop-index : goal.invariant-loop-index
invariant-loop-index g l =
    (k : ℕ) → k < l.index → is_sheet_name (λ sheet. (goal.Sheet-dyn g (sheet.vtable, sheet.value)).sheet_spec sheet.value)
    l.sheets.items (get_or l.word-items k []) ≡ true
