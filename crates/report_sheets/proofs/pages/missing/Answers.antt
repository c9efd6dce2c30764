use Rattle.std.proofs.Common.{◌≡◌, ◌<◌, [], get_or, length, ap, ◌∙◌, sym, arith}
use Rattle.std.proofs.lemmas.List.{get_or_read}
use Rattle.report_sheets.specs.Pages.{missing_of}
use Rattle.report_sheets.proofs.WordLemmas.{missing_at, missing_nowhere}
use Rattle.report_sheets.proofs.pages.missing.Goals as goal

pub returns-then-not-is_sheet_name : goal.returns-then-not-is_sheet_name
returns-then-not-is_sheet_name g c =
    let words = c.as_slice-word-items.result.now in
    let i = c.loop-index.index in
    let within : i < length words = omega arith in
    let word : c.word-item.result ≡ get_or words i [] = get_or_read words i c.word-item.result within c.word-item.is [] in
    missing_at (λ sheet. (goal.Sheet-dyn g (sheet.vtable, sheet.value)).sheet_spec sheet.value) c.args.sheets.now.items
    words i within c.loop-index.invariant
    (rw (← word, ← c.as_slice.ensures.value) (sym c.is_sheet_name.ensures ∙ c.if-not-is_sheet_name.true))
    ∙ ap (missing_of _) c.as_slice-word-items.ensures

pub returns : goal.returns
returns g c =
    missing_nowhere (λ sheet. (goal.Sheet-dyn g (sheet.vtable, sheet.value)).sheet_spec sheet.value)
    c.args.sheets.now.items c.as_slice-word-items.result.now c.loop-index.index (omega arith) c.loop-index.invariant
    ∙ ap (missing_of _) c.as_slice-word-items.ensures
