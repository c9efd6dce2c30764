use Rattle.std.proofs.Common.{◌≡◌, false, cond, true, get_or, sym, ◌∙◌, ◌∷◌, ap, [], arith}
use Rattle.std.proofs.lemmas.Bool.{not-true}
use Rattle.std.specs.List.{list_any}
use Rattle.std.specs.Str.{bytes_eq}
use denote.Ref.{Bor}
use Rattle.question.proofs.SheetLemmas.{known_after, are_sheets-new}
use Rattle.question.proofs.sheets.are_sheets.Goals as goal

pub loop-word-preserved : goal.loop-word-preserved
loop-word-preserved c =
    let i = c.loop-word.word-index in
    let d : Bor _ = record { ref_ptr = (0, 0); now = [] } in
    let w = get_or c.args.words.now i d in
    let before = c.loop-word.invariant.0 in
    let new : list_any (bytes_eq w.now) before ≡ false =
    sym (c.loop-word.invariant.2 w) ∙ not-true _ (sym c.in_ok-insert.ensures.added ∙ c.if-not-branch.false) in
    let known = c.in_ok-insert.ensures.updates.0 in (
      w.now ∷ before,
      c.loop-word.invariant.1 ∙ are_sheets-new before c.args.words.now i d (omega arith)
          (sym c.is_sheet.ensures ∙ c.if-not-is_sheet.false) new,
      λ q. known q ∙ ap (cond _ true) (c.loop-word.invariant.2 q) ∙ known_after w.now q.now before,
    )
