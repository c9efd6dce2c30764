use Rattle.std.proofs.Common.{◌≡◌, true, false, ◌+◌, [], ◌∷◌, ◌++◌, drop, slice_index, sym, ap, ◌∙◌, arith, append-nil, append_assoc}
use Rattle.std.proofs.lemmas.List.{drop_all}
use Rattle.ical_sheet.specs.Folding.{unfolded}
use Rattle.ical_sheet.proofs.UnfoldingLemmas.{has_fold, unfolded-fold, unfolded-octet}
use Rattle.ical_sheet.proofs.unfolding.unfold.Goals as goal

pub loop-at-preserved-then-is_fold_at : goal.loop-at-preserved-then-is_fold_at
loop-at-preserved-then-is_fold_at c =
    let here : has_fold c.args.text.now c.loop-at.at ≡ true = cc in
    let next = unfolded-fold c.args.text.now c.loop-at.at here in
    record { within = omega (arith, next.0); left = rw next.1 at c.loop-at.invariant.left }

pub loop-at-preserved : goal.loop-at-preserved
loop-at-preserved c =
    let other : has_fold c.args.text.now c.loop-at.at ≡ false = cc in
    let octet = slice_index c.args.text.now c.loop-at.at in
    record {
      within = omega arith;
      left =
          ap (λ line. line ++ unfolded (drop (c.loop-at.at + 1) c.args.text.now)) c.in_ok-push.ensures.items
          ∙ append_assoc c.loop-at.line.items (octet ∷ []) (unfolded (drop (c.loop-at.at + 1) c.args.text.now))
          ∙ rw (unfolded-octet c.args.text.now c.loop-at.at c.loop-at-test.true other) at c.loop-at.invariant.left;
    }

pub returns : goal.returns
unfolding unfolded
returns c =
    c.from_vec.ensures ∙ sym (append-nil c.loop-at.line.items)
    ∙ rw (drop_all c.loop-at.at c.args.text.now (omega arith)) at c.loop-at.invariant.left
