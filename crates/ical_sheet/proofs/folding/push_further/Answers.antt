use Rattle.std.proofs.Common.{◌≡◌, ◌<◌, ℕ, List, ◌++◌, length, ◌∙◌, arith, length-drop, append_assoc, append-nil, sym, codes, take, []}
use Rattle.std.proofs.lemmas.Bool.Decides.{nat_tests}
use Rattle.std.proofs.lemmas.List.{nil_from_length}
use Rattle.ical_sheet.specs.Folding.{prefix_length, cut_up}
use Rattle.ical_sheet.proofs.PieceLemmas.{further_pieces-step, prefix-positive, rest-text}
use Rattle.ical_sheet.proofs.folding.push_further.Goals as goal

pub loop-rest-smaller : goal.loop-rest-smaller
loop-rest-smaller c =
    let some : 0 < length c.loop-rest.rest.now = grind (arith, nat_tests) in
    let less : length c.cut.result.1.now < length c.loop-rest.rest.now =
    rw c.cut.ensures.rest (simp length-drop
    (omega (arith, some, prefix-positive 74 c.loop-rest.rest.now c.loop-rest.invariant.utf8 some (omega arith))))
    in
    less

regrouped : (a b c d : List ℕ) → a ++ b ++ c ++ d ≡ a ++ (b ++ c ++ d)
regrouped a b c d = simp append_assoc

pub loop-rest-preserved : goal.loop-rest-preserved
loop-rest-preserved c = record {
  utf8 = rw c.cut.ensures.rest (rest-text 74 c.loop-rest.rest.now c.loop-rest.invariant.utf8);
  left =
      rw (c.in_ok-extend_from_slice-2.ensures.items, c.in_ok-extend_from_slice.ensures.items, c.cut.ensures.piece, c.cut.ensures.rest) (
      regrouped c.loop-rest.text.items (codes "\r\n ") (take (prefix_length 74 c.loop-rest.rest.now) c.loop-rest.rest.now) _
      ∙ rw (further_pieces-step c.loop-rest.rest.now c.loop-rest.invariant.utf8 (grind (arith, nat_tests))) at c.loop-rest.invariant.left
      );
}

pub returns : goal.returns
unfolding cut_up
returns c =
    let none : c.loop-rest.rest.now ≡ [] = nil_from_length c.loop-rest.rest.now (grind (arith, nat_tests)) in
    sym (append-nil c.loop-rest.text.items) ∙ rw none at c.loop-rest.invariant.left
