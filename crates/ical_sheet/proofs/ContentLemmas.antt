-- Content lines one after the other, folded.
use Rattle.std.proofs.Common.{◌≡◌, ℕ, zero, suc, ◌≤◌, List, [], ◌∷◌, ◌++◌, length, slice_index, codes, refl, sym, ap, ◌∙◌, arith, append-nil, append_assoc, All}
use Rattle.std.specs.List.{flat_map}
use Rattle.std.proofs.lemmas.List.Elements.{All-head, All-tail, All-nil}
use Rattle.ical_sheet.specs.Folding.{AreShort, IsContentLine, IsUnindented, cut_up, folded, greatest, physical_lines, prefix_length, unfolded}
use Rattle.ical_sheet.proofs.PieceLemmas.{prefix-positive}
use Rattle.ical_sheet.proofs.UnfoldingLemmas.{lines-folded, unfolded-folded}

pub line-unfolds : (line : List ℕ) → IsContentLine line → unfolded (folded line) ≡ line ++ codes "\r\n"
unfolding unfolded
line-unfolds line is = ap unfolded (sym (append-nil (folded line))) ∙ unfolded-folded line [] is (omega arith, omega arith)

pub line-is_short : (line : List ℕ) → IsContentLine line → AreShort (physical_lines (folded line))
unfolding physical_lines
line-is_short line is = rw append-nil at (lines-folded line [] is (All-nil (λ (l : List ℕ). length l ≤ 75)))

-- a folded line begins as the line does
first_octet : (octet : ℕ) (others rest : List ℕ) (n : ℕ) → prefix_length 75 (octet ∷ others) ≡ suc n
    → slice_index (folded (octet ∷ others) ++ rest) 0 ≡ octet
unfolding folded
first_octet octet others rest n some = rw some refl

folded-unindented : (line rest : List ℕ) → IsContentLine line → IsUnindented (folded line ++ rest)
unfolding folded cut_up greatest
folded-unindented [] rest is = (omega arith, omega arith)
folded-unindented (octet ∷ others) rest is =
    elim (prefix_length 75 (octet ∷ others))
    as (λ n. prefix_length 75 (octet ∷ others) ≡ n → IsUnindented (folded (octet ∷ others) ++ rest)) [
      | zero ↦ λ none. absurd (omega (arith, none, prefix-positive 75 (octet ∷ others) is.utf8 (omega arith) (omega arith)))
      | suc n ↦ λ some. rw (first_octet octet others rest n some) is.unindented
    ] refl

lines-unindented : (lines : List (List ℕ)) → All IsContentLine lines → IsUnindented (flat_map folded lines)
lines-unindented [] are = (omega arith, omega arith)
lines-unindented (line ∷ lines) are = folded-unindented line (flat_map folded lines) (All-head IsContentLine line lines are)

pub lines-unfold : (lines : List (List ℕ)) → All IsContentLine lines
    → unfolded (flat_map folded lines) ≡ flat_map (λ line. line ++ codes "\r\n") lines
unfolding unfolded
lines-unfold [] are = refl
lines-unfold (line ∷ lines) are =
    unfolded-folded line (flat_map folded lines) (All-head IsContentLine line lines are)
    (lines-unindented lines (All-tail IsContentLine line lines are))
    ∙ ap (λ text. line ++ (codes "\r\n" ++ text)) (lines-unfold lines (All-tail IsContentLine line lines are))
    ∙ sym (append_assoc line (codes "\r\n") (flat_map (λ line. line ++ codes "\r\n") lines))

pub lines-are_short : (lines : List (List ℕ)) → All IsContentLine lines → AreShort (physical_lines (flat_map folded lines))
unfolding physical_lines
lines-are_short [] are = All-nil (λ (l : List ℕ). length l ≤ 75)
lines-are_short (line ∷ lines) are =
    lines-folded line (flat_map folded lines) (All-head IsContentLine line lines are)
    (lines-are_short lines (All-tail IsContentLine line lines are))
