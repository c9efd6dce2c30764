use Rattle.std.proofs.Common.{◌≡◌, List, ℕ, [], drop}
use Rattle.std.specs.Prelude.{map}
use Rattle.std.specs.List.{list_any}
use Rattle.std.specs.Str.{bytes_eq}
use Rattle.std.specs.BTreeSet.{contains}
use Rattle.std.specs.Cmp.Lexicographic.{slice_cmp}
use Rattle.std.specs.Ordering.{nat_cmp}
use denote.Ref.{Bor}
use Rattle.question.specs.Forms.{are_sheets}
use Rattle.question.proofs.sheets.are_sheets.Given as goal

abbrev pub invariant-loop-word : goal.invariant-loop-word
invariant-loop-word l =
    (before : List (List ℕ))
    × (are_sheets [] (map (λ word. word.now) l.words) ≡ are_sheets before (map (λ word. word.now) (drop l.word-index l.words)))
    × ((q : Bor (List ℕ)) → contains (λ x y. slice_cmp nat_cmp x.now y.now) l.earlier q ≡ list_any (bytes_eq q.now) before)
