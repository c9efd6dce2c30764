-- Texts that are appended one after the other.
use Rattle.std.proofs.Common.{◌≡◌, ℕ, ◌+◌, ◌<◌, List, [], ◌∷◌, ◌++◌, length, take, get_or, append_assoc}
use Rattle.std.specs.List.{flat_map}
use Rattle.std.proofs.lemmas.List.{append-nil, take_more}
use Rattle.std.proofs.lemmas.List.Concat.{flat_map-append}

pub four-appended : (a b c d w x y z : List ℕ) → a ≡ w → b ≡ a ++ x → c ≡ b ++ y → d ≡ c ++ z → d ≡ w ++ x ++ y ++ z
four-appended a b c d w x y z first second third fourth = rw (fourth, third, second, first) (simp append_assoc)

-- the text of one more element
pub one-more : {X : Type 0} (text_of : X → List ℕ) (xs : List X) (i : ℕ) (d : X) (old before after : List ℕ) → i < length xs
    → before ≡ old ++ flat_map text_of (take i xs) → after ≡ before ++ text_of (get_or xs i d)
    → after ≡ old ++ flat_map text_of (take (i + 1) xs)
one-more text_of xs i d old before after lt so_far more =
    rw (take_more xs i d lt, flat_map-append text_of (take i xs) (get_or xs i d ∷ []), more, so_far)
    (simp (append_assoc, append-nil))
