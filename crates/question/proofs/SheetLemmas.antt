-- Words checked one after the other, each against the earlier ones.
use Rattle.std.proofs.Common.{◌≡◌, ℕ, ◌+◌, ◌<◌, Bool, true, false, cond, ◌||◌, List, ◌∷◌, length, get_or, drop, refl, sym, add-one, drop-cons, nat_cmp, Decides}
use Rattle.std.specs.Prelude.{map}
use Rattle.std.specs.List.{list_any}
use Rattle.std.specs.Ordering.{is_eq}
use Rattle.std.specs.Cmp.Lexicographic.{slice_cmp}
use Rattle.std.specs.Str.{bytes_eq}
use Rattle.std.proofs.lemmas.Bool.Decides.{same_from_decides, Decides-like}
use Rattle.std.proofs.lemmas.Map.Text.{is_eq-slice_cmp}
use Rattle.std.proofs.lemmas.Slice.Eq.{bytes_eq-Decides}
use denote.Ref.{Bor}
use Rattle.question.specs.Forms.{is_sheet, are_sheets}

bytes_eq-sym : (xs ys : List ℕ) → bytes_eq xs ys ≡ bytes_eq ys xs
bytes_eq-sym xs ys =
    let other : Decides (bytes_eq ys xs) (xs ≡ ys) = Decides-like _ (λ e. sym e) (λ e. sym e) (bytes_eq-Decides ys xs) in
    same_from_decides _ _ (bytes_eq-Decides xs ys) other

cond_or : (b c : Bool) → cond b true c ≡ (b || c)
cond_or true c = refl
cond_or false c = refl

-- one more word is among the earlier ones
pub known_after : (w q : List ℕ) (before : List (List ℕ))
    → cond (is_eq (slice_cmp nat_cmp w q)) true (list_any (bytes_eq q) before) ≡ list_any (bytes_eq q) (w ∷ before)
known_after w q before = rw (is_eq-slice_cmp w q, bytes_eq-sym w q) (cond_or (bytes_eq q w) (list_any (bytes_eq q) before))

-- after a new name of a sheet the result depends on the rest
pub are_sheets-new : (before : List (List ℕ)) (words : List (Bor (List ℕ))) (i : ℕ) (d : Bor (List ℕ)) → i < length words
    → is_sheet (get_or words i d).now ≡ true → list_any (bytes_eq (get_or words i d).now) before ≡ false
    → are_sheets before (map (λ word. word.now) (drop i words))
    ≡ are_sheets ((get_or words i d).now ∷ before) (map (λ word. word.now) (drop (i + 1) words))
are_sheets-new before words i d lt sheet new = rw (add-one, drop-cons words i d lt) (rw (sheet, new))
