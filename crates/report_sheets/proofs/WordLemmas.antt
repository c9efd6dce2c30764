-- The first word that no sheet has.
use Rattle.std.proofs.Common.{◌≡◌, ℕ, ◌<◌, ◌≤◌, ◌∙◌, Bool, true, false, not, List, [], ◌∷◌, map, length, get_or, Some, None, refl, ap, sym, arith}
use Rattle.std.specs.Prelude.{◌||◌}
use Rattle.std.specs.List.{list_any, position_or_len}
use Rattle.std.specs.Str.{bytes_eq}
use Rattle.std.proofs.lemmas.Bool.{cond_below, cond_above}
use Rattle.std.proofs.lemmas.List.Sums.{position_or_len_is}
use Rattle.report_sheets.specs.Sheets.{SheetSpec}
use Rattle.report_sheets.specs.Pages.{has_sheet, missing_of}

-- one of some values is a sheet of the word, if each is read as a sheet
abbrev pub is_sheet_name : {Y : Type 0} → (Y → SheetSpec) → List Y → List ℕ → Bool
is_sheet_name h ys word = list_any (λ y. bytes_eq word (h y).word) ys

has_sheet_of : {Y : Type 0} (h : Y → SheetSpec) (ys : List Y) (word : List ℕ) → has_sheet (map h ys) word ≡ is_sheet_name h ys word
has_sheet_of h [] word = refl
has_sheet_of h (y ∷ ys) word = ap (λ rest. bytes_eq word (h y).word || rest) (has_sheet_of h ys word)

abbrev lacks : List SheetSpec → List ℕ → Bool
lacks sheets word = not (has_sheet sheets word)

pub missing_at : {Y : Type 0} (h : Y → SheetSpec) (ys : List Y) (wanted : List (List ℕ)) (i : ℕ) → i < length wanted
    → ((k : ℕ) → k < i → is_sheet_name h ys (get_or wanted k []) ≡ true) → is_sheet_name h ys (get_or wanted i []) ≡ false
    → Some i ≡ missing_of (map h ys) wanted
unfolding missing_of
missing_at h ys wanted i within known lacking =
    let index : position_or_len (lacks (map h ys)) wanted ≡ i =
    position_or_len_is (lacks (map h ys)) wanted i [] (omega arith)
    (λ k below. ap not (has_sheet_of h ys (get_or wanted k []) ∙ known k below))
    (λ _. ap not (has_sheet_of h ys (get_or wanted i []) ∙ lacking)) in
    ap Some (sym index) ∙ cond_below (position_or_len (lacks (map h ys)) wanted) (length wanted)
    (Some (position_or_len (lacks (map h ys)) wanted)) None (omega arith)

pub missing_nowhere : {Y : Type 0} (h : Y → SheetSpec) (ys : List Y) (wanted : List (List ℕ)) (i : ℕ) → length wanted ≤ i
    → ((k : ℕ) → k < i → is_sheet_name h ys (get_or wanted k []) ≡ true)
    → None ≡ missing_of (map h ys) wanted
unfolding missing_of
missing_nowhere h ys wanted i past known =
    let index : position_or_len (lacks (map h ys)) wanted ≡ length wanted =
    position_or_len_is (lacks (map h ys)) wanted (length wanted) [] (omega arith)
    (λ k below. ap not (has_sheet_of h ys (get_or wanted k []) ∙ known k (omega arith)))
    (λ within. absurd (omega arith)) in
    cond_above (position_or_len (lacks (map h ys)) wanted) (length wanted)
    (Some (position_or_len (lacks (map h ys)) wanted)) None None (omega arith) refl
