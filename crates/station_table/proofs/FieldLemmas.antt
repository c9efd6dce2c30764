-- Fields of a record, one by one.
use Rattle.std.proofs.Common.{◌≡◌, ℕ, zero, suc, ◌+◌, ◌<◌, ◌≤◌, Bool, true, false, ◌&&◌, List, [], ◌∷◌, length, get_or, drop, unwrap_or, refl}
use Rattle.std.specs.Cmp.Lexicographic.{pointwise}
use Rattle.std.specs.Str.{bytes_eq}
use Rattle.std.proofs.lemmas.List.{drop_all, drop_more}
use Rattle.csv.specs.Records.{field_at}

-- a field that may be missing
pub get_or-field_at : (fields : List (List ℕ)) (i : ℕ) → get_or fields i [] ≡ unwrap_or (field_at fields i) []
unfolding field_at
get_or-field_at [] i = refl
get_or-field_at (f ∷ fs) zero = refl
get_or-field_at (f ∷ fs) (suc i) = get_or-field_at fs i

-- the first of the remaining fields decides, or leaves it to those after it
pub left_step : (fs ns : List (List ℕ)) (i : ℕ) → i < length fs → i < length ns
    → pointwise bytes_eq (drop i fs) (drop i ns) ≡ bytes_eq (get_or fs i []) (get_or ns i [])
    && pointwise bytes_eq (drop (i + 1) fs) (drop (i + 1) ns)
left_step fs ns i in_fields in_names = rw (drop_more fs i [] in_fields, drop_more ns i [] in_names) refl

pub left_more : (fs ns : List (List ℕ)) (i : ℕ) (same : Bool) → i < length fs → i < length ns
    → bytes_eq (get_or fs i []) (get_or ns i []) ≡ true → pointwise bytes_eq (drop i fs) (drop i ns) ≡ same
    → pointwise bytes_eq (drop (i + 1) fs) (drop (i + 1) ns) ≡ same
left_more fs ns i same in_fields in_names first left = rw (left_step fs ns i in_fields in_names, first) at left

pub left_differs : (fs ns : List (List ℕ)) (i : ℕ) (same : Bool) → i < length fs → i < length ns
    → bytes_eq (get_or fs i []) (get_or ns i []) ≡ false → pointwise bytes_eq (drop i fs) (drop i ns) ≡ same → false ≡ same
left_differs fs ns i same in_fields in_names first left = rw (left_step fs ns i in_fields in_names, first) at left

pub left_none : (fs ns : List (List ℕ)) (i : ℕ) (same : Bool) → length fs ≤ i → length ns ≤ i
    → pointwise bytes_eq (drop i fs) (drop i ns) ≡ same → true ≡ same
left_none fs ns i same in_fields in_names left = rw (drop_all i fs in_fields, drop_all i ns in_names) at left
