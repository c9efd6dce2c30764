-- Counting the fields of a name one by one.
use Rattle.std.proofs.Common.{◌≡◌, ℕ, ◌+◌, ◌<◌, ◌≤◌, Bool, true, false, List, [], ◌∷◌, ◌++◌, map, length, get_or, take, arith, ap, ◌∙◌, refl}
use Rattle.std.specs.Prelude.{◌==◌, if◌then◌else◌, filter}
use Rattle.std.specs.Str.{str_eq_ignore_ascii_case}
use Rattle.std.proofs.lemmas.Grind.{common_steps}
use Rattle.std.proofs.lemmas.List.Elements.{filter-append}
use Rattle.httparse.specs.declared.spans.HeaderSpan.{HeaderSpan}
use Rattle.httparse.specs.Spans.{span_bytes, header_bytes}
use Rattle.http_rows.specs.Heads.{Occurs, values_of, first_or_empty, occurs}

fields_next : {A B : Type 0} (f : A → B) (xs : List A) (i : ℕ) (d : A) → i < length xs
    → map f (take (i + 1) xs) ≡ map f (take i xs) ++ f (get_or xs i d) ∷ []
fields_next f xs i d within = grind (arith, common_steps)

pushed : (b : Bool) (xs : List (List ℕ × List ℕ)) (f : List ℕ × List ℕ)
    → map (λ f. f.1) (xs ++ (if b then f ∷ [] else [])) ≡ (if b then map (λ f. f.1) xs ++ f.1 ∷ [] else map (λ f. f.1) xs)
pushed true xs f = grind (arith, common_steps)
pushed false xs f = grind (arith, common_steps)

values_push : (name : List ℕ) (fields : List (List ℕ × List ℕ)) (field : List ℕ × List ℕ)
    → values_of name (fields ++ field ∷ [])
    ≡ (if str_eq_ignore_ascii_case field.0 name then values_of name fields ++ field.1 ∷ [] else values_of name fields)
values_push name fields field =
    rw (filter-append (λ f. str_eq_ignore_ascii_case f.0 name) fields (field ∷ []))
    (pushed (str_eq_ignore_ascii_case field.0 name) (filter (λ f. str_eq_ignore_ascii_case f.0 name) fields) field)

-- the count after one more field of the name
pub one_more : (bytes name : List ℕ) (fields : List HeaderSpan) (i : ℕ) (d : HeaderSpan) → i < length fields
    → str_eq_ignore_ascii_case (span_bytes bytes (get_or fields i d).name) name ≡ true
    → values_of name (map (header_bytes bytes) (take (i + 1) fields))
    ≡ values_of name (map (header_bytes bytes) (take i fields)) ++ span_bytes bytes (get_or fields i d).value ∷ []
one_more bytes name fields i d within is =
    ap (values_of name) (fields_next (header_bytes bytes) fields i d within)
    ∙ values_push name (map (header_bytes bytes) (take i fields)) (header_bytes bytes (get_or fields i d))
    ∙ rw is refl

-- the count after a field of another name
pub another : (bytes name : List ℕ) (fields : List HeaderSpan) (i : ℕ) (d : HeaderSpan) → i < length fields
    → str_eq_ignore_ascii_case (span_bytes bytes (get_or fields i d).name) name ≡ false
    → values_of name (map (header_bytes bytes) (take (i + 1) fields)) ≡ values_of name (map (header_bytes bytes) (take i fields))
another bytes name fields i d within is =
    ap (values_of name) (fields_next (header_bytes bytes) fields i d within)
    ∙ values_push name (map (header_bytes bytes) (take i fields)) (header_bytes bytes (get_or fields i d))
    ∙ rw is refl

pub first_push : (values : List (List ℕ)) (value : List ℕ)
    → first_or_empty (values ++ value ∷ []) ≡ (if length values == 0 then value else first_or_empty values)
first_push [] value = refl
first_push (v ∷ values) value = grind (arith, common_steps)

pub length_push : (values : List (List ℕ)) (value : List ℕ) → length (values ++ value ∷ []) ≡ length values + 1
length_push values value = grind (arith, common_steps)

abbrev pub noted : ℕ → List ℕ → Occurs
noted count first = record { count = count; first = first }

-- the count after the last field
pub all_named : (bytes name : List ℕ) (fields : List HeaderSpan) (i : ℕ) (seen : Occurs) → length fields ≤ i
    → seen.count ≡ length (values_of name (map (header_bytes bytes) (take i fields)))
    → seen.first ≡ first_or_empty (values_of name (map (header_bytes bytes) (take i fields)))
    → seen ≡ occurs name (map (header_bytes bytes) fields)
all_named bytes name fields i seen over count first =
    let all : take i fields ≡ fields = grind (arith, common_steps) in
    let counted : seen.count ≡ length (values_of name (map (header_bytes bytes) fields)) = rw all at count in
    let valued : seen.first ≡ first_or_empty (values_of name (map (header_bytes bytes) fields)) = rw all at first in
    ap (λ n. noted n seen.first) counted ∙ ap (noted (length (values_of name (map (header_bytes bytes) fields)))) valued
