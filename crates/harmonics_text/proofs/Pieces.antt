-- The lines that have ended and the one that hasn't, by the first LF.
use Rattle.std.proofs.Common.{◌≡◌, ℕ, suc, ◌+◌, ◌-◌, ◌<◌, ◌≤◌, Bool, true, false, cond, List, [], ◌∷◌, ◌++◌, length, take, drop, Some, None, refl, sym, ap, subst, ◌∙◌, append_assoc, length-append, zero-add, arith}
use Rattle.std.specs.Prelude.{not, ◌||◌, reverse, count_by, position}
use Rattle.std.specs.List.{prefix_len, suffix_len}
use Rattle.std.proofs.Math.Seq.{drop-append-add}
use Rattle.std.proofs.lemmas.Bool.{eqb-true}
use Rattle.std.proofs.lemmas.List.{append-nil, reverse-append, length-reverse, length-take}
use Rattle.std.proofs.lemmas.List.Folds.{list_any-append}
use Rattle.std.proofs.lemmas.List.Sorted.{list_any-IsPermutation, IsPermutation-reverse}
use Rattle.std.proofs.lemmas.List.Sums.{prefix_len-le-length, count_by-le-length, sum_by-cons}
use Rattle.harmonics_text.specs.Lines.{cut, is_lf}
use Rattle.harmonics_text.specs.Pieces.{ended_lines, pending_line}
use Rattle.harmonics_text.specs.Workings.Readers.{has_lf}
use Rattle.harmonics_text.proofs.Cutting.{position_some, position_none}
use Rattle.harmonics_text.proofs.Ranges.{neither}

-- ---- bytes line by line

has_lf-push : (z : List ℕ) (b : ℕ) → has_lf z ≡ false → is_lf b ≡ false → has_lf (z ++ b ∷ []) ≡ false
has_lf-push z b none other = rw (list_any-append, none, other) refl

by_lines_from : (P : List ℕ → Type 0) → ((z : List ℕ) → has_lf z ≡ false → P z)
    → ((z r : List ℕ) → has_lf z ≡ false → P r → P (z ++ 10 ∷ r)) → (xs z : List ℕ) → has_lf z ≡ false → P (z ++ xs)
by_lines_from P last line [] z none = subst P (sym (append-nil z)) (last z none)
by_lines_from P last line (b ∷ bs) z none =
    elim (is_lf b) as (λ t. is_lf b ≡ t → P (z ++ b ∷ bs)) [
      | true ↦ λ t. subst (λ (c : ℕ). P (z ++ c ∷ bs)) (sym (eqb-true b 10 t)) (line z bs none (by_lines_from P last line bs [] refl))
      | false ↦ λ t. subst P (append_assoc z (b ∷ []) bs) (by_lines_from P last line bs (z ++ b ∷ []) (has_lf-push z b none t))
    ] refl

-- induction over bytes: a property of bytes without LF that is preserved by one more line before them
pub by_lines : (P : List ℕ → Type 0) → ((z : List ℕ) → has_lf z ≡ false → P z)
    → ((z r : List ℕ) → has_lf z ≡ false → P r → P (z ++ 10 ∷ r)) → (xs : List ℕ) → P xs
by_lines P last line xs = by_lines_from P last line xs [] refl

-- ---- all lines

pub cut_last : (b : ℕ) (bs : List ℕ) → has_lf (b ∷ bs) ≡ false → cut (b ∷ bs) ≡ (b ∷ bs) ∷ []
unfolding cut
cut_last b [] none = rw (neither (is_lf b) false none).0 refl
cut_last b (d ∷ ds) none =
    let both = neither (is_lf b) (has_lf (d ∷ ds)) none in
    rw (both.0, cut_last d ds both.1) refl

pub cut_first : (z r : List ℕ) → has_lf z ≡ false → cut (z ++ 10 ∷ r) ≡ z ∷ cut r
unfolding cut
cut_first [] r none = refl
cut_first (b ∷ bs) r none =
    let both = neither (is_lf b) (has_lf bs) none in
    rw (both.0, cut_first bs r both.1) refl

-- ---- the lines that have ended

count-cons : (b : ℕ) (bs : List ℕ) → count_by is_lf (b ∷ bs) ≡ cond (is_lf b) 1 0 + count_by is_lf bs
count-cons b bs = sum_by-cons (λ (x : ℕ). cond (is_lf x) 1 0) b bs

count_last : (z : List ℕ) → has_lf z ≡ false → count_by is_lf z ≡ 0
count_last [] none = refl
count_last (b ∷ bs) none =
    let both = neither (is_lf b) (has_lf bs) none in
    count-cons b bs ∙ rw (both.0, count_last bs both.1) refl

count_first : (z r : List ℕ) → has_lf z ≡ false → count_by is_lf (z ++ 10 ∷ r) ≡ suc (count_by is_lf r)
count_first [] r none = let e : 1 + count_by is_lf r ≡ suc (count_by is_lf r) = omega arith in count-cons 10 r ∙ e
count_first (b ∷ bs) r none =
    let both = neither (is_lf b) (has_lf bs) none in
    count-cons b (bs ++ 10 ∷ r) ∙ rw (both.0, count_first bs r both.1) (zero-add (suc (count_by is_lf r)))

pub ended_none : (z : List ℕ) → has_lf z ≡ false → ended_lines z ≡ []
unfolding ended_lines
ended_none z none = rw (count_last z none) refl

pub ended_first : (z r : List ℕ) → has_lf z ≡ false → ended_lines (z ++ 10 ∷ r) ≡ z ∷ ended_lines r
unfolding ended_lines
ended_first z r none = rw (count_first z r none, cut_first z r none) refl

pub length-ended : (bytes : List ℕ) → length (ended_lines bytes) ≤ length bytes
unfolding ended_lines
length-ended bytes = omega (arith, length-take (count_by is_lf bytes) (cut bytes), count_by-le-length is_lf bytes)

-- ---- the line that hasn't ended

abbrev is_other : ℕ → Bool
is_other b = not (is_lf b)

prefix_all : (xs : List ℕ) → has_lf xs ≡ false → prefix_len is_other xs ≡ length xs
prefix_all [] none = refl
prefix_all (b ∷ bs) none =
    let both = neither (is_lf b) (has_lf bs) none in
    rw (both.0, prefix_all bs both.1) (omega arith)

prefix_stops : (xs ys : List ℕ) → prefix_len is_other (xs ++ 10 ∷ ys) ≡ prefix_len is_other xs
prefix_stops [] ys = refl
prefix_stops (b ∷ bs) ys = rw (prefix_stops bs ys) refl

suffix_first : (z r : List ℕ) → suffix_len is_other (z ++ 10 ∷ r) ≡ suffix_len is_other r
suffix_first z r =
    let turned : reverse (z ++ 10 ∷ r) ≡ reverse r ++ 10 ∷ reverse z =
    ap reverse (sym (append_assoc z (10 ∷ []) r)) ∙ reverse-append (z ++ 10 ∷ []) r
    ∙ ap (λ (ys : List ℕ). reverse r ++ ys) (reverse-append z (10 ∷ [])) in
    rw turned (prefix_stops (reverse r) (reverse z))

pub pending_none : (z : List ℕ) → has_lf z ≡ false → pending_line z ≡ z
unfolding pending_line
pending_none z none =
    let back : suffix_len is_other z ≡ length (reverse z) =
    prefix_all (reverse z) (sym (list_any-IsPermutation is_lf z (reverse z) (IsPermutation-reverse z)) ∙ none) in
    let all : length z - suffix_len is_other z ≡ 0 = omega (arith, back, length-reverse z) in
    rw all refl

pub pending_first : (z r : List ℕ) → pending_line (z ++ 10 ∷ r) ≡ pending_line r
unfolding pending_line
pending_first z r =
    let n = suffix_len is_other r in
    let le : n ≤ length r = omega (arith, prefix_len-le-length is_other (reverse r), length-reverse r) in
    let at : length (z ++ 10 ∷ r) - n ≡ length (z ++ 10 ∷ []) + (length r - n) =
    omega (arith, length-append z (10 ∷ r), length-append z (10 ∷ [])) in
    rw (suffix_first z r, at, ← append_assoc z (10 ∷ []) r) (drop-append-add (z ++ 10 ∷ []) r (length r - n))

-- ---- the cuts of the code

no_lf : (xs : List ℕ) → length xs ≤ prefix_len is_other xs → has_lf xs ≡ false
no_lf [] le = refl
no_lf (b ∷ bs) le =
    elim (is_lf b) as (λ t. (1 + length bs ≤ cond (not t) (1 + prefix_len is_other bs) 0) → (t || has_lf bs) ≡ false)
    [ true ↦ λ h. absurd (omega (arith, h)) | false ↦ λ h. no_lf bs (omega (arith, h)) ] (omega (arith, le))

abbrev IsFirst : ℕ → List ℕ → Type 0
IsFirst k xs = (xs ≡ take k xs ++ 10 ∷ drop 1 (drop k xs)) × (has_lf (take k xs) ≡ false)

first_lf : (xs : List ℕ) → prefix_len is_other xs < length xs → IsFirst (prefix_len is_other xs) xs
first_lf [] lt = absurd (omega (arith, lt))
first_lf (b ∷ bs) lt =
    let n = prefix_len is_other bs in
    let e : 1 + n ≡ suc n = omega arith in
    elim (is_lf b) as (λ t. is_lf b ≡ t → (cond (not t) (1 + n) 0 < 1 + length bs) → IsFirst (cond (not t) (1 + n) 0) (b ∷ bs)) [
      | true ↦ λ t h. (ap (λ (c : ℕ). c ∷ bs) (eqb-true b 10 t), refl)
      | false ↦ λ t h. let f = first_lf bs (omega (arith, h)) in rw e (ap (λ (ys : List ℕ). b ∷ ys) f.0, rw t f.1)
    ] refl (omega (arith, lt))

pub line_none : (xs : List ℕ) → position is_lf xs ≡ None → has_lf xs ≡ false
line_none xs e = no_lf xs (position_none is_lf xs e)

pub line_some : (xs line rest after : List ℕ) (k : ℕ) → position is_lf xs ≡ Some k → line ≡ take k xs → rest ≡ drop k xs
    → after ≡ drop 1 rest → (xs ≡ line ++ 10 ∷ after) × (has_lf line ≡ false)
line_some xs line rest after k e l r a =
    let p = position_some is_lf xs k e in
    rw (l, a, r, ← p.0) (first_lf xs p.1)
