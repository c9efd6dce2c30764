-- The order of events is total, and a list has one sorted form.
use Rattle.std.proofs.Common.{◌≡◌, ℕ, suc, ◌+◌, ◌<◌, ◌≤◌, ◌==◌, ℤ, nat_lt, int_lt, Bool, true, false, ◌&&◌, ◌||◌, cond, List, [], ◌∷◌, refl, sym, ap, ◌∙◌, arith, Some, Ordering, Less, Equal, Greater}
use Rattle.std.specs.Prelude.{sum_by, All, get_or, length, IsPermutation, IsSortedBy}
use Rattle.std.specs.Cmp.{IsStrictWeakOrder}
use Rattle.std.specs.Ordering.{int_eq, int_cmp, nat_cmp, is_lt, is_eq, ordering_then, is_some_and, partial_ordering_then}
use Rattle.std.proofs.lemmas.Bool.Decides.{nat_tests, Decides-eqb}
use Rattle.std.proofs.lemmas.Int.{ints}
use Rattle.std.proofs.lemmas.List.Sums.{sum_by-cons}
use Rattle.std.proofs.lemmas.List.Sorted.{sorted_far, sum_by-IsPermutation}
use Rattle.std.proofs.lemmas.List.Elements.{All-nil, All-cons, All-head, All-tail, All-weaker}
use Rattle.curve_law.specs.declared.event.Event.{Event}
use Rattle.curve_law.specs.Verdicts.{rank_of_kind}
use Rattle.curve_law.proofs.CoverLemmas.{by_test}
use Rattle.curve_law.proofs.VerdictLemmas.{one_kind}
use Rattle.event_list.specs.Order.{comes_before, with_event, ordered}
use Rattle.event_list.specs.Workings.Coming.{IsAscending}

-- the order of events as an order of three numbers
abbrev before : ℤ → ℕ → ℤ → ℤ → ℕ → ℤ → Bool
before m p l n q k = int_lt m n || (int_eq m n && (nat_lt p q || (p == q && int_lt l k)))

-- an order by one number, and by another test where two are equal
minute-asym : (m n : ℤ) (b d : Bool) → (b ≡ true → d ≡ false) → (int_lt m n || (int_eq m n && b)) ≡ true
    → (int_lt n m || (int_eq n m && d)) ≡ false
minute-asym m n b d rest h = grind (arith, ints)

kind_rank-asym : (p q : ℕ) (b d : Bool) → (b ≡ true → d ≡ false) → (nat_lt p q || (p == q && b)) ≡ true
    → (nat_lt q p || (q == p && d)) ≡ false
kind_rank-asym p q b d rest h = grind (arith, nat_tests)

level-asym : (l k : ℤ) → int_lt l k ≡ true → int_lt k l ≡ false
level-asym l k h = grind (arith, ints)

minute-trans : (m n o : ℤ) (b d e : Bool) → (b ≡ false → d ≡ false → e ≡ false) → (int_lt m n || (int_eq m n && b)) ≡ false
    → (int_lt n o || (int_eq n o && d)) ≡ false → (int_lt m o || (int_eq m o && e)) ≡ false
minute-trans m n o b d e rest h i = grind (arith, ints)

kind_rank-trans : (p q r : ℕ) (b d e : Bool) → (b ≡ false → d ≡ false → e ≡ false) → (nat_lt p q || (p == q && b)) ≡ false
    → (nat_lt q r || (q == r && d)) ≡ false → (nat_lt p r || (p == r && e)) ≡ false
kind_rank-trans p q r b d e rest h i = grind (arith, nat_tests)

level-trans : (l k j : ℤ) → int_lt l k ≡ false → int_lt k j ≡ false → int_lt l j ≡ false
level-trans l k j h i = grind (arith, ints)

minute-same : (m n : ℤ) (b d : Bool) → (int_lt m n || (int_eq m n && b)) ≡ false → (int_lt n m || (int_eq n m && d)) ≡ false
    → (m ≡ n) × (b ≡ false) × (d ≡ false)
minute-same m n b d h i = (grind (arith, ints), grind (arith, ints), grind (arith, ints))

kind_rank-same : (p q : ℕ) (b d : Bool) → (nat_lt p q || (p == q && b)) ≡ false → (nat_lt q p || (q == p && d)) ≡ false
    → (p ≡ q) × (b ≡ false) × (d ≡ false)
kind_rank-same p q b d h i = (grind (arith, nat_tests), grind (arith, nat_tests), grind (arith, nat_tests))

level-same : (l k : ℤ) → int_lt l k ≡ false → int_lt k l ≡ false → l ≡ k
level-same l k h i = grind (arith, ints)

before-asym : (m : ℤ) (p : ℕ) (l n : ℤ) (q : ℕ) (k : ℤ) → before m p l n q k ≡ true → before n q k m p l ≡ false
before-asym m p l n q k h = minute-asym m n _ _ (kind_rank-asym p q _ _ (level-asym l k)) h

before-trans : (m : ℤ) (p : ℕ) (l n : ℤ) (q : ℕ) (k o : ℤ) (r : ℕ) (j : ℤ) → before m p l n q k ≡ false
    → before n q k o r j ≡ false → before m p l o r j ≡ false
before-trans m p l n q k o r j h i = minute-trans m n o _ _ _ (kind_rank-trans p q r _ _ _ (level-trans l k j)) h i

before-same : (m : ℤ) (p : ℕ) (l n : ℤ) (q : ℕ) (k : ℤ) → before m p l n q k ≡ false → before n q k m p l ≡ false
    → (m ≡ n) × (p ≡ q) × (l ≡ k)
before-same m p l n q k h i =
    let minute = minute-same m n (nat_lt p q || (p == q && int_lt l k)) (nat_lt q p || (q == p && int_lt k l)) h i in
    let kind_rank = kind_rank-same p q (int_lt l k) (int_lt k l) minute.1 minute.2 in
    (minute.0, kind_rank.0, level-same l k kind_rank.1 kind_rank.2)

pub comes_before-asym : (d e : Event) → comes_before d e ≡ true → comes_before e d ≡ false
comes_before-asym d e h = before-asym d.minute (rank_of_kind d.kind) d.level e.minute (rank_of_kind e.kind) e.level h

pub comes_before-trans : (c d e : Event) → comes_before c d ≡ false → comes_before d e ≡ false → comes_before c e ≡ false
comes_before-trans c d e h i = before-trans c.minute (rank_of_kind c.kind) c.level d.minute
    (rank_of_kind d.kind) d.level e.minute (rank_of_kind e.kind) e.level h i

pub comes_before-itself : (e : Event) → comes_before e e ≡ false
comes_before-itself e = by_test (comes_before e e) (λ h. comes_before-asym e e h) (λ h. h)

pub comes_before-same : (d e : Event) → comes_before d e ≡ false → comes_before e d ≡ false → d ≡ e
comes_before-same d e h i =
    let same = before-same d.minute (rank_of_kind d.kind) d.level e.minute (rank_of_kind e.kind) e.level h i in
    let minute : d.minute ≡ e.minute = same.0 in
    let level : d.level ≡ e.level = same.2 in
    let kind : d.kind ≡ e.kind = one_kind d.kind e.kind ((Decides-eqb (rank_of_kind d.kind) (rank_of_kind e.kind)).1 same.1) in
    ap (λ m. record { minute = m; kind = d.kind; level = d.level }) minute
    ∙ ap (λ k. record { minute = e.minute; kind = k; level = d.level }) kind
    ∙ ap (λ l. record { minute = e.minute; kind = e.kind; level = l }) level

-- ---- insertion

pub All-with : (P : Event → Type 0) (e : Event) (es : List Event) → P e → All P es → All P (with_event e es)
unfolding with_event
All-with P e [] here all = All-cons P e [] here all
All-with P e (d ∷ ds) here all = by_test (comes_before d e)
    (λ first. rw first (All-cons P d (with_event e ds) (All-head P d ds all) (All-with P e ds here (All-tail P d ds all))))
    (λ last. rw last (All-cons P e (d ∷ ds) here all))

pub sum-with : (f : Event → ℕ) (e : Event) (es : List Event) → sum_by f (with_event e es) ≡ f e + sum_by f es
unfolding with_event
sum-with f e [] = sum_by-cons f e []
sum-with f e (d ∷ ds) = by_test (comes_before d e)
    (λ first. rw first (omega (arith, sum_by-cons f d (with_event e ds), sum_by-cons f d ds, sum-with f e ds)))
    (λ last. rw last (sum_by-cons f e (d ∷ ds)))

pub with-ascending : (e : Event) (es : List Event) → IsAscending es → IsAscending (with_event e es)
unfolding with_event IsAscending
with-ascending e [] up = (All-nil (λ d. comes_before d e ≡ false), tt)
with-ascending e (d ∷ ds) up = by_test (comes_before d e)
    (λ first. rw first (All-with (λ x. comes_before x d ≡ false) e ds (comes_before-asym d e first) up.0, with-ascending e ds up.1))
    (λ last. rw last (
      All-cons (λ x. comes_before x e ≡ false) d ds last (All-weaker (λ x. comes_before x d ≡ false)
          (λ x. comes_before x e ≡ false) (λ x h. comes_before-trans x d e h last) ds up.0),
      up,
    ))

pub ordered-ascending : (es : List Event) → IsAscending (ordered es)
unfolding ordered IsAscending
ordered-ascending [] = tt
ordered-ascending (e ∷ es) = with-ascending e (ordered es) (ordered-ascending es)

pub sum-ordered : (f : Event → ℕ) (es : List Event) → sum_by f (ordered es) ≡ sum_by f es
unfolding ordered
sum-ordered f [] = refl
sum-ordered f (e ∷ es) = omega (arith, sum-with f e (ordered es), sum-ordered f es, sum_by-cons f e es)

pub All-ordered : (P : Event → Type 0) (es : List Event) → All P es → All P (ordered es)
unfolding ordered
All-ordered P [] all = all
All-ordered P (e ∷ es) all = All-with P e (ordered es) (All-head P e es all) (All-ordered P es (All-tail P e es all))

-- ---- two sorted lists with the same events are equal

-- the number of events that come before one
abbrev counted : Event → Event → ℕ
counted e d = cond (comes_before d e) 1 0

none-before : (e : Event) (es : List Event) → All (λ d. comes_before d e ≡ false) es → sum_by (counted e) es ≡ 0
none-before e [] all = refl
none-before e (d ∷ ds) all =
    let here : counted e d ≡ 0 = rw (All-head (λ x. comes_before x e ≡ false) d ds all) refl in
    omega (arith, sum_by-cons (counted e) d ds, none-before e ds (All-tail (λ x. comes_before x e ≡ false) d ds all))

-- the first event of one list comes before no event of the other
not_before : (d e : Event) (ds es : List Event) → All (λ x. comes_before x e ≡ false) es
    → sum_by (counted e) (d ∷ ds) ≡ sum_by (counted e) (e ∷ es) → comes_before d e ≡ false
not_before d e ds es up same = by_test (comes_before d e)
    (λ before. absurd (
    let one : counted e d ≡ 1 = rw before refl in
    let none = none-before e (e ∷ es) (All-cons (λ x. comes_before x e ≡ false) e es (comes_before-itself e) up) in
    omega (arith, sum_by-cons (counted e) d ds)))
    (λ after. after)

pub one-order : (xs ys : List Event) → IsAscending xs → IsAscending ys → ((f : Event → ℕ) → sum_by f xs ≡ sum_by f ys) → xs ≡ ys
unfolding IsAscending
one-order [] [] up up' same = refl
one-order [] (y ∷ ys) up up' same = absurd (omega (arith, same (λ e. 1), sum_by-cons (λ e. 1) y ys))
one-order (x ∷ xs) [] up up' same = absurd (omega (arith, same (λ e. 1), sum_by-cons (λ e. 1) x xs))
one-order (x ∷ xs) (y ∷ ys) up up' same =
    let head : x ≡ y = comes_before-same x y (not_before x y xs ys up'.0 (same (counted y)))
    (not_before y x ys xs up.0 (sym (same (counted x)))) in
    let tail : xs ≡ ys = one-order xs ys up.1 up'.1 (λ f.
    let at : f x ≡ f y = ap f head in
    omega (arith, same f, sum_by-cons f x xs, sum_by-cons f y ys)) in
    rw (head, tail) refl

-- a sorted list with the events of another is its sorted form
pub ordered-is : (xs ys : List Event) → IsAscending ys → ((f : Event → ℕ) → sum_by f xs ≡ sum_by f ys) → ys ≡ ordered xs
ordered-is xs ys up same = one-order ys (ordered xs) up (ordered-ascending xs) (λ f. sym (same f) ∙ sym (sum-ordered f xs))

pub ordered-same : (xs ys : List Event) → ((f : Event → ℕ) → sum_by f xs ≡ sum_by f ys) → ordered xs ≡ ordered ys
ordered-same xs ys same = one-order (ordered xs) (ordered ys) (ordered-ascending xs) (ordered-ascending ys)
    (λ f. sum-ordered f xs ∙ (same f ∙ sym (sum-ordered f ys)))

-- ---- the result of a sort

weak : IsStrictWeakOrder comes_before
weak = record { one_way = comes_before-asym; chain = comes_before-trans }

far-ascending : (xs : List Event)
    → ((i j : ℕ) (d : Event) → i ≤ j → j < length xs → comes_before (get_or xs j d) (get_or xs i d) ≡ false)
    → IsAscending xs
unfolding IsAscending
far-ascending [] far = tt
far-ascending (x ∷ xs) far = (
  λ k d h. far 0 (suc k) d (omega arith) (omega arith),
  far-ascending xs (λ i j d l h. far (suc i) (suc j) d (omega arith) (omega arith)),
)

-- the order of three numbers as tuples compare
less-then : (o r : Ordering) → is_lt (ordering_then o r) ≡ (is_lt o || (is_eq o && is_lt r))
less-then Less r = refl
less-then Equal r = refl
less-then Greater r = refl

then-assoc : (o r s : Ordering) → ordering_then (ordering_then o r) s ≡ ordering_then o (ordering_then r s)
then-assoc Less r s = refl
then-assoc Equal r s = refl
then-assoc Greater r s = refl

less-int : (m n : ℤ) → (is_lt (int_cmp m n) ≡ int_lt m n) × (is_eq (int_cmp m n) ≡ int_eq m n)
less-int m n = (grind (arith, ints), grind (arith, ints))

less-nat : (p q : ℕ) → (is_lt (nat_cmp p q) ≡ nat_lt p q) × (is_eq (nat_cmp p q) ≡ (p == q))
less-nat p q = (grind (arith, nat_tests), grind (arith, nat_tests))

ranked : (m : ℤ) (p : ℕ) (l n : ℤ) (q : ℕ) (k : ℤ)
    → is_lt (ordering_then (ordering_then (int_cmp m n) (nat_cmp p q)) (int_cmp l k)) ≡ before m p l n q k
ranked m p l n q k =
    let minute = less-int m n in
    let kind_rank = less-nat p q in
    let level = (less-int l k).0 in
    rw (
      then-assoc (int_cmp m n) (nat_cmp p q) (int_cmp l k),
      less-then (int_cmp m n) (ordering_then (nat_cmp p q) (int_cmp l k)),
      less-then (nat_cmp p q) (int_cmp l k),
      minute.0,
      minute.1,
      kind_rank.0,
      kind_rank.1,
      level,
    ) refl

some-then : (o r : Ordering) → partial_ordering_then (Some o) (Some r) ≡ Some (ordering_then o r)
some-then Less r = refl
some-then Equal r = refl
some-then Greater r = refl

pub partly-ranked : (m : ℤ) (p : ℕ) (l n : ℤ) (q : ℕ) (k : ℤ) → is_some_and is_lt
    (partial_ordering_then (partial_ordering_then (Some (int_cmp m n)) (Some (nat_cmp p q))) (Some (int_cmp l k)))
    ≡ before m p l n q k
partly-ranked m p l n q k =
    rw (some-then (int_cmp m n) (nat_cmp p q), some-then (ordering_then (int_cmp m n) (nat_cmp p q)) (int_cmp l k))
    (ranked m p l n q k)

abbrev pub ranks_before : Event → Event → Bool
ranks_before d e =
    is_lt (ordering_then (ordering_then (int_cmp d.minute e.minute) (nat_cmp (rank_of_kind d.kind) (rank_of_kind e.kind)))
    (int_cmp d.level e.level))

-- events sorted by their ranks are in order
pub sorted-is : (xs ys : List Event) → IsPermutation xs ys → IsSortedBy ranks_before ys → ys ≡ ordered xs
sorted-is xs ys moves sorted =
    let up : IsSortedBy comes_before ys = λ k d low high.
    let x = get_or ys (k + 1) d in
    let y = get_or ys k d in
    sym (ranked x.minute (rank_of_kind x.kind) x.level y.minute (rank_of_kind y.kind) y.level) ∙ sorted k d low high in
    ordered-is xs ys (far-ascending ys (sorted_far comes_before weak ys up)) (λ f. sym (sum_by-IsPermutation f xs ys moves))
