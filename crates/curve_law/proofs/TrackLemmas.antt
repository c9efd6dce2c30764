-- The plain list of a span (its events, found by looking at each minute), from the lists of its
-- parts.
use Rattle.std.proofs.Common.{◌≡◌, ℕ, zero, suc, ◌+◌, ◌<◌, ℤ, pos, ◌+ℤ◌, true, false, cond, [], ◌∷◌, ◌++◌, map, refl, ap, arith}
use Rattle.std.proofs.lemmas.Int.{ints}
use Rattle.std.proofs.lemmas.List.{map-append}
use Rattle.std.proofs.lemmas.List.Elements.{filter-append}
use Rattle.curve_law.specs.Track.{Track, has_event, event_at, minutes, plain_list}

minutes-add : (a : ℤ) (n k : ℕ) → minutes a (n + k) ≡ minutes a n ++ minutes (a +ℤ pos n) k
unfolding minutes
minutes-add a zero k =
    let none : 0 + k ≡ k = omega arith in
    let same : a +ℤ pos 0 ≡ a = omega (arith, ints) in rw (none, same)
minutes-add a (suc n) k =
    let more : suc n + k ≡ suc (n + k) = omega arith in
    let later : a +ℤ pos 1 +ℤ pos n ≡ a +ℤ pos (suc n) = omega (arith, ints) in
    rw more (ap (λ ms. a ∷ ms) (rw later at (minutes-add (a +ℤ pos 1) n k)))

-- the events of n + k minutes are the events of the first n and then of the other k
pub plain_list-add : (t : Track) (a : ℤ) (n k : ℕ) → plain_list t a (n + k) ≡ plain_list t a n ++ plain_list t (a +ℤ pos n) k
unfolding plain_list
plain_list-add t a n k =
    rw (minutes-add a n k, filter-append, map-append)

-- a span of no minutes has no events
pub plain_list-zero : (t : Track) (a : ℤ) → plain_list t a 0 ≡ []
unfolding plain_list minutes
plain_list-zero t a = refl

-- the events of a span are the events of its first minute and then of the rest
pub plain_list-suc : (t : Track) (a : ℤ) (n : ℕ) → plain_list t a (suc n) ≡ plain_list t a 1 ++ plain_list t (a +ℤ pos 1) n
plain_list-suc t a n =
    let more : suc n ≡ 1 + n = omega arith in rw more (plain_list-add t a 1 n)

-- the list of one minute is the event after it, or is empty if there is none
pub plain_list-one : (t : Track) (a : ℤ) → plain_list t a 1 ≡ cond (has_event t a) (event_at t a ∷ []) []
unfolding plain_list minutes
plain_list-one t a = elim (has_event t a)
    as (λ v. map (event_at t) (cond v (a ∷ []) []) ≡ cond v (event_at t a ∷ []) []) [ true ↦ refl | false ↦ refl ]

-- a span has no events if no event is after any of its minutes
pub plain_list-none : (t : Track) (a : ℤ) (n : ℕ) → ((k : ℕ) → k < n → has_event t (a +ℤ pos k) ≡ false) → plain_list t a n ≡ []
plain_list-none t a zero none = plain_list-zero t a
plain_list-none t a (suc n) none =
    let here : a +ℤ pos 0 ≡ a = omega (arith, ints) in
    let first : has_event t a ≡ false = rw here at (none 0 (omega arith)) in
    let rest : plain_list t (a +ℤ pos 1) n ≡ [] = plain_list-none t (a +ℤ pos 1) n
    (λ k h. let later : a +ℤ pos 1 +ℤ pos k ≡ a +ℤ pos (suc k) = omega (arith, ints) in rw later (none (suc k) (omega arith))) in
    rw (plain_list-suc t a n, plain_list-one t a, first, rest)
