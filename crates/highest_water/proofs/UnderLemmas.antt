-- A curve that changes by at most its rate in each minute stays under a value that the bound on the
-- values between both ends doesn't reach.
use Rattle.std.proofs.Common.{◌≡◌, ◌⊎◌, inl, inr, ⊎_elim, ℕ, ◌+◌, ◌-◌, ◌*◌, ◌≤◌, ◌<◌, nat_le, ℤ, pos, negsuc, ◌+ℤ◌, ◌-ℤ◌, ◌*ℤ◌, ◌≤ℤ◌, ◌<ℤ◌, unsigned_abs, int_lt, int_le, Bool, true, false, ◌&&◌, ◌||◌, ◌^◌, cond, Option, Some, None, refl, arith}
use Rattle.std.proofs.lemmas.Bool.{and_parts}
use Rattle.std.proofs.lemmas.Bool.Decides.{nat_tests}
use Rattle.std.proofs.lemmas.Int.{ints}
use Rattle.curve_law.specs.CurveSpec.{CurveSpec, IsSpan, IsRate, IsLawful}
use Rattle.curve_law.specs.declared.quiet.TheConstants.{MOST_MINUTES}
use Rattle.curve_law.proofs.CoverLemmas.{by_test}
use Rattle.curve_law.proofs.QuietLemmas.{drift_up, drift_down, later_steps}
use Rattle.highest_water.specs.Covers.{twice_most, stays_below, stays_within, is_under}
use Rattle.highest_water.specs.Verdicts.{is_inside}
use Rattle.highest_water.specs.Workings.Below.{AreBelow}

-- twice a value inside is at most both values at the ends plus the rate times the minutes
twice-most : (f : ℤ → ℤ) (a : ℤ) (r j i : ℕ)
    → ((k : ℕ) → k < j + i → unsigned_abs (f (a +ℤ pos k +ℤ pos 1) -ℤ f (a +ℤ pos k)) ≤ r)
    → (pos 2 *ℤ f (a +ℤ pos j)) ≤ℤ (f a +ℤ f (a +ℤ pos (j + i)) +ℤ pos (r * (j + i)))
twice-most f a r j i steps =
    let first = drift_up f a r j (λ k h. steps k (omega arith)) in
    let second = drift_down f (a +ℤ pos j) r i (later_steps f a r j i steps) in
    let end : a +ℤ pos j +ℤ pos i ≡ a +ℤ pos (j + i) = omega (arith, ints) in
    let back = rw end at second in
    omega (arith, ints)

-- twice a value inside, by the law of a rate
rated-most : (c : CurveSpec) (a : ℤ) (j i : ℕ) (rate : ℤ) → 1 ≤ j + i → IsRate c a (j + i) rate
    → (pos 2 *ℤ c.track.value (a +ℤ pos j))
    ≤ℤ (c.track.value a +ℤ c.track.value (a +ℤ pos (j + i)) +ℤ (rate *ℤ pos (j + i)))
rated-most c a j i (negsuc r) some is = absurd (let step = is.steps 0 (omega arith) in omega (arith, ints))
rated-most c a j i (pos r) some is =
    let steps = λ (k : ℕ) (h : k < j + i). let step = is.steps k h in
    let s : unsigned_abs (c.track.value (a +ℤ pos k +ℤ pos 1) -ℤ c.track.value (a +ℤ pos k)) ≤ r =
    omega (arith, ints) in s in
    twice-most c.track.value a r j i steps

pub int_lt-true : (x y : ℤ) → int_lt x y ≡ true → x <ℤ y
int_lt-true x y h = grind (arith, ints)

pub int_le-true : (x y : ℤ) → int_le x y ≡ true → x ≤ℤ y
int_le-true x y h = grind (arith, ints)

no_rate-below : (n : ℕ) (v w value : ℤ) → stays_below None n v w value ≡ true → ⊥
unfolding stays_below
no_rate-below n v w value h = cc

no_rate-within : (n : ℕ) (v w value : ℤ) → stays_within None n v w value ≡ true → ⊥
unfolding stays_within
no_rate-within n v w value h = cc

rate-below : (rate v w x value : ℤ) (n : ℕ) → (pos 2 *ℤ x) ≤ℤ (v +ℤ w +ℤ (rate *ℤ pos n))
    → stays_below (Some rate) n v w value ≡ true → x <ℤ value
unfolding stays_below
rate-below rate v w x value n bound stays =
    let less = int_lt-true (v +ℤ w +ℤ (rate *ℤ pos n)) (pos 2 *ℤ value) stays in
    omega (arith, ints)

rate-within : (rate v w x value : ℤ) (n : ℕ) → (pos 2 *ℤ x) ≤ℤ (v +ℤ w +ℤ (rate *ℤ pos n))
    → stays_within (Some rate) n v w value ≡ true → x ≤ℤ value
unfolding stays_within
rate-within rate v w x value n bound stays =
    let less = int_le-true (v +ℤ w +ℤ (rate *ℤ pos n)) (pos 2 *ℤ value) stays in
    omega (arith, ints)

-- twice a value in a cell is at most both values at the ends plus the rate times the minutes
inside-most : (c : CurveSpec) (a : ℤ) (n j : ℕ) (rate : ℤ) → c.rate a n ≡ Some rate → IsLawful c → IsSpan c a n → 2 ≤ n
    → n ≤ MOST_MINUTES → j < n
    → (pos 2 *ℤ c.track.value (a +ℤ pos j)) ≤ℤ (c.track.value a +ℤ c.track.value (a +ℤ pos n) +ℤ (rate *ℤ pos n))
inside-most c a n j rate is lawful span two most few =
    let all : j + (n - j) ≡ n = omega arith in
    let law = lawful.rates a n rate (record { first = span.first; last = span.last; some = omega arith; few = most }) is in
    rw all at (rated-most c a j (n - j) rate (omega arith) (rw all law))

below-least : (c : CurveSpec) (a : ℤ) (n j : ℕ) (value : ℤ) (o : Option ℤ) → c.rate a n ≡ o → IsLawful c → IsSpan c a n
    → 2 ≤ n → n ≤ MOST_MINUTES → j < n → stays_below o n (c.track.value a) (c.track.value (a +ℤ pos n)) value ≡ true
    → c.track.value (a +ℤ pos j) <ℤ value
below-least c a n j value None is lawful span two most few stays = absurd (no_rate-below n _ _ value stays)
below-least c a n j value (Some rate) is lawful span two most few stays =
    rate-below rate _ _ _ value n (inside-most c a n j rate is lawful span two most few) stays

within-most : (c : CurveSpec) (a : ℤ) (n j : ℕ) (value : ℤ) (o : Option ℤ) → c.rate a n ≡ o → IsLawful c → IsSpan c a n
    → 2 ≤ n → n ≤ MOST_MINUTES → j < n → stays_within o n (c.track.value a) (c.track.value (a +ℤ pos n)) value ≡ true
    → c.track.value (a +ℤ pos j) ≤ℤ value
within-most c a n j value None is lawful span two most few stays = absurd (no_rate-within n _ _ value stays)
within-most c a n j value (Some rate) is lawful span two most few stays =
    rate-within rate _ _ _ value n (inside-most c a n j rate is lawful span two most few) stays

two_ways : (p q r s : Bool) → ((p && q) || (r && s)) ≡ true → ((p ≡ true) × (q ≡ true)) ⊎ ((r ≡ true) × (s ≡ true))
two_ways true true r s h = inl (refl, refl)
two_ways true false true true h = inr (refl, refl)
two_ways true false true false h = cc
two_ways true false false s h = cc
two_ways false q true true h = inr (refl, refl)
two_ways false q true false h = cc
two_ways false q false s h = cc

-- a cell under a point has at least two minutes
pub under-two : (c : CurveSpec) (at value a : ℤ) (n : ℕ) → is_under c at value a n ≡ true → 2 ≤ n
unfolding is_under
under-two c at value a n under = grind (arith, nat_tests)

-- a cell under a point has at most 1,024 minutes
pub under-few : (c : CurveSpec) (at value a : ℤ) (n : ℕ) → is_under c at value a n ≡ true → n ≤ MOST_MINUTES
unfolding is_under
under-few c at value a n under = grind (arith, nat_tests)

-- `EndsBy c at value a n`: a cell of the n minutes from minute `a` on is before the minute `at`,
-- and by the rate its values are less than `value`
abbrev EndsBy : CurveSpec → ℤ → ℤ → ℤ → ℕ → Type 0
EndsBy c at value a n = (a +ℤ pos n) ≤ℤ at × (stays_below (c.rate a n) n (c.track.value a) (c.track.value (a +ℤ pos n)) value ≡ true)

abbrev BeginsAfter : CurveSpec → ℤ → ℤ → ℤ → ℕ → Type 0
BeginsAfter c at value a n = at <ℤ a × (stays_within (c.rate a n) n (c.track.value a) (c.track.value (a +ℤ pos n)) value ≡ true)

under-side : (c : CurveSpec) (at value a : ℤ) (n : ℕ) → is_under c at value a n ≡ true → EndsBy c at value a n ⊎ BeginsAfter c at value a n
unfolding is_under
under-side c at value a n under =
    let sides = and_parts _ _ under in
    ⊎_elim
    (λ by. inl (int_le-true _ _ by.0, by.1))
    (λ after. inr (int_lt-true _ _ after.0, after.1))
    (two_ways _ _ _ _ sides.1)

-- a cell under a point that doesn't begin after the point's minute ends before this minute or at it
pub under-beside : (c : CurveSpec) (at value a : ℤ) (n : ℕ) → is_under c at value a n ≡ true → a ≤ℤ at → (a +ℤ pos n) ≤ℤ at
under-beside c at value a n under from =
    elim (under-side c at value a n under) [ inl by ↦ by.0 | inr after ↦ absurd (omega (arith, ints, after.0)) ]

pub under-other : (c : CurveSpec) (at value a : ℤ) (n : ℕ) → is_under c at value a n ≡ true → a ≤ℤ at → at <ℤ (a +ℤ pos n) → ⊥
under-other c at value a n under from before =
    let beside = under-beside c at value a n under from in omega (arith, ints)

-- if no minute of a cell is higher than a point, the cell is below it
below-of : (c : CurveSpec) (at value a : ℤ) (n : ℕ) → ((j : ℕ) → j < n → c.track.value (a +ℤ pos j) ≤ℤ value
    × ((a +ℤ pos j) <ℤ at → c.track.value (a +ℤ pos j) <ℤ value)) → AreBelow c at value a (a +ℤ pos n)
below-of c at value a n each = record {
  greatest = λ m from before.
      let j : a +ℤ pos (unsigned_abs (m -ℤ a)) ≡ m = omega (arith, ints) in
      rw j at (each (unsigned_abs (m -ℤ a)) (omega (arith, ints))).0;
  first = λ m from before earlier.
      let j : a +ℤ pos (unsigned_abs (m -ℤ a)) ≡ m = omega (arith, ints) in
      (rw j at (each (unsigned_abs (m -ℤ a)) (omega (arith, ints))).1) earlier;
}

pub under-below : (c : CurveSpec) (at value a : ℤ) (n : ℕ) → IsLawful c → IsSpan c a n → is_under c at value a n ≡ true
    → AreBelow c at value a (a +ℤ pos n)
under-below c at value a n lawful span under = below-of c at value a n (λ j few.
    let two = under-two c at value a n under in
    let most = under-few c at value a n under in
    elim (under-side c at value a n under) [
      | inl by ↦
          let less = below-least c a n j value (c.rate a n) refl lawful span two most few by.1 in
          (omega (arith, ints), λ _. less)
      | inr after ↦
          let most = within-most c a n j value (c.rate a n) refl lawful span two most few after.1 in
          (most, λ earlier. absurd (omega (arith, ints, after.0)))
    ])

-- ---- the test by its parts

and_false : (b : Bool) → false ≡ (b && false)
and_false true = refl
and_false false = refl

pub is_under-length : (c : CurveSpec) (at value a : ℤ) (n : ℕ) → (n < 2) ⊎ (2 ≤ n × MOST_MINUTES < n) → false ≡ is_under c at value a n
unfolding is_under
is_under-length c at value a n other =
    let e : (nat_le 2 n && nat_le n MOST_MINUTES) ≡ false = grind (arith, nat_tests) in rw e refl

inside-not_by : (at a : ℤ) (n : ℕ) → is_inside at a n ≡ true → int_le (a +ℤ pos n) at ≡ false
inside-not_by at a n h = grind (arith, ints)

inside-not_after : (at a : ℤ) (n : ℕ) → is_inside at a n ≡ true → int_lt at a ≡ false
inside-not_after at a n h = grind (arith, ints)

pub is_under-inside : (c : CurveSpec) (at value a : ℤ) (n : ℕ) → is_inside at a n ≡ true → false ≡ is_under c at value a n
unfolding is_under
is_under-inside c at value a n inside =
    rw (inside-not_by at a n inside, inside-not_after at a n inside) (and_false (nat_le 2 n && nat_le n MOST_MINUTES))

outside-by : (at a : ℤ) (n : ℕ) → is_inside at a n ≡ false → int_lt at a ≡ false → int_le (a +ℤ pos n) at ≡ true
outside-by at a n h later = grind (arith, ints)

after-not_by : (at a : ℤ) (n : ℕ) → int_lt at a ≡ true → int_le (a +ℤ pos n) at ≡ false
after-not_by at a n h = grind (arith, ints)

-- the test of the bound: not greater than twice the value after the minute, less than it before
abbrev pub low_enough : ℤ → ℤ → Bool → Bool
low_enough most value is_after = cond is_after (int_le most (pos 2 *ℤ value)) (int_lt most (pos 2 *ℤ value))

or_false : (b : Bool) → b ≡ (b || false)
or_false true = refl
or_false false = refl

pub is_under-rate : (c : CurveSpec) (at value a most rate : ℤ) (n : ℕ) → 2 ≤ n → n ≤ MOST_MINUTES → is_inside at a n
    ≡ false → Some rate ≡ c.rate a n → most ≡ twice_most rate n (c.track.value a) (c.track.value (a +ℤ pos n))
    → low_enough most value (int_lt at a) ≡ is_under c at value a n
unfolding is_under stays_below stays_within
is_under-rate c at value a most rate n two few outside stated is =
    let e : (nat_le 2 n && nat_le n MOST_MINUTES) ≡ true = grind (arith, nat_tests) in
    by_test (int_lt at a)
    (λ after. rw (is, ← stated, e, after-not_by at a n after, after) refl)
    (λ before. rw (is, ← stated, e, outside-by at a n outside before, before) (or_false _))

pub is_under-unrated : (c : CurveSpec) (at value a : ℤ) (n : ℕ) → None ≡ c.rate a n → false ≡ is_under c at value a n
unfolding is_under stays_below stays_within
is_under-unrated c at value a n stated = rw (← stated) (no_way (int_le (a +ℤ pos n) at) (int_lt at a) (nat_le 2 n && nat_le n MOST_MINUTES))
  where
    no_way : (p q b : Bool) → false ≡ (b && ((p && false) || (q && false)))
    no_way true true b = and_false b
    no_way true false b = and_false b
    no_way false true b = and_false b
    no_way false false b = and_false b

-- the first minute of a span of a lawful curve is at most 2^60 in size
pub begin-range : (c : CurveSpec) (a : ℤ) (n : ℕ) → IsLawful c → IsSpan c a n → unsigned_abs a ≤ 2 ^ 60
begin-range c a n lawful span = omega (arith, ints, lawful.early, lawful.late, span.first, span.last)
