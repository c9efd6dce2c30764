-- The year that contains a minute, and the minute's position there.
use Rattle.std.proofs.Common.{◌≡◌, ℕ, zero, suc, ◌-◌, ◌<◌, ◌≤◌, ◌⊎◌, true, false, ◌&&◌, inl, inr, refl, sym, ap, ◌∙◌, arith, min, unsigned_abs, ℤ, pos, negsuc, ◌+ℤ◌, ◌-ℤ◌, ◌<ℤ◌, ◌≤ℤ◌, int_le, int_lt, nat_lt}
use Rattle.std.proofs.lemmas.Bool.{cases_eq, cases_lt, cases_order, cond-true, cond-false, lt-ltb, le-ltb, and_left, and_right, and_from}
use Rattle.std.proofs.lemmas.Int.{ints, by_lt_z}
use Rattle.std.specs.Int.{int_rem_euclid}
use Rattle.jiff_core.specs.Calendar.{IsYear}
use Rattle.jiff_core.proofs.SignedLemmas.{signed_arith, one_part}
use Rattle.year_blend.specs.declared.parts.Place.{Place}
use Rattle.year_blend.specs.declared.parts.Place.TheVariants.{Plain, Blend}
use Rattle.year_blend.specs.Years.{year_start_of}
use Rattle.year_blend.specs.Places.{AreYears, InDomain, IsInBlend, IsInYear, IsPlaceOf, start_of, year_at, place_in, place_of}
use Rattle.year_blend.proofs.YearLemmas.{year_start_of-later, year_start_of_mono, year_start_of_low, year_start_of_high, young_day, old_day}

pub le_test : (a b : ℤ) → a ≤ℤ b → int_le a b ≡ true
le_test a b h = grind (arith, ints)

pub lt_test : (a b : ℤ) → b <ℤ a → int_le a b ≡ false
lt_test a b h = grind (arith, ints)

year_at-begun : (first_year : ℤ) (n : ℕ) (m : ℤ) → start_of first_year n ≤ℤ m → year_at first_year (suc n) m ≡ n
unfolding year_at
year_at-begun first_year n m h = cond-true _ n (year_at first_year n m) (le_test _ m h)

year_at-not_begun : (first_year : ℤ) (n : ℕ) (m : ℤ) → m <ℤ start_of first_year n → year_at first_year (suc n) m ≡ year_at first_year n m
unfolding year_at
year_at-not_begun first_year n m h = cond-false _ n (year_at first_year n m) (lt_test _ m h)

-- a later year of the run starts at least 365 days later
pub start_of-later : (first_year : ℤ) (k j : ℕ) → pos 2 ≤ℤ first_year → k < j
    → (start_of first_year k +ℤ pos 525600) ≤ℤ start_of first_year j
start_of-later first_year k j low h =
    year_start_of-later (first_year +ℤ pos k) (first_year +ℤ pos j) (omega (arith, signed_arith)) (omega (arith, signed_arith))

-- the last year that has begun is the one whose next year hasn't
pub year_at-is : (first_year : ℤ) (n : ℕ) (m : ℤ) (k : ℕ) → pos 2 ≤ℤ first_year → k < n → start_of first_year k ≤ℤ m
    → (m <ℤ start_of first_year (suc k)) ⊎ (suc k ≡ n) → year_at first_year n m ≡ k
year_at-is first_year zero m k low h begun ongoing = absurd (omega arith)
year_at-is first_year (suc n) m k low h begun ongoing =
    elim (cases_eq k n) [
      | inl e ↦ rw (sym e) (year_at-begun first_year k m begun)
      | inr ne ↦ (let next : m <ℤ start_of first_year (suc k) = elim ongoing [ inl before ↦ before | inr last ↦ absurd (omega arith) ] in
          let later : m <ℤ start_of first_year n = elim (cases_eq (suc k) n) [
            | inl same ↦ rw (sym same) next
            | inr apart ↦ (let steps = start_of-later first_year (suc k) n low (omega arith) in omega (arith, signed_arith))
          ] in
          year_at-not_begun first_year n m later ∙ year_at-is first_year n m k low (omega arith) begun (inl next))
    ]

pub record IsYearAt (first_year : ℤ) (n : ℕ) (m : ℤ) (k : ℕ) : Type 0 where
  pub among : k < n
  pub begun : start_of first_year k ≤ℤ m
  pub ongoing : (m <ℤ start_of first_year (suc k)) ⊎ (suc k ≡ n)

-- the calendar's year of a minute of the domain isn't before the first year
pub first_by_calendar : (first_year : ℤ) (years : ℕ) (m y : ℤ) → AreYears first_year years → InDomain first_year years m
    → IsYear y → m <ℤ year_start_of (y +ℤ pos 1) → first_year ≤ℤ y
first_by_calendar first_year years m y are domain reach ongoing =
    by_lt_z y first_year
    (λ lt. let steps = year_start_of_mono (y +ℤ pos 1) first_year (omega (arith, signed_arith)) (omega (arith, signed_arith)) in
    let least = domain.least in absurd (omega (arith, signed_arith)))
    (λ ge. ge)

-- the year among the run is d years after the first, or the last
pub year_at-calendar : (first_year : ℤ) (years : ℕ) (m y : ℤ) (d k : ℕ) → AreYears first_year years
    → first_year +ℤ pos d ≡ y → IsYear y → year_start_of y ≤ℤ m → m <ℤ year_start_of (y +ℤ pos 1)
    → k ≡ min d (years - 1) → year_at first_year years m ≡ k
year_at-calendar first_year years m y d k are there reach begun ongoing e =
    let low = are.least in
    let some = are.some in
    elim (cases_lt d years) [
      | inl within ↦ (let here : first_year +ℤ pos k ≡ y = omega (arith, signed_arith) in
          let next : first_year +ℤ pos (suc k) ≡ y +ℤ pos 1 = omega (arith, signed_arith) in
          year_at-is first_year years m k low (omega arith) (rw here begun) (inl (rw next ongoing)))
      | inr past ↦ (let last : (first_year +ℤ pos k) ≤ℤ y = omega (arith, signed_arith) in
          let steps = year_start_of_mono (first_year +ℤ pos k) y (omega (arith, signed_arith)) last in
          year_at-is first_year years m k low (omega arith) (omega (arith, signed_arith)) (inr (omega arith)))
    ]

below_test : (a b : ℤ) → a <ℤ b → int_lt a b ≡ true
below_test a b h = grind (arith, ints)

above_test : (a b : ℤ) → b ≤ℤ a → int_lt a b ≡ false
above_test a b h = grind (arith, ints)

-- far from the start of the year, or in the first year
abbrev pub IsPastStart : ℤ → ℤ → ℕ → Type 0
IsPastStart first_year m k = (k ≡ 0) ⊎ (pos 60 ≤ℤ (m -ℤ start_of first_year k))

-- far from the end of the year, or in the last year
abbrev pub IsBeforeEnd : ℤ → ℕ → ℤ → ℕ → Type 0
IsBeforeEnd first_year years m k =
    (years ≤ suc k) ⊎ ((m -ℤ start_of first_year (suc k)) ≤ℤ negsuc 59)

past_start_test : (first_year m : ℤ) (k : ℕ) → IsPastStart first_year m k
    → nat_lt 0 k && int_lt (m -ℤ start_of first_year k) (pos 60) ≡ false
past_start_test first_year m k h =
    elim h [
      | inl e ↦ and_left _ _ (le-ltb 0 k (omega arith))
      | inr far ↦ and_right _ _ (above_test (m -ℤ start_of first_year k) (pos 60) far)
    ]

before_end_test : (first_year : ℤ) (years : ℕ) (m : ℤ) (k : ℕ) → IsBeforeEnd first_year years m k
    → nat_lt (suc k) years && int_lt (negsuc 59) (m -ℤ start_of first_year (suc k)) ≡ false
before_end_test first_year years m k h =
    elim h [
      | inl last ↦ and_left _ _ (le-ltb (suc k) years last)
      | inr far ↦ and_right _ _ (above_test (negsuc 59) (m -ℤ start_of first_year (suc k)) far)
    ]

pub place_in-start : (first_year : ℤ) (years : ℕ) (m : ℤ) (k : ℕ) → 0 < k → (m -ℤ start_of first_year k) <ℤ pos 60
    → place_in first_year years m k ≡ Blend k (m -ℤ start_of first_year k)
unfolding place_in
place_in-start first_year years m k some in_range =
    cond-true _ _ _ (and_from _ _ (lt-ltb 0 k some) (below_test (m -ℤ start_of first_year k) (pos 60) in_range))

pub place_in-end : (first_year : ℤ) (years : ℕ) (m : ℤ) (k : ℕ) → IsPastStart first_year m k → suc k < years
    → negsuc 59 <ℤ (m -ℤ start_of first_year (suc k))
    → place_in first_year years m k ≡ Blend (suc k) (m -ℤ start_of first_year (suc k))
unfolding place_in
place_in-end first_year years m k past inner in_range =
    cond-false _ _ _ (past_start_test first_year m k past)
    ∙ cond-true _ _ _ (and_from _ _ (lt-ltb (suc k) years inner) (below_test (negsuc 59) (m -ℤ start_of first_year (suc k)) in_range))

pub place_in-plain : (first_year : ℤ) (years : ℕ) (m : ℤ) (k : ℕ) → IsPastStart first_year m k
    → IsBeforeEnd first_year years m k → place_in first_year years m k ≡ Plain k
unfolding place_in
place_in-plain first_year years m k past before =
    cond-false _ _ _ (past_start_test first_year m k past)
    ∙ cond-false _ _ _ (before_end_test first_year years m k before)

-- the year among the run, by its bounds
pub year_at-bounds : (first_year : ℤ) (n : ℕ) (m : ℤ) → 1 ≤ n → year_start_of first_year ≤ℤ m
    → IsYearAt first_year n m (year_at first_year n m)
year_at-bounds first_year zero m some low = absurd (omega arith)
year_at-bounds first_year (suc n) m some low =
    by_lt_z m (start_of first_year n)
    (λ later. elim (cases_lt 0 n) [
      | inl inner ↦ (let before = year_at-bounds first_year n m inner low in
          rw (year_at-not_begun first_year n m later)
          (record {
            among = let h = before.among in omega arith;
            begun = before.begun;
            ongoing = inl (elim before.ongoing [ inl lt ↦ lt | inr last ↦ rw last later ]);
          }))
      | inr first ↦ (let e : n ≡ 0 = omega arith in
          let same : first_year +ℤ pos n ≡ first_year = omega (arith, signed_arith) in
          let start = rw same at later in absurd (omega (arith, signed_arith)))
    ])
    (λ begun. rw (year_at-begun first_year n m begun)
    (record { among = omega arith; begun = begun; ongoing = inr refl }))

-- a minute in a blend is in the year that starts there, or in the one before
pub blend_year : (first_year : ℤ) (years : ℕ) (m : ℤ) (k j : ℕ) (x : ℤ) → pos 2 ≤ℤ first_year
    → IsYearAt first_year years m k → IsInBlend first_year years m j x
    → ((j ≡ k) × (pos 0 ≤ℤ x)) ⊎ ((j ≡ suc k) × (x <ℤ pos 0))
blend_year first_year years m k j x low at blend =
    let begun = at.begun in
    let distance = blend.distance in
    let above = blend.above in
    let below = blend.below in
    let inner = blend.inner in
    elim (cases_order j k) [
      | inl e ↦ (let here = rw e at distance in inl (e, omega (arith, signed_arith)))
      | inr apart ↦ elim apart [
        | inl earlier ↦ (let steps = start_of-later first_year j k low earlier in absurd (omega (arith, signed_arith)))
        | inr later ↦ elim at.ongoing [
          | inr last ↦ absurd (omega arith)
          | inl before ↦ elim (cases_eq j (suc k)) [
            | inl e ↦ (let there = rw e at distance in inr (e, omega (arith, signed_arith)))
            | inr far ↦ (let steps = start_of-later first_year (suc k) j low (omega arith) in absurd (omega (arith, signed_arith)))
          ]
        ]
      ]
    ]

year_of_place : (first_year : ℤ) (years : ℕ) (m : ℤ) (k : ℕ) → InDomain first_year years m
    → IsYearAt first_year years m k → IsInYear first_year years m k
year_of_place first_year years m k domain at =
    let most = domain.most in
    record {
      one_of = at.among;
      begun = at.begun;
      ongoing = elim at.ongoing [
        | inl before ↦ inl before
        | inr last ↦ by_lt_z m (start_of first_year (suc k)) (λ lt. inl lt)
            (λ ge. let end = rw last at ge in inr (last, omega (arith, signed_arith)))
      ];
    }

no_blend : (first_year : ℤ) (years : ℕ) (m : ℤ) (k : ℕ) → pos 2 ≤ℤ first_year → IsYearAt first_year years m k
    → IsPastStart first_year m k → IsBeforeEnd first_year years m k → (j : ℕ) (x : ℤ)
    → ¬ IsInBlend first_year years m j x
no_blend first_year years m k low at past before j x blend =
    let distance = blend.distance in
    let above = blend.above in
    let below = blend.below in
    let inner = blend.inner in
    let some = blend.later in
    elim (blend_year first_year years m k j x low at blend) [
      | inl here ↦ (let from = rw here.0 at distance in
          elim past [ inl first ↦ omega (arith, here.0) | inr far ↦ omega (arith, signed_arith) ])
      | inr next ↦ (let from = rw next.0 at distance in
          elim before [ inl last ↦ omega (arith, next.0) | inr far ↦ omega (arith, signed_arith) ])
    ]

start_cases : (first_year m : ℤ) (k : ℕ) → IsPastStart first_year m k ⊎ ((0 < k) × ((m -ℤ start_of first_year k) <ℤ pos 60))
start_cases first_year m k =
    elim (cases_lt 0 k) [
      | inl some ↦ by_lt_z (m -ℤ start_of first_year k) (pos 60) (λ in_range. inr (some, in_range)) (λ far. inl (inr far))
      | inr none ↦ inl (inl (omega arith))
    ]

end_cases : (first_year : ℤ) (years : ℕ) (m : ℤ) (k : ℕ)
    → IsBeforeEnd first_year years m k ⊎ ((suc k < years) × (negsuc 59 <ℤ (m -ℤ start_of first_year (suc k))))
end_cases first_year years m k =
    elim (cases_lt (suc k) years) [
      | inl inner ↦ by_lt_z (negsuc 59) (m -ℤ start_of first_year (suc k)) (λ in_range. inr (inner, in_range)) (λ far. inl (inr far))
      | inr last ↦ inl (inl last)
    ]

not_begun : (first_year : ℤ) (years : ℕ) (m : ℤ) (k : ℕ) → suc k < years → IsYearAt first_year years m k → m <ℤ start_of first_year (suc k)
not_begun first_year years m k inner at =
    elim at.ongoing [ inl before ↦ before | inr last ↦ absurd (omega arith) ]

-- the computed position meets the rule
place_in-rule : (first_year : ℤ) (years : ℕ) (m : ℤ) (k : ℕ) → pos 2 ≤ℤ first_year → InDomain first_year years m
    → IsYearAt first_year years m k → IsPlaceOf first_year years m (place_in first_year years m k)
place_in-rule first_year years m k low domain at =
    let begun = at.begun in
    elim (start_cases first_year m k) [
      | inr start ↦ rw (place_in-start first_year years m k start.0 start.1)
          (record {
            later = start.0;
            inner = at.among;
            distance = refl;
            above = omega (arith, signed_arith);
            below = start.1;
          })
      | inl past ↦ elim (end_cases first_year years m k) [
        | inr end ↦ (let before = not_begun first_year years m k end.0 at in
            rw (place_in-end first_year years m k past end.0 end.1)
            (record {
              later = omega arith;
              inner = end.0;
              distance = refl;
              above = end.1;
              below = omega (arith, signed_arith);
            }))
        | inl before ↦ rw (place_in-plain first_year years m k past before)
            (year_of_place first_year years m k domain at, no_blend first_year years m k low at past before)
      ]
    ]

pub place_of-rule : (first_year : ℤ) (years : ℕ) (m : ℤ) → AreYears first_year years → InDomain first_year years m
    → IsPlaceOf first_year years m (place_of first_year years m)
unfolding place_of
place_of-rule first_year years m are domain =
    place_in-rule first_year years m (year_at first_year years m) are.least domain (year_at-bounds first_year years m are.some domain.least)

-- no other position meets the rule
place_in-blend : (first_year : ℤ) (years : ℕ) (m : ℤ) (k j : ℕ) (x : ℤ) → pos 2 ≤ℤ first_year
    → IsYearAt first_year years m k → IsInBlend first_year years m j x → Blend j x ≡ place_in first_year years m k
place_in-blend first_year years m k j x low at blend =
    let distance = blend.distance in
    let above = blend.above in
    let below = blend.below in
    let begun = at.begun in
    elim (blend_year first_year years m k j x low at blend) [
      | inl here ↦ (let from = rw here.0 at distance in
          let some : 0 < k = rw here.0 at blend.later in
          let start = place_in-start first_year years m k some (rw from at below) in
          cc)
      | inr next ↦ (let from = rw next.0 at distance in
          let inner : suc k < years = rw next.0 at blend.inner in
          let steps = start_of-later first_year k (suc k) low (omega arith) in
          let end = place_in-end first_year years m k (inr (omega (arith, signed_arith))) inner (rw from at above) in
          cc)
    ]

plain_start : (first_year : ℤ) (years : ℕ) (m : ℤ) (k : ℕ) → IsYearAt first_year years m k
    → ((j : ℕ) (x : ℤ) → ¬ IsInBlend first_year years m j x) → IsPastStart first_year m k
plain_start first_year years m k at none =
    let begun = at.begun in
    elim (start_cases first_year m k) [
      | inl past ↦ past
      | inr in_range ↦ absurd (none k (m -ℤ start_of first_year k) (record {
        later = in_range.0;
        inner = at.among;
        distance = refl;
        above = omega (arith, signed_arith);
        below = in_range.1;
      }))
    ]

plain_end : (first_year : ℤ) (years : ℕ) (m : ℤ) (k : ℕ) → IsYearAt first_year years m k
    → ((j : ℕ) (x : ℤ) → ¬ IsInBlend first_year years m j x) → IsBeforeEnd first_year years m k
plain_end first_year years m k at none =
    elim (end_cases first_year years m k) [
      | inl before ↦ before
      | inr in_range ↦ (let before = not_begun first_year years m k in_range.0 at in
          absurd (none (suc k) (m -ℤ start_of first_year (suc k)) (record {
            later = omega arith;
            inner = in_range.0;
            distance = refl;
            above = in_range.1;
            below = omega (arith, signed_arith);
          })))
    ]

year_of : (first_year : ℤ) (years : ℕ) (m : ℤ) (j : ℕ) → IsInYear first_year years m j → IsYearAt first_year years m j
year_of first_year years m j year = record {
  among = year.one_of;
  begun = year.begun;
  ongoing = elim year.ongoing [ inl before ↦ inl before | inr last ↦ inr last.0 ];
}

pub place_of-only : (first_year : ℤ) (years : ℕ) (m : ℤ) → AreYears first_year years → InDomain first_year years m
    → (p : Place) → IsPlaceOf first_year years m p → p ≡ place_of first_year years m
unfolding place_of
place_of-only first_year years m are domain (Plain j) rule =
    let at = year_of first_year years m j rule.0 in
    let same = year_at-is first_year years m j are.least at.among at.begun at.ongoing in
    rw same
    (sym (place_in-plain first_year years m j (plain_start first_year years m j at rule.1) (plain_end first_year years m j at rule.1)))
place_of-only first_year years m are domain (Blend j x) rule =
    place_in-blend first_year years m (year_at first_year years m) j x are.least
    (year_at-bounds first_year years m are.some domain.least) rule

-- minutes of a domain are less than 4,000,000,000 in size
pub domain_small : (first_year : ℤ) (years : ℕ) (m : ℤ) → AreYears first_year years → InDomain first_year years m
    → unsigned_abs m ≤ 4000000000
domain_small first_year years m are domain =
    let least = are.least in
    let most = are.most in
    let few = are.few in
    let from = domain.least in
    let to = domain.most in
    let low = year_start_of_low first_year least in
    let high = year_start_of_high (first_year +ℤ pos years) (omega (arith, signed_arith)) (omega (arith, signed_arith)) in
    omega (arith, signed_arith, one_part m)

-- the new year on the nearer side of the minute's day
abbrev pub IsNearest : ℤ → ℕ → ℕ → Type 0
IsNearest m k n =
    ((int_rem_euclid m (pos 1440) <ℤ pos 720) × (n ≡ k))
    ⊎ ((pos 720 ≤ℤ int_rem_euclid m (pos 1440)) × (n ≡ suc k))

-- a minute in any blend is in the blend of the nearer new year
nearest_blend : (first_year : ℤ) (years : ℕ) (m : ℤ) (k n j : ℕ) (x z : ℤ) → pos 2 ≤ℤ first_year
    → IsYearAt first_year years m k → IsNearest m k n → x ≡ m -ℤ start_of first_year n
    → IsInBlend first_year years m j z → (0 < n) × (n < years) × (negsuc 59 <ℤ x) × (x <ℤ pos 60)
nearest_blend first_year years m k n j x z low at nearest distance blend =
    let above = blend.above in
    let below = blend.below in
    let same : n ≡ j = elim (blend_year first_year years m k j z low at blend) [
      | inl here ↦ (let young = young_day (first_year +ℤ pos j) m z blend.distance here.1 below in
          elim nearest [ inl low_half ↦ low_half.1 ∙ sym here.0 | inr high_half ↦ absurd (omega (arith, signed_arith, high_half.0)) ])
      | inr next ↦ (let old = old_day (first_year +ℤ pos j) m z blend.distance above next.1 in
          elim nearest [ inl low_half ↦ absurd (omega (arith, signed_arith, low_half.0)) | inr high_half ↦ high_half.1 ∙ sym next.0 ])
    ] in
    let x_is : x ≡ z = distance ∙ ap (λ i. m -ℤ start_of first_year i) same ∙ sym blend.distance in
    (rw same blend.later, rw same blend.inner, rw x_is above, rw x_is below)

-- if the nearer new year has no blend, the minute is plain
pub nearest_plain : (first_year : ℤ) (years : ℕ) (m : ℤ) (n : ℕ) (x : ℤ) → AreYears first_year years
    → InDomain first_year years m → IsNearest m (year_at first_year years m) n → x ≡ m -ℤ start_of first_year n
    → ¬ ((0 < n) × (n < years) × (negsuc 59 <ℤ x) × (x <ℤ pos 60))
    → IsPlaceOf first_year years m (Plain (year_at first_year years m))
nearest_plain first_year years m n x are domain nearest distance none =
    let k = year_at first_year years m in
    let at = year_at-bounds first_year years m are.some domain.least in
    let blends : (j : ℕ) (z : ℤ) → ¬ IsInBlend first_year years m j z =
    λ j z blend. none (nearest_blend first_year years m k n j x z are.least at nearest distance blend)
    in
    (year_of_place first_year years m k domain at, blends)
