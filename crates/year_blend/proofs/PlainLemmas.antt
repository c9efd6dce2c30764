-- The plain part of a year, from one of its minutes to its end.
use Rattle.std.proofs.Common.{◌≡◌, ℕ, suc, ◌<◌, ◌≤◌, inl, inr, refl, sym, ap, arith, unsigned_abs, ℤ, pos, negsuc, ◌+ℤ◌, ◌-ℤ◌, ◌≤ℤ◌, nat_lt}
use Rattle.std.proofs.lemmas.Bool.{cases_eq, cases_lt, cond-true, cond-false, lt-ltb, le-ltb}
use Rattle.std.proofs.lemmas.Int.{by_lt_z}
use Rattle.jiff_core.proofs.SignedLemmas.{signed_arith}
use Rattle.year_blend.specs.declared.parts.Place.TheVariants.{Plain}
use Rattle.year_blend.specs.Places.{AreYears, InDomain, IsInBlend, IsInYear, IsPlaceOf, start_of, place_of, plain_end_of}
use Rattle.year_blend.proofs.YearLemmas.{year_start_of_size}
use Rattle.year_blend.proofs.PlaceLemmas.{start_of-later, place_of-rule, place_of-only}

pub plain_end_of-inner : (first_year : ℤ) (years year : ℕ) → suc year < years
    → plain_end_of first_year years year ≡ start_of first_year (suc year) -ℤ pos 60
unfolding plain_end_of
plain_end_of-inner first_year years year h = cond-true (nat_lt (suc year) years) _ _ (lt-ltb (suc year) years h)

pub plain_end_of-last : (first_year : ℤ) (years year : ℕ) → years ≤ suc year
    → plain_end_of first_year years year ≡ start_of first_year (suc year)
unfolding plain_end_of
plain_end_of-last first_year years year h = cond-false (nat_lt (suc year) years) _ _ (le-ltb (suc year) years h)

pub next_start_size : (first_year : ℤ) (years year : ℕ) → AreYears first_year years → year < years
    → unsigned_abs (start_of first_year (suc year)) < 4000000000
next_start_size first_year years year are one_of =
    let least = are.least in
    let most = are.most in
    let few = are.few in
    year_start_of_size (first_year +ℤ pos (suc year)) (record { least = omega (arith, signed_arith); most = omega (arith, signed_arith) })

-- the last year's end is the domain's
last_start : (first_year : ℤ) (years year : ℕ) → year < years → years ≤ suc year
    → start_of first_year years ≡ start_of first_year (suc year)
last_start first_year years year one_of last = ap (start_of first_year) (let e : years ≡ suc year = omega arith in e)

end_within : (first_year : ℤ) (years year : ℕ) → pos 2 ≤ℤ first_year → year < years
    → plain_end_of first_year years year ≤ℤ start_of first_year years
end_within first_year years year low one_of =
    elim (cases_lt (suc year) years) [
      | inl inner ↦ (let steps = start_of-later first_year (suc year) years low inner in
          rw (plain_end_of-inner first_year years year inner) (omega (arith, signed_arith)))
      | inr last ↦ (let same = last_start first_year years year one_of last in
          rw (plain_end_of-last first_year years year last) (omega (arith, signed_arith)))
    ]

-- facts that follow from a plain position
abbrev IsPlain : ℤ → ℕ → ℤ → ℕ → Type 0
IsPlain first_year years m year = IsPlaceOf first_year years m (Plain year)

plain_rule : (first_year : ℤ) (years : ℕ) (m : ℤ) (year : ℕ) → AreYears first_year years → InDomain first_year years m
    → place_of first_year years m ≡ Plain year → IsPlain first_year years m year
plain_rule first_year years m year are domain plain = rw plain at (place_of-rule first_year years m are domain)

until : (first_year : ℤ) (years : ℕ) (m : ℤ) (year : ℕ) → IsPlain first_year years m year → m ≤ℤ plain_end_of first_year years year
until first_year years m year rule =
    elim (cases_lt (suc year) years) [
      | inl inner ↦ rw (plain_end_of-inner first_year years year inner)
          (elim rule.0.ongoing [
            | inl before ↦ by_lt_z (negsuc 59) (m -ℤ start_of first_year (suc year))
                (λ in_range. absurd (rule.1 (suc year) (m -ℤ start_of first_year (suc year)) (record {
                  later = omega arith;
                  inner = inner;
                  distance = refl;
                  above = in_range;
                  below = omega (arith, signed_arith);
                })))
                (λ far. omega (arith, signed_arith))
            | inr end ↦ absurd (omega (arith, end.0))
          ])
      | inr last ↦ (let same = last_start first_year years year rule.0.one_of last in
          rw (plain_end_of-last first_year years year last)
          (elim rule.0.ongoing [
            | inl before ↦ omega (arith, signed_arith)
            | inr end ↦ (let at_end = end.1 in omega (arith, signed_arith))
          ]))
    ]

pub plain_until : (first_year : ℤ) (years : ℕ) (m : ℤ) (year : ℕ) → AreYears first_year years
    → InDomain first_year years m → place_of first_year years m ≡ Plain year → m ≤ℤ plain_end_of first_year years year
plain_until first_year years m year are domain plain =
    until first_year years m year (plain_rule first_year years m year are domain plain)

-- a later minute of the part is of the same year
still_in_year : (first_year : ℤ) (years : ℕ) (m later : ℤ) (year : ℕ) → IsInYear first_year years m year → m ≤ℤ later
    → later ≤ℤ plain_end_of first_year years year → IsInYear first_year years later year
still_in_year first_year years m later year inside onward within =
    let begun = inside.begun in
    record {
      one_of = inside.one_of;
      begun = omega (arith, signed_arith);
      ongoing = elim (cases_lt (suc year) years) [
        | inl inner ↦ (let before = rw (plain_end_of-inner first_year years year inner) at within in
            inl (omega (arith, signed_arith)))
        | inr last ↦ (let same = last_start first_year years year inside.one_of last in
            let before = rw (plain_end_of-last first_year years year last) at within in
            let one_of = inside.one_of in
            by_lt_z later (start_of first_year (suc year)) (λ lt. inl lt)
            (λ ge. inr (omega arith, omega (arith, signed_arith))))
      ];
    }

-- a later minute of the part is in no blend
still_no_blend : (first_year : ℤ) (years : ℕ) (m later : ℤ) (year : ℕ) → pos 2 ≤ℤ first_year
    → IsPlain first_year years m year → m ≤ℤ later → later ≤ℤ plain_end_of first_year years year → (other : ℕ) (x : ℤ)
    → ¬ IsInBlend first_year years later other x
still_no_blend first_year years m later year low rule onward within other x blend =
    let distance = blend.distance in
    let above = blend.above in
    let below = blend.below in
    let begun = rule.0.begun in
    elim (cases_lt other year) [
      | inl earlier ↦ (let steps = start_of-later first_year other year low earlier in omega (arith, signed_arith))
      | inr not_earlier ↦ elim (cases_eq other year) [
        | inl same ↦ (let from = rw same at distance in
            rule.1 year (m -ℤ start_of first_year year) (record {
              later = rw same at blend.later;
              inner = rule.0.one_of;
              distance = refl;
              above = omega (arith, signed_arith);
              below = omega (arith, signed_arith);
            }))
        | inr apart ↦ (let among = blend.inner in
            let before = rw (plain_end_of-inner first_year years year (omega arith)) at within in
            elim (cases_eq other (suc year)) [
              | inl next ↦ (let from = rw next at distance in omega (arith, signed_arith))
              | inr far ↦ (let steps = start_of-later first_year (suc year) other low (omega arith) in omega (arith, signed_arith))
            ])
      ]
    ]

pub plain_rest : (first_year : ℤ) (years : ℕ) (m later : ℤ) (year : ℕ) → AreYears first_year years
    → InDomain first_year years m → place_of first_year years m ≡ Plain year → m ≤ℤ later
    → later ≤ℤ plain_end_of first_year years year
    → InDomain first_year years later × (place_of first_year years later ≡ Plain year)
plain_rest first_year years m later year are domain plain onward within =
    let rule = plain_rule first_year years m year are domain plain in
    let from = domain.least in
    let end = end_within first_year years year are.least rule.0.one_of in
    let inside : InDomain first_year years later = record { least = omega (arith, signed_arith); most = omega (arith, signed_arith) } in
    let there : IsPlain first_year years later year = (
      still_in_year first_year years m later year rule.0 onward within,
      still_no_blend first_year years m later year are.least rule onward within,
    )
    in
    (inside, sym (place_of-only first_year years later are inside (Plain year) there))
