-- The minutes of a stretch: all in one plain part, or about one new year.
use Rattle.std.proofs.Common.{◌≡◌, ℕ, zero, suc, ◌<◌, ◌≤◌, inl, inr, refl, sym, ap, ◌∙◌, arith, unsigned_abs, ℤ, pos, ◌+ℤ◌, ◌-ℤ◌, ◌≤ℤ◌, ◌<ℤ◌}
use Rattle.std.proofs.lemmas.Bool.{cases_lt, cond-true, cond-false}
use Rattle.std.proofs.lemmas.Int.{ints, by_lt_z}
use Rattle.jiff_core.proofs.SignedLemmas.{signed_arith}
use Rattle.year_blend.specs.declared.parts.Place.{Place}
use Rattle.year_blend.specs.declared.parts.Place.TheVariants.{Plain, Blend}
use Rattle.year_blend.specs.declared.parts.Stretch.{Stretch}
use Rattle.year_blend.specs.declared.parts.Stretch.TheVariants.{Within, Across}
use Rattle.year_blend.specs.declared.spanning.TheConstants.{LONGEST_SPAN}
use Rattle.year_blend.specs.Places.{AreYears, InDomain, IsInBlend, start_of, place_of, plain_end_of}
use Rattle.year_blend.specs.Stretches.{IsBeside, IsStretchOf, stretch_from, stretch_of}
use Rattle.year_blend.proofs.PlaceLemmas.{start_of-later, year_at-is, place_in-plain, place_of-rule, place_of-only, le_test, lt_test}
use Rattle.year_blend.proofs.PlainLemmas.{plain_end_of-inner, plain_end_of-last, plain_until, plain_rest}

-- a minute from the first to the last
pub domain_between : (first_year : ℤ) (years : ℕ) (a : ℤ) (n k : ℕ) → InDomain first_year years a
    → InDomain first_year years (a +ℤ pos n) → k ≤ n → InDomain first_year years (a +ℤ pos k)
domain_between first_year years a n k first last few =
    let from = first.least in
    let to = last.most in record { least = omega (arith, signed_arith); most = omega (arith, signed_arith) }

-- far from both ends of a year a minute is plain
pub plain_inside : (first_year : ℤ) (years : ℕ) (m : ℤ) (k : ℕ) → pos 2 ≤ℤ first_year → k < years
    → (start_of first_year k +ℤ pos 60) ≤ℤ m → (m +ℤ pos 60) ≤ℤ start_of first_year (suc k)
    → place_of first_year years m ≡ Plain k
unfolding place_of
plain_inside first_year years m k low among past before =
    let here = year_at-is first_year years m k low among (omega (arith, signed_arith)) (inl (omega (arith, signed_arith))) in
    rw here (place_in-plain first_year years m k (inr (omega (arith, signed_arith))) (inr (omega (arith, signed_arith))))

-- a stretch that touches the blend at the start of a year other than the first
pub record IsOver (first_year : ℤ) (years : ℕ) (a : ℤ) (n : ℕ) (year : ℕ) : Type 0 where
  pub later : 0 < year
  pub inner : year < years
  pub before_end : a <ℤ (start_of first_year year +ℤ pos 60)
  pub after_begin : start_of first_year year <ℤ ((a +ℤ pos n) +ℤ pos 60)

-- a minute less than 20 hours from a new year is beside it
pub beside : (first_year : ℤ) (years : ℕ) (m : ℤ) (year : ℕ) → AreYears first_year years → InDomain first_year years m
    → 0 < year → year < years → start_of first_year year ≤ℤ (m +ℤ pos 1200)
    → m ≤ℤ (start_of first_year year +ℤ pos 1200) → IsBeside year (place_of first_year years m)
beside first_year years m zero are domain later inner least most = absurd (omega arith)
beside first_year years m (suc k) are domain later inner least most =
    let low = are.least in
    let earlier = start_of-later first_year k (suc k) low (omega arith) in
    let next = start_of-later first_year (suc k) (suc (suc k)) low (omega arith) in
    by_lt_z (start_of first_year (suc k)) (m +ℤ pos 60)
    (λ begun. by_lt_z m (start_of first_year (suc k) +ℤ pos 60)
    (λ in_range. let blend : IsInBlend first_year years m (suc k) (m -ℤ start_of first_year (suc k)) = record {
      later = later;
      inner = inner;
      distance = refl;
      above = omega (arith, signed_arith);
      below = omega (arith, signed_arith);
    } in
    rw (sym (place_of-only first_year years m are domain (Blend (suc k) (m -ℤ start_of first_year (suc k))) blend)) refl)
    (λ past. rw (plain_inside first_year years m (suc k) low inner past (omega (arith, signed_arith))) (inr refl)))
    (λ before. rw (plain_inside first_year years m k low (omega arith) (omega (arith, signed_arith)) before) (inl refl))

-- the minute of the blend that it touches first
first_blended : (a start : ℤ) → (a +ℤ pos 60) ≤ℤ start → a +ℤ pos (unsigned_abs (start -ℤ (a +ℤ pos 59))) ≡ start -ℤ pos 59
first_blended a start ahead = omega (arith, ints)

touched : (first_year : ℤ) (years : ℕ) (a : ℤ) (n year : ℕ) → IsOver first_year years a n year
    → (k : ℕ) × (x : ℤ) × (k ≤ n) × IsInBlend first_year years (a +ℤ pos k) year x
touched first_year years a n year over =
    let before_end = over.before_end in
    let after_begin = over.after_begin in
    by_lt_z (start_of first_year year) (a +ℤ pos 60)
    (λ inside. (
      0,
      (a +ℤ pos 0) -ℤ start_of first_year year,
      (omega arith),
      record {
        later = over.later;
        inner = over.inner;
        distance = refl;
        above = omega (arith, signed_arith);
        below = omega (arith, signed_arith);
      },
    ))
    (λ ahead. let k = unsigned_abs (start_of first_year year -ℤ (a +ℤ pos 59)) in
    let exact : a +ℤ pos k ≡ start_of first_year year -ℤ pos 59 = first_blended a (start_of first_year year) ahead in (
      k,
      (a +ℤ pos k) -ℤ start_of first_year year,
      (omega (arith, signed_arith)),
      record {
        later = over.later;
        inner = over.inner;
        distance = refl;
        above = omega (arith, signed_arith);
        below = omega (arith, signed_arith);
      },
    ))

pub over_rule : (first_year : ℤ) (years : ℕ) (a : ℤ) (n year : ℕ) → AreYears first_year years
    → InDomain first_year years a → InDomain first_year years (a +ℤ pos n) → n ≤ LONGEST_SPAN
    → IsOver first_year years a n year → IsStretchOf first_year years a n (Across year)
over_rule first_year years a n year are first last short over =
    let before_end = over.before_end in
    let after_begin = over.after_begin in (
      touched first_year years a n year over,
      λ k few. beside first_year years (a +ℤ pos k) year are (domain_between first_year years a n k first last few)
          over.later over.inner (omega (arith, signed_arith)) (omega (arith, signed_arith)),
    )

-- the stretch by its first minute
pub record IsPlainStretch (first_year : ℤ) (years : ℕ) (a : ℤ) (n year : ℕ) : Type 0 where
  pub plain : place_of first_year years a ≡ Plain year
  pub within : (a +ℤ pos n) ≤ℤ plain_end_of first_year years year

abbrev pub IsFound : ℤ → ℕ → ℤ → ℕ → Stretch → Type 0
IsFound first_year years a n (Within year) = IsPlainStretch first_year years a n year
IsFound first_year years a n (Across year) = IsOver first_year years a n year

from_blend : (first_year : ℤ) (years : ℕ) (a : ℤ) (n year : ℕ) (x : ℤ) → IsInBlend first_year years a year x
    → IsOver first_year years a n year
from_blend first_year years a n year x blend =
    let distance = blend.distance in
    let above = blend.above in
    let below = blend.below in
    record { later = blend.later; inner = blend.inner; before_end = omega (arith, signed_arith); after_begin = omega (arith, signed_arith) }

past_plain : (first_year : ℤ) (years : ℕ) (a : ℤ) (n year : ℕ) → AreYears first_year years → InDomain first_year years a
    → InDomain first_year years (a +ℤ pos n) → place_of first_year years a ≡ Plain year
    → plain_end_of first_year years year <ℤ (a +ℤ pos n) → IsOver first_year years a n (suc year)
past_plain first_year years a n year are first last plain past =
    let until = plain_until first_year years a year are first plain in
    let one_of = (rw plain at (place_of-rule first_year years a are first)).0.one_of in
    let to = last.most in
    elim (cases_lt (suc year) years) [
      | inl inner ↦ (let end = plain_end_of-inner first_year years year inner in
          let close = rw end at until in
          let over = rw end at past in
          record {
            later = omega arith;
            inner = inner;
            before_end = omega (arith, signed_arith);
            after_begin = omega (arith, signed_arith);
          })
      | inr outer ↦ (let end = plain_end_of-last first_year years year outer in
          let over = rw end at past in
          let all : years ≡ suc year = omega arith in
          let same = rw all at to in
          absurd (omega (arith, signed_arith)))
    ]

found_from : (first_year : ℤ) (years : ℕ) (a : ℤ) (n : ℕ) (p : Place) → AreYears first_year years
    → InDomain first_year years a → InDomain first_year years (a +ℤ pos n) → place_of first_year years a ≡ p
    → IsFound first_year years a n (stretch_from first_year years (a +ℤ pos n) p)
found_from first_year years a n (Plain year) are first last at =
    by_lt_z (plain_end_of first_year years year) (a +ℤ pos n)
    (λ past. rw (cond-false _ (Within year) (Across (suc year)) (lt_test _ _ past))
    (past_plain first_year years a n year are first last at past))
    (λ within. rw (cond-true _ (Within year) (Across (suc year)) (le_test _ _ within)) (record { plain = at; within = within }))
found_from first_year years a n (Blend year x) are first last at =
    from_blend first_year years a n year x (rw at at (place_of-rule first_year years a are first))

pub stretch_of-within : (first_year : ℤ) (years : ℕ) (a end : ℤ) (n year : ℕ) → Plain year ≡ place_of first_year years a
    → end ≡ plain_end_of first_year years year → (a +ℤ pos n) ≤ℤ end → Within year ≡ stretch_of first_year years a n
unfolding stretch_of
stretch_of-within first_year years a end n year at is within =
    sym (cond-true _ (Within year) (Across (suc year)) (le_test _ _ (rw is at within))) ∙ ap (stretch_from first_year years (a +ℤ pos n)) at

pub stretch_of-past : (first_year : ℤ) (years : ℕ) (a end : ℤ) (n year : ℕ) → Plain year ≡ place_of first_year years a
    → end ≡ plain_end_of first_year years year → end <ℤ (a +ℤ pos n)
    → Across (suc year) ≡ stretch_of first_year years a n
unfolding stretch_of
stretch_of-past first_year years a end n year at is past =
    sym (cond-false _ (Within year) (Across (suc year)) (lt_test _ _ (rw is at past))) ∙ ap (stretch_from first_year years (a +ℤ pos n)) at

pub stretch_of-blend : (first_year : ℤ) (years : ℕ) (a : ℤ) (n year : ℕ) (x : ℤ)
    → Blend year x ≡ place_of first_year years a → Across year ≡ stretch_of first_year years a n
unfolding stretch_of
stretch_of-blend first_year years a n year x at = ap (stretch_from first_year years (a +ℤ pos n)) at

pub stretch_of-found : (first_year : ℤ) (years : ℕ) (a : ℤ) (n : ℕ) → AreYears first_year years
    → InDomain first_year years a → InDomain first_year years (a +ℤ pos n)
    → IsFound first_year years a n (stretch_of first_year years a n)
unfolding stretch_of
stretch_of-found first_year years a n are first last =
    found_from first_year years a n (place_of first_year years a) are first last refl

pub plain_stretch : (first_year : ℤ) (years : ℕ) (a : ℤ) (n year : ℕ) → AreYears first_year years
    → InDomain first_year years a → IsPlainStretch first_year years a n year
    → IsStretchOf first_year years a n (Within year)
plain_stretch first_year years a n year are first found k few =
    let within = found.within in
    (plain_rest first_year years a (a +ℤ pos k) year are first found.plain (omega (arith, signed_arith)) (omega (arith, signed_arith))).1

found_rule : (first_year : ℤ) (years : ℕ) (a : ℤ) (n : ℕ) (s : Stretch) → AreYears first_year years
    → InDomain first_year years a → InDomain first_year years (a +ℤ pos n) → n ≤ LONGEST_SPAN
    → IsFound first_year years a n s → IsStretchOf first_year years a n s
found_rule first_year years a n (Within year) are first last short found = plain_stretch first_year years a n year are first found
found_rule first_year years a n (Across year) are first last short found = over_rule first_year years a n year are first last short found

pub stretch_of-rule : (first_year : ℤ) (years : ℕ) (a : ℤ) (n : ℕ) → AreYears first_year years
    → InDomain first_year years a → InDomain first_year years (a +ℤ pos n) → n ≤ LONGEST_SPAN
    → IsStretchOf first_year years a n (stretch_of first_year years a n)
stretch_of-rule first_year years a n are first last short =
    found_rule first_year years a n (stretch_of first_year years a n) are first last short
    (stretch_of-found first_year years a n are first last)

-- no other stretch meets the rule
blend_place : (first_year : ℤ) (years : ℕ) (m : ℤ) (year : ℕ) (x : ℤ) → AreYears first_year years
    → InDomain first_year years m → IsInBlend first_year years m year x → place_of first_year years m ≡ Blend year x
blend_place first_year years m year x are domain blend = sym (place_of-only first_year years m are domain (Blend year x) blend)

one_stretch : (first_year : ℤ) (years : ℕ) (a : ℤ) (n : ℕ) (s t : Stretch) → AreYears first_year years
    → InDomain first_year years a → InDomain first_year years (a +ℤ pos n) → IsStretchOf first_year years a n s
    → IsStretchOf first_year years a n t → s ≡ t
one_stretch first_year years a n (Within i) (Within j) are first last s t =
    let here = s 0 (omega arith) in
    let there = t 0 (omega arith) in cc
one_stretch first_year years a n (Within i) (Across j) are first last s t =
    let (k, x, few, blend) = t.0 in
    let here = s k few in
    let there = blend_place first_year years (a +ℤ pos k) j x are (domain_between first_year years a n k first last few) blend in cc
one_stretch first_year years a n (Across i) (Within j) are first last s t =
    let (k, x, few, blend) = s.0 in
    let here = blend_place first_year years (a +ℤ pos k) i x are (domain_between first_year years a n k first last few) blend in
    let there = t k few in cc
one_stretch first_year years a n (Across i) (Across j) are first last s t =
    let (k, x, few, blend) = s.0 in
    let here = blend_place first_year years (a +ℤ pos k) i x are (domain_between first_year years a n k first last few) blend in
    ap Across (rw here at (t.1 k few))

pub stretch_of-only : (first_year : ℤ) (years : ℕ) (a : ℤ) (n : ℕ) → AreYears first_year years
    → InDomain first_year years a → InDomain first_year years (a +ℤ pos n) → n ≤ LONGEST_SPAN → (s : Stretch)
    → IsStretchOf first_year years a n s → s ≡ stretch_of first_year years a n
stretch_of-only first_year years a n are first last short s rule =
    one_stretch first_year years a n s (stretch_of first_year years a n) are first last rule
    (stretch_of-rule first_year years a n are first last short)
