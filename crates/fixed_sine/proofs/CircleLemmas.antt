-- Angles folded onto the first quarter of the circle, and the size of the sine there.
use Rattle.std.proofs.Common.{◌≡◌, ℕ, zero, suc, ◌+◌, ◌-◌, ◌/◌, ◌%◌, ◌<◌, ◌≤◌, inl, inr, nat_lt, min, refl, sym, ap, ◌∙◌, arith, lit≤, ℤ, pos, negsuc, neg_ℤ, ◌-ℤ◌, unsigned_abs, get_or, to_z, of_z, w64}
use Rattle.std.proofs.lemmas.Bool.{cases_lt, cond-true, cond-false, lt-ltb, le-ltb}
use Rattle.std.proofs.lemmas.Int.{ints, to_z-of_z, fits_signed_from_abs}
use Rattle.fixed_sine.specs.Circle.{degree}
use Rattle.fixed_sine.specs.Table.{sines, correction}
use Rattle.fixed_sine.specs.Sine.{quarter_of, half_of, isin_of, icos_of}
use Rattle.fixed_sine.proofs.TableLemmas.{sines_rise, correction-size}
use Rattle.fixed_sine.proofs.QuarterLemmas.{quarter_of-entries, quarter_of-ninety, gain_bound}

-- a sine in billionths that is not negative
pub record IsUnsignedSine (z : ℤ) : Type 0 where
  pub size : ℕ
  pub value : z ≡ pos size
  pub most : size ≤ 1000000000

pub half_of-first : (p : ℕ) → p < 54000000000 → half_of p ≡ quarter_of p
unfolding half_of
half_of-first p h = cond-true (nat_lt p 54000000000) _ _ (lt-ltb p 54000000000 h)

pub half_of-second : (p : ℕ) → 54000000000 ≤ p → half_of p ≡ quarter_of (108000000000 - p)
unfolding half_of
half_of-second p h = cond-false (nat_lt p 54000000000) _ _ (le-ltb p 54000000000 h)

pub half_of-folded : (p : ℕ) → p < 108000000000 → half_of p ≡ quarter_of (min p (108000000000 - p))
half_of-folded p h =
    elim (cases_lt p 54000000000) [
      | inl below ↦ half_of-first p below ∙ ap quarter_of (omega arith)
      | inr above ↦ half_of-second p above ∙ ap quarter_of (omega arith)
    ]

pub isin_of-first : (p : ℕ) → p < 108000000000 → isin_of p ≡ half_of p
unfolding isin_of
isin_of-first p h = cond-true (nat_lt p 108000000000) _ _ (lt-ltb p 108000000000 h)

pub isin_of-second : (p : ℕ) → 108000000000 ≤ p → isin_of p ≡ neg_ℤ (half_of (p - 108000000000))
unfolding isin_of
isin_of-second p h = cond-false (nat_lt p 108000000000) _ _ (le-ltb p 108000000000 h)

pub isin_of-first_sign : (p : ℕ) (z : ℤ) → p < 108000000000 → unsigned_abs z ≤ 1000000000 → z ≡ half_of p
    → to_z w64 (of_z w64 z) ≡ isin_of p
isin_of-first_sign p z h small value =
    to_z-of_z w64 z (fits_signed_from_abs w64 z (omega (arith, small))) ∙ value ∙ sym (isin_of-first p h)

negated : (z : ℤ) → unsigned_abs z ≤ 1000000000 → to_z w64 (of_z w64 (pos 0 -ℤ to_z w64 (of_z w64 z))) ≡ neg_ℤ z
negated (pos zero) h = refl
negated (pos (suc n)) h = omega (arith, ints)
negated (negsuc n) h = omega (arith, ints)

pub isin_of-second_sign : (p : ℕ) (z : ℤ) → 108000000000 ≤ p → unsigned_abs z ≤ 1000000000
    → z ≡ half_of (p - 108000000000) → to_z w64 (of_z w64 (pos 0 -ℤ to_z w64 (of_z w64 z))) ≡ isin_of p
isin_of-second_sign p z h small value =
    negated z small ∙ ap neg_ℤ value ∙ sym (isin_of-second p h)

pub icos_of-ahead : (p a : ℕ) → a ≡ (p + 54000000000) % 216000000000 → icos_of p ≡ isin_of a
unfolding icos_of
icos_of-ahead p a e = ap isin_of (sym e)

quarter_of-first : (p : ℕ) → p < 54000000000 → IsUnsignedSine (quarter_of p)
quarter_of-first p h =
    let k = p / degree in
    let rising = sines_rise k (omega arith) in
    let little = gain_bound (p % degree) (get_or sines (k + 1) 0 - get_or sines k 0) (unsigned_abs (correction k))
    (omega arith) rising.enough in
    record {
      size = _;
      value = quarter_of-entries p (unsigned_abs (correction k)) (omega arith) (correction-size k (omega arith));
      most = omega (arith, little, rising.up, rising.capped);
    }

pub quarter_of_size : (p : ℕ) → p ≤ 54000000000 → IsUnsignedSine (quarter_of p)
quarter_of_size p h =
    elim (cases_lt p 54000000000) [
      | inl below ↦ quarter_of-first p below
      | inr above ↦ (let e : p ≡ 54000000000 = omega arith in
          record { size = 1000000000; value = rw e quarter_of-ninety; most = lit≤ tt })
    ]

pub half_of_size : (p : ℕ) → p < 108000000000 → IsUnsignedSine (half_of p)
half_of_size p h =
    elim (cases_lt p 54000000000) [
      | inl below ↦ rw (half_of-first p below) (quarter_of_size p (omega arith))
      | inr above ↦ rw (half_of-second p above) (quarter_of_size (108000000000 - p) (omega arith))
    ]

pub size_from : (z : ℤ) → IsUnsignedSine z → unsigned_abs z ≤ 1000000000
size_from z s = rw s.value s.most

size_from_negative : (z : ℤ) → IsUnsignedSine z → unsigned_abs (neg_ℤ z) ≤ 1000000000
size_from_negative z s = let most = s.most in rw s.value (omega (arith, ints))

pub isin_of_size : (p : ℕ) → p < 216000000000 → unsigned_abs (isin_of p) ≤ 1000000000
isin_of_size p h =
    elim (cases_lt p 108000000000) [
      | inl below ↦ rw (isin_of-first p below) (size_from (half_of p) (half_of_size p below))
      | inr above ↦ rw (isin_of-second p above)
          (size_from_negative (half_of (p - 108000000000)) (half_of_size (p - 108000000000) (omega arith)))
    ]

pub icos_of_size : (p : ℕ) → p < 216000000000 → unsigned_abs (icos_of p) ≤ 1000000000
icos_of_size p h =
    rw (icos_of-ahead p ((p + 54000000000) % 216000000000) refl)
    (isin_of_size ((p + 54000000000) % 216000000000) (omega arith))
