-- One more digit of a fraction.
use Rattle.std.proofs.Common.{◌≡◌, ℕ, ◌+◌, ◌*◌, ◌-◌, ◌^◌, ◌<◌, ◌≤◌, Bool, true, false, ◌⊎◌, inl, inr, refl, ap, ◌∙◌, arith, lit<}
use Rattle.std.proofs.Math.Nat.{one-le-pow, pow-le-pow_right}
use Rattle.std.proofs.lemmas.Bool.{cases_lt}
use Rattle.std.proofs.lemmas.Nat.{mul-le}
use Rattle.std.proofs.lemmas.Grind.{pow_more}
use Rattle.decimal_text.specs.Workings.Steps.{DigitsInvariant}
use Rattle.decimal_text.specs.declared.steps.Steps.{Steps}

pub ten_up : (k : ℕ) → 1 ≤ 10 ^ k
ten_up k = one-le-pow k 10 (lit< tt)

pub small_value : (value remaining : ℕ) → (value + 1) * 10 ^ remaining ≤ 10 ^ 9 → value < 10 ^ 9
small_value value remaining h =
    let m : (value + 1) * 1 ≤ (value + 1) * 10 ^ remaining = mul-le (value + 1) 1 (value + 1) (10 ^ remaining) (omega arith) (ten_up remaining) in
    omega (arith, m, h)

pub left_few : (value remaining : ℕ) → (value + 1) * 10 ^ remaining ≤ 10 ^ 9 → remaining ≤ 9
left_few value remaining h = elim (cases_lt 9 remaining) [
  | inl more ↦
      let m : 1 * 10 ^ remaining ≤ (value + 1) * 10 ^ remaining = mul-le 1 (10 ^ remaining) (value + 1) (10 ^ remaining) (omega arith) (omega arith) in
      let up : 10 ^ 10 ≤ 10 ^ remaining = pow-le-pow_right (lit< tt) more in
      absurd (omega (arith, m, up, h))
  | inr few ↦ few
]

-- a digit after the last place
pub more_past : (places count n digit : ℕ) (s : Steps) (now : Bool) → s.remaining ≡ 0 → digit ≤ 9
    → (now ≡ true → (s.exact ≡ true) × (digit ≡ 0)) → (now ≡ false → (s.exact ≡ false) ⊎ (0 < digit))
    → DigitsInvariant places count n s
    → DigitsInvariant places (count + 1) (n * 10 + digit) (record { value = s.value; remaining = s.remaining; exact = now })
more_past places count n digit s now none nine at_true at_false h = record {
  extra = h.extra + 1;
  counted = omega (arith, h.counted);
  one_side = inr none;
  above = rw pow_more (omega (arith, h.above));
  exact = λ e. rw pow_more (omega (arith, h.exact (at_true e).0, (at_true e).1));
  fine = λ e. rw pow_more (elim (at_false e) [ inl f ↦ omega (arith, h.fine f) | inr d ↦ omega (arith, h.above, d) ]);
  below = rw pow_more (omega (arith, h.below, nine));
  small = h.small;
}

within : (places count n digit value remaining extra : ℕ) (exact : Bool) → 0 < remaining → extra ≡ 0 → digit ≤ 9
    → count + remaining ≡ places + extra → value * 10 ^ extra ≤ n → (exact ≡ false → value * 10 ^ extra < n)
    → n + 1 ≤ (value + 1) * 10 ^ extra → (value + 1) * 10 ^ remaining ≤ 10 ^ 9 → DigitsInvariant places (count + 1)
    (n * 10 + digit) (record { value = value * 10 + digit; remaining = remaining - 1; exact = exact })
within places count n digit value remaining extra exact some none nine counted above fine below small =
    let one : 10 ^ extra ≡ 1 = ap (λ k. 10 ^ k) none in
    let above' = rw one at above in
    let below' = rw one at below in
    let is : value ≡ n = omega (arith, above', below') in
    let up : 10 ^ remaining ≡ 10 ^ (remaining - 1) * 10 = ap (λ k. 10 ^ k) (omega arith) ∙ pow_more 10 (remaining - 1) in
    let small' = rw up at small in
    let k = 10 ^ (remaining - 1) in
    let room : digit * k ≤ 9 * k = mul-le digit k 9 k nine (omega arith) in
    record {
      extra = 0;
      counted = omega arith;
      one_side = inl refl;
      above = omega (arith, is);
      exact = λ _. omega (arith, is);
      fine = λ e. absurd (omega (arith, rw one at (fine e), below'));
      below = omega (arith, is);
      small = omega (arith, small', room);
    }

-- a digit at a place that is kept
pub more_within : (places count n digit : ℕ) (s : Steps) → 0 < s.remaining → digit ≤ 9 → DigitsInvariant places count n s
    → DigitsInvariant places (count + 1) (n * 10 + digit)
    (record { value = s.value * 10 + digit; remaining = s.remaining - 1; exact = s.exact })
more_within places count n digit s some nine h =
    let none : h.extra ≡ 0 = elim h.one_side [ inl e ↦ e | inr z ↦ absurd (omega arith) ] in
    within places count n digit s.value s.remaining h.extra s.exact some none nine h.counted h.above h.fine h.below h.small

-- the state before the first digit of the fraction
pub none_yet : (places : ℕ) → places ≤ 9 → DigitsInvariant places 0 0 (record { value = 0; remaining = places; exact = true })
none_yet places few = record {
  extra = 0;
  counted = omega arith;
  one_side = inl refl;
  above = omega arith;
  exact = λ _. omega arith;
  fine = λ e. cc;
  below = omega arith;
  small = mul-le (0 + 1) (10 ^ places) 1 (10 ^ 9) (omega arith) (pow-le-pow_right (lit< tt) few);
}
