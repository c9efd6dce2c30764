-- The bound over one unit on the whole circle, with signs.
use Rattle.std.proofs.Common.{◌≡◌, ℕ, ◌+◌, ◌-◌, ◌%◌, ◌<◌, ◌≤◌, inl, inr, sym, ap, ◌∙◌, arith, ℤ, pos, neg_ℤ, ◌-ℤ◌, ◌*ℤ◌, unsigned_abs}
use Rattle.std.proofs.lemmas.Bool.{cases_lt}
use Rattle.std.proofs.lemmas.Int.{ints}
use Rattle.fixed_sine.proofs.RateLemmas.{num, half_num, half_num-first, half_num-second, half_num-begin, half_num-end, signed_num, signed_num-first, signed_num-second}
use Rattle.slope_agreement.proofs.DegreeSlopes.{IsSlope, num-slope, num-slope_back}

-- the sine on each quarter of the circle, both ends included
half_num-quarter : (i : ℕ) → i ≤ 54000000000 → half_num i ≡ num i
half_num-quarter i h =
    elim (cases_lt i 54000000000) [
      | inl inside ↦ half_num-first i inside
      | inr end ↦ half_num-second i end ∙ ap num (omega arith)
    ]

signed_num-half : (p : ℕ) → p ≤ 108000000000 → signed_num p ≡ pos (half_num p)
signed_num-half p h =
    elim (cases_lt p 108000000000) [
      | inl inside ↦ signed_num-first p inside
      | inr end ↦ (let e : p ≡ 108000000000 = omega arith in
          rw e (signed_num-second 108000000000 (omega arith) ∙ ap (λ n. neg_ℤ (pos n)) half_num-begin ∙ sym (ap pos half_num-end)))
    ]

signed_num-other_half : (p : ℕ) → 108000000000 ≤ p → p ≤ 216000000000
    → signed_num (p % 216000000000) ≡ neg_ℤ (pos (half_num (p - 108000000000)))
signed_num-other_half p from h =
    elim (cases_lt p 216000000000) [
      | inl inside ↦ ap signed_num (let e : p % 216000000000 ≡ p = omega arith in e) ∙ signed_num-second p from
      | inr end ↦ (let e : p ≡ 216000000000 = omega arith in
          rw e (signed_num-first 0 (omega arith) ∙ ap pos half_num-begin ∙ sym (ap (λ n. neg_ℤ (pos n)) half_num-end)))
    ]

first_quarter : (x i : ℕ) → i ≤ 54000000000 → x ≡ i → signed_num x ≡ pos (num i)
first_quarter x i h e =
    ap signed_num e ∙ signed_num-half i (omega arith) ∙ ap pos (half_num-quarter i h)

second_quarter : (x i : ℕ) → i ≤ 54000000000 → x ≡ i + 54000000000 → signed_num x ≡ pos (num (54000000000 - i))
second_quarter x i h e =
    ap signed_num e ∙ signed_num-half (i + 54000000000) (omega arith)
    ∙ ap pos (half_num-second (i + 54000000000) (omega arith) ∙ ap num (omega arith))

third_quarter : (x i : ℕ) → i ≤ 54000000000 → x ≡ i + 108000000000 → signed_num x ≡ neg_ℤ (pos (num i))
third_quarter x i h e =
    ap signed_num (let z : x ≡ (i + 108000000000) % 216000000000 = omega arith in z)
    ∙ signed_num-other_half (i + 108000000000) (omega arith) (omega arith)
    ∙ ap (λ n. neg_ℤ (pos n)) (ap half_num (let z : i + 108000000000 - 108000000000 ≡ i = omega arith in z) ∙ half_num-quarter i h)

fourth_quarter : (x i : ℕ) → i ≤ 54000000000 → x ≡ (i + 162000000000) % 216000000000 → signed_num x ≡ neg_ℤ (pos (num (54000000000 - i)))
fourth_quarter x i h e =
    ap signed_num e ∙ signed_num-other_half (i + 162000000000) (omega arith) (omega arith)
    ∙ ap (λ n. neg_ℤ (pos n))
    (ap half_num (let z : i + 162000000000 - 108000000000 ≡ i + 54000000000 = omega arith in z)
    ∙ half_num-second (i + 54000000000) (omega arith) ∙ ap num (omega arith))

-- the difference between a rise, times the units of a radian, and a slope
abbrev pub slope_gap : ℤ → ℤ → ℤ → ℕ
slope_gap later earlier slope = unsigned_abs ((pos 34377467708 *ℤ (later -ℤ earlier)) -ℤ slope)

signed : (far more a b c : ℕ) → far ≤ more → IsSlope far a b c → slope_gap (pos a) (pos b) (pos c) ≤ more
signed far more a b c wide slope = let above = slope.above in let below = slope.below in omega (arith, ints)

turned : (x y z : ℤ) (m : ℕ) → slope_gap x y z ≤ m → slope_gap y x (neg_ℤ z) ≤ m
turned x y z m h = omega (arith, ints, h)

negated : (x y z : ℤ) (m : ℕ) → slope_gap x y z ≤ m → slope_gap (neg_ℤ x) (neg_ℤ y) (neg_ℤ z) ≤ m
negated x y z m h = omega (arith, ints, h)

turned_negated : (x y z : ℤ) (m : ℕ) → slope_gap x y z ≤ m → slope_gap (neg_ℤ y) (neg_ℤ x) z ≤ m
turned_negated x y z m h = omega (arith, ints, h)

falling : (far more a b c : ℕ) → far ≤ more → IsSlope far a b c → slope_gap (pos b) (pos a) (neg_ℤ (pos c)) ≤ more
falling far more a b c wide slope =
    turned (pos a) (pos b) (pos c) more (signed far more a b c wide slope)

falling_below : (far more a b c : ℕ) → far ≤ more → IsSlope far a b c → slope_gap (neg_ℤ (pos a)) (neg_ℤ (pos b)) (neg_ℤ (pos c)) ≤ more
falling_below far more a b c wide slope =
    negated (pos a) (pos b) (pos c) more (signed far more a b c wide slope)

rising_below : (far more a b c : ℕ) → far ≤ more → IsSlope far a b c → slope_gap (neg_ℤ (pos b)) (neg_ℤ (pos a)) (pos c) ≤ more
rising_below far more a b c wide slope =
    turned_negated (pos a) (pos b) (pos c) more (signed far more a b c wide slope)

-- one unit further round the circle
pub signed_num-slope : (p : ℕ) → p < 216000000000
    → slope_gap (signed_num ((p + 1) % 216000000000)) (signed_num p) (signed_num ((p + 54000000000) % 216000000000))
    ≤ 103680000000000000000000
signed_num-slope p h =
    elim (cases_lt p 54000000000) [
      | inl first ↦ rw (
        first_quarter p p (omega arith) (omega arith),
        first_quarter ((p + 1) % 216000000000) (p + 1) (omega arith) (omega arith),
        second_quarter ((p + 54000000000) % 216000000000) p (omega arith) (omega arith),
      )
          (signed _ _ _ _ _ (omega arith) (num-slope p first))
      | inr past_first ↦ elim (cases_lt p 108000000000) [
        | inl second ↦ (let i = p - 54000000000 in
            rw (
              second_quarter p i (omega arith) (omega arith),
              second_quarter ((p + 1) % 216000000000) (i + 1) (omega arith) (omega arith),
              third_quarter ((p + 54000000000) % 216000000000) i (omega arith) (omega arith),
            )
            (falling _ _ _ _ _ (omega arith) (num-slope_back i (omega arith))))
        | inr past_second ↦ elim (cases_lt p 162000000000) [
          | inl third ↦ (let i = p - 108000000000 in
              rw (
                third_quarter p i (omega arith) (omega arith),
                third_quarter ((p + 1) % 216000000000) (i + 1) (omega arith) (omega arith),
                fourth_quarter ((p + 54000000000) % 216000000000) i (omega arith) (omega arith),
              )
              (falling_below _ _ _ _ _ (omega arith) (num-slope i (omega arith))))
          | inr fourth ↦ (let i = p - 162000000000 in
              rw (
                fourth_quarter p i (omega arith) (omega arith),
                fourth_quarter ((p + 1) % 216000000000) (i + 1) (omega arith) (omega arith),
                first_quarter ((p + 54000000000) % 216000000000) i (omega arith) (omega arith),
              )
              (rising_below _ _ _ _ _ (omega arith) (num-slope_back i (omega arith))))
        ]
      ]
    ]
