-- The numbers of a year's bound, within their types.
use Rattle.std.proofs.Common.{◌≡◌, ℕ, ◌+◌, ◌*◌, ◌^◌, ◌<◌, ◌≤◌, ap, ◌∙◌, arith, lit<, FitsSigned, ℤ, pos, ◌+ℤ◌, ◌*ℤ◌, to_z, of_z}
use Rattle.std.specs.Prelude.{unsigned_abs}
use Rattle.std.proofs.lemmas.Int.{fits_signed_mul}
use mir.Syntax.{w128}
use Rattle.year_blend.specs.Weights.{total_weight}
use Rattle.station_curve.specs.declared.year_sums.Sums.{Sums}
use Rattle.station_curve.specs.Limits.{AreWithinLimits}
use Rattle.station_curve.proofs.Products.{cast_small, abs_times, abs_plus}
use Rattle.slope_agreement.specs.Agreements.{year_agreement}

-- a number that a cast leaves unchanged, with its size
pub record IsKept (read value : ℤ) (most : ℕ) : Type 0 where
  pub same : read ≡ value
  pub size : unsigned_abs value ≤ most

product_kept : (k : ℕ) (a : ℤ) (m : ℕ) → unsigned_abs a ≤ m → m < 2 ^ 127 → k * m < 2 ^ 127
    → IsKept (to_z w128 (of_z w128 (pos k *ℤ to_z w128 (of_z w128 a)))) (pos k *ℤ a) (k * m)
product_kept k a m small low fits = record {
  same = ap (λ z. to_z w128 (of_z w128 (pos k *ℤ z))) (cast_small w128 a m small low)
      ∙ cast_small w128 (pos k *ℤ a) (k * m) (abs_times (pos k) a k m (omega arith) small) fits;
  size = abs_times (pos k) a k m (omega arith) small;
}

sum_kept : (p q x y : ℤ) (m n : ℕ) → IsKept p x m → IsKept q y n → m + n < 2 ^ 127
    → IsKept (to_z w128 (of_z w128 (p +ℤ q))) (x +ℤ y) (m + n)
sum_kept p q x y m n first second fits =
    rw (first.same, second.same) (record {
      same = cast_small w128 (x +ℤ y) (m + n) (abs_plus x y m n first.size second.size) fits;
      size = abs_plus x y m n first.size second.size;
    })

-- the combination of a year's sums, in machine numbers
abbrev read_sum : ℤ → ℤ → ℤ → ℤ
read_sum far steep amount =
    to_z w128
    (of_z w128 (to_z w128 (of_z w128 (to_z w128 (of_z w128 far) +ℤ to_z w128 (of_z w128 (pos 100000 *ℤ to_z w128 (of_z w128 steep)))))
    +ℤ to_z w128 (of_z w128 (pos 68754935416 *ℤ to_z w128 (of_z w128 amount)))))

abbrev year_sum : ℤ → ℤ → ℤ → ℤ
year_sum far steep amount = (far +ℤ (pos 100000 *ℤ steep)) +ℤ (pos 68754935416 *ℤ amount)

abbrev most_sum : ℕ
most_sum = 104724001 * 10 ^ 17 + 100000 * 10 ^ 17 + 68754935416 * 10 ^ 9

sum_of_year : (s : Sums) → AreWithinLimits s → IsKept (read_sum s.far s.steep s.amount) (year_sum s.far s.steep s.amount) most_sum
sum_of_year s within_limits =
    sum_kept _ _ (s.far +ℤ (pos 100000 *ℤ s.steep)) (pos 68754935416 *ℤ s.amount)
    (104724001 * 10 ^ 17 + 100000 * 10 ^ 17) (68754935416 * 10 ^ 9)
    (sum_kept _ _ s.far (pos 100000 *ℤ s.steep) (104724001 * 10 ^ 17) (100000 * 10 ^ 17)
    (record { same = cast_small w128 s.far (104724001 * 10 ^ 17) within_limits.far (lit< tt); size = within_limits.far })
    (product_kept 100000 s.steep (10 ^ 17) within_limits.steep (lit< tt) (lit< tt)) (lit< tt))
    (product_kept 68754935416 s.amount (10 ^ 9) within_limits.amount (lit< tt) (lit< tt)) (lit< tt)

-- the combination times the total weight
pub bound_fits : (s : Sums) → AreWithinLimits s → FitsSigned w128 (pos total_weight *ℤ read_sum s.far s.steep s.amount)
bound_fits s within_limits =
    let sum = sum_of_year s within_limits in
    rw sum.same (fits_signed_mul w128 (pos total_weight) (year_sum s.far s.steep s.amount) total_weight most_sum
    (omega arith) sum.size (lit< tt))

pub bound_kept : (s : Sums) → AreWithinLimits s
    → IsKept (to_z w128 (of_z w128 (pos total_weight *ℤ read_sum s.far s.steep s.amount))) (year_agreement s) (5 * 10 ^ 34)
bound_kept s within_limits =
    let sum = sum_of_year s within_limits in
    let size = abs_times (pos total_weight) (year_sum s.far s.steep s.amount) total_weight most_sum (omega arith) sum.size in
    rw sum.same (record { same = cast_small w128 (year_agreement s) (total_weight * most_sum) size (lit< tt); size = omega (arith, size) })
