-- The greatest value of any year, and the error by it.
use Rattle.std.proofs.Common.{◌≡◌, ℕ, zero, suc, ◌+◌, ◌*◌, ◌^◌, ◌<◌, ◌≤◌, inl, inr, ap, ◌∙◌, ℤ, pos, ◌*ℤ◌, arith, lit<, add-one, refl}
use Rattle.std.specs.Prelude.{unsigned_abs}
use Rattle.std.specs.Int.{int_max}
use Rattle.std.proofs.lemmas.Bool.{cases_lt}
use Rattle.std.proofs.lemmas.Int.{ints, clamps}
use mir.Syntax.{w128}
use mir.Val.{to_z, of_z}
use Rattle.year_blend.specs.Weights.{total_weight}
use Rattle.station_curve.specs.Errors.{greatest_of}
use Rattle.station_curve.proofs.Products.{cast_small}

pub greatest-each : (value : ℕ → ℕ) (count k : ℕ) → k < count → value k ≤ greatest_of value count
unfolding greatest_of
greatest-each value zero k below = omega (arith, below)
greatest-each value (suc count) k below =
    elim (cases_lt k count) [
      | inl before ↦ (let rest = greatest-each value count k before in omega (arith, rest))
      | inr after ↦
          let here : value k ≡ value count = ap value (omega (arith, below, after)) in
          omega (arith, here)
    ]

pub greatest-most : (value : ℕ → ℕ) (count most : ℕ) → ((k : ℕ) → k < count → value k ≤ most) → greatest_of value count ≤ most
unfolding greatest_of
greatest-most value zero most all = omega arith
greatest-most value (suc count) most all =
    let rest = greatest-most value count most (λ k below. all k (omega (arith, below))) in
    let here = all count (omega arith) in
    omega (arith, rest, here)

pub greatest-none : (value : ℕ → ℕ) → pos 0 ≡ pos (greatest_of value 0)
unfolding greatest_of
greatest-none value = refl

pub greatest-more : (value : ℕ → ℕ) (i : ℕ) (most here more : ℤ) → most ≡ pos (greatest_of value i) → here ≡ pos (value i)
    → more ≡ int_max most here → more ≡ pos (greatest_of value (i + 1))
unfolding greatest_of
greatest-more value i most here more is_most is_here is_more = rw add-one (omega (arith, ints, clamps, is_most, is_here, is_more))

-- an error by the stored greatest value
pub greatest-kept_size : (greatest : ℤ) (n most : ℕ) → n ≤ most → most ≤ 10 ^ 17 → greatest ≡ pos n
    → unsigned_abs (to_z w128 (of_z w128 greatest)) ≤ most
greatest-kept_size greatest n most small few is =
    let size : unsigned_abs greatest ≤ 10 ^ 17 = rw is (omega (arith, small, few)) in
    rw (cast_small w128 greatest (10 ^ 17) size (lit< tt), is) small

pub error_by_greatest : (k n : ℕ) (greatest error : ℤ) (most : ℕ) → n ≤ most → most ≤ 10 ^ 17 → greatest ≡ pos n
    → error ≡ pos (total_weight * k) *ℤ to_z w128 (of_z w128 greatest) → error ≡ pos (total_weight * (k * n))
error_by_greatest k n greatest error most small few is is_error =
    let size : unsigned_abs greatest ≤ 10 ^ 17 = rw is (omega (arith, small, few)) in
    rw (cast_small w128 greatest (10 ^ 17) size (lit< tt), is) at is_error ∙ ap pos (omega arith)
