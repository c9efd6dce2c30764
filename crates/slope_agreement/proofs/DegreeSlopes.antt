-- The rise of the unrounded sine over one unit of the first quarter is close to the cosine there.
use Rattle.std.proofs.Common.{◌≡◌, ℕ, ◌+◌, ◌-◌, ◌*◌, ◌/◌, ◌%◌, ◌<◌, ◌≤◌, inl, inr, ap, ◌∙◌, arith, get_or, unsigned_abs}
use Rattle.std.proofs.lemmas.Bool.{cases_lt}
use Rattle.std.proofs.lemmas.Nat.{mul-le}
use Rattle.fixed_sine.specs.Table.{sines, correction}
use Rattle.fixed_sine.proofs.RateLemmas.{formula, num, num-formula, num-step}
use Rattle.slope_agreement.proofs.TableChecks.{IsApproximateCosine, approximate_cosine}

-- two values a unit apart whose difference, times the units of a radian, is that close to a slope
pub record IsSlope (far later earlier slope : ℕ) : Type 0 where
  pub above : 34377467708 * later ≤ 34377467708 * earlier + slope + far
  pub below : 34377467708 * earlier + slope ≤ 34377467708 * later + far

-- a product of two numbers with a given sum is at most a quarter of the sum's square
ordered_product : (x d : ℕ) → 4 * (x * (x + d)) ≤ (x + (x + d)) * (x + (x + d))
ordered_product x d = omega arith

greatest_product : (x y : ℕ) → x + y ≡ 600000000 → 4 * (x * y) ≤ 360000000000000000
greatest_product x y sum =
    elim (cases_lt x y) [
      | inl up ↦ (let e : y ≡ x + (y - x) = omega arith in
          let square = ordered_product x (y - x) in
          let whole : x + (x + (y - x)) ≡ 600000000 = omega arith in
          let most = rw (whole, ← e) at square in omega (arith, most))
      | inr down ↦ (let e : x ≡ y + (x - y) = omega arith in
          let square = ordered_product y (x - y) in
          let whole : y + (y + (x - y)) ≡ 600000000 = omega arith in
          let most = rw (whole, ← e) at square in omega (arith, most))
    ]

-- the formula in terms of the distances from the begin and to the end of the degree
formula-at : (s u c r p : ℕ) → r + p ≡ 600000000 → formula s u c r ≡ 1440000000000000000 * s + 2400000000 * (r * u) + r * p * c
unfolding formula
formula-at s u c r p sum =
    let bent : r * (600000000 - r) * c ≡ r * p * c = ap (λ n. r * n * c) (let e : 600000000 - r ≡ p = omega arith in e) in
    omega arith

-- the rise of the formula over one unit, with q units left after it
formula-unit : (s u c r q : ℕ) → r + q + 1 ≡ 600000000
    → formula s u c (r + 1) + (r + 1) * c ≡ formula s u c r + 2400000000 * u + (q + 1) * c
formula-unit s u c r q sum =
    omega (arith, formula-at s u c r (q + 1) (omega arith), formula-at s u c (r + 1) q (omega arith))

-- between the ends of a degree, r units after one and p before the other: the slope is linear, and so is
-- the cosine but for its own correction
slope_inside : (r p gain size end more bend later earlier cosine : ℕ) → r + p ≡ 600000000
    → IsApproximateCosine gain size end more → bend ≤ 640000 → later + (r + 1) * size ≡ earlier + 2400000000 * gain
    + p * size → cosine ≡ 1440000000000000000 * end + 2400000000 * (p * more) + p * r * bend
    → IsSlope 102240000000000000000000 later earlier cosine
slope_inside r p gain size end more bend later earlier cosine sum near small rise is =
    let begin_above = mul-le p (34377467708 * (4 * gain + size)) p (2400000000 * (end + more) + 72000000000000)
    (omega arith) near.begin_above in
    let begin_below = mul-le p (2400000000 * (end + more)) p (34377467708 * (4 * gain + size) + 72000000000000)
    (omega arith) near.begin_below in
    let end_above = mul-le r (34377467708 * (4 * gain)) r (34377467708 * size + 2400000000 * end + 72000000000000)
    (omega arith) near.end_above in
    let end_below = mul-le r (34377467708 * size + 2400000000 * end) r (34377467708 * (4 * gain) + 72000000000000)
    (omega arith) near.end_below in
    let bent = mul-le (4 * (r * p)) bend 360000000000000000 640000 (greatest_product r p sum) small in
    let gains : (r + p) * gain ≡ 600000000 * gain = ap (λ n. n * gain) sum in
    let ends : (r + p) * end ≡ 600000000 * end = ap (λ n. n * end) sum in
    let few = near.small in
    record { above = omega arith; below = omega arith }

-- the bound in one degree
abbrev in_degree : ℕ → ℕ → ℕ
in_degree k r = formula (get_or sines k 0) (get_or sines (k + 1) 0 - get_or sines k 0) (unsigned_abs (correction k)) r

pub num-slope : (i : ℕ) → i < 54000000000 → IsSlope 102240000000000000000000 (num (i + 1)) (num i) (num (54000000000 - i))
num-slope i h =
    let k = i / 600000000 in
    let r = i % 600000000 in
    let p = 600000000 - r in
    let here : num i ≡ in_degree k r = ap num (omega arith) ∙ num-formula k r (omega arith) (omega arith) in
    let there : num (i + 1) ≡ in_degree k (r + 1) = ap num (omega arith) ∙ num-formula k (r + 1) (omega arith) (omega arith) in
    let back : num (54000000000 - i) ≡ in_degree (89 - k) p = ap num (omega arith) ∙ num-formula (89 - k) p (omega arith) (omega arith) in
    let left : p - 1 + 1 ≡ p = omega arith in
    let rise = rw left at (formula-unit (get_or sines k 0) (get_or sines (k + 1) 0 - get_or sines k 0)
    (unsigned_abs (correction k)) r (p - 1) (omega arith)) in
    let cosine = formula-at (get_or sines (89 - k) 0) (get_or sines (89 - k + 1) 0 - get_or sines (89 - k) 0)
    (unsigned_abs (correction (89 - k))) p r (omega arith) in
    rw (here, there, back)
    (slope_inside r p _ _ _ _ (unsigned_abs (correction (89 - k))) _ _ _ (omega arith)
    (approximate_cosine k (omega arith)) (approximate_cosine (89 - k) (omega arith)).small rise cosine)

-- the bound on the first quarter, counted back from 90 degrees
pub num-slope_back : (i : ℕ) → i < 54000000000
    → IsSlope 103680000000000000000000 (num (54000000000 - i)) (num (54000000000 - (i + 1))) (num i)
num-slope_back i h =
    let j = 54000000000 - (i + 1) in
    let slope = num-slope j (omega arith) in
    let later : num (j + 1) ≡ num (54000000000 - i) = ap num (omega arith) in
    let cosine : num (54000000000 - j) ≡ num (i + 1) = ap num (omega arith) in
    let near = num-step i h in
    record {
      above = omega (arith, slope.above, near.above, later, cosine);
      below = omega (arith, slope.below, near.below, later, cosine);
    }
