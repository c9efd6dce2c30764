-- The interpolation on the first quarter in numbers without a sign, equal to the signed formula.
use Rattle.std.proofs.Common.{◌≡◌, ℕ, zero, suc, ◌+◌, ◌-◌, ◌*◌, ◌/◌, ◌%◌, ◌<◌, ◌≤◌, refl, sym, ap, ◌∙◌, arith, pos, neg_ℤ, ◌+ℤ◌, ◌-ℤ◌, ◌*ℤ◌, get_or, nat_le}
use Rattle.std.proofs.lemmas.Bool.{cond-true, le-leb}
use Rattle.std.proofs.lemmas.Int.{ints}
use Rattle.std.proofs.lemmas.Nat.{mul-le}
use Rattle.fixed_sine.specs.Circle.{degree}
use Rattle.fixed_sine.specs.Table.{sines, sine_at, rise, correction}
use Rattle.fixed_sine.specs.Sine.{scaled_between, quarter_of}
use Rattle.fixed_sine.proofs.TableLemmas.{sines_rise}

pub sine_at-entry : (k : ℕ) → k ≤ 90 → sine_at (pos k) ≡ pos (get_or sines k 0)
unfolding sine_at
sine_at-entry k h = ap (λ j. pos (get_or sines j 0)) (cond-true (nat_le k 90) k (180 - k) (le-leb k 90 h))

difference : (a b : ℕ) → a ≤ b → pos b -ℤ pos a ≡ pos (b - a)
difference a b h = omega (arith, ints)

pub rise-entries : (k : ℕ) → k < 90 → rise k ≡ pos (get_or sines (k + 1) 0 - get_or sines k 0)
rise-entries k h =
    rw (sine_at-entry (k + 1) (omega arith), sine_at-entry k (omega arith))
    (difference (get_or sines k 0) (get_or sines (k + 1) 0) (sines_rise k h).up)

pub minus_times : (g c : ℕ) → pos g *ℤ neg_ℤ (pos c) ≡ neg_ℤ (pos (g * c))
minus_times g zero = omega (arith, ints)
minus_times g (suc c) = refl

joined : (d f g s u c : ℕ) → ((pos d *ℤ pos s) +ℤ (pos f *ℤ pos u)) -ℤ (pos g *ℤ neg_ℤ (pos c)) ≡ pos (d * s + f * u + g * c)
joined d f g s u c = rw (minus_times g c) (omega (arith, ints))

pub scaled_between-entries : (k r c : ℕ) → k < 90 → correction k ≡ neg_ℤ (pos c) → scaled_between k r ≡ pos (4 * degree
    * degree * get_or sines k 0 + 4 * degree * r * (get_or sines (k + 1) 0 - get_or sines k 0) + r * (degree - r) * c)
unfolding scaled_between
scaled_between-entries k r c h size =
    rw (rise-entries k h, sine_at-entry k (omega arith), size)
    (joined _ _ _ _ _ _)

-- the quotient of the formula: the table's sine, and the gain after it
pub scaled_quotient : (s u g : ℕ) → (1440000000000000000 * s + u + g) / 1440000000000000000 ≡ s + (u + g) / 1440000000000000000
scaled_quotient s u g = omega arith

pub quarter_of-entries : (p c : ℕ) → p < 90 * degree → correction (p / degree) ≡ neg_ℤ (pos c)
    → quarter_of p ≡ pos (get_or sines (p / degree) 0 + (4 * degree * (p % degree) * (get_or sines (p / degree + 1) 0
    - get_or sines (p / degree) 0) + p % degree * (degree - p % degree) * c) / (4 * degree * degree))
unfolding quarter_of
quarter_of-entries p c h size =
    rw (scaled_between-entries (p / degree) (p % degree) c (omega arith) size)
    (ap pos (scaled_quotient _ _ _))

-- the sine gains at most as much over a part of a degree as over the whole degree
pub gain_scaled : (r q u c : ℕ) → r + q ≡ 600000000 → c ≤ 4 * u → 2400000000 * r * u + r * q * c ≤ 1440000000000000000 * u
gain_scaled r q u c sum small =
    let whole : 600000000 * u ≡ r * u + q * u = ap (λ n. n * u) (sym sum) ∙ (omega arith) in
    let first : 600000000 * (r * u) ≡ r * (r * u) + q * (r * u) = ap (λ n. n * (r * u)) (sym sum) ∙ (omega arith) in
    let second : 600000000 * (q * u) ≡ r * (q * u) + q * (q * u) = ap (λ n. n * (q * u)) (sym sum) ∙ (omega arith) in
    let bent : r * q * c ≤ r * q * (4 * u) = mul-le (r * q) c (r * q) (4 * u) (omega arith) small in
    omega arith

pub gain_bound : (r u c : ℕ) → r ≤ degree → c ≤ 4 * u → (4 * degree * r * u + r * (degree - r) * c) / (4 * degree * degree) ≤ u
gain_bound r u c h small =
    let scaled = gain_scaled r (degree - r) u c (omega arith) small in
    omega arith

pub quarter_of-ninety : quarter_of 54000000000 ≡ pos 1000000000
unfolding quarter_of scaled_between correction sine_at sines
quarter_of-ninety = refl

-- the gain in terms of the slope at the begin of the degree
pub by_slope : (r u c : ℕ) → r ≤ degree → r * ((2400000000 * u + 600000000 * c) - r * c) ≡ 2400000000 * r * u + r * (600000000 - r) * c
by_slope r u c h =
    let q = 600000000 - r in
    let all : 600000000 ≡ r + q = omega arith in
    let split : 600000000 * c ≡ r * c + q * c = ap (λ n. n * c) all ∙ (omega arith) in
    let inner : (2400000000 * u + 600000000 * c) - r * c ≡ 2400000000 * u + q * c = omega arith in
    ap (λ n. r * n) inner ∙ (omega arith)

-- the formula, with the units after the degree as a factor
pub factored : (r q u c : ℕ) → r * (2400000000 * u + q * c) ≡ 2400000000 * r * u + r * q * c
factored r q u c = omega arith
