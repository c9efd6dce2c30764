-- The change of weighted values in a step.
use Rattle.std.proofs.Common.{◌≡◌, ℕ, ◌+◌, ◌*◌, ◌≤◌, ℤ, pos, ◌+ℤ◌, ◌-ℤ◌, ◌*ℤ◌, ◌≤ℤ◌, ap, arith}
use Rattle.std.specs.Prelude.{unsigned_abs}
use Rattle.std.proofs.lemmas.Int.{ints}
use Rattle.station_curve.proofs.Blending.{mixed_size}
use Rattle.station_curve.proofs.Products.{abs_times, abs_plus}
use Rattle.year_blend.specs.Weights.{total_weight}
use borrow.Author.Differences.{up, down}

-- the product of a number and a difference
difference_is : (b c : ℤ) → up (b -ℤ c) + down b + up c ≡ down (b -ℤ c) + up b + down c
difference_is b c = omega (arith, ints)

times_minus : (a b c : ℤ) → a *ℤ (b -ℤ c) ≡ (a *ℤ b) -ℤ (a *ℤ c)
times_minus a b c =
    omega (arith, ints, ap (λ n. up a * n) (difference_is b c), ap (λ n. down a * n) (difference_is b c))

minus_times : (a b c : ℤ) → (a -ℤ b) *ℤ c ≡ (a *ℤ c) -ℤ (b *ℤ c)
minus_times a b c =
    omega (arith, ints, ap (λ n. n * up c) (difference_is a b), ap (λ n. n * down c) (difference_is a b))

-- the change of two weighted values: each by its later weight, and by the change of the weight

regrouped : (ta wa wb sa ua ub va vb : ℤ) → ((ta -ℤ wa) +ℤ wb) -ℤ ((sa -ℤ ua) +ℤ ub)
    ≡ (((ta -ℤ wa) -ℤ (sa -ℤ va)) +ℤ (wb -ℤ vb)) +ℤ ((vb -ℤ ub) -ℤ (va -ℤ ua))
regrouped ta wa wb sa ua ub va vb = omega (arith, ints)

mixed_step : (t w v a b c d : ℤ) → (((t -ℤ v) *ℤ c) +ℤ (v *ℤ d)) -ℤ (((t -ℤ w) *ℤ a) +ℤ (w *ℤ b))
    ≡ (((t -ℤ v) *ℤ (c -ℤ a)) +ℤ (v *ℤ (d -ℤ b))) +ℤ ((v -ℤ w) *ℤ (b -ℤ a))
mixed_step t w v a b c d =
    rw (
      times_minus (t -ℤ v) c a,
      minus_times t v c,
      minus_times t w a,
      minus_times t v a,
      times_minus v d b,
      times_minus (v -ℤ w) b a,
      minus_times v w b,
      minus_times v w a,
    )
    (regrouped (t *ℤ c) (v *ℤ c) (v *ℤ d) (t *ℤ a) (w *ℤ a) (w *ℤ b) (v *ℤ a) (v *ℤ b))

-- the change of a mixture, from the values a and b with weight w to c and d with weight v
pub mixed_gap : (w v a b c d : ℤ) (most rise far : ℕ) → pos 0 ≤ℤ v → v ≤ℤ pos total_weight → unsigned_abs (c -ℤ a)
    ≤ most → unsigned_abs (d -ℤ b) ≤ most → unsigned_abs (v -ℤ w) ≤ rise → unsigned_abs (b -ℤ a) ≤ far
    → unsigned_abs ((((pos total_weight -ℤ v) *ℤ c) +ℤ (v *ℤ d)) -ℤ (((pos total_weight -ℤ w) *ℤ a) +ℤ (w *ℤ b)))
    ≤ total_weight * most + rise * far
mixed_gap w v a b c d most rise far least below first second moved apart =
    rw (mixed_step (pos total_weight) w v a b c d)
    (abs_plus (((pos total_weight -ℤ v) *ℤ (c -ℤ a)) +ℤ (v *ℤ (d -ℤ b))) ((v -ℤ w) *ℤ (b -ℤ a)) (total_weight * most) (rise * far)
    (mixed_size v (c -ℤ a) (d -ℤ b) most least below first second) (abs_times (v -ℤ w) (b -ℤ a) rise far moved apart))

-- a product whose factors both change
between : (x y z : ℤ) → x -ℤ z ≡ (x -ℤ y) +ℤ (y -ℤ z)
between x y z = omega (arith, ints)

product_step : (p q a c : ℤ) → (q *ℤ c) -ℤ (p *ℤ a) ≡ (q *ℤ (c -ℤ a)) +ℤ ((q -ℤ p) *ℤ a)
product_step p q a c =
    rw (times_minus q c a, minus_times q p a) (between (q *ℤ c) (q *ℤ a) (p *ℤ a))

pub product_gap : (p q a c : ℤ) (large change bend far : ℕ) → unsigned_abs q ≤ large → unsigned_abs (c -ℤ a) ≤ change
    → unsigned_abs (q -ℤ p) ≤ bend → unsigned_abs a ≤ far
    → unsigned_abs ((q *ℤ c) -ℤ (p *ℤ a)) ≤ large * change + bend * far
product_gap p q a c large change bend far high moved bent size =
    rw (product_step p q a c)
    (abs_plus (q *ℤ (c -ℤ a)) ((q -ℤ p) *ℤ a) (large * change) (bend * far)
    (abs_times q (c -ℤ a) large change high moved) (abs_times (q -ℤ p) a bend far bent size))

-- the change of a sum whose parts change
pub sum_gap : (x y p q : ℤ) (m n : ℕ) → unsigned_abs (p -ℤ x) ≤ m → unsigned_abs (q -ℤ y) ≤ n → unsigned_abs ((p +ℤ q) -ℤ (x +ℤ y)) ≤ m + n
sum_gap x y p q m n first second = omega (arith, ints, first, second)

pub difference_gap : (x y p q : ℤ) (m n : ℕ) → unsigned_abs (p -ℤ x) ≤ m → unsigned_abs (q -ℤ y) ≤ n
    → unsigned_abs ((p -ℤ q) -ℤ (x -ℤ y)) ≤ m + n
difference_gap x y p q m n first second = omega (arith, ints, first, second)
