-- The difference of products and sums of signed numbers.
use Rattle.std.proofs.Common.{◌≡◌, ℕ, suc, ◌+◌, ◌*◌, ◌≤◌, List, [], ◌∷◌, ℤ, pos, negsuc, neg_ℤ, ◌+ℤ◌, ◌-ℤ◌, ◌*ℤ◌, ap, arith}
use Rattle.std.specs.Prelude.{unsigned_abs, fold}
use Rattle.std.proofs.lemmas.Int.{ints}
use Rattle.std.proofs.lemmas.Nat.{mul-le}
use borrow.Author.Differences.{up, down}
use Rattle.station_curve.specs.Waves.{WaveSpec}
use Rattle.station_curve.proofs.Products.{abs_plus}

-- the difference of two products
gap_times : (x : ℕ) (b c : ℤ) (m : ℕ) → unsigned_abs (b -ℤ c) ≤ m → unsigned_abs ((pos x *ℤ b) -ℤ (pos x *ℤ c)) ≤ x * m
gap_times x (pos p) (pos q) m approximate =
    let up = mul-le x p x (q + m) (omega arith) (omega (arith, ints)) in
    let down = mul-le x q x (p + m) (omega arith) (omega (arith, ints)) in
    omega (arith, ints, up, down)
gap_times x (pos p) (negsuc q) m approximate =
    let sum = mul-le x (p + suc q) x m (omega arith) (omega (arith, ints)) in
    omega (arith, ints, sum)
gap_times x (negsuc p) (pos q) m approximate =
    let sum = mul-le x (q + suc p) x m (omega arith) (omega (arith, ints)) in
    omega (arith, ints, sum)
gap_times x (negsuc p) (negsuc q) m approximate =
    let up = mul-le x (suc p) x (suc q + m) (omega arith) (omega (arith, ints)) in
    let down = mul-le x (suc q) x (suc p + m) (omega arith) (omega (arith, ints)) in
    omega (arith, ints, up, down)

turned : (x : ℕ) (b : ℤ) → negsuc x *ℤ b ≡ neg_ℤ (pos (suc x) *ℤ b)
turned x (pos p) = omega (arith, ints)
turned x (negsuc p) = omega (arith, ints)

pub turned_gap : (y z : ℤ) (m : ℕ) → unsigned_abs (y -ℤ z) ≤ m → unsigned_abs (neg_ℤ y -ℤ neg_ℤ z) ≤ m
turned_gap y z m approximate = omega (arith, ints, approximate)

pub scaled_gap : (a b c : ℤ) (m : ℕ) → unsigned_abs (b -ℤ c) ≤ m → unsigned_abs ((a *ℤ b) -ℤ (a *ℤ c)) ≤ unsigned_abs a * m
scaled_gap (pos x) b c m approximate = gap_times x b c m approximate
scaled_gap (negsuc x) b c m approximate =
    rw (turned x b, turned x c) (turned_gap (pos (suc x) *ℤ b) (pos (suc x) *ℤ c) (suc x * m) (gap_times (suc x) b c m approximate))

-- products with a sum, and with another product
sum_is : (x y : ℤ) → up (x +ℤ y) + down x + down y ≡ down (x +ℤ y) + up x + up y
sum_is x y = omega (arith, ints)

pub times_sum : (a x y : ℤ) → a *ℤ (x +ℤ y) ≡ (a *ℤ x) +ℤ (a *ℤ y)
times_sum a x y =
    omega (arith, ints, ap (λ n. up a * n) (sum_is x y), ap (λ n. down a * n) (sum_is x y))

pub product_is : (w : ℕ) (s : ℤ) → up (pos w *ℤ s) + w * down s ≡ down (pos w *ℤ s) + w * up s
product_is w s = omega (arith, ints)

steepness_is : (a : ℤ) (w : ℕ) → up (a *ℤ pos w) + w * down a ≡ down (a *ℤ pos w) + w * up a
steepness_is a w = omega (arith, ints)

pub times_product : (a : ℤ) (w : ℕ) (s : ℤ) → a *ℤ (pos w *ℤ s) ≡ (a *ℤ pos w) *ℤ s
times_product a w s =
    omega (
      arith,
      ints,
      ap (λ n. up a * n) (product_is w s),
      ap (λ n. down a * n) (product_is w s),
      ap (λ n. n * up s) (steepness_is a w),
      ap (λ n. n * down s) (steepness_is a w),
    )

-- the difference of two sums whose parts differ by little
pub regrouped : (a x b y : ℤ) → (a +ℤ x) -ℤ (b +ℤ y) ≡ (a -ℤ b) +ℤ (x -ℤ y)
regrouped a x b y = omega (arith, ints)

pub sums_gap : (f g : WaveSpec → ℤ) (rate : WaveSpec → ℕ) → ((h : WaveSpec) → unsigned_abs (f h -ℤ g h) ≤ rate h)
    → (hs : List WaveSpec) (a b : ℤ) (c : ℕ) → unsigned_abs (a -ℤ b) ≤ c
    → unsigned_abs (fold (λ sum h. sum +ℤ f h) a hs -ℤ fold (λ sum h. sum +ℤ g h) b hs)
    ≤ fold (λ sum h. sum + rate h) c hs
sums_gap f g rate each [] a b c approximate = approximate
sums_gap f g rate each (h ∷ hs) a b c approximate =
    sums_gap f g rate each hs (a +ℤ f h) (b +ℤ g h) (c + rate h)
    (rw (regrouped a (f h) b (g h)) (abs_plus (a -ℤ b) (f h -ℤ g h) c (rate h) approximate (each h)))

-- a sum is at most a multiple of the sum of its parts' sizes, if each part is
pub sums_size : {T : Type 0} (most : ℕ) (f : T → ℤ) (size : T → ℕ)
    → ((h : T) → unsigned_abs (f h) ≤ most * size h) → (hs : List T) (a : ℤ) (c : ℕ) → unsigned_abs a
    ≤ most * c → unsigned_abs (fold (λ sum h. sum +ℤ f h) a hs) ≤ most * fold (λ sum h. sum + size h) c hs
sums_size most f size each [] a c small = small
sums_size most f size each (h ∷ hs) a c small =
    let all : most * (c + size h) ≡ most * c + most * size h = omega arith in
    sums_size most f size each hs (a +ℤ f h) (c + size h)
    (rw all (abs_plus a (f h) (most * c) (most * size h) small (each h)))
