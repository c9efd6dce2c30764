-- The rate of the sine: over one unit of the scaled formula, then over many, then after rounding.
use Rattle.std.proofs.Common.{◌≡◌, ℕ, zero, suc, ◌+◌, ◌-◌, ◌*◌, ◌/◌, ◌%◌, ◌<◌, ◌≤◌, inl, inr, if◌then◌else◌, nat_lt, refl, sym, ap, ◌∙◌, zero-le, arith, ℤ, pos, negsuc, neg_ℤ, ◌-ℤ◌, int_div, unsigned_abs, get_or}
use Rattle.std.proofs.lemmas.Bool.{cases_lt, cond-true, cond-false, lt-ltb, le-ltb}
use Rattle.std.proofs.lemmas.Int.{ints}
use Rattle.std.proofs.lemmas.Nat.{mul-le}
use Rattle.fixed_sine.specs.Table.{sines, sine_at, correction}
use Rattle.fixed_sine.specs.Sine.{quarter_of, half_of, isin_of}
use Rattle.fixed_sine.specs.Rate.{step_of, RateLaw}
use Rattle.fixed_sine.proofs.TableLemmas.{correction-size, sines_rise}
use Rattle.fixed_sine.proofs.QuarterLemmas.{scaled_between-entries, quarter_of-ninety}
use Rattle.fixed_sine.proofs.CircleLemmas.{half_of-first, half_of-second, isin_of-first, isin_of-second}

-- two numbers at most `distance` apart
pub record AreWithin (far a b : ℕ) : Type 0 where
  pub above : a ≤ b + far
  pub below : b ≤ a + far

-- the formula of a degree with that entry, rise and size of the correction, at r units
unfoldable pub formula : ℕ → ℕ → ℕ → ℕ → ℕ
formula s u c r = 1440000000000000000 * s + 2400000000 * r * u + r * (600000000 - r) * c

-- one unit further the formula rises, by at most 4 * degree * 17,454,000
formula-step : (s u c r : ℕ) → r < 600000000 → c ≤ 4 * u → 4 * u + c ≤ 69816000
    → AreWithin 41889600000000000 (formula s u c (r + 1)) (formula s u c r)
unfolding formula
formula-step s u c r h small steep =
    let q = 600000000 - r - 1 in
    let here : r * (600000000 - r) * c ≡ r * q * c + r * c =
    ap (λ n. r * n * c) (let e : 600000000 - r ≡ q + 1 = omega arith in e) ∙ (omega arith)
    in
    let there : (r + 1) * (600000000 - (r + 1)) * c ≡ r * q * c + q * c =
    ap (λ n. (r + 1) * n * c) (let e : 600000000 - (r + 1) ≡ q = omega arith in e) ∙ (omega arith)
    in
    let first = mul-le r c 600000000 c (omega arith) (omega arith) in
    let second = mul-le q c 600000000 c (omega arith) (omega arith) in
    record { above = omega arith; below = omega arith }

-- a degree ends where the next one begins
formula-end : (s u c : ℕ) → formula s u c 600000000 ≡ 1440000000000000000 * (s + u)
unfolding formula
formula-end s u c = omega arith

formula-begin : (s u c : ℕ) → formula s u c 0 ≡ 1440000000000000000 * s
unfolding formula
formula-begin s u c = omega arith

-- 4 * degree^2 times the sine on the first quarter
unfoldable scaled : ℕ → ℕ → ℕ
scaled k r = formula (get_or sines k 0) (get_or sines (k + 1) 0 - get_or sines k 0) (unsigned_abs (correction k)) r

scaled-step : (k r : ℕ) → k < 90 → r < 600000000 → AreWithin 41889600000000000 (scaled k (r + 1)) (scaled k r)
unfolding scaled
scaled-step k r h small =
    formula-step _ _ _ r small (sines_rise k h).enough (sines_rise k h).bounded

scaled-next : (k : ℕ) → k < 90 → scaled k 600000000 ≡ scaled (k + 1) 0
unfolding scaled
scaled-next k h =
    let up = (sines_rise k h).up in
    formula-end _ _ _ ∙ ap (λ n. 1440000000000000000 * n) (omega arith) ∙ sym (formula-begin _ _ _)

-- the scaled formula at an angle of the first quarter
pub num : ℕ → ℕ
num p = scaled (p / 600000000) (p % 600000000)

num-at : (p k r : ℕ) → p ≡ 600000000 * k + r → r < 600000000 → num p ≡ scaled k r
unfolding num
num-at p k r e h =
    let quotient : p / 600000000 ≡ k = omega arith in
    let rest : p % 600000000 ≡ r = omega arith in rw (quotient, rest)

pub num-step : (p : ℕ) → p < 54000000000 → AreWithin 41889600000000000 (num (p + 1)) (num p)
num-step p h =
    let k = p / 600000000 in
    let r = p % 600000000 in
    let here : num p ≡ scaled k r = num-at p k r (omega arith) (omega arith) in
    let there : num (p + 1) ≡ scaled k (r + 1) =
    elim (cases_lt (r + 1) 600000000) [
      | inl inside ↦ num-at (p + 1) k (r + 1) (omega arith) inside
      | inr end ↦ (let last : r + 1 ≡ 600000000 = omega arith in
          num-at (p + 1) (k + 1) 0 (omega arith) (omega arith) ∙ sym (scaled-next k (omega arith)) ∙ ap (scaled k) (sym last))
    ]
    in
    rw (here, there) (scaled-step k r (omega arith) (omega arith))

-- the sine is the scaled formula, divided and rounded
quarter_of-below : (p : ℕ) → p < 54000000000 → quarter_of p ≡ pos (num p / 1440000000000000000)
unfolding quarter_of num scaled formula
quarter_of-below p h =
    rw (scaled_between-entries (p / 600000000) (p % 600000000) _ (omega arith) (correction-size (p / 600000000) (omega arith)))

num-end : num 54000000000 ≡ 1440000000000000000000000000
unfolding num scaled formula sines correction sine_at
num-end = refl

quarter_of-num : (p : ℕ) → p ≤ 54000000000 → quarter_of p ≡ pos (num p / 1440000000000000000)
quarter_of-num p h =
    elim (cases_lt p 54000000000) [
      | inl below ↦ quarter_of-below p below
      | inr above ↦ (let e : p ≡ 54000000000 = omega arith in
          rw e (quarter_of-ninety ∙ ap (λ n. pos (n / 1440000000000000000)) (sym num-end)))
    ]

num-between : (k r : ℕ) → k < 90 → r ≤ 600000000 → num (600000000 * k + r) ≡ scaled k r
num-between k r h small =
    elim (cases_lt r 600000000) [
      | inl inside ↦ num-at (600000000 * k + r) k r refl inside
      | inr end ↦ (let last : r ≡ 600000000 = omega arith in
          num-at (600000000 * k + r) (k + 1) 0 (omega arith) (omega arith) ∙ sym (scaled-next k h) ∙ ap (scaled k) (sym last))
    ]

-- the scaled formula in terms of the correction's size, the begin of the next degree included
pub num-formula : (k r : ℕ) → k < 90 → r ≤ 600000000 → num (600000000 * k + r)
    ≡ formula (get_or sines k 0) (get_or sines (k + 1) 0 - get_or sines k 0) (unsigned_abs (correction k)) r
unfolding scaled
num-formula k r h small =
    num-between k r h small

num-begin : num 0 ≡ 0
unfolding num scaled formula sines correction sine_at
num-begin = refl

-- the bound on the first half of the circle, up to its end
pub half_num : ℕ → ℕ
half_num i = if nat_lt i 54000000000 then num i else num (108000000000 - i)

pub half_num-first : (i : ℕ) → i < 54000000000 → half_num i ≡ num i
unfolding half_num
half_num-first i h = cond-true (nat_lt i 54000000000) _ _ (lt-ltb i 54000000000 h)

pub half_num-second : (i : ℕ) → 54000000000 ≤ i → half_num i ≡ num (108000000000 - i)
unfolding half_num
half_num-second i h = cond-false (nat_lt i 54000000000) _ _ (le-ltb i 54000000000 h)

turned : (far a b : ℕ) → AreWithin far a b → AreWithin far b a
turned far a b approximate = record { above = approximate.below; below = approximate.above }

half_num-step : (i : ℕ) → i < 108000000000 → AreWithin 41889600000000000 (half_num (i + 1)) (half_num i)
half_num-step i h =
    elim (cases_lt i 54000000000) [
      | inl first ↦ (let next : half_num (i + 1) ≡ num (i + 1) =
          elim (cases_lt (i + 1) 54000000000) [
            | inl inside ↦ half_num-first (i + 1) inside
            | inr end ↦ half_num-second (i + 1) end ∙ ap num (omega arith)
          ]
          in
          rw (half_num-first i first, next) (num-step i first))
      | inr second ↦ (let q = 108000000000 - (i + 1) in
          let here : half_num i ≡ num (q + 1) = half_num-second i second ∙ ap num (omega arith) in
          let next : half_num (i + 1) ≡ num q = half_num-second (i + 1) (omega arith) in
          rw (here, next) (turned _ _ _ (num-step q (omega arith))))
    ]

pub half_of-num : (i : ℕ) → i < 108000000000 → half_of i ≡ pos (half_num i / 1440000000000000000)
half_of-num i h =
    elim (cases_lt i 54000000000) [
      | inl first ↦ half_of-first i first ∙ quarter_of-num i (omega arith)
          ∙ ap (λ n. pos (n / 1440000000000000000)) (sym (half_num-first i first))
      | inr second ↦ half_of-second i second ∙ quarter_of-num (108000000000 - i) (omega arith)
          ∙ ap (λ n. pos (n / 1440000000000000000)) (sym (half_num-second i second))
    ]

-- the bound with a sign on the whole circle
pub signed_num : ℕ → ℤ
signed_num p =
    if nat_lt p 108000000000 then pos (half_num p) else neg_ℤ (pos (half_num (p - 108000000000)))

pub signed_num-first : (p : ℕ) → p < 108000000000 → signed_num p ≡ pos (half_num p)
unfolding signed_num
signed_num-first p h = cond-true (nat_lt p 108000000000) _ _ (lt-ltb p 108000000000 h)

pub signed_num-second : (p : ℕ) → 108000000000 ≤ p → signed_num p ≡ neg_ℤ (pos (half_num (p - 108000000000)))
unfolding signed_num
signed_num-second p h = cond-false (nat_lt p 108000000000) _ _ (le-ltb p 108000000000 h)

pub half_num-begin : half_num 0 ≡ 0
half_num-begin = half_num-first 0 (omega arith) ∙ num-begin

pub half_num-end : half_num 108000000000 ≡ 0
half_num-end = half_num-second 108000000000 (omega arith) ∙ num-begin

-- one unit further round the circle
signed_num-after_first : (i : ℕ) → i < 108000000000 → signed_num (i + 1) ≡ pos (half_num (i + 1))
signed_num-after_first i h =
    elim (cases_lt (i + 1) 108000000000) [
      | inl inside ↦ signed_num-first (i + 1) inside
      | inr end ↦ (let e : i + 1 ≡ 108000000000 = omega arith in
          rw e (signed_num-second 108000000000 (omega arith) ∙ ap (λ n. neg_ℤ (pos n)) half_num-begin ∙ sym (ap pos half_num-end)))
    ]

signed_num-after_second : (i : ℕ) → i < 108000000000 → signed_num ((i + 108000000000 + 1) % 216000000000) ≡ neg_ℤ (pos (half_num (i + 1)))
signed_num-after_second i h =
    elim (cases_lt (i + 1) 108000000000) [
      | inl inside ↦ ap signed_num (let e : (i + 108000000000 + 1) % 216000000000 ≡ i + 108000000000 + 1 = omega arith in e)
          ∙ signed_num-second (i + 108000000000 + 1) (omega arith) ∙ ap (λ n. neg_ℤ (pos (half_num n))) (omega arith)
      | inr end ↦ (let e : i + 1 ≡ 108000000000 = omega arith in
          ap signed_num (let z : (i + 108000000000 + 1) % 216000000000 ≡ 0 = omega arith in z)
          ∙ signed_num-first 0 (omega arith) ∙ ap pos half_num-begin ∙ sym (ap (λ n. neg_ℤ (pos n)) (ap half_num e ∙ half_num-end)))
    ]

gap : (far a b : ℕ) → AreWithin far a b → unsigned_abs (pos a -ℤ pos b) ≤ far
gap far a b approximate = let up = approximate.above in let down = approximate.below in omega (arith, ints)

gap_below : (far a b : ℕ) → AreWithin far a b → unsigned_abs (neg_ℤ (pos a) -ℤ neg_ℤ (pos b)) ≤ far
gap_below far zero zero approximate = zero-le
gap_below far zero (suc b) approximate = let down = approximate.below in omega (arith, ints)
gap_below far (suc a) zero approximate = let up = approximate.above in omega (arith, ints)
gap_below far (suc a) (suc b) approximate = let up = approximate.above in let down = approximate.below in omega (arith, ints)

signed_num-step : (p : ℕ) → p < 216000000000 → unsigned_abs (signed_num ((p + 1) % 216000000000) -ℤ signed_num p) ≤ 41889600000000000
signed_num-step p h =
    elim (cases_lt p 108000000000) [
      | inl first ↦ (let e : (p + 1) % 216000000000 ≡ p + 1 = omega arith in
          rw (e, signed_num-after_first p first, signed_num-first p first)
          (gap _ _ _ (half_num-step p first)))
      | inr second ↦ (let i = p - 108000000000 in
          let e : (p + 1) % 216000000000 ≡ (i + 108000000000 + 1) % 216000000000 = ap (λ n. (n + 1) % 216000000000) (omega arith) in
          rw (e, signed_num-after_second i (omega arith), signed_num-second p second)
          (gap_below _ _ _ (half_num-step i (omega arith))))
    ]

triangle : (a b c : ℤ) (m n : ℕ) → unsigned_abs (a -ℤ b) ≤ m → unsigned_abs (b -ℤ c) ≤ n → unsigned_abs (a -ℤ c) ≤ m + n
triangle a b c m n h k = grind (arith, ints)

same_place : (a : ℤ) → unsigned_abs (a -ℤ a) ≤ 0
same_place (pos n) = omega (arith, ints)
same_place (negsuc n) = omega (arith, ints)

-- w units further round the circle
signed_num-steps : (w p : ℕ) → p < 216000000000 → unsigned_abs (signed_num ((p + w) % 216000000000) -ℤ signed_num p) ≤ 41889600000000000 * w
signed_num-steps zero p h =
    let here : (p + 0) % 216000000000 ≡ p = omega arith in
    let none : 41889600000000000 * zero ≡ 0 = omega arith in
    rw (here, none) (same_place (signed_num p))
signed_num-steps (suc w) p h =
    let q = (p + w) % 216000000000 in
    let next : (p + suc w) % 216000000000 ≡ (q + 1) % 216000000000 = omega arith in
    let far : 41889600000000000 * suc w ≡ 41889600000000000 + 41889600000000000 * w = omega arith in
    rw (next, far)
    (triangle (signed_num ((q + 1) % 216000000000)) (signed_num q) (signed_num p) _ _ (signed_num-step q (omega arith))
    (signed_num-steps w p h))

within_from : (n a b : ℕ) → unsigned_abs (pos a -ℤ pos b) ≤ n → AreWithin n a b
within_from n a b h = record { above = omega (arith, ints); below = omega (arith, ints) }

within_from_below : (n a b : ℕ) → unsigned_abs (negsuc a -ℤ negsuc b) ≤ n → AreWithin n (suc a) (suc b)
within_from_below n a b h = record { above = omega (arith, ints); below = omega (arith, ints) }

apart : (x y : ℕ) → unsigned_abs (pos x -ℤ neg_ℤ (pos y)) ≡ x + y
apart x zero = omega (arith, ints)
apart x (suc y) = omega (arith, ints)

apart_below : (x y : ℕ) → unsigned_abs (neg_ℤ (pos x) -ℤ pos y) ≡ x + y
apart_below zero y = omega (arith, ints)
apart_below (suc x) y = omega (arith, ints)

divided : (n a b : ℕ) → AreWithin n a b → AreWithin (n / 1440000000000000000 + 1) (a / 1440000000000000000) (b / 1440000000000000000)
divided n a b approximate = let up = approximate.above in let down = approximate.below in
    record { above = omega arith; below = omega arith }

-- a distance after division and rounding is at most one more
cut_gap : (a b : ℤ) (n : ℕ) → unsigned_abs (a -ℤ b) ≤ n
    → unsigned_abs (int_div a (pos 1440000000000000000) -ℤ int_div b (pos 1440000000000000000))
    ≤ n / 1440000000000000000 + 1
cut_gap (pos a) (pos b) n h = gap _ _ _ (divided n a b (within_from n a b h))
cut_gap (pos a) (negsuc b) n h =
    let sum : a + suc b ≤ n = omega (arith, ints) in
    rw (apart (a / 1440000000000000000) (suc b / 1440000000000000000)) (omega arith)
cut_gap (negsuc a) (pos b) n h =
    let sum : suc a + b ≤ n = omega (arith, ints) in
    rw (apart_below (suc a / 1440000000000000000) (b / 1440000000000000000)) (omega arith)
cut_gap (negsuc a) (negsuc b) n h =
    gap_below _ _ _ (divided n (suc a) (suc b) (within_from_below n a b h))

cut_negative : (h : ℕ) → neg_ℤ (pos (h / 1440000000000000000)) ≡ int_div (neg_ℤ (pos h)) (pos 1440000000000000000)
cut_negative zero = refl
cut_negative (suc h) = refl

pub isin_of-num : (p : ℕ) → p < 216000000000 → isin_of p ≡ int_div (signed_num p) (pos 1440000000000000000)
isin_of-num p h =
    elim (cases_lt p 108000000000) [
      | inl first ↦ rw (signed_num-first p first) (isin_of-first p first ∙ half_of-num p first)
      | inr second ↦ rw (signed_num-second p second)
          (isin_of-second p second ∙ ap neg_ℤ (half_of-num (p - 108000000000) (omega arith)) ∙ cut_negative (half_num (p - 108000000000)))
    ]

pub rate_law : (w : ℕ) → RateLaw w
unfolding step_of
rate_law w p h =
    let there = (p + w) % 216000000000 in
    let steps = cut_gap (signed_num there) (signed_num p) (41889600000000000 * w) (signed_num-steps w p h) in
    rw (isin_of-num there (omega arith), isin_of-num p h) (omega (arith, steps))
