-- The law of the slope: many units round the circle, rounding, and the cosine.
use Rattle.std.proofs.Common.{◌≡◌, ℕ, zero, suc, ◌+◌, ◌-◌, ◌*◌, ◌%◌, ◌<◌, ◌≤◌, inl, inr, sym, ap, ◌∙◌, arith, lit<, ℤ, pos, negsuc, neg_ℤ, ◌+ℤ◌, ◌-ℤ◌, ◌*ℤ◌, int_div, unsigned_abs}
use Rattle.std.proofs.lemmas.Bool.{cases_lt}
use Rattle.std.proofs.lemmas.Int.{ints, quot-rem, rem_below}
use Rattle.fixed_sine.specs.Sine.{isin_of, icos_of}
use Rattle.fixed_sine.specs.Rate.{step_of}
use Rattle.fixed_sine.proofs.CircleLemmas.{isin_of-first, isin_of-second}
use Rattle.fixed_sine.proofs.RateLemmas.{signed_num, isin_of-num, rate_law}
use Rattle.slope_agreement.specs.UnitGaps.{unit_gap_of, SlopeLaw, SlopeLawBefore}
use Rattle.slope_agreement.proofs.CircleSlopes.{slope_gap, signed_num-slope}

-- the product of n + 1 and a number
times-suc : (n : ℕ) (c : ℤ) → pos (suc n) *ℤ c ≡ (pos n *ℤ c) +ℤ c
times-suc n (pos c) = omega (arith, ints)
times-suc n (negsuc c) = omega (arith, ints)

-- one unit more, if its slope is close to the common one
one_more : (x y z s c t : ℤ) (far gap m : ℕ) → slope_gap x y s ≤ far → unsigned_abs (s -ℤ c) ≤ gap → slope_gap y z t ≤ m
    → slope_gap x z (t +ℤ c) ≤ m + (far + gap)
one_more x y z s c t far gap m here near before = omega (arith, ints, here, near, before)

-- over no units the sine doesn't change
none : (x c : ℤ) → slope_gap x x (pos 0 *ℤ c) ≤ 0
none (pos x) (pos c) = omega (arith, ints)
none (pos x) (negsuc c) = omega (arith, ints)
none (negsuc x) (pos c) = omega (arith, ints)
none (negsuc x) (negsuc c) = omega (arith, ints)

-- n units further round, if all slopes on the way are close to one
signed_num-slopes : (c : ℤ) (gap n p : ℕ) → p < 216000000000
    → ((j : ℕ) → j < n → unsigned_abs (signed_num (((p + j) % 216000000000 + 54000000000) % 216000000000) -ℤ c) ≤ gap)
    → slope_gap (signed_num ((p + n) % 216000000000)) (signed_num p) (pos n *ℤ c) ≤ n * (103680000000000000000000 + gap)
signed_num-slopes c gap zero p h near =
    let here : (p + zero) % 216000000000 ≡ p = omega arith in
    rw here (omega (arith, none (signed_num p) c))
signed_num-slopes c gap (suc n) p h near =
    let q = (p + n) % 216000000000 in
    let next : (p + suc n) % 216000000000 ≡ (q + 1) % 216000000000 = omega arith in
    let all : suc n * (103680000000000000000000 + gap)
    ≡ n * (103680000000000000000000 + gap) + (103680000000000000000000 + gap) = omega arith in
    rw (next, times-suc n c, all)
    (one_more (signed_num ((q + 1) % 216000000000)) (signed_num q) (signed_num p)
    (signed_num ((q + 54000000000) % 216000000000)) c (pos n *ℤ c) _ gap _
    (signed_num-slope q (omega arith)) (near n (omega arith)) (signed_num-slopes c gap n p h (λ j below. near j (omega arith))))

-- a sine differs from its unrounded number by less than one
cut_gap : (z : ℤ) → unsigned_abs (z -ℤ (pos 1440000000000000000 *ℤ int_div z (pos 1440000000000000000))) ≤ 1440000000000000000
cut_gap z =
    let parts = quot-rem z (pos 1440000000000000000) in
    let rest = rem_below z (pos 1440000000000000000) (lit< tt) in
    omega (arith, ints, parts, rest)

sine_gap : (p : ℕ) → p < 216000000000 → unsigned_abs (signed_num p -ℤ (pos 1440000000000000000 *ℤ isin_of p)) ≤ 1440000000000000000
sine_gap p h = rw (isin_of-num p h) (cut_gap (signed_num p))

-- a number close to a sine that is close to another
approximate_slope : (z a b : ℤ) (step most : ℕ) → unsigned_abs (z -ℤ (pos 1440000000000000000 *ℤ a))
    ≤ 1440000000000000000 → unsigned_abs (a -ℤ b) ≤ step → step ≤ most
    → unsigned_abs (z -ℤ (pos 1440000000000000000 *ℤ b)) ≤ 1440000000000000000 * most + 1440000000000000000
approximate_slope z a b step most cut near few = omega (arith, ints, cut, near, few)

step_of-mono : (j w : ℕ) → j ≤ w → step_of j ≤ step_of w
unfolding step_of
step_of-mono j w h = omega arith

swapped : (a b : ℤ) (m : ℕ) → unsigned_abs (a -ℤ b) ≤ m → unsigned_abs (b -ℤ a) ≤ m
swapped a b m near = omega (arith, ints, near)

-- products with factors of either sign
times_negated : (w : ℕ) (z : ℤ) → pos w *ℤ neg_ℤ z ≡ neg_ℤ (pos w *ℤ z)
times_negated w (pos zero) = omega (arith, ints)
times_negated w (pos (suc n)) = omega (arith, ints)
times_negated w (negsuc n) = omega (arith, ints)

scaled_product : (w s : ℕ) (c : ℤ) → pos w *ℤ (pos s *ℤ c) ≡ pos s *ℤ (pos w *ℤ c)
scaled_product w s (pos c) = ap pos (omega arith)
scaled_product w s (negsuc c) =
    times_negated w (pos (s * suc c)) ∙ ap (λ n. neg_ℤ (pos n)) (let e : w * (s * suc c) ≡ s * (w * suc c) = omega arith in e)
    ∙ sym (times_negated s (pos (w * suc c)))

-- the rounding of both sines
cut_slope : (x y a b t : ℤ) (m : ℕ) → slope_gap x y (pos 1440000000000000000 *ℤ t) ≤ m
    → unsigned_abs (x -ℤ (pos 1440000000000000000 *ℤ a)) ≤ 1440000000000000000
    → unsigned_abs (y -ℤ (pos 1440000000000000000 *ℤ b)) ≤ 1440000000000000000
    → 1440000000000000000 * slope_gap a b t ≤ m + 68754935416 * 1440000000000000000
cut_slope x y a b t m slope later earlier = omega (arith, ints, slope, later, earlier)

-- the whole bound without the scale
within_unit_gap : (gap w step : ℕ)
    → 1440000000000000000 * gap ≤ w * (103680000000000000000000 + (1440000000000000000 * step + 1440000000000000000))
    + 68754935416 * 1440000000000000000 → gap ≤ w * step + 100000 * w + 2 * 34377467708
within_unit_gap gap w step most = omega (arith, most)

-- the sine's own law: it rises by w times the cosine
sine_slope : (w p : ℕ) → p < 216000000000 → slope_gap (isin_of ((p + w) % 216000000000)) (isin_of p) (pos w *ℤ icos_of p) ≤ unit_gap_of w
unfolding unit_gap_of icos_of
sine_slope w p h =
    let y = (p + 54000000000) % 216000000000 in
    let there = (p + w) % 216000000000 in
    let near : (j : ℕ) → j < w → unsigned_abs (signed_num (((p + j) % 216000000000 + 54000000000) % 216000000000)
    -ℤ (pos 1440000000000000000 *ℤ isin_of y)) ≤ 1440000000000000000 * step_of w + 1440000000000000000 =
    λ j below.
    let x = ((p + j) % 216000000000 + 54000000000) % 216000000000 in
    let same : (y + j) % 216000000000 ≡ x = omega arith in
    let moved = rw same at (rate_law j y (omega arith)) in
    approximate_slope (signed_num x) (isin_of x) (isin_of y) (step_of j) (step_of w) (sine_gap x (omega arith)) moved
    (step_of-mono j w (omega (arith, below)))
    in
    let steps = rw (scaled_product w 1440000000000000000 (isin_of y))
    at (signed_num-slopes (pos 1440000000000000000 *ℤ isin_of y) (1440000000000000000 * step_of w + 1440000000000000000) w p h near) in
    within_unit_gap _ w (step_of w) (cut_slope (signed_num there) (signed_num p) (isin_of there) (isin_of p)
    (pos w *ℤ isin_of y) _ steps (sine_gap there (omega arith)) (sine_gap p h))

-- the sine rises by w times the cosine at the end of the units
sine_slope_before : (w p : ℕ) → p < 216000000000
    → slope_gap (isin_of ((p + w) % 216000000000)) (isin_of p) (pos w *ℤ icos_of ((p + w) % 216000000000))
    ≤ unit_gap_of w
unfolding unit_gap_of icos_of
sine_slope_before w p h =
    let there = (p + w) % 216000000000 in
    let y = (there + 54000000000) % 216000000000 in
    let near : (j : ℕ) → j < w → unsigned_abs (signed_num (((p + j) % 216000000000 + 54000000000) % 216000000000)
    -ℤ (pos 1440000000000000000 *ℤ isin_of y)) ≤ 1440000000000000000 * step_of w + 1440000000000000000 =
    λ j below.
    let x = ((p + j) % 216000000000 + 54000000000) % 216000000000 in
    let left = w - j in
    let same : (x + left) % 216000000000 ≡ y = omega (arith, below) in
    let moved = rw same at (rate_law left x (omega arith)) in
    approximate_slope (signed_num x) (isin_of x) (isin_of y) (step_of left) (step_of w) (sine_gap x (omega arith))
    (swapped (isin_of y) (isin_of x) (step_of left) moved) (step_of-mono left w (omega (arith, below)))
    in
    let steps = rw (scaled_product w 1440000000000000000 (isin_of y))
    at (signed_num-slopes (pos 1440000000000000000 *ℤ isin_of y) (1440000000000000000 * step_of w + 1440000000000000000) w p h near) in
    within_unit_gap _ w (step_of w) (cut_slope (signed_num there) (signed_num p) (isin_of there) (isin_of p)
    (pos w *ℤ isin_of y) _ steps (sine_gap there (omega arith)) (sine_gap p h))

-- half a turn on the sine has the other sign
twice_negated : (z : ℤ) → neg_ℤ (neg_ℤ z) ≡ z
twice_negated z = omega (arith, ints)

isin_of-opposite : (p : ℕ) → p < 216000000000 → isin_of ((p + 108000000000) % 216000000000) ≡ neg_ℤ (isin_of p)
isin_of-opposite p h =
    elim (cases_lt p 108000000000) [
      | inl below ↦ (let i = p + 108000000000 in
          let e : i % 216000000000 ≡ i = omega arith in
          let back : i - 108000000000 ≡ p = omega arith in
          rw e (isin_of-second i (omega arith) ∙ ap neg_ℤ (rw back (sym (isin_of-first p below)))))
      | inr above ↦ (let i = p - 108000000000 in
          let e : (p + 108000000000) % 216000000000 ≡ i = omega arith in
          rw (e, isin_of-second p above) (isin_of-first i (omega arith) ∙ sym (twice_negated _)))
    ]

-- the cosine's law: it is the sine of the angle plus a quarter of a turn
slope_from : (x y z t : ℤ) (m : ℕ) → t ≡ neg_ℤ z → slope_gap x y t ≤ m → unsigned_abs ((pos 34377467708 *ℤ (x -ℤ y)) +ℤ z) ≤ m
slope_from x y z t m is slope = omega (arith, ints, is, slope)

pub slope_law : (w : ℕ) → SlopeLaw w
unfolding icos_of
slope_law w p h =
    let q = (p + 54000000000) % 216000000000 in
    let turn : (q + w) % 216000000000 ≡ ((p + w) % 216000000000 + 54000000000) % 216000000000 = omega arith in
    let half : (q + 54000000000) % 216000000000 ≡ (p + 108000000000) % 216000000000 = omega arith in
    let other : pos w *ℤ isin_of ((q + 54000000000) % 216000000000) ≡ neg_ℤ (pos w *ℤ isin_of p) =
    ap (λ n. pos w *ℤ isin_of n) half ∙ ap (λ z. pos w *ℤ z) (isin_of-opposite p h) ∙ times_negated w (isin_of p)
    in
    let slope = rw turn at (sine_slope w q (omega arith)) in
    slope_from (isin_of (((p + w) % 216000000000 + 54000000000) % 216000000000)) (isin_of q) (pos w *ℤ isin_of p)
    (pos w *ℤ isin_of ((q + 54000000000) % 216000000000)) (unit_gap_of w) other slope

-- the law by the sine at the end of the units
pub slope_law_before : (w : ℕ) → SlopeLawBefore w
unfolding icos_of
slope_law_before w p h =
    let q = (p + 54000000000) % 216000000000 in
    let there = (p + w) % 216000000000 in
    let turn : (q + w) % 216000000000 ≡ (there + 54000000000) % 216000000000 = omega arith in
    let half : ((q + w) % 216000000000 + 54000000000) % 216000000000 ≡ (there + 108000000000) % 216000000000 = omega arith in
    let other : pos w *ℤ isin_of (((q + w) % 216000000000 + 54000000000) % 216000000000) ≡ neg_ℤ (pos w *ℤ isin_of there) =
    ap (λ n. pos w *ℤ isin_of n) half ∙ ap (λ z. pos w *ℤ z) (isin_of-opposite there (omega arith)) ∙ times_negated w (isin_of there)
    in
    let slope = sine_slope_before w q (omega arith) in
    rw (← turn) (slope_from (isin_of ((q + w) % 216000000000)) (isin_of q) (pos w *ℤ isin_of there)
    (pos w *ℤ isin_of (((q + w) % 216000000000 + 54000000000) % 216000000000)) (unit_gap_of w) other slope)
