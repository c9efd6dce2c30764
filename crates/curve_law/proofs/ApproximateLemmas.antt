-- Approximate values of a curve that decide which cell some minutes are.
use Rattle.std.proofs.Common.{◌≡◌, ℕ, ◌*◌, ◌^◌, ◌≤◌, ◌<◌, ℤ, pos, ◌+ℤ◌, ◌-ℤ◌, ◌*ℤ◌, ◌≤ℤ◌, ◌<ℤ◌, unsigned_abs, int_lt, int_le, neg_ℤ, negsuc, ◌&&◌, ◌||◌, Bool, true, false, inl, Option, Some, None, IfSome, sym, ◌∙◌, to_z, of_z, FitsSigned, arith}
use mir.Syntax.{w128}
use Rattle.std.proofs.lemmas.Int.{ints}
use Rattle.curve_law.specs.CurveSpec.{CurveSpec, IsMinute, IsApproximateValue, IsSpan, IsRate, IsLawful}
use Rattle.curve_law.specs.declared.quiet.TheConstants.{MOST_MINUTES}
use Rattle.curve_law.specs.Cover.{keeps_side, is_quiet}
use Rattle.curve_law.specs.Workings.Approximate.{IsFar}
use Rattle.curve_law.proofs.QuietLemmas.{drift_up, drift_down, quiet_cell, is_quiet-length, is_quiet-rate, begin-minute, end-minute, begin-small, end-small}

-- the sum of two approximate values differs from the sum of the values by at most twice the error
pub sum-approximate : (approximate approximate_end v w : ℤ) (error : ℕ) → unsigned_abs (approximate -ℤ v) ≤ error
    → unsigned_abs (approximate_end -ℤ w) ≤ error
    → unsigned_abs ((approximate +ℤ approximate_end) -ℤ (v +ℤ w)) ≤ 2 * error
sum-approximate approximate approximate_end v w error first second = omega (arith, ints, first, second)

-- if two values differ by at most `most`, the size of their sum decides whether both are on one
-- side of 0 with a sum that exceeds `most` (above 0) or is at least `most` in size (not above 0)
far-keeps : (v w most : ℤ) (far : Bool) → w ≤ℤ (v +ℤ most) → v ≤ℤ (w +ℤ most) → IsFar most (v +ℤ w) far
    → ((int_lt (pos 0) v && int_lt (pos 0) w && int_lt most (v +ℤ w))
    || (int_le v (pos 0) && int_le w (pos 0) && int_le most (neg_ℤ (v +ℤ w)))) ≡ far
far-keeps v w most true up down far = grind (arith, ints)
far-keeps v w most false up down far = grind (arith, ints)

far-rate : (v w rate : ℤ) (n : ℕ) (far : Bool) → w ≤ℤ (v +ℤ (rate *ℤ pos n)) → v ≤ℤ (w +ℤ (rate *ℤ pos n))
    → IsFar (rate *ℤ pos n) (v +ℤ w) far → keeps_side (Some rate) n v w ≡ far
unfolding keeps_side
far-rate v w rate n far = far-keeps v w (rate *ℤ pos n) far

-- the values at the ends of a cell differ by at most its rate in each minute
change-up : (c : CurveSpec) (a rate : ℤ) (n : ℕ) → 1 ≤ n → IsRate c a n rate
    → c.track.value (a +ℤ pos n) ≤ℤ (c.track.value a +ℤ (rate *ℤ pos n))
change-up c a (negsuc r) n some law = absurd (let step = law.steps 0 some in omega (arith, ints))
change-up c a (pos r) n some law =
    drift_up c.track.value a r n (λ k h. let step = law.steps k h in omega (arith, ints))

change-down : (c : CurveSpec) (a rate : ℤ) (n : ℕ) → 1 ≤ n → IsRate c a n rate
    → c.track.value a ≤ℤ (c.track.value (a +ℤ pos n) +ℤ (rate *ℤ pos n))
change-down c a (negsuc r) n some law = absurd (let step = law.steps 0 some in omega (arith, ints))
change-down c a (pos r) n some law =
    drift_down c.track.value a r n (λ k h. let step = law.steps k h in omega (arith, ints))

-- if the sum of the values at both ends is greater than the rate times the minutes in size, the
-- minutes can be one quiet cell; if it is smaller in size, they can't
far-quiet : (c : CurveSpec) (a : ℤ) (n : ℕ) (rate : ℤ) (far : Bool) → IsLawful c → IsSpan c a n → 2 ≤ n → n ≤ MOST_MINUTES
    → Some rate ≡ c.rate a n → IsFar (rate *ℤ pos n) (c.track.value a +ℤ c.track.value (a +ℤ pos n)) far
    → is_quiet c a n ≡ far
far-quiet c a n rate far lawful span two most is sum =
    let law = lawful.rates a n rate (quiet_cell c a n span two most) (sym is) in
    let some : 1 ≤ n = omega arith in
    sym (is_quiet-rate c a n (Some rate) two most is)
    ∙ far-rate (c.track.value a) (c.track.value (a +ℤ pos n)) rate n far (change-up c a rate n some law)
    (change-down c a rate n some law) sum

-- if all values that an approximation allows are on one side of 0, the exact value is on this side
pub decided-side : (approximate e v : ℤ) (error : ℕ) (side : Bool) → e ≡ pos error
    → ((value : ℤ) → unsigned_abs (approximate -ℤ value) ≤ unsigned_abs e → int_lt (pos 0) value ≡ side)
    → unsigned_abs (approximate -ℤ v) ≤ error → int_lt (pos 0) v ≡ side
decided-side approximate e v error side is decided close = decided v (rw is close)

-- fewer than 2 minutes are no quiet cell
pub too_short : (c : CurveSpec) (a : ℤ) (n : ℕ) → n < 2 → is_quiet c a n ≡ false
too_short c a n few = sym (is_quiet-length c a n (inl few))

-- if the approximate sum of both end values decides how each sum within twice the error compares
-- with `most`, it decides whether the minutes can be one quiet cell
pub decided-far :
    (c : CurveSpec) (a : ℤ) (n : ℕ) (rate approximate approximate_end most e : ℤ) (error : ℕ) (far : Bool)
    → IsLawful c → IsSpan c a n → 2 ≤ n → n ≤ MOST_MINUTES → Some rate ≡ c.rate a n
    → most ≡ rate *ℤ pos n → e ≡ pos (2 * error) → unsigned_abs (approximate -ℤ c.track.value a) ≤ error
    → unsigned_abs (approximate_end -ℤ c.track.value (a +ℤ pos n)) ≤ error
    → ((sum : ℤ) → unsigned_abs ((approximate +ℤ approximate_end) -ℤ sum) ≤ unsigned_abs e → IsFar most sum far) → is_quiet c a n ≡ far
decided-far c a n rate approximate approximate_end most e error far lawful span two few is is_most is_e close end_close
    decided =
    let sum = decided (c.track.value a +ℤ c.track.value (a +ℤ pos n))
    (rw is_e (sum-approximate approximate approximate_end _ _ error close end_close)) in
    far-quiet c a n rate far lawful span two few is (rw is_most at sum)

-- the approximate value at a minute of the curve differs from the value by at most the error
pub minute-close : (c : CurveSpec) (approximate : ℤ → ℤ) (error : ℕ) (m v : ℤ)
    → ((m : ℤ) → IsMinute c m → IsApproximateValue c error m (approximate m)) → IsMinute c m → v ≡ approximate m
    → IsApproximateValue c error m v
minute-close c approximate error m v close minute is = rw is (close m minute)

-- the approximate value at the first minute of a span differs from the value by at most the error
pub begin-close : (c : CurveSpec) (approximate : ℤ → ℤ) (error : ℕ) (a : ℤ) (n : ℕ) (v : ℤ)
    → ((m : ℤ) → IsMinute c m → IsApproximateValue c error m (approximate m)) → IsSpan c a n → v ≡ approximate a
    → IsApproximateValue c error a v
begin-close c approximate error a n v close span is = rw is (close a (begin-minute c a n span))

pub end-close : (c : CurveSpec) (approximate : ℤ → ℤ) (error : ℕ) (a : ℤ) (n : ℕ) (v : ℤ)
    → ((m : ℤ) → IsMinute c m → IsApproximateValue c error m (approximate m)) → IsSpan c a n
    → v ≡ approximate (a +ℤ pos n) → IsApproximateValue c error (a +ℤ pos n) v
end-close c approximate error a n v close span is = rw is (close (a +ℤ pos n) (end-minute c a n span))

-- approximate values of a lawful curve can be added without overflow
pub approximate-size : (approximate v : ℤ) (error : ℕ) → unsigned_abs v < 10 ^ 37 → error ≤ 10 ^ 36
    → unsigned_abs (approximate -ℤ v) ≤ error → unsigned_abs approximate < 2 * 10 ^ 37
approximate-size approximate v error small narrow close = omega (arith, ints, small, narrow, close)

pub approximate-sizes : (c : CurveSpec) (a : ℤ) (n error : ℕ) (approximate approximate_end : ℤ) → IsLawful c
    → error ≤ 10 ^ 36 → IsSpan c a n → IsApproximateValue c error a approximate
    → IsApproximateValue c error (a +ℤ pos n) approximate_end
    → (unsigned_abs approximate < 2 * 10 ^ 37) × (unsigned_abs approximate_end < 2 * 10 ^ 37)
approximate-sizes c a n error approximate approximate_end law narrow span close end_close = (
  approximate-size approximate _ error (begin-small c a n law span) narrow close,
  approximate-size approximate_end _ error (end-small c a n law span) narrow end_close,
)

-- the error of a lawful curve, and twice the error, are neither negative nor too large
pub error-positive : (e : ℤ) (error : ℕ) → e ≡ pos error → pos 0 ≤ℤ e
error-positive e error is = rw is (omega (arith, ints))

pub error-narrow : (e : ℤ) (error most : ℕ) → e ≡ pos error → error ≤ most → e ≤ℤ pos most
error-narrow e error most is narrow = rw is (omega (arith, ints, narrow))

pub twice-narrow : (error : ℕ) → error ≤ 10 ^ 36 → 2 * error ≤ 2 * 10 ^ 36
twice-narrow error narrow = omega arith

pub twice-fits : (e : ℤ) (error : ℕ) → e ≡ pos error → error ≤ 10 ^ 36
    → FitsSigned w128 (pos 2 *ℤ to_z w128 (of_z w128 e))
twice-fits e error is narrow = omega (arith, ints, is, narrow)

pub twice-value : (e : ℤ) (error : ℕ) → e ≡ pos error → error ≤ 10 ^ 36
    → to_z w128 (of_z w128 (pos 2 *ℤ to_z w128 (of_z w128 e))) ≡ pos (2 * error)
twice-value e error is narrow = omega (arith, ints, is, narrow)

-- the sum of two approximate values
pub sum-value : (v w : ℤ) → unsigned_abs v < 2 * 10 ^ 37 → unsigned_abs w < 2 * 10 ^ 37
    → to_z w128 (of_z w128 (to_z w128 (of_z w128 v) +ℤ to_z w128 (of_z w128 w))) ≡ v +ℤ w
sum-value v w first second = omega (arith, ints, first, second)

pub sum-fits : (v w : ℤ) → unsigned_abs v < 2 * 10 ^ 37 → unsigned_abs w < 2 * 10 ^ 37
    → FitsSigned w128 (to_z w128 (of_z w128 v) +ℤ to_z w128 (of_z w128 w))
sum-fits v w first second = omega (arith, ints, first, second)

pub sum-size : (v w : ℤ) → unsigned_abs v < 2 * 10 ^ 37 → unsigned_abs w < 2 * 10 ^ 37
    → unsigned_abs (v +ℤ w) < 4 * 10 ^ 37
sum-size v w first second = omega (arith, ints, first, second)

-- the size of an approximate sum, less the error and with it, decides how the sum compares with
-- `most`
pub size_less-fits : (v size e : ℤ) → size ≡ pos (unsigned_abs v) → unsigned_abs v < 4 * 10 ^ 37 → pos 0 ≤ℤ e
    → e ≤ℤ pos (2 * 10 ^ 36) → FitsSigned w128 (to_z w128 (of_z w128 size) -ℤ to_z w128 (of_z w128 e))
size_less-fits v size e is small least most = omega (arith, ints)

pub size_less-value : (v size e : ℤ) → size ≡ pos (unsigned_abs v) → unsigned_abs v < 4 * 10 ^ 37 → pos 0 ≤ℤ e
    → e ≤ℤ pos (2 * 10 ^ 36) → to_z w128 (of_z w128 (to_z w128 (of_z w128 size) -ℤ to_z w128 (of_z w128 e))) ≡ size -ℤ e
size_less-value v size e is small least most = omega (arith, ints)

pub size_more-fits : (v size e : ℤ) → size ≡ pos (unsigned_abs v) → unsigned_abs v < 4 * 10 ^ 37 → pos 0 ≤ℤ e
    → e ≤ℤ pos (2 * 10 ^ 36) → FitsSigned w128 (to_z w128 (of_z w128 size) +ℤ to_z w128 (of_z w128 e))
size_more-fits v size e is small least most = omega (arith, ints)

pub size_more-value : (v size e : ℤ) → size ≡ pos (unsigned_abs v) → unsigned_abs v < 4 * 10 ^ 37 → pos 0 ≤ℤ e
    → e ≤ℤ pos (2 * 10 ^ 36) → to_z w128 (of_z w128 (to_z w128 (of_z w128 size) +ℤ to_z w128 (of_z w128 e))) ≡ size +ℤ e
size_more-value v size e is small least most = omega (arith, ints)

less : (v w : ℤ) → int_lt v w ≡ true → v <ℤ w
less v w h = grind (arith, ints)

pub size_less-far : (v size e most sum : ℤ) → size ≡ pos (unsigned_abs v) → pos 0 ≤ℤ e → int_lt most (size -ℤ e) ≡ true
    → unsigned_abs (v -ℤ sum) ≤ unsigned_abs e → IsFar most sum true
size_less-far v size e most sum is least test close = let exceeds = less most (size -ℤ e) test in omega (arith, ints)

pub size_more-close : (v size e most sum : ℤ) → size ≡ pos (unsigned_abs v) → pos 0 ≤ℤ e → int_lt (size +ℤ e) most ≡ true
    → unsigned_abs (v -ℤ sum) ≤ unsigned_abs e → IsFar most sum false
size_more-close v size e most sum is least test close = let exceeded = less (size +ℤ e) most test in omega (arith, ints)

-- if what is known of an optional Bool implies another property, that property is known too
pub some-decided : {P Q : Bool → Type 0} (o : Option Bool) → IfSome o P → ((x : Bool) → P x → Q x) → IfSome o Q
some-decided None decided then = tt
some-decided (Some x) decided then = then x decided
