-- A value that changes by at most its rate in each minute stays on its side of 0 between two end
-- values on this side if their sum is large enough in size.
use Rattle.std.proofs.Common.{nat_le, ◌⊎◌, ◌≡◌, ◌≢◌, ℕ, zero, suc, ◌+◌, ◌-◌, ◌*◌, ◌^◌, ◌≤◌, ◌<◌, ℤ, pos, negsuc, ◌+ℤ◌, ◌-ℤ◌, ◌*ℤ◌, neg_ℤ, ◌≤ℤ◌, ◌<ℤ◌, unsigned_abs, int_lt, int_le, Bool, true, false, not, ◌&&◌, ◌||◌, cond, Option, Some, None, refl, sym, ◌∙◌, w64, to_z, of_z, FitsSigned, arith}
use mathlib.Core.Bool.{beq}
use Rattle.std.proofs.lemmas.Bool.Decides.{nat_tests}
use Rattle.std.proofs.lemmas.Int.{ints}
use Rattle.curve_law.specs.Track.{Track, side_at, has_event}
use Rattle.curve_law.specs.declared.cell.Cell.TheVariants.{Still, Turn}
use Rattle.curve_law.specs.CurveSpec.{CurveSpec, IsMinute, IsSpan, IsCell, IsRate, IsLawful}
use Rattle.curve_law.specs.declared.quiet.TheConstants.{MOST_MINUTES}
use Rattle.curve_law.specs.Cover.{keeps_side, is_quiet, unit_cell}

-- if the value changes by at most r in each of n minutes, it rises by at most r * n
pub drift_up : (f : ℤ → ℤ) (a : ℤ) (r n : ℕ)
    → ((k : ℕ) → k < n → unsigned_abs (f (a +ℤ pos k +ℤ pos 1) -ℤ f (a +ℤ pos k)) ≤ r)
    → f (a +ℤ pos n) ≤ℤ (f a +ℤ pos (r * n))
drift_up f a r zero steps = let here : a +ℤ pos 0 ≡ a = omega (arith, ints) in rw here (omega (arith, ints))
drift_up f a r (suc n) steps =
    let so_far = drift_up f a r n (λ k h. steps k (omega arith)) in
    let step = steps n (omega arith) in
    let there : a +ℤ pos n +ℤ pos 1 ≡ a +ℤ pos (suc n) = omega (arith, ints) in
    rw (← there) (omega (arith, ints))

-- if the value changes by at most r in each of n minutes, it falls by at most r * n
pub drift_down : (f : ℤ → ℤ) (a : ℤ) (r n : ℕ)
    → ((k : ℕ) → k < n → unsigned_abs (f (a +ℤ pos k +ℤ pos 1) -ℤ f (a +ℤ pos k)) ≤ r)
    → f a ≤ℤ (f (a +ℤ pos n) +ℤ pos (r * n))
drift_down f a r zero steps = let here : a +ℤ pos 0 ≡ a = omega (arith, ints) in rw here (omega (arith, ints))
drift_down f a r (suc n) steps =
    let so_far = drift_down f a r n (λ k h. steps k (omega arith)) in
    let step = steps n (omega arith) in
    let there : a +ℤ pos n +ℤ pos 1 ≡ a +ℤ pos (suc n) = omega (arith, ints) in
    rw (← there) (omega (arith, ints))

-- if the value changes by at most r in each of j + i minutes, it does so in each of the last i
pub later_steps : (f : ℤ → ℤ) (a : ℤ) (r j i : ℕ)
    → ((k : ℕ) → k < j + i → unsigned_abs (f (a +ℤ pos k +ℤ pos 1) -ℤ f (a +ℤ pos k)) ≤ r) → (k : ℕ) → k < i
    → unsigned_abs (f (a +ℤ pos j +ℤ pos k +ℤ pos 1) -ℤ f (a +ℤ pos j +ℤ pos k)) ≤ r
later_steps f a r j i steps k few =
    let there : a +ℤ pos j +ℤ pos k ≡ a +ℤ pos (j + k) = omega (arith, ints) in
    rw there (steps (j + k) (omega arith))

stays_above : (f : ℤ → ℤ) (a : ℤ) (r j i : ℕ)
    → ((k : ℕ) → k < j + i → unsigned_abs (f (a +ℤ pos k +ℤ pos 1) -ℤ f (a +ℤ pos k)) ≤ r)
    → pos (r * (j + i)) <ℤ (f a +ℤ f (a +ℤ pos (j + i))) → pos 0 <ℤ f (a +ℤ pos j)
stays_above f a r j i steps far =
    let first = drift_down f a r j (λ k h. steps k (omega arith)) in
    let second = drift_up f (a +ℤ pos j) r i (later_steps f a r j i steps) in
    let end : a +ℤ pos j +ℤ pos i ≡ a +ℤ pos (j + i) = omega (arith, ints) in
    let back = rw end at second in
    omega (arith, ints)

stays_below : (f : ℤ → ℤ) (a : ℤ) (r j i : ℕ)
    → ((k : ℕ) → k < j + i → unsigned_abs (f (a +ℤ pos k +ℤ pos 1) -ℤ f (a +ℤ pos k)) ≤ r)
    → pos (r * (j + i)) ≤ℤ neg_ℤ (f a +ℤ f (a +ℤ pos (j + i))) → f (a +ℤ pos j) ≤ℤ pos 0
stays_below f a r j i steps far =
    let first = drift_up f a r j (λ k h. steps k (omega arith)) in
    let second = drift_down f (a +ℤ pos j) r i (later_steps f a r j i steps) in
    let end : a +ℤ pos j +ℤ pos i ≡ a +ℤ pos (j + i) = omega (arith, ints) in
    let back = rw end at second in
    omega (arith, ints)

by_sides : (v w x most : ℤ) → (most <ℤ (v +ℤ w) → pos 0 <ℤ x) → (most ≤ℤ neg_ℤ (v +ℤ w) → x ≤ℤ pos 0)
    → ((int_lt (pos 0) v && int_lt (pos 0) w && int_lt most (v +ℤ w))
    || (int_le v (pos 0) && int_le w (pos 0) && int_le most (neg_ℤ (v +ℤ w)))) ≡ true
    → int_lt (pos 0) x ≡ int_lt (pos 0) v
by_sides v w x most above below keeps = grind (arith, ints)

same_side : (c : CurveSpec) (a : ℤ) (j i : ℕ) (rate : ℤ) → 1 ≤ j + i → IsRate c a (j + i) rate
    → keeps_side (Some rate) (j + i) (c.track.value a) (c.track.value (a +ℤ pos (j + i))) ≡ true
    → side_at c.track (a +ℤ pos j) ≡ side_at c.track a
unfolding keeps_side
same_side c a j i (negsuc r) some is keeps =
    absurd (let step = is.steps 0 (omega arith) in omega (arith, ints))
same_side c a j i (pos r) some is keeps =
    let steps = λ (k : ℕ) (h : k < j + i). let step = is.steps k h in
    let s : unsigned_abs (c.track.value (a +ℤ pos k +ℤ pos 1) -ℤ c.track.value (a +ℤ pos k)) ≤ r =
    omega (arith, ints) in s in
    let above = stays_above c.track.value a r j i steps in
    let below = stays_below c.track.value a r j i steps in
    by_sides (c.track.value a) (c.track.value (a +ℤ pos (j + i))) (c.track.value (a +ℤ pos j)) (pos (r * (j + i))) above below keeps

-- what `is_quiet` says: the range of n, and that the value keeps its side by the rate
quiet_parts : (c : CurveSpec) (a : ℤ) (n : ℕ) → is_quiet c a n ≡ true
    → (2 ≤ n) × (n ≤ MOST_MINUTES) × (keeps_side (c.rate a n) n (c.track.value a) (c.track.value (a +ℤ pos n)) ≡ true)
unfolding is_quiet
quiet_parts c a n quiet = (grind (arith, nat_tests), grind (arith, nat_tests), grind arith)

no_rate : (n : ℕ) (v w : ℤ) → keeps_side None n v w ≡ true → ⊥
unfolding keeps_side
no_rate n v w h = cc

-- the minutes of a quiet cell are in the ranges for which a curve may have a rate
pub quiet_cell : (c : CurveSpec) (a : ℤ) (n : ℕ) → IsSpan c a n → 2 ≤ n → n ≤ MOST_MINUTES → IsCell c a n
quiet_cell c a n span two most = record { first = span.first; last = span.last; some = omega arith; few = most }

rated : (c : CurveSpec) (a : ℤ) (n : ℕ) → (o : Option ℤ) → c.rate a n ≡ o → IsLawful c → IsSpan c a n → 2 ≤ n
    → n ≤ MOST_MINUTES → keeps_side o n (c.track.value a) (c.track.value (a +ℤ pos n)) ≡ true → (j : ℕ) → j ≤ n
    → side_at c.track (a +ℤ pos j) ≡ side_at c.track a
rated c a n None is lawful span two most keeps j few = absurd (no_rate n _ _ keeps)
rated c a n (Some rate) is lawful span two most keeps j few =
    let all : n ≡ j + (n - j) = omega arith in
    let law = lawful.rates a n rate (quiet_cell c a n span two most) is in
    same_side c a j (n - j) rate (omega arith) (rw all at law) (rw all at keeps)

-- each value in a quiet cell, its end included, is on the side of 0 of its first value
pub quiet-sides : (c : CurveSpec) (a : ℤ) (n : ℕ) → IsLawful c → IsSpan c a n → is_quiet c a n ≡ true → (j : ℕ) → j ≤ n
    → side_at c.track (a +ℤ pos j) ≡ side_at c.track a
quiet-sides c a n lawful span quiet =
    let parts = quiet_parts c a n quiet in
    rated c a n (c.rate a n) refl lawful span parts.0 parts.1 parts.2

no_change : (x y : Bool) → x ≡ y → cond x (not y) y ≡ false
no_change true true e = refl
no_change true false e = cc
no_change false true e = cc
no_change false false e = refl

change : (x y : Bool) → x ≢ y → cond x (not y) y ≡ true
change true true e = absurd (e refl)
change true false e = refl
change false true e = refl
change false false e = absurd (e refl)

-- no event is after any minute of a quiet cell
pub quiet-no_event : (c : CurveSpec) (a : ℤ) (n : ℕ) → IsLawful c → IsSpan c a n → is_quiet c a n ≡ true → (k : ℕ) → k < n
    → has_event c.track (a +ℤ pos k) ≡ false
quiet-no_event c a n lawful span quiet k few =
    let here = quiet-sides c a n lawful span quiet k (omega arith) in
    let there = quiet-sides c a n lawful span quiet (suc k) (omega arith) in
    let next : a +ℤ pos k +ℤ pos 1 ≡ a +ℤ pos (suc k) = omega (arith, ints) in
    no_change (side_at c.track (a +ℤ pos k)) (side_at c.track (a +ℤ pos k +ℤ pos 1)) (here ∙ sym (rw next there))

-- if both end values are above 0, the test compares their sum with the rate times the minutes
pub keeps-above : (v w most rate : ℤ) (n : ℕ) → most ≡ rate *ℤ pos n → pos 0 <ℤ v → pos 0 <ℤ w
    → int_lt most (v +ℤ w) ≡ keeps_side (Some rate) n v w
unfolding keeps_side
keeps-above v w most rate n e first second = rw e (grind (arith, ints))

pub keeps-not_above : (v w rate : ℤ) (n : ℕ) → pos 0 <ℤ v → w ≤ℤ pos 0 → false ≡ keeps_side (Some rate) n v w
unfolding keeps_side
keeps-not_above v w rate n first second = grind (arith, ints)

pub keeps-below : (v w most rate : ℤ) (n : ℕ) → most ≡ rate *ℤ pos n → v ≤ℤ pos 0 → w ≤ℤ pos 0
    → int_le (v +ℤ w +ℤ most) (pos 0) ≡ keeps_side (Some rate) n v w
unfolding keeps_side
keeps-below v w most rate n e first second = rw e (grind (arith, ints))

pub keeps-not_below : (v w rate : ℤ) (n : ℕ) → v ≤ℤ pos 0 → pos 0 <ℤ w → false ≡ keeps_side (Some rate) n v w
unfolding keeps_side
keeps-not_below v w rate n first second = grind (arith, ints)

-- fewer than 2 or more than 1,024 minutes are no quiet cell
pub is_quiet-length : (c : CurveSpec) (a : ℤ) (n : ℕ) → (n < 2) ⊎ (2 ≤ n × MOST_MINUTES < n) → false ≡ is_quiet c a n
unfolding is_quiet
is_quiet-length c a n other =
    let e : (nat_le 2 n && nat_le n MOST_MINUTES) ≡ false = grind (arith, nat_tests) in rw e refl

pub is_quiet-rate : (c : CurveSpec) (a : ℤ) (n : ℕ) (o : Option ℤ) → 2 ≤ n → n ≤ MOST_MINUTES → o ≡ c.rate a n
    → keeps_side o n (c.track.value a) (c.track.value (a +ℤ pos n)) ≡ is_quiet c a n
unfolding is_quiet
is_quiet-rate c a n o two most is =
    let e : (nat_le 2 n && nat_le n MOST_MINUTES) ≡ true = grind (arith, nat_tests) in rw (e, is) refl

pub no_rate-quiet : (c : CurveSpec) (a : ℤ) (n : ℕ) → 2 ≤ n → n ≤ MOST_MINUTES → None ≡ c.rate a n → false ≡ is_quiet c a n
unfolding keeps_side
no_rate-quiet c a n two most is = is_quiet-rate c a n None two most is

-- the rate of a lawful curve isn't negative
pub rate-positive : (c : CurveSpec) (a : ℤ) (n : ℕ) (rate : ℤ) → IsLawful c → IsSpan c a n → 2 ≤ n → n ≤ MOST_MINUTES
    → Some rate ≡ c.rate a n → pos 0 ≤ℤ rate
rate-positive c a n rate lawful span two most is =
    let law = lawful.rates a n rate (quiet_cell c a n span two most) (sym is) in
    let step = law.steps 0 (omega arith) in
    omega (arith, ints)

-- 1,024 times the rate of a lawful curve is below 5 * 10^37
pub rate-small : (c : CurveSpec) (a : ℤ) (n : ℕ) (rate : ℤ) → IsLawful c → IsSpan c a n → 2 ≤ n → n ≤ MOST_MINUTES
    → Some rate ≡ c.rate a n → (rate *ℤ pos MOST_MINUTES) <ℤ pos (5 * 10 ^ 37)
rate-small c a n rate lawful span two most is =
    let law = lawful.rates a n rate (quiet_cell c a n span two most) (sym is) in law.small

-- the first minute of a span is a minute of the curve
pub begin-minute : (c : CurveSpec) (a : ℤ) (n : ℕ) → IsSpan c a n → IsMinute c a
begin-minute c a n span = record { first = span.first; last = (let last = span.last in omega (arith, ints, last)) }

-- the end of a span is a minute of the curve
pub end-minute : (c : CurveSpec) (a : ℤ) (n : ℕ) → IsSpan c a n → IsMinute c (a +ℤ pos n)
end-minute c a n span = record { first = (let first = span.first in omega (arith, ints, first)); last = span.last }

-- the value of a lawful curve at the first minute of a span is below 10^37 in size
pub begin-small : (c : CurveSpec) (a : ℤ) (n : ℕ) → IsLawful c → IsSpan c a n → unsigned_abs (c.track.value a) < 10 ^ 37
begin-small c a n lawful span = lawful.values a (begin-minute c a n span)

-- the value of a lawful curve at the end of a span is below 10^37 in size
pub end-small : (c : CurveSpec) (a : ℤ) (n : ℕ) → IsLawful c → IsSpan c a n
    → unsigned_abs (c.track.value (a +ℤ pos n)) < 10 ^ 37
end-small c a n lawful span = lawful.values (a +ℤ pos n) (end-minute c a n span)

-- the end of a span of a lawful curve is computed without overflow of 64 bits
pub end-fits : (c : CurveSpec) (a m : ℤ) (n : ℕ) → IsLawful c → IsSpan c a n → m ≡ pos n
    → FitsSigned w64 (to_z w64 (of_z w64 a) +ℤ m)
end-fits c a m n lawful span is = omega (arith, ints, lawful.early, lawful.late, span.first, span.last, is)

-- the end of a span, computed with 64 bits, is the first minute plus the number of minutes
pub end-value : (c : CurveSpec) (a m : ℤ) (n : ℕ) → IsLawful c → IsSpan c a n → m ≡ pos n
    → to_z w64 (of_z w64 (to_z w64 (of_z w64 a) +ℤ m)) ≡ a +ℤ pos n
end-value c a m n lawful span is = omega (arith, ints, lawful.early, lawful.late, span.first, span.last, is)

pub unit_cell-still : (t : Track) (a : ℤ) (here there : Bool) → here ≡ side_at t a → there ≡ side_at t (a +ℤ pos 1)
    → there ≡ here → Still ≡ unit_cell t a
unfolding unit_cell
unit_cell-still t a here there e f same =
    let q : has_event t a ≡ false = no_change (side_at t a) (side_at t (a +ℤ pos 1)) (cc) in rw q refl

pub unit_cell-turn : (t : Track) (a : ℤ) (here there : Bool) → here ≡ side_at t a → there ≡ side_at t (a +ℤ pos 1)
    → there ≢ here → Turn (cond here t.falling t.rising) (t.note a) ≡ unit_cell t a
unfolding unit_cell
unit_cell-turn t a here there e f differ =
    let q : has_event t a ≡ true = change (side_at t a) (side_at t (a +ℤ pos 1)) (λ h. differ (cc)) in rw (q, e) refl

other_sides : (rate : Option ℤ) (n : ℕ) (v w : ℤ) → (int_lt (pos 0) v ≡ int_lt (pos 0) w → ⊥) → keeps_side rate n v w ≡ false
unfolding keeps_side
other_sides None n v w other = refl
other_sides (Some rate) n v w other = grind (arith, ints)

differ : (s t : Bool) → not (beq s t) ≡ true → s ≡ t → ⊥
differ true true h e = cc
differ true false h e = cc
differ false true h e = cc
differ false false h e = cc

-- values on two sides of 0 are the ends of no quiet cell
pub crossed-loud : (c : CurveSpec) (a : ℤ) (n : ℕ)
    → not (beq (int_lt (pos 0) (c.track.value a)) (int_lt (pos 0) (c.track.value (a +ℤ pos n)))) ≡ true
    → false ≡ is_quiet c a n
unfolding is_quiet
crossed-loud c a n other =
    rw (other_sides (c.rate a n) n (c.track.value a) (c.track.value (a +ℤ pos n)) (differ _ _ other))
    (never (nat_le 2 n && nat_le n MOST_MINUTES))
  where
    never : (t : Bool) → false ≡ (t && false)
    never true = refl
    never false = refl
