-- The highest point known until now, after one more cell of the search.
use Rattle.std.proofs.Common.{◌≡◌, ℕ, ◌+◌, ◌*◌, ◌≤◌, ◌<◌, ◌^◌, min, ℤ, pos, ◌+ℤ◌, ◌-ℤ◌, ◌≤ℤ◌, ◌<ℤ◌, int_lt, unsigned_abs, true, false, List, length, refl, sym, ap, ◌∙◌, arith}
use Rattle.std.proofs.lemmas.Int.{ints}
use Rattle.curve_law.specs.declared.point.Point.{Point}
use Rattle.curve_law.specs.CurveSpec.{CurveSpec, IsMinute, IsLawful}
use Rattle.curve_law.specs.declared.quiet.TheConstants.{MOST_MINUTES}
use Rattle.curve_law.proofs.CoverLemmas.{by_test}
use Rattle.interval_search.specs.Workings.Ahead.{minutes_to}
use Rattle.highest_water.specs.declared.peak.Peak.{Peak}
use Rattle.highest_water.specs.declared.peak_cell.PeakCell.{PeakCell}
use Rattle.highest_water.specs.declared.peak_cell.PeakCell.TheVariants.{Under, Single}
use Rattle.highest_water.specs.Peaks.{IsHighest, is_higher}
use Rattle.highest_water.specs.Covers.{minutes_of, peak_cover, peak_of}
use Rattle.highest_water.specs.Workings.Below.{AreBelow, IsPoint, IsHighestSoFar}
use Rattle.highest_water.specs.Workings.Walk.{IsRight, higher_of, raised_at}
use Rattle.highest_water.proofs.UnderLemmas.{int_lt-true, under-two, under-below}
use Rattle.highest_water.proofs.HighestLemmas.{int_lt-false, highest-one, minute-highest}
use Rattle.highest_water.proofs.VerdictLemmas.{below-append, below-none, below-one, below-at}

-- the point that an evaluation in the span returns is a point of the curve in the span
pub asked-point : (c : CurveSpec) (begin end m : ℤ) (p : Point) → begin ≤ℤ m → m <ℤ end
    → p ≡ record { minute = m; value = c.track.value m } → IsPoint c begin end p
asked-point c begin end m p from before is = rw is (record { from = from; before = before; value = refl })

-- a minute of a span within the curve is a minute of the curve
pub minute-between : (c : CurveSpec) (begin end m : ℤ) → c.first ≤ℤ begin → end ≤ℤ c.last → begin ≤ℤ m → m ≤ℤ end → IsMinute c m
minute-between c begin end m first last from to = record { first = omega (arith, ints); last = omega (arith, ints) }

pub begin-between : (c : CurveSpec) (begin end : ℤ) → c.first ≤ℤ begin → end ≤ℤ c.last → begin <ℤ end → IsMinute c begin
begin-between c begin end first last some = record { first = first; last = omega (arith, ints) }

pub minute-range : (c : CurveSpec) (m : ℤ) → IsLawful c → IsMinute c m → unsigned_abs m ≤ 2 ^ 60
minute-range c m lawful at = omega (arith, ints, lawful.early, lawful.late, at.first, at.last)

pub int_le-trans : (x y z : ℤ) → x ≤ℤ y → y ≤ℤ z → x ≤ℤ z
int_le-trans x y z first second = omega (arith, ints)

pub int_le-same : (x y : ℤ) → y ≡ x → x ≤ℤ y
int_le-same x y is = omega (arith, ints)

pub int_le-more : (x y z : ℤ) (n : ℕ) → x ≤ℤ y → z ≡ y +ℤ pos n → x ≤ℤ z
int_le-more x y z n from is = omega (arith, ints)

-- n minutes further, n minutes fewer remain
pub walk-fewer : (a b end : ℤ) (n : ℕ) → b ≡ a +ℤ pos n → b ≤ℤ end → minutes_to b end + n ≡ minutes_to a end
walk-fewer a b end n is within = omega (arith, ints)

pub walk-smaller : (a b end : ℤ) (n : ℕ) → b ≡ a +ℤ pos n → b ≤ℤ end → 1 ≤ n → minutes_to b end < minutes_to a end
walk-smaller a b end n is within some = let fewer = walk-fewer a b end n is within in omega arith

pub walk-begun : (start found after all w : ℕ) → found ≤ start + all → after ≡ found + 1
    → after + all ≤ start + 2 * all + 1 + w
walk-begun start found after all w first one = omega arith

pub walk-counted : (start count after left fewer n all w v : ℕ) → count + left ≤ start + 2 * all + 1 + w
    → after + w ≡ count + v + 1 → fewer + n ≡ left → 1 ≤ n → after + fewer ≤ start + 2 * all + 1 + v
walk-counted start count after left fewer n all w v so_far step less some = omega arith

pub walk-done : (start count after left all w : ℕ) → count + left ≤ start + 2 * all + 1 + w → after ≡ count → w ≡ 0
    → after ≤ start + 2 * all + 1
walk-done start count after left all w so_far last none = omega arith

-- the end of a block that begins before the end of the span
pub record IsBlockEnd (begin end next : ℤ) : Type 0 where
  pub from : begin ≤ℤ next
  pub within : next ≤ℤ end
  pub fewer : minutes_to next end + 1 ≤ minutes_to begin end

pub block-ends : (begin end next : ℤ) → begin <ℤ end → next ≡ begin +ℤ pos (min (minutes_to begin end) MOST_MINUTES)
    → IsBlockEnd begin end next
block-ends begin end next some is = record {
  from = omega (arith, ints);
  within = omega (arith, ints);
  fewer = omega (arith, ints);
}

pub block-smaller : (begin end next : ℤ) → IsBlockEnd begin end next → minutes_to next end < minutes_to begin end
block-smaller begin end next block = let fewer = block.fewer in omega arith

pub block-few : (c : CurveSpec) (begin end : ℤ) (start count left : ℕ) → IsLawful c → c.first ≤ℤ begin → end ≤ℤ c.last
    → begin <ℤ end → start ≤ 2 ^ 62 → count + left ≤ start + minutes_to begin end → count < 2 ^ 63
block-few c begin end start count left lawful first last some few counted =
    omega (arith, ints, lawful.early, lawful.late, first, last)

pub begin-counted : (start after left fewer : ℕ) → after ≡ start + 1 → fewer + 1 ≤ left → after + fewer ≤ start + left
begin-counted start after left fewer one less = omega arith

pub block-counted : (start count after left fewer all : ℕ) → count + left ≤ start + all → after ≡ count + 1 → fewer + 1 ≤ left
    → after + fewer ≤ start + all
block-counted start count after left fewer all so_far one less = omega arith

pub begin-point : (c : CurveSpec) (begin end : ℤ) (p : Point) → begin <ℤ end
    → p ≡ record { minute = begin; value = c.track.value begin } → IsPoint c begin end p
begin-point c begin end p some is = asked-point c begin end begin p (omega (arith, ints)) some is

-- the higher of two points of the span is a point of the span
pub higher-point : (c : CurveSpec) (begin end : ℤ) (h p : Point) → IsPoint c begin end h → IsPoint c begin end p
    → IsPoint c begin end (higher_of h p)
higher-point c begin end h p first second = by_test (is_higher h.minute h.value p.minute p.value)
    (λ higher. rw higher second)
    (λ other. rw other first)

pub first-so_far : (c : CurveSpec) (begin end : ℤ) (h : Point) → IsPoint c begin end h → IsHighestSoFar c begin end begin h
first-so_far c begin end h point = record { point = point; below = below-none c h.minute h.value begin }

-- minutes below a point are below a higher one
is_higher-value : (at value m v : ℤ) → is_higher at value m v ≡ true → value ≤ℤ v
is_higher-value at value m v h = grind (arith, ints)

is_higher-earlier : (at value m v : ℤ) → is_higher at value m v ≡ true → v ≤ℤ value → m <ℤ at
is_higher-earlier at value m v h less = grind (arith, ints)

least-higher : (at value m v k x : ℤ) → is_higher at value m v ≡ true → x ≤ℤ value → (k <ℤ at → x <ℤ value) → k <ℤ m → x <ℤ v
least-higher at value m v k x h most least earlier = by_test (int_lt value v)
    (λ more. let g = int_lt-true value v more in omega (arith, ints))
    (λ same.
    let g = int_lt-false value v same in
    let before = is_higher-earlier at value m v h g in
    let less = least (omega (arith, ints)) in
    let up = is_higher-value at value m v h in
    omega (arith, ints))

below-higher : (c : CurveSpec) (at value m v begin end : ℤ) → is_higher at value m v ≡ true
    → AreBelow c at value begin end → AreBelow c m v begin end
below-higher c at value m v begin end h below = record {
  greatest = λ k from before. let g = below.greatest k from before in let w = is_higher-value at value m v h in omega (arith, ints);
  first = λ k from before earlier. least-higher
      at value m v k (c.track.value k) h (below.greatest k from before) (below.first k from before) earlier;
}

-- the highest point until now, after one more minute
higher-so_far : (c : CurveSpec) (begin end to : ℤ) (h p : Point) → IsHighestSoFar c begin end to h → begin ≤ℤ to → to
    <ℤ end → p.minute ≡ to → p.value ≡ c.track.value p.minute → IsHighestSoFar c begin end (to +ℤ pos 1) (higher_of h p)
higher-so_far c begin end to h p so_far from before at value =
    let point : IsPoint c begin end p = record { from = omega (arith, ints); before = omega (arith, ints); value = value } in
    by_test (is_higher h.minute h.value p.minute p.value)
    (λ higher. rw higher (record {
      point = point;
      below = below-append c p.minute p.value begin to (to +ℤ pos 1)
          (below-higher c h.minute h.value p.minute p.value begin to higher so_far.below)
          (below-at c p.minute p.value to (sym at) (sym (value ∙ ap c.track.value at)));
    }))
    (λ other.
    let low : is_higher h.minute h.value to (c.track.value to) ≡ false = rw (← at, ← value) other in
    rw other (record {
      point = so_far.point;
      below = below-append c h.minute h.value begin to (to +ℤ pos 1) so_far.below (below-one c h.minute h.value to low);
    }))

-- the highest point until now, after one more cell
pub cell-so_far : (c : CurveSpec) (begin end to : ℤ) (h p : Point) (cell : PeakCell) → IsLawful c → c.first ≤ℤ begin
    → end ≤ℤ c.last → IsHighestSoFar c begin end to h → begin ≤ℤ to → p.minute ≡ to → p.value ≡ c.track.value p.minute
    → IsRight c h to cell → (to +ℤ pos (minutes_of cell)) ≤ℤ end
    → IsHighestSoFar c begin end (to +ℤ pos (minutes_of cell)) (raised_at h p cell)
cell-so_far c begin end to h p (Under n) lawful first last so_far from at value under within = record {
  point = so_far.point;
  below = below-append c h.minute h.value begin to (to +ℤ pos n) so_far.below
      (under-below c h.minute h.value to n lawful (record { first = omega (arith, ints); last = omega (arith, ints) }) under);
}
cell-so_far c begin end to h p Single lawful first last so_far from at value right within =
    higher-so_far c begin end to h p so_far from (omega (arith, ints)) at value

-- the highest point until now is the highest water if no minute remains
pub all-so_far : (c : CurveSpec) (begin end to : ℤ) (h : Point) → to ≡ end → IsHighestSoFar c begin end to h
    → IsHighest c begin end h.minute h.value
all-so_far c begin end to h all so_far =
    let before = so_far.point.before in
    record {
      from = so_far.point.from;
      before = before;
      has = sym so_far.point.value;
      greatest = (rw all at so_far.below).greatest;
      first = λ m from earlier. (rw all at so_far.below).first m from (omega (arith, ints)) earlier;
    }

-- a cell has at least one minute
pub right-some : (c : CurveSpec) (h : Point) (a : ℤ) (cell : PeakCell) → IsRight c h a cell → 1 ≤ minutes_of cell
right-some c h a (Under n) right = let two = under-two c h.minute h.value a n right in omega arith
right-some c h a Single right = omega arith

-- the value of a point of a lawful curve is below 10^37 in size
pub point-small : (c : CurveSpec) (begin end : ℤ) (p : Point) → IsLawful c → c.first ≤ℤ begin → end ≤ℤ c.last
    → IsPoint c begin end p → unsigned_abs p.value < 10 ^ 37
point-small c begin end p lawful first last point =
    let from = point.from in
    let before = point.before in
    rw point.value (lawful.values p.minute (record { first = omega (arith, ints); last = omega (arith, ints) }))

-- the value of the highest water of a lawful curve is below 10^37 in size
pub highest-small : (c : CurveSpec) (begin end at value : ℤ) → IsLawful c → c.first ≤ℤ begin → end ≤ℤ c.last
    → IsHighest c begin end at value → unsigned_abs value < 10 ^ 37
highest-small c begin end at value lawful first last peak =
    let from = peak.from in
    let before = peak.before in
    rw (← peak.has) (lawful.values at (record { first = omega (arith, ints); last = omega (arith, ints) }))

-- a highest water with the cells made for it is the highest water that an evaluation of each minute
-- finds, with its cells
pub highest-peak_of : (c : CurveSpec) (begin end at value : ℤ) (cells : List PeakCell) → IsHighest c begin end at value
    → cells ≡ peak_cover c at value begin (unsigned_abs (end -ℤ begin))
    → record { at = at; value = value; cells = cells } ≡ peak_of c begin (unsigned_abs (end -ℤ begin))
unfolding peak_of
highest-peak_of c begin end at value cells peak is =
    let from = peak.from in
    let before = peak.before in
    let all : begin +ℤ pos (unsigned_abs (end -ℤ begin)) ≡ end = omega (arith, ints) in
    let looked = rw all at (minute-highest c begin (unsigned_abs (end -ℤ begin)) (omega (arith, ints))) in
    let one = highest-one c begin end at value _ _ peak looked in
    rw (is, one.1, one.0) refl

-- a highest water has the minute and the value that an evaluation of each minute finds
pub highest-is : (c : CurveSpec) (begin end at value : ℤ) → IsHighest c begin end at value
    → (at ≡ (peak_of c begin (unsigned_abs (end -ℤ begin))).at) × (value ≡ (peak_of c begin (unsigned_abs (end -ℤ begin))).value)
highest-is c begin end at value peak =
    let same = highest-peak_of c begin end at value (peak_cover c at value begin (unsigned_abs (end -ℤ begin))) peak refl in
    (ap (λ (p : Peak). p.at) same, ap (λ (p : Peak). p.value) same)

pub some-forward : (begin end : ℤ) → begin <ℤ end → begin ≤ℤ end
some-forward begin end some = omega (arith, ints)

pub highest-forward : (c : CurveSpec) (begin end at value : ℤ) → IsHighest c begin end at value → begin ≤ℤ end
highest-forward c begin end at value peak = let from = peak.from in let before = peak.before in omega (arith, ints)

-- the number of evaluations of the search
pub blocks-few : (begin end : ℤ) (before found : ℕ) → (end -ℤ begin) ≤ℤ pos 5270400 → begin <ℤ end → before ≤ 2 ^ 62
    → found ≤ before + minutes_to begin end → found ≤ 2 ^ 62 + 2 ^ 60
blocks-few begin end before found short some few first = omega (arith, ints)

pub values-few : (begin end : ℤ) (before found : ℕ) → (end -ℤ begin) ≤ℤ pos 5270400 → begin <ℤ end → before ≤ 2 ^ 62
    → found ≤ before + 2 * unsigned_abs (end -ℤ begin) + 1 → found ≤ 2 ^ 62 + 2 ^ 60
values-few begin end before found short some few first = omega (arith, ints)

-- the number of evaluations of the search and then of the cells
pub values-counted : (c : CurveSpec) (begin end at value : ℤ) (before found after : ℕ) → IsHighest c begin end at value
    → found ≤ before + 2 * unsigned_abs (end -ℤ begin) + 1
    → after ≤ found + length (peak_cover c at value begin (unsigned_abs (end -ℤ begin))) + 1 → after
    ≤ before + 2 * unsigned_abs (end -ℤ begin) + length (peak_of c begin (unsigned_abs (end -ℤ begin))).cells + 2
values-counted c begin end at value before found after highest first second =
    let same = ap (λ (p : Peak). length p.cells) (highest-peak_of c begin end at value _ highest refl) in
    omega (arith, first, second, same)
