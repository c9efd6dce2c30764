-- The greatest and the least minutes of a basis's offsets, and a minute moved back by them.
use Rattle.std.proofs.Common.{◌≡◌, ◌+◌, ◌^◌, ◌≤◌, ℤ, ◌-ℤ◌, ◌≤ℤ◌, Option, Some, None, ◌∷◌, fold, to_z, of_z, w32, w64, FitsSigned, refl, arith}
use Rattle.std.specs.Int.{int_max, int_min}
use Rattle.std.specs.Option.{ForSome}
use Rattle.std.specs.Prelude.{unsigned_abs}
use Rattle.std.proofs.lemmas.Int.{ints, clamps, to_z-of_z}
use Rattle.station_table.specs.declared.basis.Basis.{Basis}
use Rattle.station_table.specs.declared.offset.Slack.{Slack}
use Rattle.station_table.specs.Offsets.{IsAdd, IsSlack}
use Rattle.event_list.specs.Shifts.{HasOffsets, slack_adds, greatest_add, least_add}

max-small : (a b : ℤ) → unsigned_abs a ≤ 1440 → unsigned_abs b ≤ 1440 → unsigned_abs (int_max a b) ≤ 1440
max-small a b first second = omega (arith, ints, clamps, first, second)

min-small : (a b : ℤ) → unsigned_abs a ≤ 1440 → unsigned_abs b ≤ 1440 → unsigned_abs (int_min a b) ≤ 1440
min-small a b first second = omega (arith, ints, clamps, first, second)

max-above : (a b c : ℤ) → a ≤ℤ b → a ≤ℤ int_max b c
max-above a b c above = omega (arith, ints, clamps)

min-below : (a b c : ℤ) → b ≤ℤ a → int_min b c ≤ℤ a
min-below a b c below = omega (arith, ints, clamps)

same-order : (a : ℤ) → a ≤ℤ a
same-order a = omega (arith, ints)

add-small : (add : ℤ) → IsAdd add → unsigned_abs add ≤ 1440
add-small add range = omega (arith, ints, range.least, range.most)

-- the greatest
all-max-small : (high low : ℤ) (o : Option Slack) → unsigned_abs high ≤ 1440 → unsigned_abs low ≤ 1440 → ForSome o IsSlack
    → unsigned_abs (fold int_max high (low ∷ slack_adds o)) ≤ 1440
all-max-small high low None first second adds = max-small high low first second
all-max-small high low (Some slack) first second adds =
    let added = adds slack refl in
    max-small (int_max (int_max high low) slack.flood_add) slack.ebb_add
    (max-small (int_max high low) slack.flood_add (max-small high low first second) (add-small _ added.flood_add)) (add-small _ added.ebb_add)

all-max-above : (high low : ℤ) (o : Option Slack) → high ≤ℤ fold int_max high (low ∷ slack_adds o)
all-max-above high low None = max-above high high low (same-order high)
all-max-above high low (Some slack) =
    max-above high (int_max (int_max high low) slack.flood_add) slack.ebb_add
    (max-above high (int_max high low) slack.flood_add (max-above high high low (same-order high)))

pub greatest-small : (b : Basis) → HasOffsets b → unsigned_abs (greatest_add b) ≤ 1440
greatest-small b offsets = all-max-small b.high.add b.low.add b.slack (add-small _ offsets.high.add)
    (add-small _ offsets.low.add) offsets.slack

pub greatest-high : (b : Basis) → b.high.add ≤ℤ greatest_add b
greatest-high b = all-max-above b.high.add b.low.add b.slack

-- the least
all-min-small : (high low : ℤ) (o : Option Slack) → unsigned_abs high ≤ 1440 → unsigned_abs low ≤ 1440 → ForSome o IsSlack
    → unsigned_abs (fold int_min high (low ∷ slack_adds o)) ≤ 1440
all-min-small high low None first second adds = min-small high low first second
all-min-small high low (Some slack) first second adds =
    let added = adds slack refl in
    min-small (int_min (int_min high low) slack.flood_add) slack.ebb_add
    (min-small (int_min high low) slack.flood_add (min-small high low first second) (add-small _ added.flood_add)) (add-small _ added.ebb_add)

all-min-below : (high low : ℤ) (o : Option Slack) → fold int_min high (low ∷ slack_adds o) ≤ℤ high
all-min-below high low None = min-below high high low (same-order high)
all-min-below high low (Some slack) =
    min-below high (int_min (int_min high low) slack.flood_add) slack.ebb_add
    (min-below high (int_min high low) slack.flood_add (min-below high high low (same-order high)))

pub least-small : (b : Basis) → HasOffsets b → unsigned_abs (least_add b) ≤ 1440
least-small b offsets = all-min-small b.high.add b.low.add b.slack (add-small _ offsets.high.add)
    (add-small _ offsets.low.add) offsets.slack

pub least-high : (b : Basis) → least_add b ≤ℤ b.high.add
least-high b = all-min-below b.high.add b.low.add b.slack

-- ---- a minute moved back

-- a minute less an offset's minutes, as the code computes it
pub record IsMovedBack (minute add read : ℤ) : Type 0 where
  pub fits : FitsSigned w64 (to_z w64 (of_z w64 minute) -ℤ to_z w64 (of_z w64 read))
  pub kept : to_z w64 (of_z w64 (to_z w64 (of_z w64 minute) -ℤ to_z w64 (of_z w64 read))) ≡ minute -ℤ add

small-back : (minute add : ℤ) → unsigned_abs minute ≤ 10 ^ 12 → FitsSigned w32 add → IsMovedBack minute add add
small-back minute add early fits = record { fits = omega (arith, ints, early, fits); kept = omega (arith, ints, early, fits) }

pub moved-back : (minute add read : ℤ) → read ≡ to_z w32 (of_z w32 add) → unsigned_abs minute ≤ 10 ^ 12
    → FitsSigned w32 add → IsMovedBack minute add read
moved-back minute add read is early fits = rw (is, to_z-of_z w32 add fits) (small-back minute add early fits)

pub back-forward : (begin end most least high : ℤ) → begin ≤ℤ end → high ≤ℤ most → least ≤ℤ high
    → (begin -ℤ most) ≤ℤ (end -ℤ least)
back-forward begin end most least high forward above below = omega (arith, ints)

pub back-near : (minute add : ℤ) → unsigned_abs add ≤ 1440 → unsigned_abs ((minute -ℤ add) -ℤ minute) ≤ 1440
back-near minute add small = omega (arith, ints, small)

pub back-few : (begin end most least : ℤ) → begin ≤ℤ end → unsigned_abs most ≤ 1440 → unsigned_abs least ≤ 1440
    → unsigned_abs ((end -ℤ least) -ℤ (begin -ℤ most)) ≤ unsigned_abs (end -ℤ begin) + 2880
back-few begin end most least forward first last = omega (arith, ints, forward, first, last)
