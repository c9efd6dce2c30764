-- The number of minutes of the first cells.
use Rattle.std.proofs.Common.{◌≡◌, ℕ, ◌+◌, ◌-◌, ◌^◌, ◌<◌, min, w64, ℤ, pos, ◌+ℤ◌, List, [], ◌∷◌, get_or, take, length, refl, arith}
use Rattle.std.specs.Int.{saturate_signed}
use Rattle.std.proofs.lemmas.Int.{to_z-of_z}
use Rattle.std.proofs.lemmas.List.{take_more}
use Rattle.curve_law.specs.declared.cell.Cell.{Cell}
use Rattle.curve_law.specs.Cells.{minutes_of, all_minutes}
use Rattle.curve_law.proofs.AcceptedLemmas.{all_minutes-append}

pub covered-none : pos 0 ≡ pos (min (all_minutes []) (2 ^ 63 - 1))
unfolding all_minutes
covered-none = refl

-- a sum that saturates
saturated : (a m : ℕ) → saturate_signed w64 (pos (min a (2 ^ 63 - 1)) +ℤ pos m) ≡ pos (min (a + m) (2 ^ 63 - 1))
saturated a m = grind arith

minutes-take : (cells : List Cell) (i : ℕ) (d : Cell) → i < length cells
    → all_minutes (take (i + 1) cells) ≡ all_minutes (take i cells) + minutes_of (get_or cells i d)
unfolding all_minutes
minutes-take cells i d some =
    rw (take_more cells i d some) (omega (arith, all_minutes-append (take i cells) (get_or cells i d ∷ [])))

pub covered-more : (cells : List Cell) (i : ℕ) (d : Cell) (covered : ℤ) → i < length cells
    → covered ≡ pos (min (all_minutes (take i cells)) (2 ^ 63 - 1))
    → saturate_signed w64 (covered +ℤ pos (minutes_of (get_or cells i d)))
    ≡ pos (min (all_minutes (take (i + 1) cells)) (2 ^ 63 - 1))
covered-more cells i d covered some so_far =
    rw (so_far, minutes-take cells i d some) (saturated (all_minutes (take i cells)) (minutes_of (get_or cells i d)))

pub ruleset covering = (to_z-of_z, covered-none, covered-more)
