-- The cells made for a span by halving, block by block and half by half.
use Rattle.std.proofs.Common.{◌≡◌, ℕ, ◌-◌, ◌/◌, ◌≤◌, ◌<◌, ℤ, pos, ◌+ℤ◌, true, false, nat_le, [], ◌∷◌, ◌++◌, map, refl, ap, ◌∙◌, arith}
use Rattle.std.proofs.lemmas.Bool.Decides.{nat_tests}
use Rattle.std.proofs.lemmas.List.{map-append}
use Rattle.curve_law.specs.CurveSpec.{CurveSpec}
use Rattle.curve_law.specs.Pieces.{stays_whole, halves_within, pieces_of_block, blocks_within, pieces_of}
use Rattle.curve_law.specs.declared.quiet.TheConstants.{MOST_MINUTES}
use Rattle.curve_law.proofs.CoverLemmas.{block-whole, block-halves, pieces-last, pieces-block}
use Rattle.highest_water.specs.declared.peak_cell.PeakCell.TheVariants.{Under, Single}
use Rattle.highest_water.specs.Covers.{is_under, cell_of, peak_split, peak_cover}
use Rattle.highest_water.proofs.UnderLemmas.{under-two}

pub split-one : (c : CurveSpec) (at value a : ℤ) → peak_split c at value a 1 ≡ Single ∷ []
unfolding peak_split pieces_of_block halves_within
split-one c at value a = refl

pub split-under : (c : CurveSpec) (at value a : ℤ) (n : ℕ) → is_under c at value a n ≡ true → peak_split c at value a n ≡ Under n ∷ []
unfolding peak_split
split-under c at value a n under =
    let two = under-two c at value a n under in
    let more : nat_le n 1 ≡ false = grind (arith, nat_tests) in
    let whole : stays_whole (is_under c at value) a n ≡ true = rw (more, under) refl in
    rw (block-whole (is_under c at value) a n (omega arith) whole, more) refl

pub split-halves : (c : CurveSpec) (at value a : ℤ) (n : ℕ) → 2 ≤ n → is_under c at value a n ≡ false → peak_split c
    at value a n ≡ peak_split c at value a (n / 2) ++ peak_split c at value (a +ℤ pos (n / 2)) (n - n / 2)
unfolding peak_split
split-halves c at value a n two other =
    let more : nat_le n 1 ≡ false = grind (arith, nat_tests) in
    let halve : stays_whole (is_under c at value) a n ≡ false = rw (more, other) refl in
    ap (map cell_of) (block-halves (is_under c at value) a n halve) ∙ map-append cell_of _ _

pub cover-none : (c : CurveSpec) (at value a : ℤ) → peak_cover c at value a 0 ≡ []
unfolding peak_cover pieces_of blocks_within
cover-none c at value a = refl

pub cover-last : (c : CurveSpec) (at value a : ℤ) (n : ℕ) → n ≤ MOST_MINUTES → peak_cover c at value a n ≡ peak_split c at value a n
unfolding peak_cover peak_split
cover-last c at value a n few = ap (map cell_of) (pieces-last (is_under c at value) a n few)

pub cover-block : (c : CurveSpec) (at value a : ℤ) (n : ℕ) → MOST_MINUTES < n → peak_cover c at value a n ≡ peak_split c
    at value a MOST_MINUTES ++ peak_cover c at value (a +ℤ pos MOST_MINUTES) (n - MOST_MINUTES)
unfolding peak_cover peak_split
cover-block c at value a n more = ap (map cell_of) (pieces-block (is_under c at value) a n more) ∙ map-append cell_of _ _
