-- Sums over waves, one wave after another.
use Rattle.std.proofs.Common.{◌≡◌, ℕ, ◌+◌, ◌*◌, ◌^◌, ◌<◌, ◌≤◌, List, [], ◌∷◌, length, get_or, take, ℤ, pos, ◌+ℤ◌, FitsSigned, refl, sym, ap, ◌∙◌, arith}
use Rattle.std.specs.Prelude.{unsigned_abs, fold, sum_by}
use Rattle.std.proofs.lemmas.List.Sums.{fold_more, sum_by_more, sum_by-take-le}
use Rattle.std.proofs.lemmas.Nat.{mul-le}
use mir.Syntax.{Width}
use mir.Val.{to_z, of_z, hbits}
use Rattle.station_curve.specs.Waves.{WaveSpec}
use Rattle.station_curve.proofs.Products.{cast_small, small_fits, abs_plus}

-- the size of a wave's amplitude, and that size times the speed
abbrev pub amplitude_size : WaveSpec → ℕ
amplitude_size h = unsigned_abs h.amplitude

abbrev pub steepness_size : WaveSpec → ℕ
steepness_size h = unsigned_abs h.amplitude * h.speed

-- the sum with one more part, as it is computed: no part is larger than `most` times its size
pub record IsMore (w : Width) (f : WaveSpec → ℤ) (size : WaveSpec → ℕ) (most : ℕ) (hs : List WaveSpec) (i : ℕ) (sum part : ℤ) : Type 0 where
  pub fits : FitsSigned w (sum +ℤ to_z w (of_z w part))
  pub value : to_z w (of_z w (sum +ℤ to_z w (of_z w part))) ≡ fold (λ sum h. sum +ℤ f h) (pos 0) (take (i + 1) hs)
  pub bound : unsigned_abs (to_z w (of_z w (sum +ℤ to_z w (of_z w part)))) ≤ most * sum_by size (take (i + 1) hs)

pub one_more : (w : Width) (f : WaveSpec → ℤ) (size : WaveSpec → ℕ) (most limit : ℕ) (hs : List WaveSpec) (i : ℕ) (h : WaveSpec)
    (sum part : ℤ) → i < length hs → h ≡ get_or hs i h → sum_by size hs ≤ limit → most * limit < 2 ^ hbits w
    → sum ≡ fold (λ sum h. sum +ℤ f h) (pos 0) (take i hs) → unsigned_abs sum ≤ most * sum_by size (take i hs)
    → part ≡ f h → unsigned_abs part ≤ most * size h → IsMore w f size most hs i sum part
one_more w f size most limit hs i h sum part inside at within fits is small part_is part_small =
    let read = sum_by size (take i hs) in
    let sizes : sum_by size (take (i + 1) hs) ≡ read + size h = sum_by_more size hs i h inside ∙ ap (λ h. read + size h) (sym at) in
    let few : read + size h ≤ limit = omega (arith, sum_by-take-le size hs (i + 1), sizes, within) in
    let parts : most * (read + size h) ≡ most * read + most * size h = omega arith in
    let below : most * read + most * size h < 2 ^ hbits w =
    omega (arith, mul-le most (read + size h) most limit (omega arith) few, parts, fits) in
    let kept = cast_small w part (most * size h) part_small (omega arith) in
    let both = abs_plus sum part (most * read) (most * size h) small part_small in
    let same : to_z w (of_z w (sum +ℤ to_z w (of_z w part))) ≡ sum +ℤ part =
    rw kept (cast_small w (sum +ℤ part) (most * read + most * size h) both below) in
    record {
      fits = rw kept (small_fits w (sum +ℤ part) (most * read + most * size h) both below);
      value = same ∙ ap (λ z. z +ℤ part) is ∙ ap (λ z. fold (λ sum h. sum +ℤ f h) (pos 0) (take i hs) +ℤ z) (part_is ∙ ap f at)
          ∙ sym (fold_more (λ sum h. sum +ℤ f h) (pos 0) hs i h inside);
      bound = rw (same, sizes, parts) both;
    }

-- the sum over all waves is within a bound
pub all_within : (size : WaveSpec → ℕ) (most limit : ℕ) (hs : List WaveSpec) (i : ℕ) (sum : ℤ)
    → unsigned_abs sum ≤ most * sum_by size (take i hs) → sum_by size hs ≤ limit → unsigned_abs sum ≤ most * limit
all_within size most limit hs i sum small within =
    let few : sum_by size (take i hs) ≤ limit = omega (arith, sum_by-take-le size hs i, within) in
    omega (arith, mul-le most (sum_by size (take i hs)) most limit (omega arith) few, small)

-- a sum of parts that aren't negative
counted : (g : WaveSpec → ℕ) (hs : List WaveSpec) (a : ℕ)
    → fold (λ sum h. sum +ℤ pos (g h)) (pos a) hs ≡ pos (fold (λ sum h. sum + g h) a hs)
counted g [] a = refl
counted g (h ∷ hs) a = counted g hs (a + g h)

pub record IsSizeMore (w : Width) (g size : WaveSpec → ℕ) (most : ℕ) (hs : List WaveSpec) (i : ℕ) (sum part : ℤ) : Type 0 where
  pub fits : FitsSigned w (sum +ℤ to_z w (of_z w part))
  pub value : to_z w (of_z w (sum +ℤ to_z w (of_z w part))) ≡ pos (sum_by g (take (i + 1) hs))
  pub bound : sum_by g (take (i + 1) hs) ≤ most * sum_by size (take (i + 1) hs)

pub one_more_size : (w : Width) (g size : WaveSpec → ℕ) (most limit : ℕ) (hs : List WaveSpec) (i : ℕ) (h : WaveSpec)
    (sum part : ℤ) → i < length hs → h ≡ get_or hs i h → sum_by size hs ≤ limit → most * limit < 2 ^ hbits w
    → sum ≡ pos (sum_by g (take i hs)) → sum_by g (take i hs) ≤ most * sum_by size (take i hs)
    → part ≡ pos (g h) → g h ≤ most * size h → IsSizeMore w g size most hs i sum part
one_more_size w g size most limit hs i h sum part inside at within fits is small part_is part_small =
    let more = one_more w (λ h. pos (g h)) size most limit hs i h sum part inside at within fits
    (is ∙ sym (counted g (take i hs) 0)) (rw is small) part_is (rw part_is part_small) in
    let value = more.value ∙ counted g (take (i + 1) hs) 0 in
    record { fits = more.fits; value = value; bound = rw value at more.bound }
