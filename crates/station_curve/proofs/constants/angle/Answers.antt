use Rattle.std.proofs.Common.{◌≡◌, ◌+◌, ◌*◌, ◌≤◌, pos, ◌+ℤ◌, ◌-ℤ◌, ◌*ℤ◌, arith, lit<, lit≤}
use Rattle.std.specs.Prelude.{unsigned_abs}
use Rattle.std.proofs.lemmas.Int.{fits_signed_mul}
use mir.Syntax.{w64}
use mir.Val.{to_z, of_z}
use Rattle.station_curve.proofs.Products.{cast_small, small_fits, times, times_fits, abs_times, abs_plus, abs_minus, minus, minus_fits}
use Rattle.station_curve.proofs.constants.angle.Goals as goal
use Rattle.station_curve.proofs.constants.angle.Goals.{Start}

width : (c : Start) → unsigned_abs (c.args.argument -ℤ c.args.epoch) ≤ 14400000000
width c = abs_minus c.args.argument c.args.epoch 7200000000 7200000000 c.requires.argument c.requires.epoch

sweep : (c : Start) → to_z w64 (of_z w64 (to_z w64 (of_z w64 c.args.speed) *ℤ to_z w64 (of_z w64 c.args.minutes)))
    ≡ c.args.speed *ℤ c.args.minutes
sweep c =
    times w64 c.args.speed c.args.minutes 3600000000 1100 c.requires.speed c.requires.minutes (lit< tt) (lit< tt) (lit< tt)

apart : (c : Start) → to_z w64 (of_z w64 (to_z w64 (of_z w64 c.args.argument) -ℤ to_z w64 (of_z w64 c.args.epoch)))
    ≡ c.args.argument -ℤ c.args.epoch
apart c = minus w64 c.args.argument c.args.epoch 7200000000 7200000000 c.requires.argument c.requires.epoch (lit< tt)

turned : (c : Start) → unsigned_abs (pos 60 *ℤ (c.args.argument -ℤ c.args.epoch)) ≤ 60 * 14400000000
turned c = abs_times (pos 60) (c.args.argument -ℤ c.args.epoch) 60 14400000000 (lit≤ tt) (width c)

turn : (c : Start) → to_z w64 (of_z w64 (pos 60 *ℤ (c.args.argument -ℤ c.args.epoch))) ≡ pos 60 *ℤ (c.args.argument -ℤ c.args.epoch)
turn c = cast_small w64 (pos 60 *ℤ (c.args.argument -ℤ c.args.epoch)) (60 * 14400000000) (turned c) (lit< tt)

sum_size : (c : Start) → unsigned_abs ((c.args.speed *ℤ c.args.minutes) +ℤ (pos 60 *ℤ (c.args.argument -ℤ c.args.epoch)))
    ≤ 3600000000 * 1100 + 60 * 14400000000
sum_size c =
    abs_plus (c.args.speed *ℤ c.args.minutes) (pos 60 *ℤ (c.args.argument -ℤ c.args.epoch)) (3600000000 * 1100) (60 * 14400000000)
    (abs_times c.args.speed c.args.minutes 3600000000 1100 c.requires.speed c.requires.minutes) (turned c)

pub overflow_mul-result : goal.overflow_mul-result
overflow_mul-result c =
    times_fits w64 c.args.speed c.args.minutes 3600000000 1100 c.requires.speed c.requires.minutes (lit< tt) (lit< tt) (lit< tt)

pub overflow_sub-result : goal.overflow_sub-result
overflow_sub-result c =
    minus_fits w64 c.args.argument c.args.epoch 7200000000 7200000000 c.requires.argument c.requires.epoch (lit< tt)

pub overflow_mul-result-2 : goal.overflow_mul-result-2
overflow_mul-result-2 c =
    rw (apart c) (fits_signed_mul w64 (pos 60) (c.args.argument -ℤ c.args.epoch) 60 14400000000 (lit≤ tt) (width c) (lit< tt))

pub overflow_add-result : goal.overflow_add-result
overflow_add-result c =
    rw (sweep c, apart c, turn c) (small_fits w64 _ (3600000000 * 1100 + 60 * 14400000000) (sum_size c) (lit< tt))

pub returns-clause-value : goal.returns-clause-value
returns-clause-value c =
    rw (sweep c, apart c, turn c) (cast_small w64 _ (3600000000 * 1100 + 60 * 14400000000) (sum_size c) (lit< tt))

pub returns-clause-size : goal.returns-clause-size
returns-clause-size c = rw (returns-clause-value c) (omega (arith, sum_size c))
