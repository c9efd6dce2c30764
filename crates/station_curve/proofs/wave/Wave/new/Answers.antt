use Rattle.std.proofs.Common.{◌/◌, ◌^◌, pos, arith, lit<}
use mir.Syntax.{w64}
use Rattle.station_curve.proofs.Products.{small_fits, times_fits}
use Rattle.station_curve.proofs.wave.Wave.new.Goals as goal

pub overflow_cast-result : goal.overflow_cast-result
overflow_cast-result c = small_fits w64 (pos c.args.speed) 3600000000 c.requires.speed (lit< tt)

pub overflow_mul-result : goal.overflow_mul-result
overflow_mul-result c =
    times_fits w64 c.args.amplitude (pos c.args.speed) (10 ^ 9) 3600000000
    c.requires.amplitude c.requires.speed (lit< tt) (lit< tt) (lit< tt)

pub overflow_mul-result-2 : goal.overflow_mul-result-2
overflow_mul-result-2 c =
    times_fits w64 c.args.amplitude (pos (c.args.speed / 512)) (10 ^ 9) 3600000000
    c.requires.amplitude (omega (arith, c.requires.speed)) (lit< tt) (lit< tt) (lit< tt)
