use Rattle.std.proofs.Common.{w64, ◌≡◌, ◌^◌, get_or, pos, lit<}
use Rattle.std.specs.Prelude.{unsigned_abs}
use Rattle.station_curve.proofs.BookValues.{station_amplitude}
use Rattle.station_curve.proofs.Products.{cast_small}
use Rattle.station_curve.proofs.YearLimits.{amplitude-most, factors-length, factors-range}
use Rattle.station_curve.proofs.year_limits.greatest_size.Goals as goal

pub greatest_of-requires : goal.greatest_of-requires
greatest_of-requires c =
    rw c.factors_of.ensures.value (factors-range c.args.book.now c.args.k c.factors_of.ensures.valid c.requires.place)

pub returns-clause-value : goal.returns-clause-value
returns-clause-value c year in_years =
    let b = c.args.book.now in
    let amplitude = get_or c.args.station.now.amplitude c.args.k (pos 0) in
    let small = station_amplitude _ c.args.station.now c.args.k c.requires.station c.requires.place in
    let same = cast_small w64 amplitude (10 ^ 10) small (lit< tt) in
    let size : c.unsigned_abs-size.result ≡ unsigned_abs amplitude = rw (c.as_slice.ensures, same) at c.unsigned_abs-size.ensures.value in
    let greatest = rw c.factors_of.ensures.value at c.greatest_of.ensures.value in
    rw size (amplitude-most b c.args.station.now c.args.k c.greatest_of.result c.factors_of.ensures.valid c.requires.place
    (λ place within. greatest place (factors-length b c.args.k place c.factors_of.ensures.valid c.requires.place within)) year in_years)
