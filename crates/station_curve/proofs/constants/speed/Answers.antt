use Rattle.std.proofs.Common.{◌≡◌, ◌∙◌, arith, lit<}
use Rattle.std.proofs.lemmas.Int.{ints}
use mir.Syntax.{w64}
use mir.Val.{to_z, of_z}
use Rattle.station_curve.proofs.Products.{cast_small, abs_within, pos_abs}
use Rattle.station_curve.proofs.BookValues.{constituent_speed, speed_range, speed_within}
use Rattle.station_curve.proofs.constants.speed.Goals as goal

pub overflow_cast-result : goal.overflow_cast-result
overflow_cast-result c =
    let element = c.index-as_slice-k.result in
    let at = rw (c.as_slice.ensures, c.get.ensures.exact) at c.index-as_slice-k.is in
    let range = speed_within c.args.book.now element c.args.k c.get.ensures.valid c.requires.place at in
    let small = abs_within element.speed 0 3600000000 range.least range.most in
    let same : to_z w64 (of_z w64 element.speed) ≡ element.speed = cast_small w64 element.speed 3600000000 small (lit< tt) in
    rw same (omega (arith, ints, range.least), omega (arith, small))

pub returns-clause-value : goal.returns-clause-value
returns-clause-value c =
    let element = c.index-as_slice-k.result in
    let at = rw (c.as_slice.ensures, c.get.ensures.exact) at c.index-as_slice-k.is in
    let range = speed_within c.args.book.now element c.args.k c.get.ensures.valid c.requires.place at in
    let small = abs_within element.speed 0 3600000000 range.least range.most in
    let same : to_z w64 (of_z w64 element.speed) ≡ element.speed = cast_small w64 element.speed 3600000000 small (lit< tt) in
    rw same (pos_abs element.speed range.least ∙ constituent_speed c.args.book.now element c.args.k c.requires.place at)

pub returns-clause-size : goal.returns-clause-size
returns-clause-size c =
    let range = speed_range c.args.book.now c.args.k c.get.ensures.valid c.requires.place in
    omega (arith, ints, returns-clause-value c, range.1)
