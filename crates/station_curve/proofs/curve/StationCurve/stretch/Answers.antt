use Rattle.std.proofs.Common.{◌≡◌, pos, ◌+ℤ◌, arith}
use Rattle.std.proofs.lemmas.Int.{ints, to_z-of_z}
use mir.Syntax.{w64}
use mir.Val.{to_z, of_z}
use Rattle.station_curve.proofs.Around.{around_within}
use Rattle.station_curve.proofs.Ready.{first_year_of}
use Rattle.station_curve.proofs.Ranges.{in_domain, minute_small}
use Rattle.station_curve.proofs.curve.StationCurve.stretch.Goals as goal

pub overflow_add-m : goal.overflow_add-m
overflow_add-m c =
    let small = minute_small c.args.self.now c.args.m c.limits_hold.ensures c.requires.first in
    omega (arith, ints, small, c.requires.length_bound, c.from.ensures)

pub year_around-requires-clause-last : goal.year_around-requires-clause-last
year_around-requires-clause-last c =
    let small = minute_small c.args.self.now c.args.m c.limits_hold.ensures c.requires.first in
    let same = to_z-of_z w64 c.args.m c.ranges.m in
    let end : to_z w64 (of_z w64 (c.args.m +ℤ to_z w64 (of_z w64 c.from.result))) ≡ c.args.m +ℤ pos c.args.n =
    omega (arith, ints, small, c.requires.length_bound, c.from.ensures) in
    rw (same, end) c.requires.last

pub returns-in-Some : goal.returns-in-Some
returns-in-Some c =
    let b = c.args.self.now.book in
    let small = minute_small c.args.self.now c.args.m c.limits_hold.ensures c.requires.first in
    let same = to_z-of_z w64 c.args.m c.ranges.m in
    let end : to_z w64 (of_z w64 (c.args.m +ℤ to_z w64 (of_z w64 c.from.result))) ≡ c.args.m +ℤ pos c.args.n =
    omega (arith, ints, small, c.requires.length_bound, c.from.ensures) in
    around_within b.first_year b.years c.args.m c.args.n c.in-Some.year c.limits_hold.ensures.limits.times.years.least
    (rw (same, end) at c.in-Some.ensures)

pub returns-in-None : goal.returns-in-None
returns-in-None c =
    let first = first_year_of c.self.inside c.args.self.now c.self.invariant c.self.view_is in
    rw (first, c.years.ensures, to_z-of_z w64 c.args.m c.ranges.m) at c.stretch.ensures.value

pub year_around-requires-clause-first : goal.year_around-requires-clause-first
year_around-requires-clause-first c = rw (to_z-of_z w64 c.args.m c.ranges.m) c.requires.first

pub stretch-requires-clause-years : goal.stretch-requires-clause-years
stretch-requires-clause-years c =
    rw (first_year_of c.self.inside c.args.self.now c.self.invariant c.self.view_is, c.years.ensures) c.limits_hold.ensures.limits.times.years

pub stretch-requires-clause-first : goal.stretch-requires-clause-first
stretch-requires-clause-first c =
    let first = first_year_of c.self.inside c.args.self.now c.self.invariant c.self.view_is in
    rw (first, c.years.ensures, to_z-of_z w64 c.args.m c.ranges.m)
    (in_domain c.args.self.now c.args.m c.limits_hold.ensures c.requires.first)

pub stretch-requires-clause-last : goal.stretch-requires-clause-last
stretch-requires-clause-last c =
    let first = first_year_of c.self.inside c.args.self.now c.self.invariant c.self.view_is in
    rw (first, c.years.ensures, to_z-of_z w64 c.args.m c.ranges.m)
    (in_domain c.args.self.now _ c.limits_hold.ensures c.requires.last)
