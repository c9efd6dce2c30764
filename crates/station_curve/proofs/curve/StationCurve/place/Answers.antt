use Rattle.std.proofs.lemmas.Int.{to_z-of_z}
use mir.Syntax.{w64}
use Rattle.station_curve.proofs.Ready.{first_year_of, domain_of, used_at, years_of}
use Rattle.station_curve.proofs.curve.StationCurve.place.Goals as goal

pub returns-in-Some-clause-value : goal.returns-in-Some-clause-value
returns-in-Some-clause-value c = (rw (to_z-of_z w64 c.args.m c.ranges.m) at c.in-Some.ensures.year).0

pub returns-in-Some-clause-used : goal.returns-in-Some-clause-used
returns-in-Some-clause-used c = (rw (to_z-of_z w64 c.args.m c.ranges.m) at c.in-Some.ensures.year).1

pub returns-in-None-clause-value : goal.returns-in-None-clause-value
returns-in-None-clause-value c =
    let first = first_year_of c.self.inside c.args.self.now c.self.invariant c.self.view_is in
    rw (first, c.years.ensures, to_z-of_z w64 c.args.m c.ranges.m) at c.place.ensures.value

pub returns-in-None-clause-used : goal.returns-in-None-clause-used
returns-in-None-clause-used c =
    used_at c.self.inside c.args.self.now c.args.m _ c.self.invariant c.self.view_is c.requires (returns-in-None-clause-value c)

pub place-requires-clause-years : goal.place-requires-clause-years
place-requires-clause-years c =
    rw (first_year_of c.self.inside c.args.self.now c.self.invariant c.self.view_is, c.years.ensures)
    (years_of c.self.inside c.args.self.now c.self.invariant c.self.view_is)

pub place-requires-clause-domain : goal.place-requires-clause-domain
place-requires-clause-domain c =
    let first = first_year_of c.self.inside c.args.self.now c.self.invariant c.self.view_is in
    rw (first, c.years.ensures, to_z-of_z w64 c.args.m c.ranges.m) (domain_of c.self.inside c.args.self.now c.args.m c.self.invariant c.self.view_is c.requires)
