use Rattle.std.proofs.Common.{◌≡◌, ℕ, ℤ, sym, arith, ℕ, ℤ}
use Rattle.std.proofs.lemmas.Int.{ints, to_z-of_z}
use mir.Syntax.{w64}
use Rattle.station_curve.proofs.Around.{around_plain}
use Rattle.std.specs.Prelude.{Option, Some, None}
use Rattle.year_blend.specs.declared.parts.Place.{Place}
use Rattle.year_blend.specs.declared.parts.Place.TheVariants.{Plain}
use Rattle.station_curve.proofs.Ready.{first_year_of, domain_of, used_at, years_of, valid_of}
use Rattle.station_curve.specs.Workings.NumberRanges.{IsPlaceUsed, IsPlainYear, IsPlainYearOf}
use Rattle.station_curve.specs.Curves.{Prediction}
use Rattle.year_blend.specs.Places.{place_of}
use Rattle.station_curve.proofs.curve.StationCurve.plain_year.Goals as goal

pub returns-in-Some-clause-year : goal.returns-in-Some-clause-year
returns-in-Some-clause-year c =
    let b = c.args.self.now.book in
    let years = years_of c.self.inside c.args.self.now c.self.invariant c.self.view_is in
    let around = rw (to_z-of_z w64 c.args.m c.ranges.m) at c.in-Some.ensures in
    let place = sym (around_plain b.first_year b.years c.args.m c.args.m c.in-Some.year years.least (omega (arith, ints)) around) in
    (place, used_at c.self.inside c.args.self.now c.args.m _ c.self.invariant c.self.view_is c.requires place)

pub returns-in-None-clause-year : goal.returns-in-None-clause-year
returns-in-None-clause-year c =
    let first = first_year_of c.self.inside c.args.self.now c.self.invariant c.self.view_is in
    plain_by c.args.self.now c.args.m c.calendar_year_of.result
    (λ p. used_at c.self.inside c.args.self.now c.args.m p c.self.invariant c.self.view_is c.requires)
    (rw (first, c.years.ensures, to_z-of_z w64 c.args.m c.ranges.m) at c.calendar_year_of.ensures)
  where
    plain_by : (c : Prediction) (m : ℤ) (result : Option ℕ)
        → ((p : Place) → p ≡ place_of c.book.first_year c.book.years m → IsPlaceUsed c m p)
        → IsPlainYear c.book.first_year c.book.years m result → IsPlainYearOf c m result
    plain_by c m (Some year) used plain = (plain.0, used (Plain year) plain.0)
    plain_by c m None used blend = blend

pub returns-in-Some-clause-valid : goal.returns-in-Some-clause-valid
returns-in-Some-clause-valid c = valid_of c.self.inside c.args.self.now c.self.invariant c.self.view_is

pub returns-in-None-clause-valid : goal.returns-in-None-clause-valid
returns-in-None-clause-valid c = valid_of c.self.inside c.args.self.now c.self.invariant c.self.view_is

pub year_around-requires-clause-first : goal.year_around-requires-clause-first
year_around-requires-clause-first c = rw (to_z-of_z w64 c.args.m c.ranges.m) c.requires

pub year_around-requires-clause-last : goal.year_around-requires-clause-last
year_around-requires-clause-last c = rw (to_z-of_z w64 c.args.m c.ranges.m) c.requires

pub calendar_year_of-requires-clause-years : goal.calendar_year_of-requires-clause-years
calendar_year_of-requires-clause-years c =
    let first = first_year_of c.self.inside c.args.self.now c.self.invariant c.self.view_is in
    rw (first, c.years.ensures) (years_of c.self.inside c.args.self.now c.self.invariant c.self.view_is)

pub calendar_year_of-requires-clause-domain : goal.calendar_year_of-requires-clause-domain
calendar_year_of-requires-clause-domain c =
    let first = first_year_of c.self.inside c.args.self.now c.self.invariant c.self.view_is in
    rw (first, c.years.ensures, to_z-of_z w64 c.args.m c.ranges.m) (domain_of c.self.inside c.args.self.now c.args.m c.self.invariant c.self.view_is c.requires)
