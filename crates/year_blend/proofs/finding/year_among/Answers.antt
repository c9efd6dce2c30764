use Rattle.std.proofs.Common.{◌≡◌, ◌+ℤ◌, ◌-ℤ◌, pos, unsigned_abs, to_z, of_z, w32, w64, sym, arith}
use Rattle.std.proofs.lemmas.Int.{ints, to_z-of_z}
use Rattle.year_blend.proofs.PlaceLemmas.{domain_small, first_by_calendar, year_at-calendar}
use Rattle.year_blend.proofs.finding.year_among.Goals as goal

pub year_of_minute-requires : goal.year_of_minute-requires
year_of_minute-requires c =
    rw (to_z-of_z w64 c.args.m c.ranges.m)
    (domain_small c.args.first_year c.args.years c.args.m c.requires.years c.requires.domain)

pub overflow_cast-year : goal.overflow_cast-year
overflow_cast-year c =
    let minute = to_z-of_z w64 c.args.m c.ranges.m in
    let from = first_by_calendar c.args.first_year c.args.years c.args.m c.year_of_minute.result c.requires.years
    c.requires.domain c.year_of_minute.ensures.year (rw minute at c.year_of_minute.ensures.ongoing) in
    grind (arith, ints)

pub returns-clause-value : goal.returns-clause-value
returns-clause-value c =
    let minute = to_z-of_z w64 c.args.m c.ranges.m in
    let from = first_by_calendar c.args.first_year c.args.years c.args.m c.year_of_minute.result c.requires.years
    c.requires.domain c.year_of_minute.ensures.year (rw minute at c.year_of_minute.ensures.ongoing) in
    let distance : c.args.first_year
    +ℤ pos (unsigned_abs (to_z w32 (of_z w32 (to_z w32 (of_z w32 c.year_of_minute.result) -ℤ to_z w32 (of_z w32 c.args.first_year)))))
    ≡ c.year_of_minute.result =
    omega (arith, ints)
    in
    sym (year_at-calendar c.args.first_year c.args.years c.args.m c.year_of_minute.result _ c.min.result
    c.requires.years distance c.year_of_minute.ensures.year
    (rw minute at c.year_of_minute.ensures.begun) (rw minute at c.year_of_minute.ensures.ongoing) c.min.ensures)
