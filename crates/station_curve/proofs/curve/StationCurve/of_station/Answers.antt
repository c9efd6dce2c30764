use Rattle.std.proofs.Common.{◌^◌, ◌≤◌, ℤ, Ok, sym, ap, ◌∙◌, arith}
use Rattle.std.specs.Prelude.{unsigned_abs}
use Rattle.harmonics_book.specs.declared.book.Book.{Book}
use Rattle.harmonics_book.specs.Books.{IsBook}
use Rattle.year_blend.specs.Places.{InDomain}
use Rattle.year_blend.proofs.PlaceLemmas.{domain_small}
use Rattle.station_curve.proofs.WithinLimits.{times_of}
use Rattle.station_curve.proofs.Answering.{hydraulic_answer, ok_answer, fault_answer}
use Rattle.station_curve.proofs.curve.StationCurve.of_station.Goals as goal

-- minutes of a book's years are small
small : (b : Book) (m : ℤ) → IsBook b → InDomain b.first_year b.years m → unsigned_abs m ≤ 10 ^ 12
small b m book domain = omega (arith, domain_small b.first_year b.years m (times_of b book).years domain)

pub years_of-requires-clause-first : goal.years_of-requires-clause-first
years_of-requires-clause-first c = small c.args.book.now c.args.minute_range.first c.requires.book c.requires.first

pub years_of-requires-clause-last : goal.years_of-requires-clause-last
years_of-requires-clause-last c = small c.args.book.now c.args.minute_range.last c.requires.book c.requires.last

pub returns-then-is_hydraulic : goal.returns-then-is_hydraulic
returns-then-is_hydraulic c = hydraulic_answer c.args.book.now c.args.station.now c.args.minute_range.first
    c.args.minute_range.last (sym c.if-is_hydraulic.ensures)

pub returns-in-Err : goal.returns-in-Err
returns-in-Err c = fault_answer c.args.book.now c.args.station.now c.args.minute_range.first
    c.args.minute_range.last c.in-Err.fault (sym c.if-is_hydraulic.ensures) c.in-Err.ensures

pub returns-in-Ok : goal.returns-in-Ok
returns-in-Ok c =
    ok_answer c.args.book.now c.args.station.now c.args.minute_range.first c.args.minute_range.last
    (sym c.if-is_hydraulic.ensures) c.in-Ok.ensures.within ∙ ap Ok (sym c.of_years.ensures)
