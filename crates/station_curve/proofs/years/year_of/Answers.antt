use Rattle.std.proofs.Common.{add-one, ap, inr, ◌∙◌}
use Rattle.year_blend.specs.Years.{year_start_of}
use Rattle.station_curve.proofs.WithinLimits.{asked-amount, asked-steepness, asked-over, sums-present}
use Rattle.station_curve.proofs.Touched.{touched_by_ends}
use Rattle.station_curve.proofs.WavesOf.{none_fault}
use Rattle.station_curve.proofs.ReadyYears.{start_cast, start_in_range}
use Rattle.station_curve.specs.Sums.{sums_of}
use Rattle.station_curve.specs.Curves.{waves_over}
use Rattle.station_curve.proofs.years.year_of.Goals as goal

pub touches-is_asked-requires-clause-end : goal.touches-is_asked-requires-clause-end
touches-is_asked-requires-clause-end c =
    start_in_range c.calendar_year-2.result c.year_start-end.result c.calendar_year-2.ensures.reach c.year_start-end.ensures

pub sums_of_waves-sums-requires-clause-amount : goal.sums_of_waves-sums-requires-clause-amount
sums_of_waves-sums-requires-clause-amount c =
    let b = c.args.book.now in
    let s = c.args.station.now in
    rw (c.as_slice.ensures.value, c.in_ok-waves.ensures)
    (asked-amount b s c.args.year c.touches-is_asked.result (none_fault b s c.args.year c.in_default.ensures).0)

pub sums_of_waves-sums-requires-clause-steepness : goal.sums_of_waves-sums-requires-clause-steepness
sums_of_waves-sums-requires-clause-steepness c =
    let b = c.args.book.now in
    let s = c.args.station.now in
    rw (c.as_slice.ensures.value, c.in_ok-waves.ensures)
    (asked-steepness b s c.args.year c.touches-is_asked.result (none_fault b s c.args.year c.in_default.ensures).1)

pub returns-in-Err : goal.returns-in-Err
returns-in-Err c = inr c.in-Err.ensures

pub returns : goal.returns
returns c =
    let b = c.args.book.now in
    let s = c.args.station.now in
    let first = c.args.minute_range.first in
    let last = c.args.minute_range.last in
    let start = start_cast c.calendar_year.result c.year_start-start.result c.calendar_year.ensures.reach
    c.year_start-start.ensures ∙ ap year_start_of c.calendar_year.ensures.value in
    let end = rw add-one at (start_cast c.calendar_year-2.result c.year_start-end.result c.calendar_year-2.ensures.reach
    c.year_start-end.ensures ∙ ap year_start_of c.calendar_year-2.ensures.value) in
    let waves = c.in_ok-waves.ensures ∙ asked-over b s first last c.args.year c.touches-is_asked.result
    (touched_by_ends b first last _ _ c.args.year c.touches-is_asked.result start end c.touches-is_asked.ensures) in
    record {
      within = c.in_default.ensures;
      start = start;
      end = end;
      waves = waves;
      sums = rw c.as_slice.ensures.value at c.sums_of_waves-sums.ensures ∙ ap sums_of waves ∙ sums-present (waves_over b s first last c.args.year);
    }
