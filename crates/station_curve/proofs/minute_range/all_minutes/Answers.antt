use Rattle.station_curve.proofs.ReadyYears.{start_in_range}
use Rattle.station_curve.proofs.minute_range.all_minutes.Goals as goal

pub returns-clause-in_range : goal.returns-clause-in_range
returns-clause-in_range c = start_in_range c.calendar_year.result c.year_start.result c.calendar_year.ensures.reach c.year_start.ensures

pub returns-clause-near_last : goal.returns-clause-near_last
returns-clause-near_last c =
    start_in_range c.calendar_year-2.result c.year_start-2.result c.calendar_year-2.ensures.reach c.year_start-2.ensures
