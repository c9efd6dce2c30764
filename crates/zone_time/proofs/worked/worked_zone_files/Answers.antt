use Rattle.std.proofs.Common.{refl}
use Rattle.jiff_tz.proofs.OnLiterals.{jiff_tz_tables_on_literals}
use Rattle.zone_time.specs.ZoneFiles.{goes_on, is_consistent}
use Rattle.zone_time.specs.Zones.{zone_of}
use Rattle.zone_time.proofs.WorkedLemmas.{last_of_1999, week_before}
use Rattle.zone_time.proofs.worked.worked_zone_files.Goals as goal

pub returns-clause-consistent : goal.returns-clause-consistent
unfolding is_consistent goes_on
returns-clause-consistent c = rw last_of_1999

pub returns-clause-inconsistent : goal.returns-clause-inconsistent
unfolding is_consistent goes_on
returns-clause-inconsistent c = rw week_before

pub returns-clause-hour_ahead : goal.returns-clause-hour_ahead
unfolding zone_of is_consistent jiff_tz_tables_on_literals
returns-clause-hour_ahead c = refl

pub returns-clause-cut_short : goal.returns-clause-cut_short
unfolding zone_of is_consistent jiff_tz_tables_on_literals
returns-clause-cut_short c = refl

pub returns-clause-empty : goal.returns-clause-empty
unfolding zone_of is_consistent jiff_tz_tables_on_literals
returns-clause-empty c = refl
