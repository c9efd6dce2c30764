use Rattle.std.proofs.Common.{refl}
use Rattle.decimal_text.specs.Rounding.{rounded_of}
use Rattle.fixed_sine.specs.Rate.{step_of}
use Rattle.jiff_core.specs.Calendar.{days_of_years, days_of_months, day_count, days_from_civil}
use Rattle.year_blend.specs.Years.{year_start_of}
use Rattle.station_curve.specs.Curves.{waves_of, is_touched, waves_over}
use Rattle.slope_agreement.specs.Agreements.{greatest}
use Rattle.slope_agreement.proofs.worked.worked_agreements.Goals as goal

pub returns-clause-tide : goal.returns-clause-tide
unfolding greatest is_touched waves_over waves_of step_of rounded_of year_start_of days_from_civil day_count days_of_years days_of_months
returns-clause-tide c = refl

pub returns-clause-one_wave : goal.returns-clause-one_wave
unfolding greatest waves_of step_of rounded_of year_start_of days_from_civil day_count days_of_years days_of_months
returns-clause-one_wave c = refl

pub returns-clause-second_year : goal.returns-clause-second_year
unfolding greatest waves_of step_of rounded_of year_start_of days_from_civil day_count days_of_years days_of_months
returns-clause-second_year c = refl

pub returns-clause-first_year : goal.returns-clause-first_year
unfolding greatest waves_of step_of rounded_of year_start_of days_from_civil day_count days_of_years days_of_months
returns-clause-first_year c = refl

pub returns-clause-no_tide : goal.returns-clause-no_tide
unfolding greatest waves_of step_of rounded_of year_start_of days_from_civil day_count days_of_years days_of_months
returns-clause-no_tide c = refl
