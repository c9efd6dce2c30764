use Rattle.std.proofs.Common.{refl, ap, pos, ◌+ℤ◌}
use Rattle.std.specs.Int.{int_div_euclid}
use Rattle.zone_time.specs.Dates.{date_text, clock_text, two_digits, date_of, date_from_year, date_from_month}
use Rattle.zone_time.specs.Locals.{local_text, time_text, label_text}
use Rattle.zone_time.specs.ZoneFiles.{clock_minute, ahead_after}
use Rattle.zone_time.proofs.WorkedLemmas.{last_of_1999, before_march_2000, from_march_2000, before_november_2000, from_november_2000}
use Rattle.zone_time.proofs.worked.worked_clocks.Goals as goal

pub returns-clause-mean_time : goal.returns-clause-mean_time
unfolding clock_minute ahead_after
returns-clause-mean_time c = refl

pub returns-clause-last_of_mean_time : goal.returns-clause-last_of_mean_time
unfolding clock_minute ahead_after
returns-clause-last_of_mean_time c = refl

pub returns-clause-first_row : goal.returns-clause-first_row
unfolding clock_minute ahead_after
returns-clause-first_row c = refl

pub returns-clause-last_of_daylight : goal.returns-clause-last_of_daylight
unfolding clock_minute ahead_after
returns-clause-last_of_daylight c = refl

pub returns-clause-last_row : goal.returns-clause-last_row
unfolding clock_minute ahead_after
returns-clause-last_row c = ap (λ type. int_div_euclid (pos 941954400 +ℤ type.seconds) (pos 60)) last_of_1999

pub returns-clause-before_march : goal.returns-clause-before_march
unfolding clock_minute ahead_after
returns-clause-before_march c = ap (λ type. int_div_euclid (pos 952844340 +ℤ type.seconds) (pos 60)) before_march_2000

pub returns-clause-from_march : goal.returns-clause-from_march
unfolding clock_minute ahead_after
returns-clause-from_march c = ap (λ type. int_div_euclid (pos 952844400 +ℤ type.seconds) (pos 60)) from_march_2000

pub returns-clause-before_november : goal.returns-clause-before_november
unfolding clock_minute ahead_after
returns-clause-before_november c = ap (λ type. int_div_euclid (pos 973403940 +ℤ type.seconds) (pos 60)) before_november_2000

pub returns-clause-from_november : goal.returns-clause-from_november
unfolding clock_minute ahead_after
returns-clause-from_november c = ap (λ type. int_div_euclid (pos 973404000 +ℤ type.seconds) (pos 60)) from_november_2000

pub returns-clause-label : goal.returns-clause-label
unfolding local_text time_text label_text date_text clock_text two_digits date_of date_from_year date_from_month
returns-clause-label c = refl
