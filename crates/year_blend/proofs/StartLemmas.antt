-- The starts of the years of the worked examples.
use Rattle.std.proofs.Common.{◌≡◌, pos, refl}
use Rattle.jiff_core.specs.Calendar.{days_of_years, days_of_months, day_count, days_from_civil}
use Rattle.year_blend.specs.Years.{year_start_of}

pub start-1999 : year_start_of (pos 1999) ≡ pos 15252480
unfolding year_start_of days_from_civil day_count days_of_years days_of_months
start-1999 = refl

pub start-2000 : year_start_of (pos 2000) ≡ pos 15778080
unfolding year_start_of days_from_civil day_count days_of_years days_of_months
start-2000 = refl

pub start-2001 : year_start_of (pos 2001) ≡ pos 16305120
unfolding year_start_of days_from_civil day_count days_of_years days_of_months
start-2001 = refl

pub start-2002 : year_start_of (pos 2002) ≡ pos 16830720
unfolding year_start_of days_from_civil day_count days_of_years days_of_months
start-2002 = refl

pub ruleset starts = (start-1999, start-2000, start-2001, start-2002)
