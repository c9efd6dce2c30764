use Rattle.std.proofs.Common.{refl}
use Rattle.zone_time.specs.Moments.{has_form}
use Rattle.zone_time.proofs.ClosedLemmas.{moment_text-closed}
use Rattle.zone_time.proofs.worked.worked_texts.Goals as goal

pub returns : goal.returns
unfolding has_form
returns c = record {
  usual = moment_text-closed _ _ refl refl;
  zero = moment_text-closed _ _ refl refl;
  before_zero = moment_text-closed _ _ refl refl;
  leap_day = moment_text-closed _ _ refl refl;
  first = moment_text-closed _ _ refl refl;
  last = moment_text-closed _ _ refl refl;
  last_of_february = moment_text-closed _ _ refl refl;
  no_leap_century = moment_text-closed _ _ refl refl;
  first_leap_day = moment_text-closed _ _ refl refl;
}
