use Rattle.std.proofs.Common.{codes, refl}
use Rattle.zone_time.specs.Moments.{has_form}
use Rattle.zone_time.proofs.ClosedLemmas.{moment_of-closed}
use Rattle.zone_time.proofs.worked.worked_readings.Goals as goal

pub returns-clause-usual : goal.returns-clause-usual
unfolding has_form
returns-clause-usual c = moment_of-closed (codes "2000-01-10T00:00Z") refl

pub returns-clause-leap_day : goal.returns-clause-leap_day
unfolding has_form
returns-clause-leap_day c = moment_of-closed (codes "2000-02-29T23:59Z") refl

pub returns-clause-first : goal.returns-clause-first
unfolding has_form
returns-clause-first c = moment_of-closed (codes "0001-01-01T00:00Z") refl

pub returns-clause-last : goal.returns-clause-last
unfolding has_form
returns-clause-last c = moment_of-closed (codes "9999-12-31T23:59Z") refl
