use Rattle.std.proofs.Common.{◌≡◌, arith}
use Rattle.jiff_core.specs.Date.{epoch_day}
use Rattle.jiff_core.proofs.SignedLemmas.{signed_arith}
use Rattle.zone_time.proofs.DateLemmas.{date_with_day}
use Rattle.zone_time.proofs.dates.date_from_day.Goals as goal

pub returns-clause-year : goal.returns-clause-year
returns-clause-year c =
    let e : epoch_day c.from_days_since_min.result ≡ c.args.day = omega (arith, signed_arith) in
    (date_with_day c.from_days_since_min.result c.args.day c.requires e).0

pub returns-clause-month : goal.returns-clause-month
returns-clause-month c =
    let e : epoch_day c.from_days_since_min.result ≡ c.args.day = omega (arith, signed_arith) in
    (date_with_day c.from_days_since_min.result c.args.day c.requires e).1

pub returns-clause-day : goal.returns-clause-day
returns-clause-day c =
    let e : epoch_day c.from_days_since_min.result ≡ c.args.day = omega (arith, signed_arith) in
    (date_with_day c.from_days_since_min.result c.args.day c.requires e).2
