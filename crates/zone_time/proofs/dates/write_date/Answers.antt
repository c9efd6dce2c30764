use Rattle.std.proofs.Common.{◌≡◌, unsigned_abs, arith, w64, to_z, of_z}
use Rattle.std.proofs.lemmas.Int.{to_z-of_z}
use mir.Syntax.{w16}
use Rattle.jiff_core.proofs.SignedLemmas.{signed_arith}
use Rattle.zone_time.specs.Dates.{date_of}
use Rattle.zone_time.proofs.AppendLemmas.{date-appended}
use Rattle.zone_time.proofs.dates.write_date.Goals as goal

pub returns-clause-bytes : goal.returns-clause-bytes
returns-clause-bytes g c =
    let day = to_z-of_z w64 c.args.day c.ranges.day in
    let is_year = rw day at c.date_from_day-date.ensures.year in
    let is_month = rw day at c.date_from_day-date.ensures.month in
    let is_day = rw day at c.date_from_day-date.ensures.day in
    let year : unsigned_abs (to_z w16 (of_z w16 c.date_from_day-date.result.year)) ≡ (date_of c.args.day).year =
    omega (arith, signed_arith, is_year) in
    date-appended c.args.day _ _ _ _ _ _ _ _ _ _ year is_month is_day c.push_pair.ensures.bytes c.push_pair-2.ensures.bytes
    c.push_ascii.ensures.bytes c.push_pair-3.ensures.bytes c.push_ascii-2.ensures.bytes c.push_pair-4.ensures.bytes
