use Rattle.std.proofs.Common.{w64, FitsSigned, rules}
use Rattle.std.proofs.lemmas.Int.{to_z-of_z}
use Rattle.zone_time.specs.Locals.{time_text}
use Rattle.zone_time.proofs.AppendLemmas.{three-appended}
use Rattle.zone_time.proofs.local_text.write_time.Goals as goal

pub returns-clause-bytes : goal.returns-clause-bytes
unfolding time_text
returns-clause-bytes g c =
    let minute = to_z-of_z w64 c.args.minute c.ranges.minute in
    let day_fits : FitsSigned w64 c.div_euclid.result = search rules in
    let rest_fits : FitsSigned w64 c.rem_euclid.result = search rules in
    let day = rw minute at c.div_euclid.ensures in
    let rest = rw minute at c.rem_euclid.ensures.value in
    let date = rw (to_z-of_z w64 c.div_euclid.result day_fits, day) at c.write_date.ensures.bytes in
    let clock = rw (to_z-of_z w64 c.rem_euclid.result rest_fits, rest) at c.write_clock.ensures.bytes in
    three-appended _ _ _ _ _ _ _ date c.push_ascii.ensures.bytes clock
