use Rattle.std.proofs.Common.{◌≡◌, ◌∙◌, sym, ap, arith, pos, ◌*ℤ◌, w32, to_z, of_z}
use Rattle.jiff_core.specs.Timestamp.{nanos_of_seconds}
use Rattle.jiff_core.proofs.SignedLemmas.{signed_arith}
use Rattle.jiff_tz.specs.Tzif.{offset_at}
use Rattle.zone_time.specs.ZoneFiles.{seconds_ahead}
use Rattle.zone_time.proofs.ZoneFileLemmas.{seconds_ahead-offset_at}
use Rattle.zone_time.proofs.zone_file.ZoneFile.utc_offset.Goals as goal

pub returns-clause-value : goal.returns-clause-value
returns-clause-value c =
    let offset = c.to_offset-offset.result in
    let tzif = c.self.inside.tzif in
    let second = c.args.minute *ℤ pos 60 in
    let back : to_z w32 (of_z w32 offset.seconds) ≡ offset.seconds = omega (arith, signed_arith) in
    let at : c.instant.result.nanosecond ≡ nanos_of_seconds second = omega (arith, signed_arith) in
    back ∙ ap (λ o. o.seconds) c.to_offset-offset.ensures
    ∙ ap (λ n. (offset_at tzif n).seconds) at
    ∙ sym (seconds_ahead-offset_at tzif second)
    ∙ ap (λ file. seconds_ahead file second) c.self.view_is
