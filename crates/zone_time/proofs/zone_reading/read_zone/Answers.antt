use Rattle.std.proofs.Common.{◌∙◌, sym, ap, Ok}
use Rattle.zone_time.specs.declared.zone.Zone.TheVariants.{File}
use Rattle.zone_time.proofs.ZoneReadingLemmas.{zone_of-read, zone_of-refused}
use Rattle.zone_time.proofs.zone_reading.read_zone.Goals as goal

pub returns-in-Ok-clause-exact : goal.returns-in-Ok-clause-exact
returns-in-Ok-clause-exact c =
    zone_of-read c.args.bytes.now c.in-Ok.tzif c.in-Ok.ensures.value c.in-Ok.ensures.agrees
    ∙ ap (λ file. Ok (File file)) (sym c.new.ensures)

pub returns-in-Err-Tzif-clause-exact : goal.returns-in-Err-Tzif-clause-exact
returns-in-Err-Tzif-clause-exact c =
    zone_of-refused c.args.bytes.now c.in-Err-Tzif.field-0-0 (rw c.in-Err-Tzif.field-0-is at c.in-Err-Tzif.ensures.err)
