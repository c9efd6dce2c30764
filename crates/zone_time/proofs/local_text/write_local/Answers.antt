use Rattle.std.proofs.Common.{w64, FitsSigned, rules}
use Rattle.std.proofs.lemmas.Int.{to_z-of_z}
use Rattle.zone_time.specs.Locals.{local_text}
use Rattle.zone_time.proofs.AppendLemmas.{three-appended}
use Rattle.zone_time.proofs.local_text.write_local.Goals as goal

pub returns-clause-bytes : goal.returns-clause-bytes
unfolding local_text
returns-clause-bytes g c =
    let fits : FitsSigned w64 c.args.local.now.minute = search rules in
    let time = rw (to_z-of_z w64 c.args.local.now.minute fits) at c.write_time.ensures.bytes in
    three-appended _ _ _ _ _ _ _ time c.push_ascii.ensures.bytes c.write_label.ensures.bytes
