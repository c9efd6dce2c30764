use Rattle.std.proofs.Common.{sym}
use Rattle.question.proofs.TextLemmas.{zone_of-file}
use Rattle.question.proofs.zone_word.zone.Goals as goal

pub returns-in-Some : goal.returns-in-Some
returns-in-Some c = rw (zone_of-file c.args.origin c.args.text.now c.in-Some.name.now (sym c.in-Some.ensures)) c.file_zone.ensures
