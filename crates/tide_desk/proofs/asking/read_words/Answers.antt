use Rattle.tide_desk.proofs.SheetLemmas.{and_holds}
use Rattle.tide_desk.proofs.asking.read_words.Goals as goal

pub returns-clause-asked : goal.returns-clause-asked
returns-clause-asked g c = rw c.and.ensures (and_holds _ c.check_found.result _ c.in_ok-question.ensures.asked)
