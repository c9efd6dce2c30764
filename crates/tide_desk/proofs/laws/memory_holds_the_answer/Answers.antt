use Rattle.tide_desk.proofs.MemoryLemmas.{holds_answer}
use Rattle.tide_desk.proofs.laws.memory_holds_the_answer.Goals as goal

pub returns : goal.returns
returns c = holds_answer
