use Rattle.std.proofs.lemmas.Grind.{merely}
use Rattle.tide_edge.proofs.DoorLemmas.{tied_new}
use Rattle.tide_edge.proofs.door.in_memory.MemoryDoor.new.Goals as goal

pub invariant_of-result : goal.invariant_of-result
invariant_of-result c = record { tied = rw c.in_ok-new.ensures (merely (tied_new _, λ is. absurd (cc))) }
