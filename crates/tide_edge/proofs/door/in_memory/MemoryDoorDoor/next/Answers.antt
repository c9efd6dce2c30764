use mathlib.Core.Logic.{∥∥₁_map}
use Rattle.tide_edge.proofs.DoorLemmas.{tied_taking}
use Rattle.tide_edge.proofs.door.in_memory.MemoryDoorDoor.next.Goals as goal

pub invariant_of-self : goal.invariant_of-self
invariant_of-self c = record { tied = ∥∥₁_map c.args.self.now.tied (λ t. rw c.next.ensures.after (tied_taking c.args.self.now.queue t)) }
