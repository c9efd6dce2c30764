use mathlib.Core.Logic.{∥∥₁_map}
use Rattle.tide_edge.proofs.door.in_memory.MemoryDoorDoor.close.Goals as goal

pub invariant_of-self : goal.invariant_of-self
invariant_of-self c = record { tied = ∥∥₁_map c.args.self.now.tied (λ t. rw c.close.ensures t) }
