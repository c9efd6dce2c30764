use mathlib.Core.Logic.{∥∥₁_map}
use Rattle.tide_edge.proofs.door.in_memory.MemoryDoorDoor.listen.Goals as goal

pub invariant_of-self : goal.invariant_of-self
invariant_of-self c = record { tied = ∥∥₁_map c.args.self.now.tied (λ t. rw c.listen.ensures.after (t.0, λ is. absurd (cc))) }
