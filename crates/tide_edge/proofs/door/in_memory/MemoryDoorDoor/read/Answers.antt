use mathlib.Core.Logic.{∥∥₁_map}
use Rattle.tide_edge.proofs.DoorLemmas.{tied_read}
use Rattle.tide_edge.proofs.door.in_memory.MemoryDoorDoor.read.Goals as goal

pub invariant_of-self : goal.invariant_of-self
invariant_of-self c = record {
  tied =
      ∥∥₁_map c.args.self.now.tied
      (λ t. rw c.read.ensures.after
      (tied_read c.args.self.now.queue c.args.buffer.now c.read.new.buffer c.read.auto.buffer c.read.ensures.filled
      (rw c.read.ensures.answer at c.read.ensures.end) t));
}
