use Rattle.std.proofs.Common.{sym}
use Rattle.tide_edge.specs.Workings.HeldDoors.{replies_are_sent}
use Rattle.tide_edge.proofs.door.in_memory.MemoryDoor.reply.Goals as goal

pub returns : goal.returns
returns c = rw (sym (replies_are_sent c.args.self.now.queue c.args.self.now.tied)) c.reply.ensures
