use Rattle.std.specs.Bool.{IsTrue}
use Rattle.tide_edge.specs.Memory.{are_pieces}
use Rattle.server_tests.proofs.server.coming.by_bytes.Given as goal

abbrev pub invariant-loop-byte : goal.invariant-loop-byte
invariant-loop-byte g l = IsTrue (are_pieces l.pieces.items)
