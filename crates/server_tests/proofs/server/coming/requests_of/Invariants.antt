use Rattle.std.specs.Bool.{IsTrue}
use Rattle.std.specs.List.{list_all}
use Rattle.tide_edge.specs.Memory.{are_pieces}
use Rattle.server_tests.proofs.server.coming.requests_of.Given as goal

abbrev pub invariant-loop-coming : goal.invariant-loop-coming
invariant-loop-coming g l = IsTrue (list_all (λ request. are_pieces request.items) l.requests.items)
