use Rattle.std.proofs.Common.{◌≡◌, ◌++◌}
use Rattle.tide_server.specs.Queries.{items_of}
use Rattle.tide_server.proofs.query.items_of.Given as goal

-- the items so far, and the items of the remaining pairs
abbrev pub invariant-loop-name : goal.invariant-loop-name
invariant-loop-name l = items_of l.query ≡ l.items.items ++ items_of l.name-iterator.input.now
