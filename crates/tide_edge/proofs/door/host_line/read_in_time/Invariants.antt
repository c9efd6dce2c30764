-- A call that was interrupted leaves the known bytes as they were.
use Rattle.std.specs.Io.KnownBytes.{Keeps}
use Rattle.tide_edge.proofs.door.host_line.read_in_time.Given as goal

abbrev pub invariant-loop : goal.invariant-loop
invariant-loop g l = Keeps (g.S.Read.remaining l.initial.stream) (g.S.Read.remaining l.stream)
