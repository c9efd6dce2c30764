use Rattle.std.proofs.Common.{◌≡◌, ◌++◌}
use Rattle.std.specs.Prelude.{map, drop, string_bytes}
use Rattle.std.specs.Vec.Iter.{into_iter_items, into_iter_len}
use Rattle.tide.proofs.arguments.words_of.Given as goal

abbrev pub invariant-loop-argument : goal.invariant-loop-argument
invariant-loop-argument l =
    l.words.items ++ map string_bytes (into_iter_items l.arguments) ≡ map string_bytes (drop 1 (into_iter_items l.fn.arguments))

abbrev pub decreases-loop-argument : goal.decreases-loop-argument
decreases-loop-argument l = into_iter_len l.arguments
