use Rattle.std.proofs.Common.{◌≡◌, ◌+◌, drop}
use Rattle.std.specs.Option.{option_map}
use Rattle.http_rows.specs.Heads.{head_length}
use Rattle.http_rows.proofs.head_lines.head_length.Given as goal

abbrev pub invariant-loop-at : goal.invariant-loop-at
invariant-loop-at l = head_length l.bytes ≡ option_map (λ n. l.at + n) (head_length (drop l.at l.bytes))
