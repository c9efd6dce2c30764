use Rattle.std.proofs.Common.{◌≡◌, ◌+◌, ◌++◌, length, replicate}
use Rattle.event_text.proofs.level.push_spaces.Given as goal

abbrev pub invariant-loop-place : goal.invariant-loop-place
invariant-loop-place l =
    record {
      bytes : l.out.bytes ≡ l.initial.out.bytes ++ replicate l._place 32;
      len : length l.out.bytes ≡ length l.initial.out.bytes + l._place;
    }
