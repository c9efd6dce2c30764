use Rattle.std.proofs.Common.{◌≡◌, ◌+◌, ◌≤◌, ◌++◌, length}
use Rattle.decimal_text.specs.Writing.{last_digits}
use Rattle.decimal_text.proofs.writing.push_last_digits.Given as goal

abbrev pub invariant-loop-exponent : goal.invariant-loop-exponent
invariant-loop-exponent l = record {
  written : l.out.bytes ++ last_digits l.exponent l.size ≡ l.initial.out.bytes ++ last_digits l.places l.size;
  room : length l.out.bytes + l.exponent ≤ 24;
}
