use Rattle.std.proofs.Common.{◌≡◌, ◌+◌, ◌<◌, ◌≤◌, ◌^◌, ◌++◌, ◌∷◌, false, length}
use Rattle.harmonics_text.specs.Workings.BookParsing.{IsBookParser}
use Rattle.harmonics_text.specs.Workings.Readers.{has_lf, with_bytes}
use Rattle.harmonics_text.proofs.progress.add_lines.Given as goal

abbrev pub invariant-lines : goal.invariant-lines
invariant-lines l = record {
  valid : IsBookParser l.parser;
  one : has_lf l.line ≡ false;
  few : l.number + length l.rest + 1 < 2 ^ 32;
  shorter : length l.rest ≤ length l.bytes;
  so_far : with_bytes l.parser l.number (l.line ++ 10 ∷ l.rest) ≡ with_bytes l.initial.parser l.fn.number (l.first ++ 10 ∷ l.bytes);
}

abbrev pub decreases-lines : goal.decreases-lines
decreases-lines l = length l.rest
