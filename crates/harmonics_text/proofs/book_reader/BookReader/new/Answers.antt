use Rattle.std.proofs.Common.{arith}
use Rattle.harmonics_text.proofs.Readers.{reads_nothing}
use Rattle.harmonics_text.proofs.book_reader.BookReader.new.Goals as goal

pub invariant_of-result : goal.invariant_of-result
invariant_of-result c = rw (c.new-2.ensures, c.in_ok-progress.ensures) record { reads = reads_nothing; few = omega arith }
