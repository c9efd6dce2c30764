use Rattle.std.proofs.Common.{refl}
use Rattle.named_files.specs.Readings.{table_named}
use Rattle.named_files.proofs.OpenedLemmas.{reads_contents, reads_fault, reads_none}
use Rattle.named_files.proofs.ReadingLemmas.{table_inside}
use Rattle.named_files.proofs.reading.read_table.Goals as goal

pub returns-in_err-bytes-in-Some : goal.returns-in_err-bytes-in-Some
unfolding table_named
returns-in_err-bytes-in-Some g c =
    rw c.in-Some.is (reads_fault c.from_residual.result c.from_residual.ensures.1 c.in_err-bytes-in-Some.ensures)

pub returns-in_ok-bytes-in-Some : goal.returns-in_ok-bytes-in-Some
unfolding table_named
returns-in_ok-bytes-in-Some g c =
    rw (c.in-Some.is, c.table_from.ensures)
    (reads_contents _ (table_inside _ c.read_offsets.result (rw c.as_slice.ensures at c.read_offsets.ensures)) c.in_ok-bytes-in-Some.ensures)

pub returns-in-None : goal.returns-in-None
unfolding table_named
returns-in-None g c = rw (c.in-None.is, c.new.ensures) (reads_none (λ folder. refl) tt)
