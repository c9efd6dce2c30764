use Rattle.std.proofs.Common.{ap, refl, arith}
use Rattle.harmonics_text.specs.Pieces.{Fed}
use Rattle.harmonics_text.proofs.Keeping.{end_then}
use Rattle.harmonics_text.proofs.Readers.{reads_valid, reads_number, reads_book, fails_book, book_valid}
use Rattle.harmonics_text.proofs.book_reader.BookReader.finish.Goals.{in-None, in-Some}
use Rattle.harmonics_text.proofs.book_reader.BookReader.finish.Goals as goal

pub end-read-requires-clause-valid : goal.end-read-requires-clause-valid
end-read-requires-clause-valid c =
    reads_valid c.self.inside.history.items c.self.inside.progress (rw c.in-None.is at c.self.invariant.reads)

pub end-read-requires-clause-count_bound : goal.end-read-requires-clause-count_bound
end-read-requires-clause-count_bound c = omega (
  arith,
  c.self.invariant.few,
  reads_number c.self.inside.history.items c.self.inside.progress (rw c.in-None.is at c.self.invariant.reads),
)

pub returns-clause-exact : goal.returns-clause-exact
returns-clause-exact c =
    let bytes = ap (λ (f : Fed). f.bytes) c.self.view_is in
    rw (← bytes, c.and.ensures) (elim c.match-fault.branch [
      | in-None w ↦ reads_book c.self.inside.history.items c.self.inside.progress _
          (rw w.in-None.is at c.self.invariant.reads) (end_then c.self.inside.progress c.match-fault.progress
          c.match-fault.read c.into_book.result (rw (w.progress-is, w.read-is) w.end-read.ensures) c.into_book.ensures)
      | in-Some w ↦ rw w.read-is (fails_book c.self.inside.history.items w.in-Some.fault (rw w.in-Some.is at c.self.invariant.reads))
    ])

pub returns-clause-again : goal.returns-clause-again
returns-clause-again c =
    let fault = ap (λ (f : Fed). f.fault) c.self.view_is in
    rw (← fault, c.and.ensures)
    (elim c.match-fault.branch [ in-None w ↦ rw w.in-None.is tt | in-Some w ↦ rw (w.in-Some.is, w.read-is) refl ])

pub returns-clause-valid : goal.returns-clause-valid
returns-clause-valid c = book_valid c.args.self.bytes _ (returns-clause-exact c)
