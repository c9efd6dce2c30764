use Rattle.harmonics_text.proofs.Readers.{reads_pending}
use Rattle.harmonics_text.proofs.book_reader.BookReader.pending.Goals as goal

pub returns-in-None-clause-exact : goal.returns-in-None-clause-exact
returns-in-None-clause-exact c = rw (← c.self.view_is, c.in-None.is, c.count.ensures)
    (reads_pending c.self.inside.history.items c.self.inside.progress (rw c.in-None.is at c.self.invariant.reads)).0

pub returns-in-None-clause-count_bound : goal.returns-in-None-clause-count_bound
returns-in-None-clause-count_bound c = rw c.count.ensures
    (reads_pending c.self.inside.history.items c.self.inside.progress (rw c.in-None.is at c.self.invariant.reads)).1
