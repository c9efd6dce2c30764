use Rattle.std.proofs.Common.{Ok, Err, arith}
use Rattle.named_files.proofs.OpenedLemmas.{opened_book}
use Rattle.named_files.proofs.ReadingLemmas.{named_from}
use Rattle.named_files.proofs.reading.read_book.Goals as goal

pub returns-in-Ok : goal.returns-in-Ok
unfolding named_from
returns-in-Ok g c =
    let read = rw c.limit_of.ensures at c.in-Ok.ensures in
    record {
      opened = opened_book c.args.name.now _ _ (Ok c.in-Ok.book) read.came;
      unnamed = λ none. cc;
      valid = read.valid;
      read = read.read;
      fault = tt;
    }

pub returns-in-Err : goal.returns-in-Err
unfolding named_from
returns-in-Err g c =
    let read = rw c.limit_of.ensures at c.in-Err.ensures in
    rw c.from.ensures
    (record {
      opened = opened_book c.args.name.now _ _ (Err c.in-Err.fault) read.came;
      unnamed = λ none. cc;
      valid = tt;
      read = grind arith;
      fault = grind arith;
    })
