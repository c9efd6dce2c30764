use Rattle.std.proofs.Common.{Ok, Err, rules}
use Rattle.named_files.proofs.OpenedLemmas.{opened_bytes}
use Rattle.named_files.proofs.reading.read_file.Goals as goal

pub returns-in-Ok : goal.returns-in-Ok
returns-in-Ok g c =
    let read = rw c.limit_of.ensures at c.in-Ok.ensures in
    record {
      opened = opened_bytes c.args.slot c.args.name.now _ _ (Ok c.in-Ok.bytes) read.came;
      unnamed = λ none. cc;
      valid = read.within;
      read = read.read;
      fault = tt;
    }

pub returns-in-Err : goal.returns-in-Err
returns-in-Err g c =
    let read = rw c.limit_of.ensures at c.in-Err.ensures in
    rw c.fault_of_reading.ensures
    (record {
      opened = opened_bytes c.args.slot c.args.name.now _ _ (Err c.in-Err.fault) read.came;
      unnamed = λ none. cc;
      valid = tt;
      read = search rules;
      fault = search rules;
    })
