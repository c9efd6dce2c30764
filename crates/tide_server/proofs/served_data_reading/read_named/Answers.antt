use Rattle.std.proofs.Common.{Err, refl}
use Rattle.tide_server.proofs.ServedDataLemmas.{all_read, stopped_at_book, stopped_at_table}
use Rattle.tide_server.proofs.served_data_reading.read_named.Goals as goal

pub returns-in_err-book : goal.returns-in_err-book
returns-in_err-book g c = stopped_at_book c.from_residual.result c.from_residual.ensures.1 c.in_err-book.ensures

pub returns-in-Err : goal.returns-in-Err
returns-in-Err g c = stopped_at_table (Err c.in-Err.none) refl c.in_ok-book.ensures c.in-Err.ensures

pub returns-in-Ok : goal.returns-in-Ok
returns-in-Ok g c = all_read c.new.ensures c.in_ok-book.ensures c.in-Ok.ensures
