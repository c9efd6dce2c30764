use Rattle.std.proofs.Common.{ap, length, arith}
use Rattle.harmonics_text.specs.declared.record.Record.TheVariants as records
use Rattle.harmonics_text.specs.declared.book_parser.BookParser.TheVariants as parsing
use Rattle.harmonics_text.specs.Workings.BookParsing.{IsBookParser}
use Rattle.harmonics_text.proofs.Runs.{absent_shorter, absent_read_all}
use Rattle.harmonics_text.proofs.station_lines.add_absent.Goals as goal

pub returns-clause-read : goal.returns-clause-read
returns-clause-read c =
    let valid : IsBookParser (parsing.Stations c.args.book.now (records.Constants c.in-Constants.station)) =
    rw c.in-Constants.is at c.requires in
    let some_left = valid.1.1.some_left in
    rw c.in-Constants.is (absent_read_all c.args.book.now c.in-Constants.station c.push_absent.new.station
    c.absent_lines-count.result.0 c.args.bytes.now c.absent_lines-count.result.1.now valid
    (omega (arith, some_left, c.absent_lines-count.ensures.count_bound, ap length c.as_slice.ensures))
    c.absent_lines-count.ensures.exact c.in_ok-push_absent.ensures)

pub returns-clause-shorter : goal.returns-clause-shorter
returns-clause-shorter c = absent_shorter c.absent_lines-count.result.0 c.args.bytes.now
    c.absent_lines-count.result.1.now c.absent_lines-count.ensures.exact
