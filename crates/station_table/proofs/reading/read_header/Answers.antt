use Rattle.std.proofs.Common.{[]}
use Rattle.csv.specs.Records.{fields_of}
use Rattle.station_table.proofs.RecordLemmas.{given_more, given_all}
use Rattle.station_table.proofs.TableLemmas.{header_given, no_header}
use Rattle.station_table.proofs.reading.read_header.Goals as goal

pub returns-in-Some-Ok : goal.returns-in-Some-Ok
returns-in-Some-Ok c = λ text none.
    let read = rw (c.in-Some-Ok.is, c.in-Some-Ok.field-0-is) at ((c.next.ensures.steps none.rows_left none.trim).0 none.ready) in
    let names = fields_of c.in-Some-Ok.names in
    header_given text names c.next.new.self c.header_of.result
    (given_more text [] c.args.records.now c.next.new.self names none read.0 read.1 read.2) c.header_of.ensures

pub returns : goal.returns
returns c = λ text none.
    let read = rw c.in-None.is at ((c.next.ensures.steps none.rows_left none.trim).0 none.ready) in
    no_header text (given_all text [] c.args.records.now c.next.new.self none read)
