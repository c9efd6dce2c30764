use Rattle.station_table.proofs.reading.read_offsets.Goals as goal

pub read_table-table-requires : goal.read_table-table-requires
read_table-table-requires c = (c.args.bytes.now, c.records_of-records.ensures, c.requires)

pub returns : goal.returns
returns c = c.read_table-table.ensures c.args.bytes.now c.records_of-records.ensures
