use Rattle.station_table.proofs.header.has_columns.Goals as goal

pub returns-in-Plain : goal.returns-in-Plain
returns-in-Plain c = rw c.in-Plain.is (rw c.split_at.ensures.front at c.has_names.ensures)

pub returns-in-WithSlack : goal.returns-in-WithSlack
returns-in-WithSlack c = rw c.in-WithSlack.is c.has_names-in-WithSlack.ensures
