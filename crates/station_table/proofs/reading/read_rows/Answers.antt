use Rattle.std.proofs.Common.{[], ◌∷◌, ◌++◌, length-append, refl, arith}
use Rattle.std.proofs.lemmas.Result.{err_from_is_err_and}
use Rattle.csv.specs.Records.{fields_of}
use Rattle.station_table.specs.Table.{offsets_of, rows_from}
use Rattle.station_table.proofs.RecordLemmas.{given_more, given_all, given_prefix, given_few}
use Rattle.station_table.proofs.TableLemmas.{rows_more, rows_count, bad_row, whole_table, excused_row, row_went_well}
use Rattle.station_table.proofs.reading.read_rows.Goals as goal

pub loop-record-init : goal.loop-record-init
unfolding rows_from
loop-record-init c = λ text begun.
    rw (c.into_iter-record-iterator.ensures.into_iter_gives, c.new-table.ensures) record {
      names = begun.names;
      seen = [];
      given = begun.given;
      first = begun.first;
      rows = refl;
      number = refl;
    }

pub returns-in_err-offsets_at-in-Ok : goal.returns-in_err-offsets_at-in-Ok
returns-in_err-offsets_at-in-Ok c = λ text begun.
    let so_far = c.loop-record.invariant text begun in
    let fields = fields_of c.in-Ok.record in
    let read = rw (c.in-Some.is, c.in-Ok.is) at ((c.next.ensures.steps so_far.given.rows_left so_far.given.trim).0 so_far.given.ready) in
    let given = given_more text (so_far.names ∷ so_far.seen) c.loop-record.record-iterator.now c.next.new.self.now
    fields so_far.given read.0 read.1 read.2 in
    let records = given_prefix text (so_far.names ∷ (so_far.seen ++ fields ∷ [])) c.next.new.self.now given in
    let p = err_from_is_err_and c.from_residual.result c.from_residual.ensures.1 in
    rw (p.1, p.2) (excused_row c.loop-record.row (offsets_of c.args.header fields) _ _
    (λ why bad. rw so_far.number (bad_row text so_far.names c.args.header so_far.seen c.loop-record.table fields
    records.0 why records.1 so_far.first so_far.rows bad)) c.in_err-offsets_at-in-Ok.ensures.exact)

pub overflow_add-row : goal.overflow_add-row
overflow_add-row c =
    let (text, begun, few) = c.requires in
    let so_far = c.loop-record.invariant text begun in
    omega (arith, so_far.number, given_few text (so_far.names ∷ so_far.seen) c.loop-record.record-iterator.now so_far.given, few)

pub push-requires-clause-count_bound : goal.push-requires-clause-count_bound
push-requires-clause-count_bound c =
    let (text, begun, few) = c.requires in
    let so_far = c.loop-record.invariant text begun in
    omega (
      arith,
      rows_count c.args.header 2 so_far.seen c.loop-record.table so_far.rows,
      given_few text (so_far.names ∷ so_far.seen) c.loop-record.record-iterator.now so_far.given,
      few,
    )

pub loop-record-preserved : goal.loop-record-preserved
loop-record-preserved c = λ text begun.
    let so_far = c.loop-record.invariant text begun in
    let fields = fields_of c.in-Ok.record in
    let read = rw (c.in-Some.is, c.in-Ok.is) at ((c.next.ensures.steps so_far.given.rows_left so_far.given.trim).0 so_far.given.ready) in
    let offsets = c.in_ok-offsets_at-in-Ok.field-0 in
    let is = row_went_well c.loop-record.row (offsets_of c.args.header fields) offsets c.in_ok-offsets_at-in-Ok.ensures.exact in
    rw c.in_ok-push-in-Ok.ensures record {
      names = so_far.names;
      seen = so_far.seen ++ fields ∷ [];
      given = given_more text (so_far.names ∷ so_far.seen) c.loop-record.record-iterator.now c.next.new.self.now fields
          so_far.given read.0 read.1 read.2;
      first = so_far.first;
      rows = rows_more c.args.header 2 so_far.seen c.loop-record.table fields offsets so_far.rows is;
      number = omega (arith, so_far.number, length-append so_far.seen (fields ∷ []));
    }

pub returns : goal.returns
returns c = λ text begun.
    let so_far = c.loop-record.invariant text begun in
    let read = rw c.in-None.is at ((c.next.ensures.steps so_far.given.rows_left so_far.given.trim).0 so_far.given.ready) in
    whole_table text so_far.names c.args.header so_far.seen c.loop-record.table (given_all text (so_far.names ∷ so_far.seen)
    c.loop-record.record-iterator.now c.next.new.self.now so_far.given read) so_far.first so_far.rows
