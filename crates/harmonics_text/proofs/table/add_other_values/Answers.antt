use Rattle.std.proofs.Common.{arith}
use Rattle.std.proofs.lemmas.Result.{err_from_is_err_and}
use Rattle.harmonics_text.proofs.Values.{values_end, values_full, values_fails, values_goes_on}
use Rattle.harmonics_text.proofs.table.add_other_values.Goals as goal

pub returns-then-table-eq0 : goal.returns-then-table-eq0
returns-then-table-eq0 c =
    values_full c.args.scale c.args.table.now c.args.text.now c.loop-token.table.remaining c.loop-token.table.values
    c.loop-token.rest.now c.in-Some.token.now c.in-Some.after.now c.loop-token.invariant.so_far c.in-Some.ensures.exact
    c.if-table-eq0.true

pub returns-in_err-push_number : goal.returns-in_err-push_number
returns-in_err-push_number c =
    let p = err_from_is_err_and c.from_residual.result c.from_residual.ensures.1 in
    rw (p.1, p.2) (values_fails c.args.scale c.args.table.now c.args.text.now c.loop-token.table.remaining c.loop-token.table.values
    c.loop-token.rest.now c.in-Some.token.now c.in-Some.after.now c.in_err-push_number.field-0.0
    c.loop-token.invariant.so_far c.in-Some.ensures.exact (omega arith) c.in_err-push_number.ensures)

pub loop-token-preserved : goal.loop-token-preserved
loop-token-preserved c = record {
  so_far =
      values_goes_on c.args.scale c.args.table.now c.args.text.now c.loop-token.table.remaining c.loop-token.table.values
      c.push_number.new.values c.loop-token.rest.now c.in-Some.token.now c.in-Some.after.now c.loop-token.invariant.so_far
      c.in-Some.ensures.exact (omega arith) c.in_ok-push_number.ensures;
  index = c.loop-token.invariant.index;
}

pub returns : goal.returns
returns c =
    rw (c.next_place-table.ensures, c.loop-token.invariant.index) (values_end c.args.scale c.args.table.now c.args.text.now
    c.loop-token.table.remaining c.loop-token.table.values c.loop-token.rest.now c.loop-token.invariant.so_far c.in_default.ensures.exact)
