use Rattle.std.proofs.Common.{◌∙◌, sym, arith}
use Rattle.sample_tides.proofs.PartsLemmas.{append_twice, each_none, each_next}
use Rattle.sample_tides.proofs.tables.append_table.Goals as goal

pub loop-number-init : goal.loop-number-init
loop-number-init c = sym (each_none 1 _ c.args.writer.now)

pub loop-number-preserved : goal.loop-number-preserved
loop-number-preserved c =
    c.in_ok-append_values.ensures
    ∙ rw (c.in_ok-append.ensures, c.in_ok-append_name.ensures, c.loop-number.invariant, append_twice)
    (sym (each_next 1 c.loop-number.number _ c.args.writer.now (omega arith)))
