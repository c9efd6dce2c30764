use Rattle.std.proofs.Common.{◌∙◌, sym, arith}
use Rattle.sample_tides.proofs.PartsLemmas.{each_none, each_next}
use Rattle.sample_tides.proofs.tables.append_values.Goals as goal

pub loop-year-init : goal.loop-year-init
loop-year-init c = sym (each_none 1 _ c.append_value.new.writer)

pub loop-year-preserved : goal.loop-year-preserved
loop-year-preserved c =
    c.in_ok-append_value-2.ensures
    ∙ rw (c.in_ok-append.ensures, c.loop-year.invariant)
    (sym (each_next 1 c.loop-year._year _ c.append_value.new.writer (omega arith)))
