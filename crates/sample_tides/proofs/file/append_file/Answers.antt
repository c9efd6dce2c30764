use Rattle.std.proofs.Common.{◌∙◌, sym, ap, arith}
use Rattle.sample_tides.specs.File.{constituent, station}
use Rattle.sample_tides.proofs.PartsLemmas.{each_none, each_next}
use Rattle.sample_tides.proofs.file.append_file.Goals as goal

pub loop-number-init : goal.loop-number-init
loop-number-init c = sym (each_none 6 constituent c.append_heading.new.writer)

pub loop-number-preserved : goal.loop-number-preserved
loop-number-preserved c =
    c.in_ok-append_constituent.ensures
    ∙ ap (constituent c.loop-number.number) c.loop-number.invariant
    ∙ sym (each_next 6 c.loop-number.number constituent c.append_heading.new.writer (omega arith))

pub loop-number-2-init : goal.loop-number-2-init
loop-number-2-init c = sym (each_none 1 station c.append_table-2.new.writer)

pub loop-number-2-preserved : goal.loop-number-2-preserved
loop-number-2-preserved c =
    c.in_ok-append_station.ensures
    ∙ ap (station c.loop-number-2.number) c.loop-number-2.invariant
    ∙ sym (each_next 1 c.loop-number-2.number station c.append_table-2.new.writer (omega arith))
