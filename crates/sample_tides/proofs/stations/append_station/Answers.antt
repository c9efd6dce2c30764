use Rattle.std.proofs.Common.{◌∙◌, sym, ap, arith}
use Rattle.sample_tides.specs.File.{constants}
use Rattle.sample_tides.proofs.PartsLemmas.{each_none, each_next}
use Rattle.sample_tides.proofs.stations.append_station.Goals as goal

pub loop-constituent-init : goal.loop-constituent-init
loop-constituent-init c = sym (each_none 1 constants c.append_datum.new.writer)

pub loop-constituent-preserved : goal.loop-constituent-preserved
loop-constituent-preserved c =
    c.in_ok-append_constants.ensures
    ∙ ap (constants c.loop-constituent.constituent) c.loop-constituent.invariant
    ∙ sym (each_next 1 c.loop-constituent.constituent constants c.append_datum.new.writer (omega arith))
