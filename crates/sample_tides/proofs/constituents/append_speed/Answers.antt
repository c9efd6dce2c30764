use Rattle.std.proofs.Common.{◌∙◌}
use Rattle.std.proofs.lemmas.Result.{on_ok_weaker}
use Rattle.sample_tides.proofs.PartsLemmas.{append_twice}
use Rattle.sample_tides.proofs.SpeedLemmas.{write_of-seven}
use Rattle.sample_tides.proofs.constituents.append_speed.Goals as goal

pub returns : goal.returns
returns c =
    on_ok_weaker
    c.whole.result
    (λ ended. ended ∙ rw (c.in_ok-decimal.ensures, c.from.ensures, append_twice, write_of-seven))
    c.whole.ensures
