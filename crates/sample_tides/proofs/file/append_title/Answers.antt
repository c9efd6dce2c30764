use Rattle.std.proofs.Common.{◌∙◌}
use Rattle.std.proofs.lemmas.Result.{on_ok_weaker}
use Rattle.sample_tides.proofs.PartsLemmas.{append_twice}
use Rattle.sample_tides.proofs.file.append_title.Goals as goal

pub returns : goal.returns
returns c =
    on_ok_weaker
    c.append-2.result
    (λ ended. ended ∙ rw (c.in_ok-whole.ensures, c.in_ok-append.ensures) (simp append_twice))
    c.append-2.ensures
