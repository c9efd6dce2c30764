use Rattle.std.proofs.Common.{◌∙◌}
use Rattle.std.proofs.lemmas.Result.{on_ok_weaker}
use Rattle.sample_tides.specs.File.{heading}
use Rattle.sample_tides.proofs.file.append_heading.Goals as goal

pub returns : goal.returns
unfolding heading
returns c =
    on_ok_weaker
    c.line-6.result
    (λ ended. ended ∙ rw (
      c.in_ok-line-5.ensures,
      c.in_ok-line-4.ensures,
      c.in_ok-line-3.ensures,
      c.in_ok-line-2.ensures,
      c.in_ok-line.ensures,
      c.in_ok-append_title.ensures,
    ))
    c.line-6.ensures
