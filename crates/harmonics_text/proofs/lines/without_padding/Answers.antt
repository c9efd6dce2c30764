use Rattle.harmonics_text.proofs.Padding.{padding_skip, padding_shorter}
use Rattle.std.proofs.Common.{◌∙◌}
use Rattle.harmonics_text.proofs.lines.without_padding.Goals as goal

pub loop-rest-preserved : goal.loop-rest-preserved
loop-rest-preserved c =
    padding_skip c.loop-rest.rest.now c.split_at.result.1.now c.is_padded.result c.is_padded.ensures c.loop-rest-test.true
    c.split_at.ensures.back
    ∙ c.loop-rest.invariant

pub loop-rest-smaller : goal.loop-rest-smaller
loop-rest-smaller c =
    padding_shorter c.loop-rest.rest.now c.split_at.result.1.now c.is_padded.result c.is_padded.ensures c.loop-rest-test.true
    c.split_at.ensures.back
