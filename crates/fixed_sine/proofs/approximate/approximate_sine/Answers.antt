use Rattle.std.proofs.Common.{◌/◌, ◌≤◌, ◌∙◌, unsigned_abs, lit<, arith}
use mir.Syntax.{w16, w64}
use Rattle.fixed_sine.proofs.PartLemmas.{part-size, sine-approximate}
use Rattle.fixed_sine.proofs.ProductLemmas.{cast_small}
use Rattle.fixed_sine.proofs.approximate.approximate_sine.Goals as goal

pub returns-clause-value : goal.returns-clause-value
returns-clause-value c =
    let entry = c.from.ensures ∙ cast_small w16 c.part_sine.result 30518 c.part_sine.ensures.size (lit< tt) in
    let size : unsigned_abs c.from.result ≤ 30518 = rw entry c.part_sine.ensures.size in
    cast_small w64 c.from.result 30518 size (lit< tt) ∙ entry ∙ c.part_sine.ensures.value

pub returns-clause-approximate : goal.returns-clause-approximate
returns-clause-approximate c = rw (returns-clause-value c) (sine-approximate c.args.binary_angle (omega arith))

pub returns-clause-size : goal.returns-clause-size
returns-clause-size c =
    rw (returns-clause-value c) (part-size (c.args.binary_angle / 2251799813685248) (omega arith))
