use Rattle.std.proofs.Common.{FitsSigned}
use Rattle.std.proofs.lemmas.Int.{to_z-of_z}
use mir.Syntax.{w128}
use Rattle.curve_law.proofs.QuietLemmas.{crossed-loud}
use Rattle.curve_law.proofs.quiet.is_quiet.Goals as goal

pub returns-then-value-end_value : goal.returns-then-value-end_value
returns-then-value-end_value g c =
    let value : FitsSigned w128 c.args.value = c.ranges.value in
    let end_value : FitsSigned w128 c.args.end_value = c.ranges.end_value in
    let other = simp to_z-of_z at c.if-value-end_value.true in
    crossed-loud (g.C.Curve.state c.args.curve.now).curve_model.curve_spec c.args.a c.args.n (rw (c.requires.value, c.requires.end_value) at other)
