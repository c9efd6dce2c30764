use Rattle.std.proofs.Common.{w64}
use Rattle.std.proofs.lemmas.Int.{to_z-of_z}
use mir.Syntax.{w128}
use Rattle.curve_law.proofs.ApproximateLemmas.{begin-close, end-close}
use Rattle.curve_law.proofs.approximate.is_quiet_from_approximate.Goals as goal

pub quiet_if_decided-requires-clause-approximate : goal.quiet_if_decided-requires-clause-approximate
quiet_if_decided-requires-clause-approximate g c =
    let curve = c.args.curve.now in
    rw (to_z-of_z w64 c.args.a c.ranges.a, to_z-of_z w128 c.args.approximate c.ranges.approximate)
    (begin-close (g.C.Curve.state curve).curve_model.curve_spec (g.C.Curve.state curve).curve_model.approximate (g.C.Curve.state curve).curve_model.error
    c.args.a c.args.n c.args.approximate (g.met.C.Curve.close curve) c.requires.span c.requires.approximate)

pub quiet_if_decided-requires-clause-approximate_end : goal.quiet_if_decided-requires-clause-approximate_end
quiet_if_decided-requires-clause-approximate_end g c =
    let curve = c.args.curve.now in
    rw (to_z-of_z w64 c.args.a c.ranges.a, to_z-of_z w128 c.args.approximate_end c.ranges.approximate_end)
    (end-close (g.C.Curve.state curve).curve_model.curve_spec (g.C.Curve.state curve).curve_model.approximate (g.C.Curve.state curve).curve_model.error
    c.args.a c.args.n c.args.approximate_end (g.met.C.Curve.close curve) c.requires.span c.requires.approximate_end)
