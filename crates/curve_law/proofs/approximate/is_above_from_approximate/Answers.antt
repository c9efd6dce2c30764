use Rattle.std.proofs.Common.{◌^◌, sym, FitsSigned, rules}
use Rattle.std.proofs.lemmas.Int.{to_z-of_z}
use mir.Syntax.{w128}
use Rattle.curve_law.proofs.ApproximateLemmas.{approximate-size, minute-close, error-positive, error-narrow, decided-side}
use Rattle.curve_law.proofs.approximate.is_above_from_approximate.Goals as goal

pub side_of-requires-clause-approximate : goal.side_of-requires-clause-approximate
side_of-requires-clause-approximate g c =
    let curve = c.args.curve.now in
    let curve_model = (g.C.Curve.state curve).curve_model in
    let close = minute-close curve_model.curve_spec curve_model.approximate curve_model.error c.args.m c.args.approximate
    (g.met.C.Curve.close curve) c.requires.minute c.requires.approximate in
    rw (to_z-of_z w128 c.args.approximate c.ranges.approximate)
    (approximate-size c.args.approximate (curve_model.curve_spec.track.value c.args.m) curve_model.error
    ((g.met.C.Curve.lawful curve).values c.args.m c.requires.minute) (g.met.C.Curve.narrow curve) close)

pub side_of-requires-clause-least : goal.side_of-requires-clause-least
side_of-requires-clause-least g c =
    let fits : FitsSigned w128 c.error.result = search rules in
    rw (to_z-of_z w128 c.error.result fits) (error-positive c.error.result _ c.error.ensures)

pub side_of-requires-clause-most : goal.side_of-requires-clause-most
side_of-requires-clause-most g c =
    let fits : FitsSigned w128 c.error.result = search rules in
    rw (to_z-of_z w128 c.error.result fits)
    (error-narrow c.error.result _ (10 ^ 36) c.error.ensures (g.met.C.Curve.narrow c.args.curve.now))

pub returns-in-Some : goal.returns-in-Some
returns-in-Some g c =
    let curve = c.args.curve.now in
    let curve_model = (g.C.Curve.state curve).curve_model in
    let close = minute-close curve_model.curve_spec curve_model.approximate curve_model.error c.args.m c.args.approximate
    (g.met.C.Curve.close curve) c.requires.minute c.requires.approximate in
    let error_fits : FitsSigned w128 c.error.result = search rules in
    let error = to_z-of_z w128 c.error.result error_fits in
    let approximate = to_z-of_z w128 c.args.approximate c.ranges.approximate in
    let decided = simp (approximate, error) at c.in-Some.ensures in
    sym (decided-side c.args.approximate c.error.result (curve_model.curve_spec.track.value c.args.m) curve_model.error
    c.in-Some.is_above c.error.ensures decided close)
