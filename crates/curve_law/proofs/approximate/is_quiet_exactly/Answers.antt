use Rattle.std.proofs.Common.{◌∙◌, w64, FitsSigned, rules}
use Rattle.std.proofs.lemmas.Int.{to_z-of_z}
use mir.Syntax.{w128}
use Rattle.curve_law.proofs.QuietLemmas.{begin-minute, end-minute, end-fits, end-value}
use Rattle.curve_law.proofs.approximate.is_quiet_exactly.Goals as goal

pub exact_value-value-requires-clause-minute : goal.exact_value-value-requires-clause-minute
exact_value-value-requires-clause-minute g c =
    rw (to_z-of_z w64 c.args.a c.ranges.a)
    (begin-minute (g.C.Curve.state c.args.curve.now).curve_model.curve_spec c.args.a c.args.n c.requires.span)

pub exact_value-value-requires-clause-approximate : goal.exact_value-value-requires-clause-approximate
exact_value-value-requires-clause-approximate g c =
    rw (to_z-of_z w64 c.args.a c.ranges.a, to_z-of_z w128 c.args.approximate c.ranges.approximate) c.requires.approximate

pub overflow_add-a : goal.overflow_add-a
overflow_add-a g c =
    let from_fits : FitsSigned w64 c.from.result = search rules in
    let minutes = to_z-of_z w64 c.from.result from_fits ∙ c.from.ensures in
    end-fits (g.C.Curve.state c.args.curve.now).curve_model.curve_spec c.args.a _ c.args.n (g.met.C.Curve.lawful c.args.curve.now)
    c.requires.span minutes

pub exact_value-end_value-requires-clause-minute : goal.exact_value-end_value-requires-clause-minute
exact_value-end_value-requires-clause-minute g c =
    let from_fits : FitsSigned w64 c.from.result = search rules in
    let minutes = to_z-of_z w64 c.from.result from_fits ∙ c.from.ensures in
    let end = end-value (g.C.Curve.state c.args.curve.now).curve_model.curve_spec c.args.a _ c.args.n (g.met.C.Curve.lawful c.args.curve.now)
    c.requires.span minutes in
    rw end (end-minute (g.C.Curve.state c.args.curve.now).curve_model.curve_spec c.args.a c.args.n c.requires.span)

pub exact_value-end_value-requires-clause-approximate : goal.exact_value-end_value-requires-clause-approximate
exact_value-end_value-requires-clause-approximate g c =
    let from_fits : FitsSigned w64 c.from.result = search rules in
    let minutes = to_z-of_z w64 c.from.result from_fits ∙ c.from.ensures in
    let end = end-value (g.C.Curve.state c.args.curve.now).curve_model.curve_spec c.args.a _ c.args.n (g.met.C.Curve.lawful c.args.curve.now)
    c.requires.span minutes in
    rw (end, to_z-of_z w128 c.args.approximate_end c.ranges.approximate_end) c.requires.approximate_end

pub is_quiet-requires-clause-span : goal.is_quiet-requires-clause-span
is_quiet-requires-clause-span g c = rw (to_z-of_z w64 c.args.a c.ranges.a) c.requires.span

pub is_quiet-requires-clause-value : goal.is_quiet-requires-clause-value
is_quiet-requires-clause-value g c =
    let value : FitsSigned w128 c.exact_value-value.result = search rules in
    rw (to_z-of_z w128 c.exact_value-value.result value) c.exact_value-value.ensures

pub is_quiet-requires-clause-end_value : goal.is_quiet-requires-clause-end_value
is_quiet-requires-clause-end_value g c =
    let from_fits : FitsSigned w64 c.from.result = search rules in
    let minutes = to_z-of_z w64 c.from.result from_fits ∙ c.from.ensures in
    let end = end-value (g.C.Curve.state c.args.curve.now).curve_model.curve_spec c.args.a _ c.args.n (g.met.C.Curve.lawful c.args.curve.now)
    c.requires.span minutes in
    let value : FitsSigned w128 c.exact_value-end_value.result = search rules in
    rw (to_z-of_z w128 c.exact_value-end_value.result value, to_z-of_z w64 c.args.a c.ranges.a) (rw end at c.exact_value-end_value.ensures)

pub returns : goal.returns
returns g c = rw (to_z-of_z w64 c.args.a c.ranges.a) at c.is_quiet.ensures
