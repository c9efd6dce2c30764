use Rattle.std.proofs.Common.{w64, FitsSigned, rules, arith, ◌∙◌}
use Rattle.std.proofs.lemmas.Int.{to_z-of_z}
use mir.Syntax.{w128}
use Rattle.curve_law.proofs.QuietLemmas.{is_quiet-length, is_quiet-rate, no_rate-quiet, rate-positive, rate-small, begin-small, end-small}
use Rattle.curve_law.proofs.quiet.is_quiet_by_rate.Goals as goal

pub returns-then-n-lt2 : goal.returns-then-n-lt2
returns-then-n-lt2 g c = is_quiet-length (g.C.Curve.state c.args.curve.now).curve_model.curve_spec c.args.a c.args.n c.then-n-lt2.either

pub keeps_side-requires-clause-positive : goal.keeps_side-requires-clause-positive
keeps_side-requires-clause-positive g c =
    let fits : FitsSigned w64 c.args.a = c.ranges.a in
    let rate : FitsSigned w128 c.in-Some.rate = search rules in
    let decided = simp to_z-of_z at c.in-Some.ensures in
    rw (to_z-of_z w128 c.in-Some.rate rate)
    (rate-positive (g.C.Curve.state c.args.curve.now).curve_model.curve_spec c.args.a c.args.n c.in-Some.rate
    (g.met.C.Curve.lawful c.args.curve.now) c.requires.span c.if-n-lt2.false (omega arith) decided)

pub keeps_side-requires-clause-rate : goal.keeps_side-requires-clause-rate
keeps_side-requires-clause-rate g c =
    let fits : FitsSigned w64 c.args.a = c.ranges.a in
    let rate : FitsSigned w128 c.in-Some.rate = search rules in
    let decided = simp to_z-of_z at c.in-Some.ensures in
    rw (to_z-of_z w128 c.in-Some.rate rate)
    (rate-small (g.C.Curve.state c.args.curve.now).curve_model.curve_spec c.args.a c.args.n c.in-Some.rate
    (g.met.C.Curve.lawful c.args.curve.now) c.requires.span c.if-n-lt2.false (omega arith) decided)

pub keeps_side-requires-clause-count_bound : goal.keeps_side-requires-clause-count_bound
keeps_side-requires-clause-count_bound g c = omega arith

pub keeps_side-requires-clause-value : goal.keeps_side-requires-clause-value
keeps_side-requires-clause-value g c =
    rw (to_z-of_z w128 c.args.value c.ranges.value, c.requires.value)
    (begin-small (g.C.Curve.state c.args.curve.now).curve_model.curve_spec c.args.a c.args.n (g.met.C.Curve.lawful c.args.curve.now) c.requires.span)

pub keeps_side-requires-clause-end_value : goal.keeps_side-requires-clause-end_value
keeps_side-requires-clause-end_value g c =
    rw (to_z-of_z w128 c.args.end_value c.ranges.end_value, c.requires.end_value)
    (end-small (g.C.Curve.state c.args.curve.now).curve_model.curve_spec c.args.a c.args.n (g.met.C.Curve.lawful c.args.curve.now) c.requires.span)

pub returns-in-Some : goal.returns-in-Some
returns-in-Some g c =
    let fits : FitsSigned w64 c.args.a = c.ranges.a in
    let decided = simp to_z-of_z at c.in-Some.ensures in
    let same = is_quiet-rate (g.C.Curve.state c.args.curve.now).curve_model.curve_spec c.args.a c.args.n _
    c.if-n-lt2.false (omega arith) decided in
    let rate : FitsSigned w128 c.in-Some.rate = search rules in
    let value : FitsSigned w128 c.args.value = c.ranges.value in
    let end_value : FitsSigned w128 c.args.end_value = c.ranges.end_value in
    let kept = simp to_z-of_z at c.keeps_side.ensures in
    kept ∙ rw (c.requires.value, c.requires.end_value) same

pub returns-in-None : goal.returns-in-None
returns-in-None g c =
    let fits : FitsSigned w64 c.args.a = c.ranges.a in
    let decided = simp to_z-of_z at c.in-None.ensures in
    no_rate-quiet (g.C.Curve.state c.args.curve.now).curve_model.curve_spec c.args.a c.args.n
    c.if-n-lt2.false (omega arith) decided
