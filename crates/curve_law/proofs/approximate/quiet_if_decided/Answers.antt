use Rattle.std.proofs.Common.{◌*◌, ◌^◌, pos, refl, sym, w64, FitsSigned, rules}
use Rattle.std.proofs.lemmas.Int.{to_z-of_z}
use mir.Syntax.{w128}
use Rattle.curve_law.proofs.ApproximateLemmas.{some-decided, too_short, decided-far, approximate-sizes, error-positive, error-narrow, twice-narrow, twice-fits, twice-value, sum-fits, sum-value, sum-size}
use Rattle.curve_law.proofs.QuietLemmas.{no_rate-quiet, quiet_cell, rate-positive, rate-small}
use Rattle.curve_law.proofs.approximate.quiet_if_decided.Goals as goal

pub returns-then-n-lt2 : goal.returns-then-n-lt2
returns-then-n-lt2 g c = too_short (g.C.Curve.state c.args.curve.now).curve_model.curve_spec c.args.a c.args.n c.if-n-lt2.true

pub rate-requires : goal.rate-requires
rate-requires g c =
    rw (to_z-of_z w64 c.args.a c.ranges.a)
    (quiet_cell (g.C.Curve.state c.args.curve.now).curve_model.curve_spec c.args.a c.args.n c.requires.span c.if-n-lt2.false c.requires.count_bound)

pub overflow_add-approximate : goal.overflow_add-approximate
overflow_add-approximate g c =
    let sizes = approximate-sizes (g.C.Curve.state c.args.curve.now).curve_model.curve_spec c.args.a c.args.n _
    c.args.approximate c.args.approximate_end (g.met.C.Curve.lawful c.args.curve.now)
    (g.met.C.Curve.narrow c.args.curve.now) c.requires.span c.requires.approximate c.requires.approximate_end in
    sum-fits c.args.approximate c.args.approximate_end sizes.0 sizes.1

pub overflow_mul-error : goal.overflow_mul-error
overflow_mul-error g c =
    twice-fits c.error-error.result _ c.error-error.ensures (g.met.C.Curve.narrow c.args.curve.now)

pub most_change-requires-clause-positive : goal.most_change-requires-clause-positive
most_change-requires-clause-positive g c =
    let fits : FitsSigned w64 c.args.a = c.ranges.a in
    let rate : FitsSigned w128 c.in-Some.rate = search rules in
    let decided = simp to_z-of_z at c.in-Some.ensures in
    rw (to_z-of_z w128 c.in-Some.rate rate)
    (rate-positive (g.C.Curve.state c.args.curve.now).curve_model.curve_spec c.args.a c.args.n c.in-Some.rate
    (g.met.C.Curve.lawful c.args.curve.now) c.requires.span c.if-n-lt2.false c.requires.count_bound decided)

pub most_change-requires-clause-rate : goal.most_change-requires-clause-rate
most_change-requires-clause-rate g c =
    let fits : FitsSigned w64 c.args.a = c.ranges.a in
    let rate : FitsSigned w128 c.in-Some.rate = search rules in
    let decided = simp to_z-of_z at c.in-Some.ensures in
    rw (to_z-of_z w128 c.in-Some.rate rate)
    (rate-small (g.C.Curve.state c.args.curve.now).curve_model.curve_spec c.args.a c.args.n c.in-Some.rate
    (g.met.C.Curve.lawful c.args.curve.now) c.requires.span c.if-n-lt2.false c.requires.count_bound decided)

pub most_change-requires-clause-count_bound : goal.most_change-requires-clause-count_bound
most_change-requires-clause-count_bound g c = c.requires.count_bound

pub passes-requires-clause-approximate : goal.passes-requires-clause-approximate
passes-requires-clause-approximate g c =
    let sizes = approximate-sizes (g.C.Curve.state c.args.curve.now).curve_model.curve_spec c.args.a c.args.n _
    c.args.approximate c.args.approximate_end (g.met.C.Curve.lawful c.args.curve.now)
    (g.met.C.Curve.narrow c.args.curve.now) c.requires.span c.requires.approximate c.requires.approximate_end in
    rw (sum-value c.args.approximate c.args.approximate_end sizes.0 sizes.1)
    (sum-size c.args.approximate c.args.approximate_end sizes.0 sizes.1)

pub passes-requires-clause-least : goal.passes-requires-clause-least
passes-requires-clause-least g c =
    rw (twice-value c.error-error.result _ c.error-error.ensures (g.met.C.Curve.narrow c.args.curve.now))
    (error-positive _ _ refl)

pub passes-requires-clause-error_bound : goal.passes-requires-clause-error_bound
passes-requires-clause-error_bound g c =
    let narrow = g.met.C.Curve.narrow c.args.curve.now in
    rw (twice-value c.error-error.result _ c.error-error.ensures narrow)
    (error-narrow _ _ (2 * 10 ^ 36) refl (twice-narrow _ narrow))

pub passes-requires-clause-most : goal.passes-requires-clause-most
passes-requires-clause-most g c =
    let fits : FitsSigned w128 c.most_change.result = search rules in
    rw (to_z-of_z w128 c.most_change.result fits) c.most_change.ensures.size

pub returns-in-Some : goal.returns-in-Some
returns-in-Some g c =
    let curve_spec = (g.C.Curve.state c.args.curve.now).curve_model.curve_spec in
    let bound = (g.C.Curve.state c.args.curve.now).curve_model.error in
    let fits : FitsSigned w64 c.args.a = c.ranges.a in
    let rate_fits : FitsSigned w128 c.in-Some.rate = search rules in
    let rate = simp to_z-of_z at c.in-Some.ensures in
    let most = rw (to_z-of_z w128 c.in-Some.rate rate_fits) at c.most_change.ensures.value in
    let lawful = g.met.C.Curve.lawful c.args.curve.now in
    let narrow = g.met.C.Curve.narrow c.args.curve.now in
    let sizes = approximate-sizes curve_spec c.args.a c.args.n bound c.args.approximate c.args.approximate_end
    lawful narrow c.requires.span c.requires.approximate c.requires.approximate_end in
    let change_fits : FitsSigned w128 c.most_change.result = search rules in
    let sum = sum-value c.args.approximate c.args.approximate_end sizes.0 sizes.1 in
    let twice = twice-value c.error-error.result bound c.error-error.ensures narrow in
    let change = to_z-of_z w128 c.most_change.result change_fits in
    some-decided c.passes.result c.passes.ensures
    (λ far sure. decided-far curve_spec c.args.a c.args.n c.in-Some.rate c.args.approximate c.args.approximate_end
    c.most_change.result (pos (2 * bound)) bound far lawful c.requires.span
    c.if-n-lt2.false c.requires.count_bound rate most refl c.requires.approximate
    c.requires.approximate_end (rw (sum, twice, change) at sure))

pub returns-in-None : goal.returns-in-None
returns-in-None g c =
    let fits : FitsSigned w64 c.args.a = c.ranges.a in
    let decided = simp to_z-of_z at c.in-None.ensures in
    sym (no_rate-quiet (g.C.Curve.state c.args.curve.now).curve_model.curve_spec c.args.a c.args.n c.if-n-lt2.false c.requires.count_bound decided)
