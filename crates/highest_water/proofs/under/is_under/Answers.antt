use Rattle.std.proofs.Common.{◌≡◌, true, false, w64, FitsSigned, rules, ◌∙◌}
use Rattle.std.proofs.lemmas.Int.{to_z-of_z}
use mir.Syntax.{w128}
use Rattle.curve_law.proofs.QuietLemmas.{quiet_cell, rate-positive, rate-small, begin-small, end-small}
use Rattle.highest_water.specs.Verdicts.{is_inside}
use Rattle.highest_water.proofs.UnderLemmas.{is_under-length, is_under-inside, is_under-rate, is_under-unrated, begin-range}
use Rattle.highest_water.proofs.under.is_under.Goals as goal

pub returns-then-n-lt2 : goal.returns-then-n-lt2
returns-then-n-lt2 g c = is_under-length (g.C.Curve.state c.args.curve.now).curve_model.curve_spec c.args.highest.minute
    c.args.highest.value c.args.begin.minute c.args.n c.then-n-lt2.either

pub holds-requires : goal.holds-requires
holds-requires g c =
    let begin : FitsSigned w64 c.args.begin.minute = search rules in
    record {
      in_range = rw (to_z-of_z w64 c.args.begin.minute begin)
          (begin-range (g.C.Curve.state c.args.curve.now).curve_model.curve_spec c.args.begin.minute c.args.n
          (g.met.C.Curve.lawful c.args.curve.now) c.requires.span);
    }

pub returns-then-holds : goal.returns-then-holds
returns-then-holds g c =
    let begin : FitsSigned w64 c.args.begin.minute = search rules in
    let at : FitsSigned w64 c.args.highest.minute = search rules in
    let holds = simp to_z-of_z at c.holds.ensures in
    let inside : is_inside c.args.highest.minute c.args.begin.minute c.args.n ≡ true = cc in
    is_under-inside (g.C.Curve.state c.args.curve.now).curve_model.curve_spec c.args.highest.minute c.args.highest.value
    c.args.begin.minute c.args.n inside

pub rate-requires : goal.rate-requires
rate-requires g c =
    let begin : FitsSigned w64 c.args.begin.minute = search rules in
    rw (to_z-of_z w64 c.args.begin.minute begin)
    (quiet_cell (g.C.Curve.state c.args.curve.now).curve_model.curve_spec c.args.begin.minute c.args.n c.requires.span
    c.if-n-lt2.false c.if-n-gt-MOST_MINUTES.false)

pub twice_most-requires-clause-positive : goal.twice_most-requires-clause-positive
twice_most-requires-clause-positive g c =
    let begin : FitsSigned w64 c.args.begin.minute = search rules in
    let rate : FitsSigned w128 c.in-Some.rate = search rules in
    let stated = simp to_z-of_z at c.in-Some.ensures in
    rw (to_z-of_z w128 c.in-Some.rate rate)
    (rate-positive (g.C.Curve.state c.args.curve.now).curve_model.curve_spec c.args.begin.minute c.args.n c.in-Some.rate
    (g.met.C.Curve.lawful c.args.curve.now) c.requires.span c.if-n-lt2.false c.if-n-gt-MOST_MINUTES.false stated)

pub twice_most-requires-clause-rate : goal.twice_most-requires-clause-rate
twice_most-requires-clause-rate g c =
    let begin : FitsSigned w64 c.args.begin.minute = search rules in
    let rate : FitsSigned w128 c.in-Some.rate = search rules in
    let stated = simp to_z-of_z at c.in-Some.ensures in
    rw (to_z-of_z w128 c.in-Some.rate rate)
    (rate-small (g.C.Curve.state c.args.curve.now).curve_model.curve_spec c.args.begin.minute c.args.n c.in-Some.rate
    (g.met.C.Curve.lawful c.args.curve.now) c.requires.span c.if-n-lt2.false c.if-n-gt-MOST_MINUTES.false stated)

pub twice_most-requires-clause-count_bound : goal.twice_most-requires-clause-count_bound
twice_most-requires-clause-count_bound g c = c.if-n-gt-MOST_MINUTES.false

pub twice_most-requires-clause-value : goal.twice_most-requires-clause-value
twice_most-requires-clause-value g c =
    let value : FitsSigned w128 c.args.begin.value = search rules in
    rw (to_z-of_z w128 c.args.begin.value value, c.requires.value)
    (begin-small (g.C.Curve.state c.args.curve.now).curve_model.curve_spec c.args.begin.minute c.args.n
    (g.met.C.Curve.lawful c.args.curve.now) c.requires.span)

pub twice_most-requires-clause-end_value : goal.twice_most-requires-clause-end_value
twice_most-requires-clause-end_value g c =
    rw (to_z-of_z w128 c.args.end_value c.ranges.end_value, c.requires.end_value)
    (end-small (g.C.Curve.state c.args.curve.now).curve_model.curve_spec c.args.begin.minute c.args.n
    (g.met.C.Curve.lawful c.args.curve.now) c.requires.span)

pub is_low-requires : goal.is_low-requires
is_low-requires g c =
    let value : FitsSigned w128 c.args.highest.value = search rules in
    record { size = rw (to_z-of_z w128 c.args.highest.value value) c.requires.size }

pub returns-in-Some : goal.returns-in-Some
returns-in-Some g c =
    let begin : FitsSigned w64 c.args.begin.minute = search rules in
    let at : FitsSigned w64 c.args.highest.minute = search rules in
    let rate : FitsSigned w128 c.in-Some.rate = search rules in
    let value : FitsSigned w128 c.args.begin.value = search rules in
    let end_value : FitsSigned w128 c.args.end_value = c.ranges.end_value in
    let stated = simp to_z-of_z at c.in-Some.ensures in
    let holds = simp to_z-of_z at c.holds.ensures in
    let outside : is_inside c.args.highest.minute c.args.begin.minute c.args.n ≡ false = cc in
    let most = simp to_z-of_z at c.twice_most.ensures.value in
    let highest : FitsSigned w128 c.args.highest.value = search rules in
    let fits : FitsSigned w128 c.twice_most.result = search rules in
    let low = simp to_z-of_z at c.is_low.ensures in
    low ∙ is_under-rate (g.C.Curve.state c.args.curve.now).curve_model.curve_spec c.args.highest.minute c.args.highest.value
    c.args.begin.minute c.twice_most.result c.in-Some.rate c.args.n c.if-n-lt2.false c.if-n-gt-MOST_MINUTES.false outside stated
    (rw (← c.requires.value, ← c.requires.end_value) most)

pub returns-in-None : goal.returns-in-None
returns-in-None g c =
    let begin : FitsSigned w64 c.args.begin.minute = search rules in
    let stated = simp to_z-of_z at c.in-None.ensures in
    is_under-unrated (g.C.Curve.state c.args.curve.now).curve_model.curve_spec c.args.highest.minute c.args.highest.value
    c.args.begin.minute c.args.n stated
