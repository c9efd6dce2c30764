use Rattle.std.proofs.Common.{w64, FitsSigned, rules, refl, arith, ◌∙◌}
use Rattle.std.proofs.lemmas.Int.{to_z-of_z}
use mir.Syntax.{w128}
use Rattle.curve_law.proofs.QuietLemmas.{begin-minute}
use Rattle.curve_law.proofs.StateLemmas.{curve_model-after, count-after}
use Rattle.highest_water.proofs.JudgingLemmas.{first-span, rest-span, first-found, rest-found, none-found, few-counted, more-counted, all-counted, number-fits}
use Rattle.highest_water.proofs.checking.first_finding.Goals as goal

pub point_at-at-requires-clause-minute : goal.point_at-at-requires-clause-minute
point_at-at-requires-clause-minute g c =
    rw (to_z-of_z w64 c.args.begin c.ranges.begin)
    (begin-minute (g.C.Curve.state c.args.curve.now).curve_model.curve_spec c.args.begin _ c.requires.span)

pub loop-cell-init : goal.loop-cell-init
loop-cell-init g c =
    let begun = c.point_at-at.ensures in
    record {
      unchanged = curve_model-after _ _ begun.after;
      numbered = refl;
      counted = omega (arith, count-after _ _ begun.after);
      value = rw begun.point refl;
      span = rw (begun.point, to_z-of_z w64 c.args.begin c.ranges.begin) c.requires.span;
      left = rw begun.point refl;
    }

pub end_of-end-requires-clause-count_bound : goal.end_of-end-requires-clause-count_bound
end_of-end-requires-clause-count_bound g c =
    few-counted _ _ c.loop-cell.cell-index _ c.loop-cell.invariant.counted c.loop-cell-test.true c.requires.count

pub overflow_add-number : goal.overflow_add-number
overflow_add-number g c =
    number-fits _ c.loop-cell.cell-index _ c.loop-cell.invariant.numbered c.loop-cell-test.true c.requires.count_bound

pub finding_on-requires-clause-size : goal.finding_on-requires-clause-size
finding_on-requires-clause-size g c = c.requires.size

pub finding_on-requires-clause-value : goal.finding_on-requires-clause-value
finding_on-requires-clause-value g c =
    rw (c.end_of-end.ensures.after, c.loop-cell.invariant.unchanged) c.loop-cell.invariant.value

pub finding_on-requires-clause-end_value : goal.finding_on-requires-clause-end_value
finding_on-requires-clause-end_value g c =
    let at : FitsSigned w64 c.loop-cell.at.minute = search rules in
    let value : FitsSigned w128 c.end_of-end.result.value = search rules in
    let minute = rw (to_z-of_z w64 _ at) at c.end_of-end.ensures.minute in
    rw (to_z-of_z w128 _ value, c.end_of-end.ensures.after, c.loop-cell.invariant.unchanged, ← minute)
    (rw c.loop-cell.invariant.unchanged at c.end_of-end.ensures.value)

pub end_of-end-requires-clause-span : goal.end_of-end-requires-clause-span
end_of-end-requires-clause-span g c =
    let at : FitsSigned w64 c.loop-cell.at.minute = search rules in
    rw (to_z-of_z w64 _ at, c.loop-cell.invariant.unchanged)
    (first-span _ _ c.args.cells.now c.loop-cell.cell-index _ c.loop-cell-test.true c.loop-cell.invariant.span)

pub finding_on-requires-clause-span : goal.finding_on-requires-clause-span
finding_on-requires-clause-span g c =
    rw (c.end_of-end.ensures.after, c.loop-cell.invariant.unchanged)
    (first-span _ _ c.args.cells.now c.loop-cell.cell-index _ c.loop-cell-test.true c.loop-cell.invariant.span)

pub returns-in_default-clause-verdict : goal.returns-in_default-clause-verdict
returns-in_default-clause-verdict g c =
    let left = rw (to_z-of_z w64 c.args.begin c.ranges.begin) at c.loop-cell.invariant.left in
    let found = rw (c.end_of-end.ensures.after, c.loop-cell.invariant.unchanged) at c.finding_on.ensures in
    first-found _ c.args.highest _ _ c.args.cells.now c.loop-cell.cell-index _ _ _ c.loop-cell-test.true left found
    c.in_default.not-Accepted

pub loop-cell-preserved : goal.loop-cell-preserved
loop-cell-preserved g c =
    let at : FitsSigned w64 c.loop-cell.at.minute = search rules in
    let minute = rw (to_z-of_z w64 _ at) at c.end_of-end.ensures.minute in
    let right = rw (c.end_of-end.ensures.after, c.loop-cell.invariant.unchanged) at c.in-Accepted.ensures in
    record {
      unchanged = curve_model-after _ _ c.end_of-end.ensures.after ∙ c.loop-cell.invariant.unchanged;
      numbered = omega (arith, c.loop-cell.invariant.numbered);
      counted = omega (arith, count-after _ _ c.end_of-end.ensures.after, c.loop-cell.invariant.counted);
      value = rw c.loop-cell.invariant.unchanged at c.end_of-end.ensures.value;
      span = rw minute (rest-span _ _ c.args.cells.now c.loop-cell.cell-index _ c.loop-cell-test.true c.loop-cell.invariant.span);
      left = rw minute (rest-found _ c.args.highest _ _ c.args.cells.now c.loop-cell.cell-index _ _
          c.loop-cell-test.true c.loop-cell.invariant.left right);
    }

pub returns-clause-verdict : goal.returns-clause-verdict
returns-clause-verdict g c =
    none-found _ c.args.highest _ _ _ _ _ c.loop-cell-test.false
    (rw (to_z-of_z w64 c.args.begin c.ranges.begin) at c.loop-cell.invariant.left)

pub returns-in_default-clause-count : goal.returns-in_default-clause-count
returns-in_default-clause-count g c =
    more-counted _ _ c.loop-cell.cell-index _ _ c.loop-cell.invariant.counted c.loop-cell-test.true
    (count-after _ _ c.end_of-end.ensures.after)

pub returns-clause-count : goal.returns-clause-count
returns-clause-count g c =
    all-counted _ _ c.loop-cell.cell-index _ c.loop-cell.invariant.counted c.loop-cell.auto.cell-index-end
