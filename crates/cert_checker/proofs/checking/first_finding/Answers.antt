use Rattle.std.proofs.Common.{w64, FitsSigned, rules, arith, ◌∙◌}
use Rattle.std.proofs.lemmas.Int.{to_z-of_z}
use Rattle.curve_law.proofs.StateLemmas.{curve_model-after, count-after}
use Rattle.cert_checker.proofs.FindingLemmas.{first-span, rest-span, first-found, rest-found, none-found}
use Rattle.cert_checker.proofs.checking.first_finding.Goals as goal

pub end_of-end-requires-clause-span : goal.end_of-end-requires-clause-span
end_of-end-requires-clause-span g c =
    let at : FitsSigned w64 c.loop-cell.at.minute = search rules in
    rw (to_z-of_z w64 _ at, c.loop-cell.invariant.unchanged)
    (first-span _ _ c.args.cells.now c.loop-cell.cell-index _ c.loop-cell-test.true c.loop-cell.invariant.span)

pub finding_on-requires-clause-span : goal.finding_on-requires-clause-span
finding_on-requires-clause-span g c =
    rw (c.end_of-end.ensures.after, c.loop-cell.invariant.unchanged)
    (first-span _ _ c.args.cells.now c.loop-cell.cell-index _ c.loop-cell-test.true c.loop-cell.invariant.span)

pub returns-in_default-clause-verdict : goal.returns-in_default-clause-verdict
returns-in_default-clause-verdict g c =
    let left = rw (to_z-of_z w64 c.args.begin c.ranges.begin) at c.loop-cell.invariant.left in
    let found = rw (c.end_of-end.ensures.after, c.loop-cell.invariant.unchanged) at c.finding_on.ensures in
    first-found _ _ _ c.args.cells.now c.loop-cell.cell-index _ _ _ c.loop-cell-test.true left found c.in_default.not-Accepted

pub loop-cell-preserved : goal.loop-cell-preserved
loop-cell-preserved g c =
    let at : FitsSigned w64 c.loop-cell.at.minute = search rules in
    let minute = rw (to_z-of_z w64 _ at) at c.end_of-end.ensures.minute in
    let right = rw (c.end_of-end.ensures.after, c.loop-cell.invariant.unchanged) at c.in-Accepted.ensures in
    record {
      unchanged = curve_model-after _ _ c.end_of-end.ensures.after ∙ c.loop-cell.invariant.unchanged;
      numbered = omega (arith, c.loop-cell.invariant.numbered);
      counted = omega (arith, count-after _ _ c.end_of-end.ensures.after, c.loop-cell.invariant.counted);
      value = rw c.loop-cell.invariant.unchanged at c.end_of-end.ensures.value;
      span = rw minute (rest-span _ _ c.args.cells.now c.loop-cell.cell-index _ c.loop-cell-test.true c.loop-cell.invariant.span);
      left =
          rw minute (rest-found _ _ _ c.args.cells.now c.loop-cell.cell-index _ _ c.loop-cell-test.true c.loop-cell.invariant.left right);
    }

pub returns-clause-verdict : goal.returns-clause-verdict
returns-clause-verdict g c =
    none-found _ _ _ _ _ _ c.loop-cell-test.false (rw (to_z-of_z w64 c.args.begin c.ranges.begin) at c.loop-cell.invariant.left)
