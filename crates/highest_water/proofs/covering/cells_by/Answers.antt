use Rattle.std.proofs.Common.{w64, ◌∙◌}
use Rattle.std.proofs.lemmas.Int.{to_z-of_z}
use Rattle.curve_law.proofs.StateLemmas.{curve_model-after, count-after}
use Rattle.highest_water.proofs.WalkLemmas.{pending-bound, first-counted, cell-fewer, cell-pushed, cell-counted, cells-all, counted-more, counted-all}
use Rattle.highest_water.proofs.covering.cells_by.Goals as goal

pub walk_from-front-requires-clause-forward : goal.walk_from-front-requires-clause-forward
walk_from-front-requires-clause-forward g c =
    rw (to_z-of_z w64 c.args.begin c.ranges.begin, to_z-of_z w64 c.args.end c.ranges.end) c.requires.forward

pub loop-found-init : goal.loop-found-init
loop-found-init g c =
    let walk = c.walk_from-front.ensures in
    record {
      unchanged = curve_model-after _ _ walk.after;
      walk_invariant = walk.walk_invariant;
      cells = rw c.new-cells.ensures.items (walk.cells c.args.highest);
      counted = first-counted _ _ _ _ (count-after _ _ walk.after);
    }

pub next_cell-requires-clause-walk_invariant : goal.next_cell-requires-clause-walk_invariant
next_cell-requires-clause-walk_invariant g c = rw c.loop-found.invariant.unchanged c.loop-found.invariant.walk_invariant

pub loop-found-smaller : goal.loop-found-smaller
loop-found-smaller g c =
    cell-fewer _ _ _ (rw c.loop-found.invariant.unchanged at c.in-Some.ensures.found.1)

pub loop-found-preserved : goal.loop-found-preserved
loop-found-preserved g c =
    let invariant = c.loop-found.invariant in
    let next = c.in-Some.ensures in
    let pushed = c.in_ok-push.ensures.items in
    let ahead = rw invariant.unchanged at next.found.1 in
    record {
      unchanged = next.unchanged ∙ invariant.unchanged;
      walk_invariant = rw invariant.unchanged at next.walk_invariant;
      cells = cell-pushed c.loop-found.cells.items _ _ _ _ _ invariant.cells ahead pushed;
      counted = cell-counted c.loop-found.cells.items _ _ _ _ _ _ _ pushed next.count invariant.counted;
    }

pub returns-in_err-push-clause-count : goal.returns-in_err-push-clause-count
returns-in_err-push-clause-count g c =
    let invariant = c.loop-found.invariant in
    let next = c.in-Some.ensures in
    let all = rw (to_z-of_z w64 c.args.begin c.ranges.begin, to_z-of_z w64 c.args.end c.ranges.end) at invariant.cells in
    let ahead = rw invariant.unchanged at next.found.1 in
    let walk_invariant = rw invariant.unchanged at next.walk_invariant in
    let few = pending-bound (g.C.Curve.state c.args.curve.now).curve_model.curve_spec c.args.highest _ _ _ walk_invariant in
    counted-more c.loop-found.cells.items _ _ _ _ _ _ _ _ _ all ahead few next.count invariant.counted

pub returns-clause-cells : goal.returns-clause-cells
returns-clause-cells g c =
    let invariant = c.loop-found.invariant in
    let all = rw (to_z-of_z w64 c.args.begin c.ranges.begin, to_z-of_z w64 c.args.end c.ranges.end) at invariant.cells in
    let done = rw invariant.unchanged at c.in_default.ensures.found.2 in
    c.from_vec.ensures ∙ cells-all c.loop-found.cells.items _ _ all done

pub returns-clause-count : goal.returns-clause-count
returns-clause-count g c =
    let invariant = c.loop-found.invariant in
    let last = c.in_default.ensures in
    let all = rw (to_z-of_z w64 c.args.begin c.ranges.begin, to_z-of_z w64 c.args.end c.ranges.end) at invariant.cells in
    let done = rw invariant.unchanged at last.found.2 in
    rw last.count (counted-all c.loop-found.cells.items _ _ _ _ _ all done last.found.1 invariant.counted)
