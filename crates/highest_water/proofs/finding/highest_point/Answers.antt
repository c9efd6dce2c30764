use Rattle.std.proofs.Common.{w64, to_z, of_z, ◌≤ℤ◌, length, ap, ◌∙◌}
use Rattle.std.proofs.lemmas.Int.{to_z-of_z}
use Rattle.curve_law.specs.declared.point.Point.{Point}
use Rattle.curve_law.proofs.StateLemmas.{curve_model-after, count-after}
use Rattle.highest_water.proofs.FindingLemmas.{some-forward, blocks-few, int_le-same, int_le-more, walk-fewer, walk-smaller, walk-begun, walk-counted, walk-done, first-so_far, cell-so_far, all-so_far, right-some, point-small, highest-is}
use Rattle.highest_water.proofs.finding.highest_point.Goals as goal

pub highest_block-highest-requires-clause-some : goal.highest_block-highest-requires-clause-some
highest_block-highest-requires-clause-some g c =
    rw (to_z-of_z w64 c.args.begin c.ranges.begin, to_z-of_z w64 c.args.end c.ranges.end) c.requires.some

pub walk_from-front-requires-clause-forward : goal.walk_from-front-requires-clause-forward
walk_from-front-requires-clause-forward g c =
    rw (to_z-of_z w64 c.args.begin c.ranges.begin, to_z-of_z w64 c.args.end c.ranges.end)
    (some-forward c.args.begin c.args.end c.requires.some)

pub walk_from-front-requires-clause-count_bound : goal.walk_from-front-requires-clause-count_bound
walk_from-front-requires-clause-count_bound g c =
    let found = rw (to_z-of_z w64 c.args.begin c.ranges.begin, to_z-of_z w64 c.args.end c.ranges.end)
    at c.highest_block-highest.ensures.count in
    blocks-few c.args.begin c.args.end _ _ c.requires.length_bound c.requires.some c.requires.count_bound found

pub walk_from-front-requires-clause-size : goal.walk_from-front-requires-clause-size
walk_from-front-requires-clause-size g c =
    let point = rw (to_z-of_z w64 c.args.begin c.ranges.begin, to_z-of_z w64 c.args.end c.ranges.end)
    at c.highest_block-highest.ensures.point in
    point-small (g.C.Curve.state c.args.curve.now).curve_model.curve_spec c.args.begin c.args.end c.highest_block-highest.result
    (g.met.C.Curve.lawful c.args.curve.now) c.requires.first c.requires.last point

pub loop-found-init : goal.loop-found-init
loop-found-init g c =
    let block = c.highest_block-highest.ensures in
    let walk = c.walk_from-front.ensures in
    record {
      unchanged = curve_model-after _ _ walk.after ∙ block.unchanged;
      walk_invariant = rw block.unchanged at walk.walk_invariant;
      until = walk.end;
      onward = int_le-same _ _ walk.at;
      so_far = rw walk.at (first-so_far (g.C.Curve.state c.args.curve.now).curve_model.curve_spec _ _ c.highest_block-highest.result block.point);
      counted = rw walk.at (walk-begun _ _ _ _ _ block.count (count-after _ _ walk.after));
    }

pub next_cell-requires-clause-size : goal.next_cell-requires-clause-size
next_cell-requires-clause-size g c =
    let point = rw (to_z-of_z w64 c.args.begin c.ranges.begin, to_z-of_z w64 c.args.end c.ranges.end)
    at c.loop-found.invariant.so_far.point in
    point-small (g.C.Curve.state c.args.curve.now).curve_model.curve_spec c.args.begin c.args.end c.loop-found.highest
    (g.met.C.Curve.lawful c.args.curve.now) c.requires.first c.requires.last point

pub loop-found-smaller : goal.loop-found-smaller
loop-found-smaller g c =
    let found = c.in-Some.ensures.found in
    let some = right-some _ _ _ _ found.3 in
    walk-smaller _ _ _ _ found.2 (rw c.loop-found.invariant.until at found.4) some

pub loop-found-preserved : goal.loop-found-preserved
loop-found-preserved g c =
    let curve_spec = (g.C.Curve.state c.args.curve.now).curve_model.curve_spec in
    let invariant = c.loop-found.invariant in
    let next = c.in-Some.ensures in
    let found = next.found in
    let first : curve_spec.first ≤ℤ to_z w64 (of_z w64 c.args.begin) = rw (to_z-of_z w64 c.args.begin c.ranges.begin) c.requires.first in
    let last : to_z w64 (of_z w64 c.args.end) ≤ℤ curve_spec.last = rw (to_z-of_z w64 c.args.end c.ranges.end) c.requires.last in
    let right = rw invariant.unchanged at found.3 in
    let some = right-some _ _ _ _ right in
    let within = rw invariant.until at found.4 in
    record {
      unchanged = next.unchanged ∙ invariant.unchanged;
      walk_invariant = rw invariant.unchanged at next.walk_invariant;
      until = next.end ∙ invariant.until;
      onward = int_le-more _ _ _ _ invariant.onward found.2;
      so_far = rw (c.raised_by-highest.ensures, found.2)
          (cell-so_far curve_spec _ _ c.loop-found.front.at.minute c.loop-found.highest c.in-Some.found.at
          c.in-Some.found.cell (g.met.C.Curve.lawful c.args.curve.now) first last invariant.so_far invariant.onward
          (ap (λ (p : Point). p.minute) found.0) (rw found.0 invariant.walk_invariant.value)
          right (rw found.2 at within));
      counted = walk-counted _ _ _ _ _ _ _ _ _ invariant.counted next.count (walk-fewer _ _ _ _ found.2 within) some;
    }

pub returns-clause-highest : goal.returns-clause-highest
returns-clause-highest g c =
    let done = c.in_default.ensures.found.0 ∙ c.loop-found.invariant.until in
    rw (to_z-of_z w64 c.args.begin c.ranges.begin, to_z-of_z w64 c.args.end c.ranges.end) at
    (all-so_far (g.C.Curve.state c.args.curve.now).curve_model.curve_spec _ _ c.loop-found.front.at.minute c.loop-found.highest
    done c.loop-found.invariant.so_far)

pub returns-clause-minute : goal.returns-clause-minute
returns-clause-minute g c =
    (highest-is (g.C.Curve.state c.args.curve.now).curve_model.curve_spec c.args.begin c.args.end _ _ (returns-clause-highest g c)).0

pub returns-clause-value : goal.returns-clause-value
returns-clause-value g c =
    (highest-is (g.C.Curve.state c.args.curve.now).curve_model.curve_spec c.args.begin c.args.end _ _ (returns-clause-highest g c)).1

pub returns-clause-count : goal.returns-clause-count
returns-clause-count g c =
    let done = c.in_default.ensures.found.0 ∙ c.loop-found.invariant.until in
    let none = ap length c.in_default.ensures.found.1 in
    let counted = rw (to_z-of_z w64 c.args.begin c.ranges.begin, to_z-of_z w64 c.args.end c.ranges.end) at c.loop-found.invariant.counted in
    walk-done _ _ _ _ _ _ counted c.in_default.ensures.count none
