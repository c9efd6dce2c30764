use Rattle.std.proofs.Common.{w64, to_z, of_z, FitsSigned, rules, ◌∙◌}
use Rattle.std.proofs.lemmas.Int.{to_z-of_z}
use Rattle.curve_law.proofs.StateLemmas.{curve_model-after, count-after}
use Rattle.highest_water.proofs.UnderLemmas.{int_lt-true}
use Rattle.highest_water.proofs.FindingLemmas.{asked-point, begin-point, higher-point, int_le-trans, minute-between, begin-between, minute-range, block-ends, block-smaller, block-few, begin-counted, block-counted}
use Rattle.highest_water.proofs.finding.highest_block.Goals as goal

pub point_at-highest-requires-clause-minute : goal.point_at-highest-requires-clause-minute
point_at-highest-requires-clause-minute g c =
    rw (to_z-of_z w64 c.args.begin c.ranges.begin)
    (begin-between (g.C.Curve.state c.args.curve.now).curve_model.curve_spec c.args.begin c.args.end c.requires.first
    c.requires.last c.requires.some)

pub block_end-at-requires-clause-in_range : goal.block_end-at-requires-clause-in_range
block_end-at-requires-clause-in_range g c =
    let curve_spec = (g.C.Curve.state c.args.curve.now).curve_model.curve_spec in
    rw (to_z-of_z w64 c.args.begin c.ranges.begin)
    (minute-range curve_spec c.args.begin (g.met.C.Curve.lawful c.args.curve.now)
    (begin-between curve_spec c.args.begin c.args.end c.requires.first c.requires.last c.requires.some))

pub loop-at-init : goal.loop-at-init
loop-at-init g c =
    let begun = c.point_at-highest.ensures in
    let begin = to_z-of_z w64 c.args.begin c.ranges.begin in
    let end = to_z-of_z w64 c.args.end c.ranges.end in
    let next : FitsSigned w64 c.block_end-at.result = search rules in
    let block = block-ends c.args.begin c.args.end c.block_end-at.result c.requires.some (rw (begin, end) at c.block_end-at.ensures) in
    rw (begin, end, to_z-of_z w64 c.block_end-at.result next) (record {
      unchanged = curve_model-after _ _ begun.after;
      from = block.from;
      within = block.within;
      point = begin-point (g.C.Curve.state c.args.curve.now).curve_model.curve_spec c.args.begin c.args.end
          c.point_at-highest.result c.requires.some (rw begin at begun.point);
      counted = begin-counted _ _ _ _ (count-after _ _ begun.after) block.fewer;
    })

pub point_at-requires-clause-minute : goal.point_at-requires-clause-minute
point_at-requires-clause-minute g c =
    let invariant = c.loop-at.invariant in
    let from = rw (to_z-of_z w64 c.args.begin c.ranges.begin) at invariant.from in
    let within = rw (to_z-of_z w64 c.args.end c.ranges.end) at invariant.within in
    rw invariant.unchanged (minute-between (g.C.Curve.state c.args.curve.now).curve_model.curve_spec c.args.begin c.args.end
    (to_z w64 c.loop-at.at-bits) c.requires.first c.requires.last from within)

pub point_at-requires-clause-count_bound : goal.point_at-requires-clause-count_bound
point_at-requires-clause-count_bound g c =
    let counted = rw (to_z-of_z w64 c.args.begin c.ranges.begin, to_z-of_z w64 c.args.end c.ranges.end) at c.loop-at.invariant.counted in
    block-few (g.C.Curve.state c.args.curve.now).curve_model.curve_spec c.args.begin c.args.end _ _ _
    (g.met.C.Curve.lawful c.args.curve.now) c.requires.first c.requires.last c.requires.some c.requires.count_bound counted

pub block_end-at-requires-in-loop-at-clause-in_range : goal.block_end-at-requires-in-loop-at-clause-in_range
block_end-at-requires-in-loop-at-clause-in_range g c =
    let curve_spec = (g.C.Curve.state c.args.curve.now).curve_model.curve_spec in
    let from = rw (to_z-of_z w64 c.args.begin c.ranges.begin) at c.loop-at.invariant.from in
    let within = rw (to_z-of_z w64 c.args.end c.ranges.end) at c.loop-at.invariant.within in
    minute-range curve_spec (to_z w64 c.loop-at.at-bits) (g.met.C.Curve.lawful c.args.curve.now)
    (minute-between curve_spec c.args.begin c.args.end _ c.requires.first c.requires.last from within)

pub loop-at-smaller : goal.loop-at-smaller
loop-at-smaller g c =
    let less = int_lt-true (to_z w64 c.loop-at.at-bits) (to_z w64 (of_z w64 c.args.end)) c.loop-at-test.true in
    let next : FitsSigned w64 c.block_end-at-in-loop-at.result = search rules in
    rw (to_z-of_z w64 c.block_end-at-in-loop-at.result next)
    (block-smaller _ _ _ (block-ends (to_z w64 c.loop-at.at-bits) (to_z w64 (of_z w64 c.args.end))
    c.block_end-at-in-loop-at.result less c.block_end-at-in-loop-at.ensures))

pub loop-at-preserved : goal.loop-at-preserved
loop-at-preserved g c =
    let curve_spec = (g.C.Curve.state c.args.curve.now).curve_model.curve_spec in
    let invariant = c.loop-at.invariant in
    let less = int_lt-true (to_z w64 c.loop-at.at-bits) (to_z w64 (of_z w64 c.args.end)) c.loop-at-test.true in
    let next : FitsSigned w64 c.block_end-at-in-loop-at.result = search rules in
    let block = block-ends (to_z w64 c.loop-at.at-bits) (to_z w64 (of_z w64 c.args.end)) c.block_end-at-in-loop-at.result
    less c.block_end-at-in-loop-at.ensures in
    let point = rw invariant.unchanged at c.point_at.ensures.point in
    rw (to_z-of_z w64 c.block_end-at-in-loop-at.result next) (record {
      unchanged = curve_model-after _ _ c.point_at.ensures.after ∙ invariant.unchanged;
      from = int_le-trans _ _ _ invariant.from block.from;
      within = block.within;
      point = rw c.higher_of-highest.ensures (higher-point curve_spec _ _ c.loop-at.highest c.point_at.result
          invariant.point (asked-point curve_spec _ _ _ c.point_at.result invariant.from less point));
      counted = block-counted _ _ _ _ _ _ invariant.counted (count-after _ _ c.point_at.ensures.after) block.fewer;
    })
