use Rattle.std.proofs.lemmas.Int.{to_z-of_z}
use mir.Syntax.{w64, w128}
use Rattle.highest_water.proofs.FindingLemmas.{highest-small, highest-forward}
use Rattle.highest_water.proofs.covering.peak_cover.Goals as goal

pub cells_by-requires-clause-size : goal.cells_by-requires-clause-size
cells_by-requires-clause-size g c =
    rw (to_z-of_z w128 c.args.value c.ranges.value)
    (highest-small (g.C.Curve.state c.args.curve.now).curve_model.curve_spec c.args.begin c.args.end c.args.at c.args.value
    (g.met.C.Curve.lawful c.args.curve.now) c.requires.first c.requires.last c.requires.highest)

pub cells_by-requires-clause-forward : goal.cells_by-requires-clause-forward
cells_by-requires-clause-forward g c =
    rw (to_z-of_z w64 c.args.begin c.ranges.begin, to_z-of_z w64 c.args.end c.ranges.end)
    (highest-forward _ _ _ _ _ c.requires.highest)

pub returns-clause-cells : goal.returns-clause-cells
returns-clause-cells g c =
    rw (
      to_z-of_z w64 c.args.begin c.ranges.begin,
      to_z-of_z w64 c.args.end c.ranges.end,
      to_z-of_z w64 c.args.at c.ranges.at,
      to_z-of_z w128 c.args.value c.ranges.value,
    ) at c.cells_by.ensures.cells

pub returns-clause-count : goal.returns-clause-count
returns-clause-count g c =
    rw (
      to_z-of_z w64 c.args.begin c.ranges.begin,
      to_z-of_z w64 c.args.end c.ranges.end,
      to_z-of_z w64 c.args.at c.ranges.at,
      to_z-of_z w128 c.args.value c.ranges.value,
    ) at c.cells_by.ensures.count
