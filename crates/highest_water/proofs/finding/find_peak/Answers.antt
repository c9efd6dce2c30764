use Rattle.std.proofs.Common.{w64, FitsSigned, rules}
use Rattle.std.proofs.lemmas.Int.{to_z-of_z}
use mir.Syntax.{w128}
use Rattle.highest_water.proofs.FindingLemmas.{some-forward, values-few, highest-small, highest-peak_of, values-counted}
use Rattle.highest_water.proofs.finding.find_peak.Goals as goal

pub highest_point-highest-requires-clause-some : goal.highest_point-highest-requires-clause-some
highest_point-highest-requires-clause-some g c =
    rw (to_z-of_z w64 c.args.begin c.ranges.begin, to_z-of_z w64 c.args.end c.ranges.end) c.requires.some

pub highest_point-highest-requires-clause-length_bound : goal.highest_point-highest-requires-clause-length_bound
highest_point-highest-requires-clause-length_bound g c =
    rw (to_z-of_z w64 c.args.begin c.ranges.begin, to_z-of_z w64 c.args.end c.ranges.end) c.requires.length_bound

pub cells_by-requires-clause-size : goal.cells_by-requires-clause-size
cells_by-requires-clause-size g c =
    let highest = rw (to_z-of_z w64 c.args.begin c.ranges.begin, to_z-of_z w64 c.args.end c.ranges.end)
    at c.highest_point-highest.ensures.highest in
    highest-small (g.C.Curve.state c.args.curve.now).curve_model.curve_spec c.args.begin c.args.end _ _
    (g.met.C.Curve.lawful c.args.curve.now) c.requires.first c.requires.last highest

pub cells_by-requires-clause-forward : goal.cells_by-requires-clause-forward
cells_by-requires-clause-forward g c =
    rw (to_z-of_z w64 c.args.begin c.ranges.begin, to_z-of_z w64 c.args.end c.ranges.end)
    (some-forward c.args.begin c.args.end c.requires.some)

pub cells_by-requires-clause-count_bound : goal.cells_by-requires-clause-count_bound
cells_by-requires-clause-count_bound g c =
    let found = rw (to_z-of_z w64 c.args.begin c.ranges.begin, to_z-of_z w64 c.args.end c.ranges.end)
    at c.highest_point-highest.ensures.count in
    values-few c.args.begin c.args.end _ _ c.requires.length_bound c.requires.some c.requires.count_bound found

pub returns-clause-highest : goal.returns-clause-highest
returns-clause-highest g c =
    let at : FitsSigned w64 c.highest_point-highest.result.minute = search rules in
    let value : FitsSigned w128 c.highest_point-highest.result.value = search rules in
    let highest = rw (to_z-of_z w64 c.args.begin c.ranges.begin, to_z-of_z w64 c.args.end c.ranges.end)
    at c.highest_point-highest.ensures.highest in
    rw (to_z-of_z w64 _ at, to_z-of_z w128 _ value) highest

pub returns-clause-peak : goal.returns-clause-peak
returns-clause-peak g c =
    let highest = rw (to_z-of_z w64 c.args.begin c.ranges.begin, to_z-of_z w64 c.args.end c.ranges.end)
    at c.highest_point-highest.ensures.highest in
    let at : FitsSigned w64 c.highest_point-highest.result.minute = search rules in
    let value : FitsSigned w128 c.highest_point-highest.result.value = search rules in
    let begin = to_z-of_z w64 c.args.begin c.ranges.begin in
    let end = to_z-of_z w64 c.args.end c.ranges.end in
    let cells = rw (c.highest_point-highest.ensures.unchanged, begin, end) at c.in_ok-cells.ensures.cells in
    rw (to_z-of_z w64 _ at, to_z-of_z w128 _ value)
    (highest-peak_of (g.C.Curve.state c.args.curve.now).curve_model.curve_spec c.args.begin c.args.end _ _ _ highest cells)

pub returns-clause-count : goal.returns-clause-count
returns-clause-count g c =
    let begin = to_z-of_z w64 c.args.begin c.ranges.begin in
    let end = to_z-of_z w64 c.args.end c.ranges.end in
    let highest = rw (begin, end) at c.highest_point-highest.ensures.highest in
    let at : FitsSigned w64 c.highest_point-highest.result.minute = search rules in
    let value : FitsSigned w128 c.highest_point-highest.result.value = search rules in
    let found = rw (begin, end) at c.highest_point-highest.ensures.count in
    let after = rw (c.highest_point-highest.ensures.unchanged, begin, end) at c.cells_by.ensures.count in
    values-counted (g.C.Curve.state c.args.curve.now).curve_model.curve_spec c.args.begin c.args.end _ _ _ _ _ highest found after

pub returns-in_err-cells-clause-count : goal.returns-in_err-cells-clause-count
returns-in_err-cells-clause-count g c =
    let begin = to_z-of_z w64 c.args.begin c.ranges.begin in
    let end = to_z-of_z w64 c.args.end c.ranges.end in
    let highest = rw (begin, end) at c.highest_point-highest.ensures.highest in
    let at : FitsSigned w64 c.highest_point-highest.result.minute = search rules in
    let value : FitsSigned w128 c.highest_point-highest.result.value = search rules in
    let found = rw (begin, end) at c.highest_point-highest.ensures.count in
    let after = rw (c.highest_point-highest.ensures.unchanged, begin, end) at c.cells_by.ensures.count in
    values-counted (g.C.Curve.state c.args.curve.now).curve_model.curve_spec c.args.begin c.args.end _ _ _ _ _ highest found after
