use Rattle.std.proofs.Common.{FitsSigned, w64, rules}
use Rattle.std.proofs.lemmas.Int.{to_z-of_z}
use Rattle.tide_answer.proofs.RowLemmas.{row_level, row_added}
use Rattle.tide_answer.proofs.heights.rows_of.Goals as goal

pub row_at-requires-clause-level : goal.row_at-requires-clause-level
row_at-requires-clause-level c =
    let step : FitsSigned w64 c.args.step = search rules in
    let count = simp to_z-of_z at c.row_count-index-end.ensures.exact in
    simp to_z-of_z
    (row_level c.args.found_station.now c.args.step c.loop-index.index c.requires.levels c.requires.step (rw count at c.loop-index-test.true))

pub loop-index-preserved : goal.loop-index-preserved
loop-index-preserved c =
    let step : FitsSigned w64 c.args.step = search rules in
    let count = simp to_z-of_z at c.row_count-index-end.ensures.exact in
    let row = simp to_z-of_z at c.row_at.ensures in
    let before = simp to_z-of_z at c.loop-index.invariant in
    simp to_z-of_z
    (row_added c.args.found_station.now c.args.step c.loop-index.index c.loop-index.rows.items _ _ c.requires.levels
    c.requires.step (rw count at c.loop-index-test.true) before row c.in_ok-push.ensures.items)

pub returns-clause-listed : goal.returns-clause-listed
returns-clause-listed c = rw c.from_vec.ensures c.loop-index.invariant.listed
