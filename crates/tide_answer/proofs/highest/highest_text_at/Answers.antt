use Rattle.std.proofs.Common.{FitsSigned, w64, rules}
use Rattle.std.proofs.lemmas.Int.{to_z-of_z}
use Rattle.station_span.proofs.HeldLemmas.{looked_zone}
use Rattle.tide_answer.proofs.highest.highest_text_at.Goals as goal

pub highest_text-requires-clause-minute : goal.highest_text-requires-clause-minute
highest_text-requires-clause-minute c =
    let minute : FitsSigned w64 c.moved_minute-minute.result = search rules in
    simp to_z-of_z (looked_zone c.args.found_station.now _ c.moved_minute-minute.ensures.level)

pub returns : goal.returns
returns c =
    let at : FitsSigned w64 c.args.at = search rules in
    let here : FitsSigned w64 c.moved_minute-minute.result = search rules in
    let shown : FitsSigned w64 c.level_at-level.result = search rules in
    let minute = simp to_z-of_z at c.moved_minute-minute.ensures.exact in
    let level = simp to_z-of_z at c.level_at-level.ensures in
    rw (c.zone.ensures.exact, level, minute, c.args.found_station.now.unit) at (simp to_z-of_z at c.highest_text.ensures)
