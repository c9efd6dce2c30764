use Rattle.std.proofs.Common.{FitsSigned, w64, rules}
use Rattle.std.proofs.lemmas.Int.{to_z-of_z}
use Rattle.calendar_sheet.proofs.DayLemmas.{wider}
use Rattle.calendar_sheet.proofs.days.Days.with_day.Goals as goal

pub returns-clause-days : goal.returns-clause-days
returns-clause-days c =
    let first : FitsSigned w64 c.args.self.first = search rules in
    let last : FitsSigned w64 c.args.self.last = search rules in
    let day : FitsSigned w64 c.args.day = c.ranges.day in
    let low : FitsSigned w64 c.min.result = search rules in
    let high : FitsSigned w64 c.max.result = search rules in
    let min = simp to_z-of_z at c.min.ensures.value in
    let max = simp to_z-of_z at c.max.ensures.value in
    simp to_z-of_z (rw (min, max) (wider c.args.self.first c.args.self.last c.args.day c.requires.days c.requires.day))
