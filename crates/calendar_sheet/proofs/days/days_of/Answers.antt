use Rattle.std.proofs.Common.{◌-ℤ◌, pos, FitsSigned, w64, arith, ap}
use Rattle.std.proofs.lemmas.Int.{ints, to_z-of_z}
use Rattle.calendar_sheet.specs.declared.days.Days.{Days}
use Rattle.calendar_sheet.proofs.DayLemmas.{among_days}
use Rattle.calendar_sheet.proofs.days.days_of.Goals as goal

pub returns-clause-exact : goal.returns-clause-exact
returns-clause-exact c =
    let begin : FitsSigned w64 c.args.begin = c.ranges.begin in
    let end : FitsSigned w64 c.args.end = c.ranges.end in
    let last : FitsSigned w64 (c.args.end -ℤ pos 1) = omega (arith, ints, begin, end, c.requires.some) in
    let between = simp to_z-of_z at c.days_between.ensures.exact in
    rw between at c.with_events.ensures.exact

pub returns-clause-among : goal.returns-clause-among
returns-clause-among c =
    let between = c.days_between.result in
    let days = c.with_events.result in
    among_days c.args.zone.now c.args.events.now between.first between.last days.first days.last
    (ap (λ (d : Days). d.first) c.with_events.ensures.exact) (ap (λ (d : Days). d.last) c.with_events.ensures.exact)
