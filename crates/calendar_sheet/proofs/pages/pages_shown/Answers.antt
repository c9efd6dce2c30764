use Rattle.std.proofs.Common.{FitsSigned, w64, of_z, ap}
use Rattle.std.proofs.lemmas.Int.{to_z-of_z}
use Rattle.calendar_sheet.proofs.DayLemmas.{before_test}
use Rattle.calendar_sheet.proofs.pages.pages_shown.Goals as goal

pub returns-clause-exact : goal.returns-clause-exact
returns-clause-exact c =
    let begin : FitsSigned w64 c.args.begin = c.ranges.begin in
    let end : FitsSigned w64 c.args.end = c.ranges.end in
    let days = simp to_z-of_z at c.days_of-days.ensures.exact in
    let before = before_test c.args.begin c.args.end c.requires.forward (λ same. c.if-begin-end.false (ap (λ z. of_z w64 z) same)) in
    rw before (rw days at c.pages_of.ensures.exact)
