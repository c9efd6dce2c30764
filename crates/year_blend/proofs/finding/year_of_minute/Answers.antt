use Rattle.std.proofs.Common.{FitsSigned, w32, w64, ◌∙◌, rules}
use Rattle.std.proofs.lemmas.Int.{to_z-of_z}
use Rattle.year_blend.proofs.YearLemmas.{begun_by_day, not_begun_by_day}
use Rattle.year_blend.proofs.finding.year_of_minute.Goals as goal

pub returns-clause-begun : goal.returns-clause-begun
returns-clause-begun c =
    let year_fits : FitsSigned w32 c.year_of_day.result = search rules in
    let day_fits : FitsSigned w64 c.div_euclid.result = search rules in
    let day = to_z-of_z w64 c.div_euclid.result day_fits ∙ c.div_euclid.ensures in
    let minute = to_z-of_z w64 c.args.m c.ranges.m in
    rw (to_z-of_z w32 c.year_of_day.result year_fits)
    (begun_by_day c.year_of_day.result c.args.m (rw (day, minute) at c.year_of_day.ensures.begun))

pub returns-clause-ongoing : goal.returns-clause-ongoing
returns-clause-ongoing c =
    let year_fits : FitsSigned w32 c.year_of_day.result = search rules in
    let day_fits : FitsSigned w64 c.div_euclid.result = search rules in
    let day = to_z-of_z w64 c.div_euclid.result day_fits ∙ c.div_euclid.ensures in
    let minute = to_z-of_z w64 c.args.m c.ranges.m in
    rw (to_z-of_z w32 c.year_of_day.result year_fits)
    (not_begun_by_day _ c.args.m (rw (day, minute) at c.year_of_day.ensures.ongoing))
