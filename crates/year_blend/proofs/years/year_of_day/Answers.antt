use Rattle.std.proofs.Common.{◌≡◌, to_z, of_z, w16, w32, w64, pos, ◌+ℤ◌, refl, arith}
use Rattle.std.proofs.lemmas.Int.{to_z-of_z}
use Rattle.jiff_core.proofs.SignedLemmas.{signed_arith}
use Rattle.jiff_core.proofs.IsoWeekLemmas.{epoch_day-year}
use Rattle.year_blend.proofs.years.year_of_day.Goals as goal

pub returns-clause-begun : goal.returns-clause-begun
returns-clause-begun c =
    let year : to_z w32 (of_z w32 (to_z w16 (of_z w16 c.in-Ok.date.year))) ≡ c.in-Ok.date.year = omega (arith, signed_arith) in
    let day = rw (to_z-of_z w64 c.args.day c.ranges.day) at c.in-Ok.ensures.value in
    rw year (rw day at (epoch_day-year c.in-Ok.date (c.in-Ok.date.year +ℤ pos 1) refl).0)

pub returns-clause-ongoing : goal.returns-clause-ongoing
returns-clause-ongoing c =
    let year : to_z w32 (of_z w32 (to_z w16 (of_z w16 c.in-Ok.date.year))) ≡ c.in-Ok.date.year = omega (arith, signed_arith) in
    let day = rw (to_z-of_z w64 c.args.day c.ranges.day) at c.in-Ok.ensures.value in
    rw year (rw day at (epoch_day-year c.in-Ok.date (c.in-Ok.date.year +ℤ pos 1) refl).1)
