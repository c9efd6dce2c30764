use Rattle.std.proofs.Common.{◌≡◌, pos, ◌*ℤ◌, to_z, of_z, w32, w64, ap, ◌∙◌, arith}
use Rattle.jiff_core.specs.Calendar.{days_from_civil}
use Rattle.jiff_core.proofs.SignedLemmas.{signed_arith}
use Rattle.year_blend.specs.Years.{year_start_of}
use Rattle.year_blend.proofs.years.year_start.Goals as goal

pub returns : goal.returns
unfolding year_start_of
returns c =
    let year : to_z w32 (of_z w32 c.args.y) ≡ c.args.y = omega (arith, signed_arith) in
    let minutes : to_z w64 (of_z w64 (pos 1440 *ℤ to_z w64 (of_z w64 c.new_years_day.result))) ≡ pos 1440 *ℤ c.new_years_day.result =
    omega (arith, signed_arith)
    in
    minutes ∙ ap (λ day. pos 1440 *ℤ day) (c.new_years_day.ensures.value ∙ ap (λ y. days_from_civil y 1 1) year)
