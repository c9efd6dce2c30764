use Rattle.std.proofs.Common.{◌≡◌, pos, ◌+ℤ◌, to_z, of_z, w32, ap, ◌∙◌, arith}
use Rattle.std.proofs.lemmas.Int.{ints}
use Rattle.jiff_core.proofs.SignedLemmas.{signed_arith}
use Rattle.year_blend.specs.Years.{year_start_of}
use Rattle.year_blend.proofs.YearLemmas.{year_start_of_low, year_start_of_high}
use Rattle.year_blend.proofs.finding.minutes_from.Goals as goal

-- the result of `year_start`
start : (c : goal.After-year_start) → c.year_start.result ≡ year_start_of (c.args.first_year +ℤ pos c.args.year)
start c =
    let year : to_z w32 (of_z w32 (to_z w32 (of_z w32 c.args.first_year) +ℤ to_z w32 c.args.year)) ≡ c.args.first_year +ℤ pos c.args.year =
    omega (arith, ints)
    in
    c.year_start.ensures ∙ ap year_start_of year

pub overflow_sub-result : goal.overflow_sub-result
overflow_sub-result c =
    let e = start c in
    let low = year_start_of_low (c.args.first_year +ℤ pos c.args.year) (omega (arith, signed_arith)) in
    let high = year_start_of_high (c.args.first_year +ℤ pos c.args.year) (omega (arith, signed_arith)) (omega (arith, signed_arith)) in
    omega (arith, ints)

pub returns : goal.returns
returns c =
    let e = start c in
    let low = year_start_of_low (c.args.first_year +ℤ pos c.args.year) (omega (arith, signed_arith)) in
    let high = year_start_of_high (c.args.first_year +ℤ pos c.args.year) (omega (arith, signed_arith)) (omega (arith, signed_arith)) in
    omega (arith, ints)
