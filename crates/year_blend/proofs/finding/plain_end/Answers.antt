use Rattle.std.proofs.Common.{◌≡◌, ℕ, suc, ◌+◌, ◌<◌, ℤ, pos, ◌+ℤ◌, to_z, of_z, w32, ap, ◌∙◌, arith}
use Rattle.std.proofs.lemmas.Int.{ints}
use Rattle.year_blend.specs.Years.{year_start_of}
use Rattle.year_blend.specs.Places.{AreYears, start_of}
use Rattle.year_blend.proofs.PlainLemmas.{plain_end_of-inner, plain_end_of-last, next_start_size}
use Rattle.year_blend.proofs.finding.plain_end.Goals as goal

-- the result of `year_start` without casts
next_start : (first_year : ℤ) (years year : ℕ) (end : ℤ) → AreYears first_year years → year < years
    → end ≡ year_start_of (to_z w32 (of_z w32 (to_z w32 (of_z w32 first_year) +ℤ to_z w32 (year + 1))))
    → end ≡ start_of first_year (suc year)
next_start first_year years year end are one_of e =
    let least = are.least in
    let most = are.most in
    let few = are.few in
    let next : to_z w32 (of_z w32 (to_z w32 (of_z w32 first_year) +ℤ to_z w32 (year + 1)))
    ≡ first_year +ℤ pos (suc year) = omega (arith, ints) in
    e ∙ ap year_start_of next

pub overflow_sub-result : goal.overflow_sub-result
overflow_sub-result c =
    let start = next_start c.args.first_year c.args.years c.args.year c.year_start-end.result c.requires.years
    c.requires.year c.year_start-end.ensures in
    let size = next_start_size c.args.first_year c.args.years c.args.year c.requires.years c.requires.year in
    omega (arith, ints)

pub returns-then-next-years : goal.returns-then-next-years
returns-then-next-years c =
    let inner = c.if-next-years.true in
    let start = next_start c.args.first_year c.args.years c.args.year c.year_start-end.result c.requires.years
    c.requires.year c.year_start-end.ensures in
    let size = next_start_size c.args.first_year c.args.years c.args.year c.requires.years c.requires.year in
    rw (plain_end_of-inner c.args.first_year c.args.years c.args.year (omega arith)) (omega (arith, ints))

pub returns-else-next-years : goal.returns-else-next-years
returns-else-next-years c =
    let last = c.if-next-years.false in
    let start = next_start c.args.first_year c.args.years c.args.year c.year_start-end.result c.requires.years
    c.requires.year c.year_start-end.ensures in
    let size = next_start_size c.args.first_year c.args.years c.args.year c.requires.years c.requires.year in
    rw (plain_end_of-last c.args.first_year c.args.years c.args.year (omega arith)) (omega (arith, ints))
