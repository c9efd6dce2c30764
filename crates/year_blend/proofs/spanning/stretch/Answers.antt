use Rattle.std.proofs.Common.{w32, w64, sym, subst, arith, add-one}
use Rattle.std.proofs.lemmas.Int.{ints, to_z-of_z}
use Rattle.year_blend.specs.Stretches.{IsStretchOf}
use Rattle.year_blend.proofs.PlaceLemmas.{domain_small}
use Rattle.year_blend.proofs.StretchLemmas.{stretch_of-within, stretch_of-past, stretch_of-blend, stretch_of-rule}
use Rattle.year_blend.proofs.spanning.stretch.Goals as goal

pub overflow_add-m : goal.overflow_add-m
overflow_add-m c =
    let small = domain_small c.args.first_year c.args.years c.args.m c.requires.years c.requires.first in
    let short = c.requires.length_bound in
    omega (arith, ints, c.from.ensures)

pub returns-then-m-from-clause-value : goal.returns-then-m-from-clause-value
returns-then-m-from-clause-value c =
    let first = to_z-of_z w32 c.args.first_year c.ranges.first_year in
    let minute = to_z-of_z w64 c.args.m c.ranges.m in
    let small = domain_small c.args.first_year c.args.years c.args.m c.requires.years c.requires.first in
    let short = c.requires.length_bound in
    let end = rw first at c.plain_end.ensures in
    stretch_of-within c.args.first_year c.args.years c.args.m c.plain_end.result c.args.n c.in-Plain.year
    (rw (first, minute) at c.in-Plain.ensures.value) end
    (omega (arith, ints, c.from.ensures, c.if-m-from.true))

pub returns-then-m-from-clause-rule : goal.returns-then-m-from-clause-rule
returns-then-m-from-clause-rule c =
    subst (IsStretchOf c.args.first_year c.args.years c.args.m c.args.n) (sym (returns-then-m-from-clause-value c))
    (stretch_of-rule c.args.first_year c.args.years c.args.m c.args.n c.requires.years c.requires.first c.requires.last
    c.requires.length_bound)

pub returns-else-m-from-clause-value : goal.returns-else-m-from-clause-value
returns-else-m-from-clause-value c =
    let first = to_z-of_z w32 c.args.first_year c.ranges.first_year in
    let minute = to_z-of_z w64 c.args.m c.ranges.m in
    let small = domain_small c.args.first_year c.args.years c.args.m c.requires.years c.requires.first in
    let short = c.requires.length_bound in
    let end = rw first at c.plain_end.ensures in
    rw add-one (stretch_of-past c.args.first_year c.args.years c.args.m c.plain_end.result c.args.n c.in-Plain.year
    (rw (first, minute) at c.in-Plain.ensures.value) end
    (omega (arith, ints, c.from.ensures, c.if-m-from.false)))

pub returns-else-m-from-clause-rule : goal.returns-else-m-from-clause-rule
returns-else-m-from-clause-rule c =
    subst (IsStretchOf c.args.first_year c.args.years c.args.m c.args.n) (sym (returns-else-m-from-clause-value c))
    (stretch_of-rule c.args.first_year c.args.years c.args.m c.args.n c.requires.years c.requires.first c.requires.last
    c.requires.length_bound)

pub returns-in-Blend-clause-value : goal.returns-in-Blend-clause-value
returns-in-Blend-clause-value c =
    let first = to_z-of_z w32 c.args.first_year c.ranges.first_year in
    let minute = to_z-of_z w64 c.args.m c.ranges.m in
    stretch_of-blend c.args.first_year c.args.years c.args.m c.args.n c.in-Blend.year c.in-Blend.x
    (rw (first, minute) at c.in-Blend.ensures.value)

pub returns-in-Blend-clause-rule : goal.returns-in-Blend-clause-rule
returns-in-Blend-clause-rule c =
    subst (IsStretchOf c.args.first_year c.args.years c.args.m c.args.n) (sym (returns-in-Blend-clause-value c))
    (stretch_of-rule c.args.first_year c.args.years c.args.m c.args.n c.requires.years c.requires.first c.requires.last
    c.requires.length_bound)
