use Rattle.std.proofs.Common.{◌≡◌, ◌↔◌, ℤ, pos, ◌+ℤ◌, ◌-ℤ◌, ◌≤ℤ◌, FitsSigned, IsTrue, true, false, rules, arith, lit<, lit≤}
use Rattle.std.proofs.lemmas.Int.{ints, to_z-of_z}
use lib.Signed.{le_z}
use mir.Syntax.{w64}
use Rattle.station_curve.proofs.Products.{plus, plus_fits, minus, minus_fits}
use Rattle.station_curve.proofs.years.Year.surrounds.Goals as goal

after_start : (start end first last : ℤ) → le_z start (first -ℤ pos 60) ≡ true
    → IsTrue (le_z (last +ℤ pos 60) end) ↔ (((start +ℤ pos 60) ≤ℤ first) × ((last +ℤ pos 60) ≤ℤ end))
after_start start end first last after = grind (arith, ints)

not_after_start : (start end first last : ℤ) → le_z start (first -ℤ pos 60) ≡ false
    → IsTrue (le_z start (first -ℤ pos 60)) ↔ (((start +ℤ pos 60) ≤ℤ first) × ((last +ℤ pos 60) ≤ℤ end))
not_after_start start end first last before = grind (arith, ints)

pub overflow_sub-first : goal.overflow_sub-first
overflow_sub-first c = minus_fits w64 c.args.first (pos 60) 4000000000 60 c.requires.first (lit≤ tt) (lit< tt)

pub overflow_add-result : goal.overflow_add-result
overflow_add-result c = plus_fits w64 c.args.last (pos 60) 4000000000 60 c.requires.last (lit≤ tt) (lit< tt)

pub returns-then-self-first : goal.returns-then-self-first
returns-then-self-first c =
    let start : FitsSigned w64 c.args.self.now.start = search rules in
    let end : FitsSigned w64 c.args.self.now.end = search rules in
    let less = minus w64 c.args.first (pos 60) 4000000000 60 c.requires.first (lit≤ tt) (lit< tt) in
    let more = plus w64 c.args.last (pos 60) 4000000000 60 c.requires.last (lit≤ tt) (lit< tt) in
    rw (more, to_z-of_z w64 c.args.self.now.end end)
    (after_start c.args.self.now.start c.args.self.now.end c.args.first c.args.last
    (rw (less, to_z-of_z w64 c.args.self.now.start start) at c.if-self-first.true))

pub returns-else-self-first : goal.returns-else-self-first
returns-else-self-first c =
    let start : FitsSigned w64 c.args.self.now.start = search rules in
    let less = minus w64 c.args.first (pos 60) 4000000000 60 c.requires.first (lit≤ tt) (lit< tt) in
    rw (less, to_z-of_z w64 c.args.self.now.start start)
    (not_after_start c.args.self.now.start c.args.self.now.end c.args.first c.args.last
    (rw (less, to_z-of_z w64 c.args.self.now.start start) at c.if-self-first.false))
