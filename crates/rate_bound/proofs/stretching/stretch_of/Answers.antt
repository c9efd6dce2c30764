use Rattle.std.proofs.Common.{sym, subst}
use Rattle.std.proofs.lemmas.Int.{to_z-of_z}
use mir.Syntax.{w64}
use Rattle.rate_bound.specs.Workings.Cells.{AreNeeded}
use Rattle.rate_bound.proofs.Naming.{needed_years}
use Rattle.rate_bound.proofs.stretching.stretch_of.Goals as goal

pub returns-clause-value : goal.returns-clause-value
returns-clause-value c = rw (to_z-of_z w64 c.args.a c.ranges.a) at c.stretch.ensures

pub returns-clause-years : goal.returns-clause-years
returns-clause-years c =
    subst (AreNeeded c.args.station.now) (sym (returns-clause-value c))
    (needed_years c.args.station.now c.args.a c.args.n c.limits_hold.ensures c.requires.first c.requires.last)
