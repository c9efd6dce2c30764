use Rattle.std.proofs.Common.{◌≡◌, sym, ◌∙◌, arith}
use Rattle.ical_sheet.specs.Folding.{ends_at, greatest}
use Rattle.ical_sheet.proofs.PieceLemmas.{greatest-at, greatest-below, greatest-min}
use Rattle.ical_sheet.proofs.folding.prefix_length.Goals as goal

pub loop-end-init : goal.loop-end-init
loop-end-init c = record {
  within = omega (arith, c.min-end.ensures);
  found = rw c.min-end.ensures (greatest-min c.args.text.now c.args.most);
}

pub loop-end-preserved : goal.loop-end-preserved
loop-end-preserved c = record {
  within = omega arith;
  found = c.loop-end.invariant.found
      ∙ greatest-below (ends_at c.args.text.now) c.loop-end.end c.loop-end-test.true (sym c.if-not-ends_at.ensures);
}

pub returns-else-not-ends_at-clause-octets : goal.returns-else-not-ends_at-clause-octets
returns-else-not-ends_at-clause-octets c =
    sym (c.loop-end.invariant.found ∙ greatest-at (ends_at c.args.text.now) c.loop-end.end (sym c.if-not-ends_at.ensures))

pub returns-after-loop-end-clause-octets : goal.returns-after-loop-end-clause-octets
unfolding greatest
returns-after-loop-end-clause-octets c =
    let none : c.loop-end.end ≡ 0 = omega arith in
    none ∙ sym (rw none at c.loop-end.invariant.found)
