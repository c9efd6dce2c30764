use Rattle.std.proofs.Common.{sym, arith}
use Rattle.harmonics_text.proofs.Latin.{name_more, name_other, name_all}
use Rattle.harmonics_text.proofs.names.is_name.Goals as goal

pub returns-in-None : goal.returns-in-None
returns-in-None c =
    name_other c.args.latin.now c.args.name.now c.loop-b.rest.now c.loop-b.b-index c.loop-b-test.true
    (omega (arith, c.type_inv.latin c.loop-b.b-index)) (sym c.in-None.ensures) c.loop-b.invariant

pub loop-b-preserved : goal.loop-b-preserved
loop-b-preserved c =
    name_more c.args.latin.now c.args.name.now c.loop-b.rest.now c.in-Some.after.now c.loop-b.b-index c.loop-b-test.true
    (omega (arith, c.type_inv.latin c.loop-b.b-index)) (sym c.in-Some.ensures) c.loop-b.invariant

pub returns : goal.returns
returns c = name_all c.args.latin.now c.args.name.now c.loop-b.rest.now c.loop-b.b-index _ c.loop-b-test.false
    c.is_empty.ensures c.loop-b.invariant
