use Rattle.harmonics_text.proofs.Latin.{encode_utf8_all_more}
use Rattle.harmonics_text.proofs.names.utf8_of.Goals as goal

pub loop-b-preserved : goal.loop-b-preserved
loop-b-preserved c = let h =
    encode_utf8_all_more c.args.latin.now c.loop-b.b-index _ c.loop-b-test.true c.loop-b.invariant in
    cc (c.in_ok-push.ensures.bytes)
