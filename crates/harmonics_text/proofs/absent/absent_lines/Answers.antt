use Rattle.std.proofs.Common.{arith}
use Rattle.harmonics_text.proofs.Runs.{absent_none, absent_more}
use Rattle.harmonics_text.proofs.absent.absent_lines.Goals as goal

pub loop-count-init : goal.loop-count-init
loop-count-init c = record { few = omega arith; so_far = absent_none c.args.bytes.now }

pub loop-count-preserved : goal.loop-count-preserved
loop-count-preserved c = record {
  few = omega arith;
  so_far =
      absent_more c.loop-count.count c.args.bytes.now c.loop-count.rest.now c.split_at.result.1.now c.begins_absent.result
      c.loop-count.invariant.so_far c.begins_absent.ensures c.if-begins_absent.true c.split_at.ensures.back;
}
