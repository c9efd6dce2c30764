use Rattle.std.proofs.Common.{◌∙◌, arith}
use Rattle.std.proofs.lemmas.List.{length-set}
use Rattle.report_sheets.proofs.TallyLemmas.{count_at-more}
use Rattle.report_sheets.proofs.tally.counts.Goals as goal

pub loop-event-preserved : goal.loop-event-preserved
loop-event-preserved c = record {
  ten = length-set c.loop-event.counts c.place_of_event.result _ ∙ c.loop-event.invariant.ten;
  counted = λ index below.
      count_at-more c.args.units c.args.events.now c.loop-event.event-index _ c.loop-event.counts
      c.place_of_event.result index c.loop-event-test.true (omega arith)
      c.place_of_event.ensures.value
      (c.loop-event.invariant.counted c.place_of_event.result c.place_of_event.ensures.small) (c.loop-event.invariant.counted index below);
}
