use Rattle.report_sheets.proofs.TallyLemmas.{lines_more}
use Rattle.report_sheets.proofs.tally.push_counts.Goals as goal

pub loop-word-preserved : goal.loop-word-preserved
loop-word-preserved c =
    lines_more c.args.counts.now c.args.text.now.items c.loop-word.text.items c.push_count.new.text.items
    c.loop-word.word-index c.index.result _
    c.loop-word-test.true c.index.ensures.value c.loop-word.invariant (c.in_ok-push_count.ensures {u = tt})
