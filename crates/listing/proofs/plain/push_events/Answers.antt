use Rattle.event_text.specs.Lines.{event_line_in}
use Rattle.listing.proofs.AppendLemmas.{one-more}
use Rattle.listing.proofs.plain.push_events.Goals as goal

pub loop-event-preserved : goal.loop-event-preserved
loop-event-preserved c =
    one-more (event_line_in c.args.zone.now c.args.units) c.args.events.now c.loop-event.event-index _ c.args.text.now.items
    c.loop-event.text.items c.push_event.new.text.items c.loop-event-test.true c.loop-event.invariant c.in_ok-push_event.ensures
