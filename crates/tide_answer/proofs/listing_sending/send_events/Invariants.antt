use Rattle.std.proofs.Common.{◌≡◌, ℕ, ◌+◌, ◌*◌, ◌<◌, ◌^◌, List, ◌++◌, length, All, Ok}
use Rattle.std.specs.List.{flat_map}
use Rattle.event_text.specs.Lines.{IsListed, event_line_in}
use Rattle.tide_edge.specs.Sending.{Sends}
use Rattle.tide_answer.proofs.listing_sending.send_events.Given as goal

abbrev pub invariant-loop-event : goal.invariant-loop-event
invariant-loop-event g l = record {
  sends : (text : List ℕ) × (text ++ (l.buffer.text.bytes ++ flat_map (event_line_in l.zone l.units) l.merge.remaining)
      ≡ flat_map (event_line_in l.zone l.units) l.initial.merge.remaining)
      × Sends (g.S.Sink.state l.initial.out) (g.S.Sink.state l.out) l.fn.sent text (Ok l.so_far);
  few : l.so_far + length l.buffer.text.bytes + 96 * length l.merge.remaining < 2 ^ 64;
  listed : All (IsListed l.units) l.merge.remaining;
  all : l.merge.all ≡ l.initial.merge.all;
}

abbrev pub decreases-loop-event : goal.decreases-loop-event
decreases-loop-event g l = length l.merge.remaining
