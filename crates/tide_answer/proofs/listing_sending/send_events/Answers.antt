use Rattle.std.proofs.Common.{◌≡◌, suc, [], ◌++◌, length, Ok, Err, refl, ap, ◌∙◌, arith}
use Rattle.std.specs.List.{flat_map}
use Rattle.std.proofs.lemmas.List.Elements.{All-head, All-tail}
use Rattle.std.proofs.lemmas.Result.{err_from_is_err_and}
use Rattle.event_text.specs.Lines.{IsListed, event_line_in}
use Rattle.tide_edge.specs.Sending.{gone_for, held_after}
use Rattle.tide_edge.proofs.SendLemmas.{buffer_done, buffer_length, buffer_step, sends_cut, sends_then, sends_none}
use Rattle.tide_answer.proofs.listing_sending.send_events.Goals as goal

pub loop-event-init : goal.loop-event-init
loop-event-init g c =
    let empty = c.new-buffer.ensures in
    let few = c.requires.count_bound in
    let none : length c.new-buffer.result.text.bytes ≡ 0 = ap length empty in
    record {
      sends = ([], rw empty refl, sends_none (g.S.Sink.state c.args.out.now) c.args.sent);
      few = omega (arith, few, none);
      listed = c.requires.listed;
      all = refl;
    }

pub line_of-line-requires : goal.line_of-line-requires
line_of-line-requires g c = record {
  listed = All-head (IsListed c.args.units) c.in-Some.event c.next.new.self.remaining
      (rw c.in-Some.ensures.next at c.loop-event.invariant.listed);
}

pub put-requires-clause-length_bound : goal.put-requires-clause-length_bound
put-requires-clause-length_bound g c = let fits = c.as_str.ensures.fits in omega (arith, fits)

pub put-requires-clause-count_bound : goal.put-requires-clause-count_bound
put-requires-clause-count_bound g c = let few = c.loop-event.invariant.few in omega (arith, few)

pub loop-event-preserved : goal.loop-event-preserved
loop-event-preserved g c =
    let so_far = c.loop-event.invariant in
    let is = c.in-Some.ensures.next in
    let text = so_far.sends.0 in
    let held = c.loop-event.buffer.text.bytes in
    let piece = c.as_str.result.now in
    let now = c.put.new.self.text.bytes in
    let line = c.as_str.ensures.value ∙ c.line_of-line.ensures in
    let put = c.in_ok-so_far.ensures.holds in
    let bytes = c.in_ok-so_far.ensures.sends.0 in
    let fits = c.as_str.ensures.fits in
    let few = so_far.few in
    let long = buffer_length held piece now put in
    let count : length c.loop-event.merge.remaining ≡ suc (length c.next.new.self.remaining) = ap length is in
    record {
      sends = (
        text ++ gone_for held piece,
        buffer_step (flat_map (event_line_in c.args.zone.now c.args.units)) c.loop-event.merge.remaining c.next.new.self.remaining
            c.in-Some.event _ text held piece now is (rw line refl) put so_far.sends.1,
        sends_then (g.S.Sink.state c.args.out.now) (g.S.Sink.state c.loop-event.out) (g.S.Sink.state c.put.new.out)
            c.args.sent c.loop-event.so_far text (gone_for held piece)
            (Ok c.in_ok-so_far.so_far) so_far.sends.2 c.in_ok-so_far.ensures.sends,
      );
      few = omega (arith, bytes, fits, few, long, count);
      listed = All-tail (IsListed c.args.units) c.in-Some.event c.next.new.self.remaining (rw is at so_far.listed);
      all = c.next.ensures.all ∙ so_far.all;
    }

pub returns-in_err-so_far-clause-sends : goal.returns-in_err-so_far-clause-sends
returns-in_err-so_far-clause-sends g c =
    let p = err_from_is_err_and c.from_residual.result c.from_residual.ensures.1 in
    let so_far = c.loop-event.invariant in
    let text = so_far.sends.0 in
    let held = c.loop-event.buffer.text.bytes in
    let piece = c.as_str.result.now in
    let now = held_after held piece in
    let rest = flat_map (event_line_in c.args.zone.now c.args.units) c.next.new.self.remaining in
    let line = c.as_str.ensures.value ∙ c.line_of-line.ensures in
    let whole =
    buffer_step (flat_map (event_line_in c.args.zone.now c.args.units)) c.loop-event.merge.remaining c.next.new.self.remaining
    c.in-Some.event _ text held piece now c.in-Some.ensures.next (rw line refl) refl so_far.sends.1 in
    rw (p.1, p.2, ← whole) (sends_cut (g.S.Sink.state c.args.out.now) (g.S.Sink.state c.put.new.out) c.args.sent
    (text ++ gone_for held piece) (now ++ rest) _
    (sends_then (g.S.Sink.state c.args.out.now) (g.S.Sink.state c.loop-event.out) (g.S.Sink.state c.put.new.out) c.args.sent
    c.loop-event.so_far text (gone_for held piece) (Err _) so_far.sends.2 c.in_err-so_far.ensures.sends))

pub end-requires : goal.end-requires
end-requires g c = let few = c.loop-event.invariant.few in omega (arith, few)

pub returns-clause-sends : goal.returns-clause-sends
returns-clause-sends g c =
    let so_far = c.loop-event.invariant in
    let text = so_far.sends.0 in
    let held = c.loop-event.buffer.text.bytes in
    let whole = buffer_done (flat_map (event_line_in c.args.zone.now c.args.units)) c.loop-event.merge.remaining _ text held
    c.in_default.ensures.next.0 refl so_far.sends.1 in
    rw (← whole) (sends_then (g.S.Sink.state c.args.out.now) (g.S.Sink.state c.loop-event.out) (g.S.Sink.state c.end.new.out)
    c.args.sent c.loop-event.so_far text held c.end.result so_far.sends.2 c.end.ensures)
