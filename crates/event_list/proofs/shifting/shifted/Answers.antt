use Rattle.std.proofs.Common.{pos, w64, to_z, of_z, sym, ◌∙◌, append_assoc}
use Rattle.std.proofs.lemmas.Int.{to_z-of_z}
use Rattle.std.proofs.lemmas.List.{append-nil}
use Rattle.curve_law.specs.declared.event.Event.{Event}
use Rattle.curve_law.specs.declared.kind.Kind.TheVariants.{High}
use Rattle.event_list.specs.Shifts.{shifted_of}
use Rattle.event_list.proofs.ShiftLemmas.{moved-kept, moved-dropped, moved-done}
use Rattle.event_list.proofs.shifting.shifted.Goals as goal
use Rattle.event_list.proofs.shifting.shifted.Goals.{then-is_within+in_ok-push, else-is_within}

abbrev none : Event
none = record { minute = pos 0; kind = High; level = pos 0 }

pub loop-event-preserved : goal.loop-event-preserved
loop-event-preserved c =
    let begin = to_z w64 (of_z w64 c.args.begin) in
    let end = to_z w64 (of_z w64 c.args.end) in
    let events = c.as_slice-event-items.result.now in
    let at = c.loop-event.event-index in
    elim c.if-is_within.branch [
      | then-is_within+in_ok-push w ↦
          let more = moved-kept c.args.basis.now begin end events at none c.moved-event.result c.loop-event-test.true
          c.moved-event.ensures (sym c.is_within.ensures ∙ w.if-is_within.true) in
          rw (w.kept-is, w.in_ok-push.ensures.items, append_assoc, ← more) c.loop-event.invariant
      | else-is_within w ↦
          let more = moved-dropped c.args.basis.now begin end events at none c.moved-event.result c.loop-event-test.true
          c.moved-event.ensures (sym c.is_within.ensures ∙ w.if-is_within.false) in
          rw (w.kept-is, ← more) c.loop-event.invariant
    ]

pub returns : goal.returns
unfolding shifted_of
returns c =
    let begin = to_z-of_z w64 c.args.begin c.ranges.begin in
    let end = to_z-of_z w64 c.args.end c.ranges.end in
    let done = moved-done c.args.basis.now c.args.begin c.args.end c.as_slice-event-items.result.now
    c.loop-event.event-index c.loop-event-test.false in
    let kept = rw (begin, end, done, append-nil, c.as_slice-event-items.ensures) at c.loop-event.invariant in
    rw (c.from_vec.ensures, c.in_order.ensures, kept)
