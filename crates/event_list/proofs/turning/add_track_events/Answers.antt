use Rattle.std.proofs.Common.{◌≡◌, ◌<◌, ◌+ℤ◌, pos, length, get_or, w64, to_z, of_z, ap, append_assoc, arith}
use Rattle.std.proofs.lemmas.Int.{ints, to_z-of_z}
use Rattle.std.proofs.lemmas.List.{append-nil}
use Rattle.curve_law.specs.declared.cell.Cell.TheVariants.{Quiet}
use Rattle.curve_law.specs.Cells.{minutes_of, all_minutes}
use Rattle.event_list.proofs.TurnLemmas.{minutes-more, cell_events-more, cell_events-done}
use Rattle.event_list.proofs.turning.add_track_events.Goals as goal

pub loop-cell-preserved : goal.loop-cell-preserved
loop-cell-preserved c =
    let cells = c.as_slice-cell-items.result.now in
    let at = c.loop-cell.at in
    let cell = get_or cells c.loop-cell.cell-index (Quiet 0) in
    let within : c.loop-cell.cell-index < length cells = c.loop-cell-test.true in
    let minutes = minutes-more cells c.loop-cell.cell-index (Quiet 0) within in
    let all = ap all_minutes c.as_slice-cell-items.ensures in
    let next : to_z w64 (of_z w64 (to_z w64 c.loop-cell.at-bits +ℤ to_z w64 (of_z w64 c.from-at.result)))
    ≡ to_z w64 c.loop-cell.at-bits +ℤ pos (minutes_of cell) = omega (arith, ints) in
    let events = cell_events-more (to_z w64 c.loop-cell.at-bits) cells c.loop-cell.cell-index (Quiet 0) within in
    record {
      minute = rw next (omega (arith, ints));
      events = rw (next, c.in_ok-add_event.ensures, append_assoc, ← events) c.loop-cell.invariant.events;
    }

pub returns : goal.returns
returns c =
    let begin = to_z-of_z w64 c.args.begin c.ranges.begin in
    let done = cell_events-done (to_z w64 c.loop-cell.at-bits) c.as_slice-cell-items.result.now c.loop-cell.cell-index
    c.loop-cell-test.false in
    rw (done, append-nil, begin, c.as_slice-cell-items.ensures) at c.loop-cell.invariant.events
