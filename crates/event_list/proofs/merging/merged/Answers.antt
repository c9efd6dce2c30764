use Rattle.std.proofs.Common.{w64, append_assoc}
use Rattle.std.proofs.lemmas.Int.{to_z-of_z}
use Rattle.event_list.proofs.EventLemmas.{merged-parts}
use Rattle.event_list.proofs.merging.merged.Goals as goal

pub returns : goal.returns
returns c =
    let begin = to_z-of_z w64 c.args.begin c.ranges.begin in
    rw (
      merged-parts c.args.begin c.args.tracks.now,
      c.from_vec.ensures,
      c.in_order.ensures,
      c.in_ok-add_followed_events-2.ensures,
      c.in_ok-add_followed_events.ensures,
      c.in_ok-add_track_events.ensures,
      c.new-events.ensures.items,
      begin,
      append_assoc,
    )
