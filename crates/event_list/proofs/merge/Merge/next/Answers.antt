use Rattle.std.proofs.Common.{drop}
use Rattle.event_list.proofs.MergeLemmas.{Looks, looks-taken, looked-again, returned-turn, returned-slack, returned-mark, merge_invariant-after, drop-ascending}
use Rattle.event_list.proofs.merge.Merge.next.Goals as goal

pub invariant_of-self : goal.invariant_of-self
invariant_of-self g c =
    let turn : Looks c.self.inside.turn c.peek-turn.new.self c.self.inside.turn.remaining = record {
      remaining = c.peek-turn.ensures.unchanged;
      all = c.peek-turn.ensures.all;
      counted = c.peek-turn.ensures.counted;
      done = c.peek-turn.ensures.done;
    } in
    let slack : Looks c.self.inside.slack c.peek-slack.new.self c.self.inside.slack.remaining = record {
      remaining = c.peek-slack.ensures.unchanged;
      all = c.peek-slack.ensures.all;
      counted = c.peek-slack.ensures.counted;
      done = c.peek-slack.ensures.done;
    } in
    let mark : Looks c.self.inside.mark c.peek-mark.new.self c.self.inside.mark.remaining = record {
      remaining = c.peek-mark.ensures.unchanged;
      all = c.peek-mark.ensures.all;
      counted = c.peek-mark.ensures.counted;
      done = c.peek-mark.ensures.done;
    } in
    let taken = looks-taken c.self.inside.turn c.peek-turn.new.self c.next.new.self turn c.next.ensures.rest
    c.next.ensures.all c.next.ensures.counted c.next.ensures.done in
    merge_invariant-after c.self.inside.turn c.self.inside.slack c.self.inside.mark c.next.new.self
    c.peek-slack.new.self c.peek-mark.new.self (drop 1 c.self.inside.turn.remaining) c.self.inside.slack.remaining
    c.self.inside.mark.remaining c.self.invariant (drop-ascending c.self.inside.turn.remaining c.self.invariant.turn)
    c.self.invariant.slack c.self.invariant.mark taken slack mark

pub returns-in-Turn-clause-next : goal.returns-in-Turn-clause-next
returns-in-Turn-clause-next g c =
    let turn : Looks c.self.inside.turn c.peek-turn.new.self c.self.inside.turn.remaining = record {
      remaining = c.peek-turn.ensures.unchanged;
      all = c.peek-turn.ensures.all;
      counted = c.peek-turn.ensures.counted;
      done = c.peek-turn.ensures.done;
    } in
    let slack : Looks c.self.inside.slack c.peek-slack.new.self c.self.inside.slack.remaining = record {
      remaining = c.peek-slack.ensures.unchanged;
      all = c.peek-slack.ensures.all;
      counted = c.peek-slack.ensures.counted;
      done = c.peek-slack.ensures.done;
    } in
    let mark : Looks c.self.inside.mark c.peek-mark.new.self c.self.inside.mark.remaining = record {
      remaining = c.peek-mark.ensures.unchanged;
      all = c.peek-mark.ensures.all;
      counted = c.peek-mark.ensures.counted;
      done = c.peek-mark.ensures.done;
    } in
    let taken = looks-taken c.self.inside.turn c.peek-turn.new.self c.next.new.self turn c.next.ensures.rest
    c.next.ensures.all c.next.ensures.counted c.next.ensures.done in
    let lead = rw (c.peek-turn.ensures.first, c.peek-slack.ensures.first, c.peek-mark.ensures.first) at c.in-Turn.ensures.first in
    rw (← c.self.view_is, c.next.ensures.first, c.peek-turn.ensures.unchanged)
    (returned-turn c.self.inside.turn c.self.inside.slack c.self.inside.mark c.next.new.self c.peek-slack.new.self
    c.peek-mark.new.self c.self.invariant lead taken slack mark)

pub invariant_of-self-in-Slack : goal.invariant_of-self-in-Slack
invariant_of-self-in-Slack g c =
    let turn : Looks c.self.inside.turn c.peek-turn.new.self c.self.inside.turn.remaining = record {
      remaining = c.peek-turn.ensures.unchanged;
      all = c.peek-turn.ensures.all;
      counted = c.peek-turn.ensures.counted;
      done = c.peek-turn.ensures.done;
    } in
    let slack : Looks c.self.inside.slack c.peek-slack.new.self c.self.inside.slack.remaining = record {
      remaining = c.peek-slack.ensures.unchanged;
      all = c.peek-slack.ensures.all;
      counted = c.peek-slack.ensures.counted;
      done = c.peek-slack.ensures.done;
    } in
    let mark : Looks c.self.inside.mark c.peek-mark.new.self c.self.inside.mark.remaining = record {
      remaining = c.peek-mark.ensures.unchanged;
      all = c.peek-mark.ensures.all;
      counted = c.peek-mark.ensures.counted;
      done = c.peek-mark.ensures.done;
    } in
    let taken = looks-taken c.self.inside.slack c.peek-slack.new.self c.next-in-Slack.new.self slack
    c.next-in-Slack.ensures.rest c.next-in-Slack.ensures.all c.next-in-Slack.ensures.counted c.next-in-Slack.ensures.done in
    merge_invariant-after c.self.inside.turn c.self.inside.slack c.self.inside.mark c.peek-turn.new.self
    c.next-in-Slack.new.self c.peek-mark.new.self c.self.inside.turn.remaining
    (drop 1 c.self.inside.slack.remaining) c.self.inside.mark.remaining c.self.invariant c.self.invariant.turn
    (drop-ascending c.self.inside.slack.remaining c.self.invariant.slack) c.self.invariant.mark turn taken mark

pub returns-in-Slack-clause-next : goal.returns-in-Slack-clause-next
returns-in-Slack-clause-next g c =
    let turn : Looks c.self.inside.turn c.peek-turn.new.self c.self.inside.turn.remaining = record {
      remaining = c.peek-turn.ensures.unchanged;
      all = c.peek-turn.ensures.all;
      counted = c.peek-turn.ensures.counted;
      done = c.peek-turn.ensures.done;
    } in
    let slack : Looks c.self.inside.slack c.peek-slack.new.self c.self.inside.slack.remaining = record {
      remaining = c.peek-slack.ensures.unchanged;
      all = c.peek-slack.ensures.all;
      counted = c.peek-slack.ensures.counted;
      done = c.peek-slack.ensures.done;
    } in
    let mark : Looks c.self.inside.mark c.peek-mark.new.self c.self.inside.mark.remaining = record {
      remaining = c.peek-mark.ensures.unchanged;
      all = c.peek-mark.ensures.all;
      counted = c.peek-mark.ensures.counted;
      done = c.peek-mark.ensures.done;
    } in
    let taken = looks-taken c.self.inside.slack c.peek-slack.new.self c.next-in-Slack.new.self slack
    c.next-in-Slack.ensures.rest c.next-in-Slack.ensures.all c.next-in-Slack.ensures.counted c.next-in-Slack.ensures.done in
    let lead = rw (c.peek-turn.ensures.first, c.peek-slack.ensures.first, c.peek-mark.ensures.first) at c.in-Slack.ensures.first in
    rw (← c.self.view_is, c.next-in-Slack.ensures.first, c.peek-slack.ensures.unchanged)
    (returned-slack c.self.inside.turn c.self.inside.slack c.self.inside.mark c.peek-turn.new.self
    c.next-in-Slack.new.self c.peek-mark.new.self c.self.invariant lead turn taken mark)

pub invariant_of-self-in-Mark : goal.invariant_of-self-in-Mark
invariant_of-self-in-Mark g c =
    let turn : Looks c.self.inside.turn c.peek-turn.new.self c.self.inside.turn.remaining = record {
      remaining = c.peek-turn.ensures.unchanged;
      all = c.peek-turn.ensures.all;
      counted = c.peek-turn.ensures.counted;
      done = c.peek-turn.ensures.done;
    } in
    let slack : Looks c.self.inside.slack c.peek-slack.new.self c.self.inside.slack.remaining = record {
      remaining = c.peek-slack.ensures.unchanged;
      all = c.peek-slack.ensures.all;
      counted = c.peek-slack.ensures.counted;
      done = c.peek-slack.ensures.done;
    } in
    let mark : Looks c.self.inside.mark c.peek-mark.new.self c.self.inside.mark.remaining = record {
      remaining = c.peek-mark.ensures.unchanged;
      all = c.peek-mark.ensures.all;
      counted = c.peek-mark.ensures.counted;
      done = c.peek-mark.ensures.done;
    } in
    let taken =
    looks-taken c.self.inside.mark c.peek-mark.new.self c.next-in-Mark.new.self mark c.next-in-Mark.ensures.rest
    c.next-in-Mark.ensures.all c.next-in-Mark.ensures.counted c.next-in-Mark.ensures.done in
    merge_invariant-after c.self.inside.turn c.self.inside.slack c.self.inside.mark c.peek-turn.new.self
    c.peek-slack.new.self c.next-in-Mark.new.self c.self.inside.turn.remaining c.self.inside.slack.remaining
    (drop 1 c.self.inside.mark.remaining) c.self.invariant c.self.invariant.turn c.self.invariant.slack
    (drop-ascending c.self.inside.mark.remaining c.self.invariant.mark) turn slack taken

pub returns-in-Mark-clause-next : goal.returns-in-Mark-clause-next
returns-in-Mark-clause-next g c =
    let turn : Looks c.self.inside.turn c.peek-turn.new.self c.self.inside.turn.remaining = record {
      remaining = c.peek-turn.ensures.unchanged;
      all = c.peek-turn.ensures.all;
      counted = c.peek-turn.ensures.counted;
      done = c.peek-turn.ensures.done;
    } in
    let slack : Looks c.self.inside.slack c.peek-slack.new.self c.self.inside.slack.remaining = record {
      remaining = c.peek-slack.ensures.unchanged;
      all = c.peek-slack.ensures.all;
      counted = c.peek-slack.ensures.counted;
      done = c.peek-slack.ensures.done;
    } in
    let mark : Looks c.self.inside.mark c.peek-mark.new.self c.self.inside.mark.remaining = record {
      remaining = c.peek-mark.ensures.unchanged;
      all = c.peek-mark.ensures.all;
      counted = c.peek-mark.ensures.counted;
      done = c.peek-mark.ensures.done;
    } in
    let taken =
    looks-taken c.self.inside.mark c.peek-mark.new.self c.next-in-Mark.new.self mark c.next-in-Mark.ensures.rest
    c.next-in-Mark.ensures.all c.next-in-Mark.ensures.counted c.next-in-Mark.ensures.done in
    let lead = rw (c.peek-turn.ensures.first, c.peek-slack.ensures.first, c.peek-mark.ensures.first) at c.in-Mark.ensures.first in
    rw (← c.self.view_is, c.next-in-Mark.ensures.first, c.peek-mark.ensures.unchanged)
    (returned-mark c.self.inside.turn c.self.inside.slack c.self.inside.mark c.peek-turn.new.self
    c.peek-slack.new.self c.next-in-Mark.new.self c.self.invariant lead turn slack taken)

pub returns-in-Turn-clause-asked : goal.returns-in-Turn-clause-asked
returns-in-Turn-clause-asked g c =
    rw (
      ← c.self.view_is,
      c.next.ensures.asked,
      c.peek-turn.ensures.asked,
      c.peek-slack.ensures.asked,
      c.peek-mark.ensures.asked,
      looked-again c.self.inside.turn.pending,
      ← c.peek-turn.ensures.found,
      ← c.peek-slack.ensures.found,
      ← c.peek-mark.ensures.found,
      ← c.leading_of.ensures.which,
      c.in-Turn.is,
    )

pub returns-in-Slack-clause-asked : goal.returns-in-Slack-clause-asked
returns-in-Slack-clause-asked g c =
    rw (
      ← c.self.view_is,
      c.next-in-Slack.ensures.asked,
      c.peek-turn.ensures.asked,
      c.peek-slack.ensures.asked,
      c.peek-mark.ensures.asked,
      looked-again c.self.inside.slack.pending,
      ← c.peek-turn.ensures.found,
      ← c.peek-slack.ensures.found,
      ← c.peek-mark.ensures.found,
      ← c.leading_of.ensures.which,
      c.in-Slack.is,
    )

pub returns-in-Mark-clause-asked : goal.returns-in-Mark-clause-asked
returns-in-Mark-clause-asked g c =
    rw (
      ← c.self.view_is,
      c.next-in-Mark.ensures.asked,
      c.peek-turn.ensures.asked,
      c.peek-slack.ensures.asked,
      c.peek-mark.ensures.asked,
      looked-again c.self.inside.mark.pending,
      ← c.peek-turn.ensures.found,
      ← c.peek-slack.ensures.found,
      ← c.peek-mark.ensures.found,
      ← c.leading_of.ensures.which,
      c.in-Mark.is,
    )
