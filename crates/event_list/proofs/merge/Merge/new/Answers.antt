use Rattle.std.proofs.Common.{arith}
use Rattle.std.specs.Prelude.{Some}
use Rattle.event_list.proofs.ComingLemmas.{ahead-ascending, merged-ahead, cells-ahead}
use Rattle.event_list.proofs.merge.Merge.new.Goals as goal

pub invariant_of-result : goal.invariant_of-result
invariant_of-result g c =
    let turn = c.new.ensures.few in
    let slack = c.new-2.ensures.few in
    let mark = c.new-3.ensures.few in
    record {
      turn = rw c.new.ensures.remaining (ahead-ascending (Some c.args.turn));
      slack = rw c.new-2.ensures.remaining (ahead-ascending c.args.slack);
      mark = rw c.new-3.ensures.remaining (ahead-ascending c.args.mark);
      turn_counted = rw (c.new.ensures.pending, c.new.ensures.cells, c.new.ensures.all) (omega arith);
      slack_counted = rw (c.new-2.ensures.pending, c.new-2.ensures.cells, c.new-2.ensures.all) (omega arith);
      mark_counted = rw (c.new-3.ensures.pending, c.new-3.ensures.cells, c.new-3.ensures.all) (omega arith);
      few = rw (c.new.ensures.all, c.new-2.ensures.all, c.new-3.ensures.all) (omega arith);
    }

pub returns-clause-remaining : goal.returns-clause-remaining
returns-clause-remaining g c =
    rw (c.new.ensures.remaining, c.new-2.ensures.remaining, c.new-3.ensures.remaining)
    (merged-ahead c.args.turn c.args.slack c.args.mark c.requires.slack_at c.requires.mark_at)

pub returns-clause-all : goal.returns-clause-all
returns-clause-all g c =
    let cells = cells-ahead c.args.turn c.args.slack c.args.mark in omega arith
