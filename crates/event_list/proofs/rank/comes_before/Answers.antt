use Rattle.std.proofs.Common.{◌∙◌}
use Rattle.curve_law.specs.Verdicts.{rank_of_kind}
use Rattle.event_list.proofs.OrderLemmas.{partly-ranked}
use Rattle.event_list.proofs.rank.comes_before.Goals as goal

pub returns : goal.returns
returns c =
    let first = c.args.first.now in
    let second = c.args.second.now in
    let less = rw (c.rank.ensures, c.rank-2.ensures) at c.lt.ensures in
    less ∙ partly-ranked first.minute (rank_of_kind first.kind) first.level second.minute (rank_of_kind second.kind) second.level
