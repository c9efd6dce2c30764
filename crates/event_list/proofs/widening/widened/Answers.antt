use Rattle.std.proofs.Common.{w32, FitsSigned, rules}
use Rattle.std.specs.Prelude.{◌≤◌, unsigned_abs}
use Rattle.event_list.specs.Shifts.{HasOffsets}
use Rattle.event_list.proofs.WideningLemmas.{IsMovedBack, moved-back, back-forward, back-near, back-few, greatest-small, least-small}
use Rattle.event_list.proofs.widening.widened.Goals as goal
use Rattle.event_list.proofs.widening.widened.Goals.{After-from-2}

begin_back : (c : After-from-2) → IsMovedBack c.args.begin c.greatest_add.result c.from.result
begin_back c =
    let fits : FitsSigned w32 c.greatest_add.result = search rules in
    moved-back c.args.begin c.greatest_add.result c.from.result c.from.ensures c.requires.begin fits

end_back : (c : After-from-2) → IsMovedBack c.args.end c.least_add.result c.from-2.result
end_back c =
    let fits : FitsSigned w32 c.least_add.result = search rules in
    moved-back c.args.end c.least_add.result c.from-2.result c.from-2.ensures c.requires.end fits

most_small : (c : After-from-2) → HasOffsets c.args.basis.now → unsigned_abs c.greatest_add.result ≤ 1440
most_small c offsets = rw c.greatest_add.ensures.exact (greatest-small c.args.basis.now offsets)

least_small : (c : After-from-2) → HasOffsets c.args.basis.now → unsigned_abs c.least_add.result ≤ 1440
least_small c offsets = rw c.least_add.ensures.exact (least-small c.args.basis.now offsets)

pub returns-clause-exact : goal.returns-clause-exact
returns-clause-exact c =
    rw ((begin_back c).kept, (end_back c).kept, c.greatest_add.ensures.exact, c.least_add.ensures.exact)

pub returns-clause-forward : goal.returns-clause-forward
returns-clause-forward c =
    rw ((begin_back c).kept, (end_back c).kept) (back-forward c.args.begin c.args.end c.greatest_add.result
    c.least_add.result _ c.requires.forward c.greatest_add.ensures.high c.least_add.ensures.high)

pub returns-clause-begin_in_range : goal.returns-clause-begin_in_range
returns-clause-begin_in_range c offsets =
    let small = most_small c offsets in
    rw (begin_back c).kept (back-near c.args.begin c.greatest_add.result small)

pub returns-clause-end_in_range : goal.returns-clause-end_in_range
returns-clause-end_in_range c offsets =
    let small = least_small c offsets in
    rw (end_back c).kept (back-near c.args.end c.least_add.result small)

pub returns-clause-count_bound : goal.returns-clause-count_bound
returns-clause-count_bound c offsets =
    let most = most_small c offsets in
    let least = least_small c offsets in
    rw ((begin_back c).kept, (end_back c).kept) (back-few c.args.begin c.args.end c.greatest_add.result
    c.least_add.result c.requires.forward most least)
