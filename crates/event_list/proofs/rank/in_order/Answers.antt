use Rattle.std.proofs.Common.{rules}
use Rattle.std.proofs.lemmas.List.Sorted.{answers_always}
use Rattle.curve_law.specs.Verdicts.{rank_of_kind}
use Rattle.event_list.proofs.OrderLemmas.{sorted-is}
use Rattle.event_list.proofs.rank.in_order.Goals as goal

pub returns : goal.returns
returns c =
    let sorted = c.sort_unstable_by_key.ensures.sorted (λ e. record { 0 = e.minute; 1 = rank_of_kind e.kind; 2 = e.level })
    (answers_always _ _ _ (λ f a r g h. search rules)) in
    sorted-is _ _ c.sort_unstable_by_key.ensures.permutation sorted
