use Rattle.std.proofs.Common.{sym, lit<}
use Rattle.question.proofs.TextLemmas.{item_of-plain}
use Rattle.question.proofs.words.item.Goals as goal

pub returns-in_ok-copy-in-None : goal.returns-in_ok-copy-in-None
returns-in_ok-copy-in-None c =
    let none = rw c.as_str.ensures at (c.in-None.ensures.byte (lit< tt) (λ w o h. h)) in
    rw c.in_ok-copy-in-None.ensures (sym (item_of-plain c.args.word.now none))
