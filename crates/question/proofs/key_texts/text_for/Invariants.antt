use Rattle.std.proofs.Common.{◌≡◌, None, drop}
use Rattle.std.specs.Option.{option_copied}
use Rattle.question.specs.Workings.KeyTexts.{text_after}
use Rattle.question.proofs.key_texts.text_for.Given as goal

abbrev pub invariant-loop-item : goal.invariant-loop-item
invariant-loop-item l = text_after l.items l.key None ≡ text_after (drop l.item-index l.items) l.key (option_copied l.text)
