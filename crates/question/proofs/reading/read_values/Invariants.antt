use Rattle.std.proofs.Common.{◌≡◌, ◌+◌, drop, take}
use Rattle.question.specs.Questions.{no_key_texts, with_items, question_from}
use Rattle.question.specs.Workings.KeyTexts.{key_texts_of}
use Rattle.question.proofs.reading.read_values.Given as goal

abbrev pub invariant-loop-at : goal.invariant-loop-at
invariant-loop-at l = record {
  key_texts : with_items l.origin l.command 1 l.items no_key_texts
      ≡ with_items l.origin l.command (l.at + 1) (drop l.at l.items) (key_texts_of (take l.at l.items));
  asked : l.question ≡ question_from l.origin l.command (key_texts_of (take l.at l.items));
}
