-- `==` is true exactly if the commands are the same, and then their names are the same too.
use Rattle.std.proofs.Common.{◌≡◌, ap, sym, ◌∙◌, Decides}
use Rattle.std.proofs.lemmas.Bool.Decides.{same_from_decides, Decides-like}
use Rattle.std.proofs.lemmas.Slice.Eq.{bytes_eq-Decides}
use Rattle.std.specs.Str.{bytes_eq}
use Rattle.question.specs.Commands.{word_of}
use Rattle.question.specs.contracts.command.Command.{the_type}
use Rattle.question.proofs.CommandLemmas.{word_of_one}
use denote.Enum.Bare.{same_true, true_same}
use Rattle.question.proofs.command.Command.is.Goals as goal

pub returns : goal.returns
returns c =
    let a = c.args.self in let b = c.args.other in
    let own : Decides c.eq.result (a ≡ b) = (
      λ h. same_true the_type tt a b (sym c.eq.ensures ∙ h),
      λ h. c.eq.ensures ∙ true_same the_type a b h,
    ) in
    let by_word : Decides (bytes_eq (word_of a) (word_of b)) (a ≡ b) =
    Decides-like _ (word_of_one a b) (ap word_of) (bytes_eq-Decides (word_of a) (word_of b)) in
    same_from_decides _ _ own by_word
