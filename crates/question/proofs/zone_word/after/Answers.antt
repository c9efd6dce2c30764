use Rattle.std.proofs.lemmas.Str.Pattern.{strip_prefix_char}
use Rattle.question.proofs.TextLemmas.{after_is}
use Rattle.question.proofs.zone_word.after.Goals as goal

pub returns : goal.returns
returns c = after_is c.args.first c.args.text.now _
    (strip_prefix_char c.args.first c.args.text.now _ c.strip_prefix.ensures.cases c.requires)
