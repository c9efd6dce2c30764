use Rattle.std.proofs.Common.{◌≡◌, ◌++◌, ◌∙◌, ap}
use Rattle.ical_sheet.specs.Folding.{folded}
use Rattle.ical_sheet.proofs.ContentLemmas.{line-is_short, line-unfolds}
use Rattle.ical_sheet.proofs.folding.fold.Goals as goal

pub returns-clause-length_bound : goal.returns-clause-length_bound
returns-clause-length_bound c =
    let text : c.from_vec.result ≡ folded c.args.line.now = c.from_vec.ensures ∙ c.in_ok-push_folded.ensures
    ∙ ap (λ t. t ++ folded c.args.line.now) c.new-text.ensures.items in
    rw text (line-is_short c.args.line.now c.requires)

pub returns-clause-unfolds : goal.returns-clause-unfolds
returns-clause-unfolds c =
    let text : c.from_vec.result ≡ folded c.args.line.now = c.from_vec.ensures ∙ c.in_ok-push_folded.ensures
    ∙ ap (λ t. t ++ folded c.args.line.now) c.new-text.ensures.items in
    rw text (line-unfolds c.args.line.now c.requires)
