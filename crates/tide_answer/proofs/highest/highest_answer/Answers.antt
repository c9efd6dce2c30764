use Rattle.std.proofs.Common.{FitsSigned, w64, rules, refl}
use Rattle.std.proofs.lemmas.Int.{to_z-of_z}
use Rattle.tide_answer.specs.Answers.{highest}
use Rattle.tide_answer.proofs.highest.highest_answer.Goals as goal

pub highest_text_at-requires-clause-inside : goal.highest_text_at-requires-clause-inside
highest_text_at-requires-clause-inside c =
    let at : FitsSigned w64 c.highest_minute-at.result = search rules in
    simp to_z-of_z c.highest_minute-at.ensures.inside

pub returns : goal.returns
unfolding highest
returns c =
    let at : FitsSigned w64 c.highest_minute-at.result = search rules in
    let is = c.in_ok-found_station.ensures.exact in
    let same = rw (is.book, is.span_request) at c.highest_minute-at.ensures.exact in
    let text = rw (c.name.ensures, is.book, same) at (simp to_z-of_z at c.in_ok-text.ensures) in
    rw (c.text_alone.ensures, text, is.site) refl
