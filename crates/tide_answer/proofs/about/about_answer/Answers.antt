use Rattle.std.proofs.Common.{FitsSigned, rules, ap, ◌∙◌}
use mir.Syntax.{w128}
use Rattle.std.proofs.lemmas.Int.{to_z-of_z}
use Rattle.slope_agreement.specs.Agreements.{agreement_of}
use Rattle.tide_answer.proofs.AnswerLemmas.{reference_whole}
use Rattle.tide_answer.proofs.about.about_answer.Goals as goal

pub returns : goal.returns
returns c =
    let is = c.in_ok-found_station.ensures in
    let bound : FitsSigned w128 c.agreement-agreement.result = search rules in
    let text = simp to_z-of_z at c.in_ok-text.ensures in
    let agrees = ap agreement_of is.curve
    ∙ c.predicted_agreements.ensures.value c.args.stations.now.book is.site.station (rw is.curve at is.valid) in
    rw (c.text_alone.ensures, text, c.constituent_count-count.ensures, c.agreement-agreement.ensures.value)
    (reference_whole c.args.stations.now.book c.args.stations.now.table c.args.name.now c.in_ok-found_station.found_station is agrees)
