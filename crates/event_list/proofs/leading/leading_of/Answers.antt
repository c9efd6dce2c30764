use Rattle.std.proofs.Common.{◌≡◌, true, sym, ◌∙◌}
use Rattle.event_list.specs.Merging.{leads}
use Rattle.event_list.proofs.MergeLemmas.{leads-total, leads-trans}
use Rattle.event_list.proofs.leading.leading_of.Goals as goal

pub returns-else-leads-2-clause-first : goal.returns-else-leads-2-clause-first
returns-else-leads-2-clause-first c =
    let mark : leads c.args.mark c.args.turn ≡ true =
    leads-total c.args.turn c.args.mark (sym c.leads-then-leads.ensures ∙ c.if-leads-2.false) in
    (mark, leads-trans c.args.mark c.args.turn c.args.slack mark (sym c.leads.ensures ∙ c.if-leads.true))

pub returns-then-leads-3-clause-first : goal.returns-then-leads-3-clause-first
returns-then-leads-3-clause-first c =
    (leads-total c.args.turn c.args.slack (sym c.leads.ensures ∙ c.if-leads.false), sym c.leads-else-leads.ensures ∙ c.if-leads-3.true)

pub returns-else-leads-3-clause-first : goal.returns-else-leads-3-clause-first
returns-else-leads-3-clause-first c =
    let slack : leads c.args.slack c.args.turn ≡ true = leads-total c.args.turn c.args.slack (sym c.leads.ensures ∙ c.if-leads.false) in
    let mark : leads c.args.mark c.args.slack ≡ true =
    leads-total c.args.slack c.args.mark (sym c.leads-else-leads.ensures ∙ c.if-leads-3.false) in
    (leads-trans c.args.mark c.args.slack c.args.turn mark slack, mark)
