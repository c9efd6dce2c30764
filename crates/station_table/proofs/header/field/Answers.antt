use Rattle.std.proofs.Common.{sym, ◌∙◌, ap, unwrap_or, []}
use Rattle.station_table.proofs.FieldLemmas.{get_or-field_at}
use Rattle.station_table.proofs.header.field.Goals as goal

pub returns-in-Some : goal.returns-in-Some
returns-in-Some c = sym (get_or-field_at _ _ ∙ ap (λ f. unwrap_or f []) (sym c.in-Some.ensures.value))

pub returns-in-None : goal.returns-in-None
returns-in-None c = sym (get_or-field_at _ _ ∙ ap (λ f. unwrap_or f []) (sym c.in-None.ensures.value))
