use Rattle.std.proofs.Common.{◌≡◌, false, inl, inr}
use Rattle.std.specs.Str.{is_utf8}
use Rattle.std.proofs.lemmas.Str.{is_utf8-from_IsUtf8, IsUtf8-from_is_utf8}
use Rattle.std.proofs.lemmas.Bool.{cases_Bool}
use Rattle.station_table.specs.Fields.{text_of}
use Rattle.station_table.proofs.field.text.Goals as goal

pub returns-in-Ok-clause-exact : goal.returns-in-Ok-clause-exact
unfolding text_of
returns-in-Ok-clause-exact c =
    let cases = c.in-Ok.ensures.cases in rw (is_utf8-from_IsUtf8 _ cases.1, cases.0)

pub returns-in-Err-clause-exact : goal.returns-in-Err-clause-exact
unfolding text_of
returns-in-Err-clause-exact c =
    let is_not : is_utf8 c.args.field.now ≡ false =
    elim (cases_Bool (is_utf8 c.args.field.now)) [
      | inl is_text ↦ absurd (c.in-Err.ensures.cases.0 (IsUtf8-from_is_utf8 _ is_text))
      | inr is_none ↦ is_none
    ] in
    rw is_not
