use Rattle.std.proofs.Common.{refl, ◌∙◌}
use denote.Param.Object.{read_made}
use Rattle.report_sheets.specs.Sheets.{SheetSpec}
use Rattle.tide.proofs.sheets.respond_with_sheets.OwnLists as own
use Rattle.tide.specs.Promises.{RespondsAs, program_sheets, world, world_states}
use Rattle.tide.proofs.SheetLemmas.{four_sheets, over_sheets}
use Rattle.tide.proofs.sheets.respond_with_sheets.Goals as goal

pub returns-clause-responds : goal.returns-clause-responds
returns-clause-responds g c =
    over_sheets
    (λ sheets. RespondsAs (world_states g.F.Files.state g.D.Door.state g.O.Sink.state g.E.Sink.state g.K.Clock.state)
    sheets c.args.words.now c.respond.result
    (world c.args.files.now c.args.door.now c.args.out.now c.args.err.now c.args.clock.now)
    (world c.respond.new.files c.respond.new.door c.respond.new.out c.respond.new.err c.respond.new.clock))
    _ program_sheets c.respond.ensures
    (four_sheets _
    c.new-sheets.result.items
    c.push.new.self.items
    c.push-2.new.self.items
    c.push-3.new.self.items
    c.push-4.new.self.items
    c.into_dyn_box.result
    c.into_dyn_box-in_ok-new-2.result
    c.into_dyn_box-in_ok-new-3.result
    c.into_dyn_box-in_ok-new-4.result
    _ _ _ _
    c.new-sheets.ensures.items
    c.in_ok-push.ensures.items
    c.in_ok-push-2.ensures.items
    c.in_ok-push-3.ensures.items
    c.in_ok-push-4.ensures.items
    (read_made own.own-1 (own.own-1.entry own.at-1-1) own.at-1-1 refl SheetSpec (λ j value. j.1.sheet_spec value)
    c.into_dyn_box.result.vtable c.into_dyn_box.result.value c.in_ok-new.field-0.value c.into_dyn_box.ensures.1
    ∙ rw c.in_ok-new.ensures.ok c.new.ensures.sheet_spec)
    (read_made own.own-1 (own.own-1.entry own.at-1-2) own.at-1-2 refl SheetSpec
    (λ j value. j.1.sheet_spec value) c.into_dyn_box-in_ok-new-2.result.vtable c.into_dyn_box-in_ok-new-2.result.value
    c.in_ok-new-2.field-0.value c.into_dyn_box-in_ok-new-2.ensures.1
    ∙ rw c.in_ok-new-2.ensures.ok c.new-3.ensures.sheet_spec)
    (read_made own.own-1 (own.own-1.entry own.at-1-3) own.at-1-3 refl SheetSpec
    (λ j value. j.1.sheet_spec value) c.into_dyn_box-in_ok-new-3.result.vtable c.into_dyn_box-in_ok-new-3.result.value
    c.in_ok-new-3.field-0.value c.into_dyn_box-in_ok-new-3.ensures.1
    ∙ rw c.in_ok-new-3.ensures.ok c.new-5.ensures.sheet_spec)
    (read_made own.own-1 (own.own-1.entry own.at-1-4) own.at-1-4 refl SheetSpec
    (λ j value. j.1.sheet_spec value) c.into_dyn_box-in_ok-new-4.result.vtable c.into_dyn_box-in_ok-new-4.result.value
    c.in_ok-new-4.field-0.value c.into_dyn_box-in_ok-new-4.ensures.1
    ∙ rw c.in_ok-new-4.ensures.ok c.new-7.ensures.sheet_spec))
