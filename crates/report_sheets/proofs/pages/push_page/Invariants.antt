use Rattle.std.proofs.Common.{◌≡◌, ◌≤◌, take}
use Rattle.report_sheets.proofs.pages.push_page.Given as goal

abbrev pub invariant-loop-event : goal.invariant-loop-event
invariant-loop-event g l =
    let now = goal.Sheet-dyn g (l.sheet.vtable, l.sheet.value) in
    let then = goal.Sheet-dyn g (l.fn.sheet.vtable, l.fn.sheet.value) in
    record {
      same : now.sheet_spec l.sheet.value ≡ then.sheet_spec l.fn.sheet.value;
      heading : now.heading l.sheet.value ≡ l.head;
      list : now.list l.sheet.value ≡ take l.event-index l.events;
      within : l.event-index ≤ (then.sheet_spec l.fn.sheet.value).limit;
    }
