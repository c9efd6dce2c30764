use Rattle.std.proofs.Common.{◌∙◌, ap, FitsSigned, w64}
use Rattle.std.proofs.lemmas.Int.{to_z-of_z}
use Rattle.calendar_sheet.specs.Calendars.{calendar_text_of, days_shown}
use Rattle.calendar_sheet.specs.Workings.Dates.{line_of_page, page_of}
use Rattle.zone_time.specs.declared.zone.Zone.{Zone}
use Rattle.calendar_sheet.proofs.PageLemmas.{listed_pages, flat_map-map}
use Rattle.calendar_sheet.proofs.calendar.calendar_text.Goals as goal

pub push_pages-requires-clause-listed : goal.push_pages-requires-clause-listed
push_pages-requires-clause-listed c =
    let begin : FitsSigned w64 c.args.begin = c.ranges.begin in
    let end : FitsSigned w64 c.args.end = c.ranges.end in
    let zone = c.clock-clock.result in
    let pages = simp to_z-of_z at (rw c.as_slice.ensures at c.in_ok-pages.ensures.exact) in
    let days = days_shown zone c.args.events.now c.args.begin c.args.end in
    rw (c.as_slice-2.ensures.value, pages) (listed_pages zone c.args.events.now c.args.units days c.requires.listed)

pub returns : goal.returns
unfolding calendar_text_of
returns c =
    let begin : FitsSigned w64 c.args.begin = c.ranges.begin in
    let end : FitsSigned w64 c.args.end = c.ranges.end in
    let zone = c.clock-clock.result in
    let pages = simp to_z-of_z at (rw c.as_slice.ensures at c.in_ok-pages.ensures.exact) in
    let days = days_shown zone c.args.events.now c.args.begin c.args.end in
    let lines = flat_map-map (line_of_page zone c.args.units) (page_of zone c.args.events.now) days in
    let named = c.in_ok-push.ensures.items in
    let pushed =
    rw (c.as_slice-2.ensures.value, pages, lines, named, c.in_ok-text.ensures.items, c.as_bytes.ensures.value, c.as_str.ensures)
    at c.in_ok-push_pages.ensures in
    let text_by = λ (z : Zone). calendar_text_of c.args.name.now c.args.units c.args.events.now z c.args.begin c.args.end in
    c.from_vec.ensures ∙ pushed ∙ ap text_by c.clock-clock.ensures
