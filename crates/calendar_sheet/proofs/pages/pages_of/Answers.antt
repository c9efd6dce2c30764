use Rattle.std.proofs.Common.{◌≡◌, ◌+◌, ◌-ℤ◌, pos, get_or, take, arith, length, ap, ◌∙◌, sym, unsigned_abs}
use Rattle.std.proofs.lemmas.Int.{ints}
use Rattle.std.proofs.lemmas.List.{take_more}
use Rattle.std.proofs.lemmas.List.Elements.{All-get_or}
use Rattle.curve_law.specs.declared.event.Event.{Event}
use Rattle.curve_law.specs.declared.kind.Kind.TheVariants.{High}
use Rattle.calendar_sheet.specs.Workings.Dates.{IsAmong}
use Rattle.calendar_sheet.proofs.PageLemmas.{dated_pages, length-pages_of, pages_of-push}
use Rattle.calendar_sheet.proofs.pages.pages_of.Goals as goal

abbrev blank : Event
blank = record { minute = pos 0; kind = High; level = pos 0 }

pub index_mut-requires : goal.index_mut-requires
index_mut-requires c =
    let i = c.loop-event.event-index in
    let first = c.args.days.first in
    let last = c.args.days.last in
    let among : IsAmong c.args.zone.now first last (get_or c.args.events.now i blank) =
    All-get_or (IsAmong c.args.zone.now first last) c.args.events.now i blank c.loop-event-test.true c.requires.among in
    let many : length c.loop-event.pages.items ≡ unsigned_abs (last -ℤ first) + 1 =
    ap length c.loop-event.invariant ∙ length-pages_of c.args.zone.now (take i c.args.events.now) first last in
    omega (arith, ints, among.least, among.most, many, c.day_index-index.ensures)

pub loop-event-preserved : goal.loop-event-preserved
loop-event-preserved c =
    let i = c.loop-event.event-index in
    let event = get_or c.args.events.now i blank in
    let first = c.args.days.first in
    let last = c.args.days.last in
    let among = All-get_or (IsAmong c.args.zone.now first last) c.args.events.now i blank c.loop-event-test.true c.requires.among in
    rw (take_more c.args.events.now i blank c.loop-event-test.true)
    (pages_of-push c.args.zone.now (take i c.args.events.now) event first last c.day_index-index.result c.loop-event.pages.items
    c.index_mut.result.now c.push.new.self c.loop-event.invariant c.day_index-index.ensures among (sym c.index_mut.ensures.value)
    c.in_ok-push.ensures)

pub returns-clause-days : goal.returns-clause-days
returns-clause-days c =
    rw c.loop-event.invariant
    (dated_pages c.args.zone.now (take c.loop-event.event-index c.args.events.now) c.args.days.first c.args.days.last c.requires.days)
