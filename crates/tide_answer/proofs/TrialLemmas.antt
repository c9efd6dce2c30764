-- The counts of a station that was found.
use Rattle.std.proofs.Common.{◌≡◌, ℕ, ◌+◌, ◌*◌, ◌^◌, ◌<◌, ◌≤◌, Bool, List, [], length, get_or, drop, Option, Some, None, Ok, refl, arith}
use Rattle.std.proofs.lemmas.Int.{ints}
use Rattle.std.proofs.lemmas.List.{drop_more, drop_all}
use Rattle.curve_law.specs.declared.cell.Cell.{Cell}
use Rattle.curve_law.specs.declared.event.Event.{Event}
use Rattle.curve_law.specs.declared.tracks.Tracks.{Tracks}
use Rattle.decimal_text.specs.Expected.{Excused}
use Rattle.event_list.specs.Events.{cells_in, cell_count}
use Rattle.event_list.specs.Shifts.{widened_of}
use Rattle.event_list.proofs.EventLemmas.{count-few}
use Rattle.harmonics_book.specs.declared.book.Book.{Book}
use Rattle.harmonics_book.specs.declared.book.Station.{Station}
use Rattle.event_list.specs.declared.span.Span.{Span}
use Rattle.station_span.specs.declared.purpose.Purpose.TheVariants.{Events}
use Rattle.tide_fault.specs.declared.refusal.Refusal.{Refusal}
use Rattle.station_span.specs.declared.rejection.Rejection.{Rejection}
use Rattle.station_span.specs.declared.found_station.FoundStation.{FoundStation}
use Rattle.station_span.specs.Workings.Finds.{site_of}
use Rattle.station_span.proofs.HeldLemmas.{found_for}
use Rattle.tide_answer.specs.declared.tally.Tally.{Tally}
use Rattle.station_span.specs.Following.{followed, events_of, tracks_of}
use Rattle.station_span.specs.Sites.{Site, site_in}
use Rattle.tide_answer.specs.Trials.{plus, station_tally, tally_on, tally_at, tally_by, trial_span}
use Rattle.station_span.specs.Rejections.{HasFewCells}
use Rattle.tide_answer.specs.Workings.Certifying.{certificate_in, rejection_in}
use Rattle.tide_answer.specs.Workings.Tallies.{IsUpTo}
use Rattle.station_span.proofs.FoundLemmas.{excused_then}

pub station_whole : (book : Book) (name : List ℕ) (site : Site) (span : Span) (tracks : Tracks) (events : List Event)
    (rejection : Option Rejection) → site_in Events book [] name trial_span ≡ Ok site
    → span ≡ widened_of site.basis trial_span.begin trial_span.end → tracks ≡ tracks_of book site trial_span → events
    ≡ events_of book site trial_span → rejection ≡ rejection_in book site (certificate_in name trial_span tracks)
    → station_tally book name ≡ Ok (tally_by span tracks events rejection)
unfolding station_tally tally_at
station_whole book name site span tracks events rejection expected looked covers list judged =
    rw (expected, looked, list, judged, covers) refl

-- ---- the number of cells of a station's tracks

parts_few : (turn : List Cell) (slack mark : Option (List Cell))
    → cells_in (record { turn = turn; slack = slack; mark = mark }) < 2 ^ 32
    → HasFewCells (record { turn = turn; slack = slack; mark = mark })
unfolding cells_in
parts_few turn None None few = record {
  turn = omega (arith, few);
  slack = λ x e. absurd cc;
  mark = λ x e. absurd cc;
}
parts_few turn (Some slack) None few = record {
  turn = omega (arith, few);
  slack = λ x e. let same : slack ≡ x = cc in rw (← same) (omega (arith, few));
  mark = λ x e. absurd cc;
}
parts_few turn None (Some mark) few = record {
  turn = omega (arith, few);
  slack = λ x e. absurd cc;
  mark = λ x e. let same : mark ≡ x = cc in rw (← same) (omega (arith, few));
}
parts_few turn (Some slack) (Some mark) few = record {
  turn = omega (arith, few);
  slack = λ x e. let same : slack ≡ x = cc in rw (← same) (omega (arith, few));
  mark = λ x e. let same : mark ≡ x = cc in rw (← same) (omega (arith, few));
}

covers_few : (found_station : FoundStation) → found_station.purpose ≡ Events → cells_in (tracks_of found_station.curve.book (site_of found_station) found_station.span_request) < 2 ^ 32
unfolding cell_count tracks_of
covers_few found_station is =
    let few = count-few (followed found_station.curve.book (site_of found_station) found_station.span_request)
    (widened_of found_station.basis found_station.span_request.begin found_station.span_request.end) in
    let span = (found_for found_station Events is).span in
    let forward = span.in_range.forward in
    let begins = span.beside.begins in
    let ends = span.beside.ends in
    let long = found_station.valid.few in
    omega (arith, ints, few)

pub tracks_few : (found_station : FoundStation) (tracks : Tracks) → found_station.purpose ≡ Events
    → tracks ≡ tracks_of found_station.curve.book (site_of found_station) found_station.span_request → HasFewCells tracks
tracks_few found_station tracks is same =
    parts_few tracks.turn tracks.slack tracks.mark (rw same (covers_few found_station is))

-- ---- from one station to the next

pub tally_next : (book : Book) (sum one : Tally) (stations : List Station) (i : ℕ) (d : Station) → i < length stations
    → station_tally book (get_or stations i d).name ≡ Ok one
    → tally_on book sum (drop i stations) ≡ tally_on book (plus sum one) (drop (i + 1) stations)
unfolding tally_on
tally_next book sum one stations i d within is = rw (drop_more stations i d within, is) refl

pub tally_refused : (memory : Bool) (book : Book) (sum : Tally) (stations : List Station) (i : ℕ) (d : Station)
    (refusal : Refusal) → i < length stations → Excused memory (station_tally book (get_or stations i d).name) refusal
    → Excused memory (tally_on book sum (drop i stations)) refusal
unfolding tally_on
tally_refused memory book sum stations i d refusal within excused =
    rw (drop_more stations i d within) (excused_then memory _ _ refusal excused)

pub tally_done : (book : Book) (sum : Tally) (stations : List Station) (i : ℕ) → length stations ≤ i
    → tally_on book sum (drop i stations) ≡ Ok sum
unfolding tally_on
tally_done book sum stations i all = rw (drop_all i stations all) refl

pub tally_up : (i : ℕ) (sum one : Tally) → IsUpTo (i * 2 ^ 66) sum → IsUpTo (2 ^ 66) one → IsUpTo ((i + 1) * 2 ^ 66) (plus sum one)
unfolding plus
tally_up i sum one far more =
    let minutes = far.minutes in
    let events = far.events in
    let cells = far.cells in
    let quiet = far.quiet in
    let accepted = far.accepted in
    let minutes' = more.minutes in
    let events' = more.events in
    let cells' = more.cells in
    let quiet' = more.quiet in
    let accepted' = more.accepted in
    record { minutes = omega arith; events = omega arith; cells = omega arith; quiet = omega arith; accepted = omega arith }
