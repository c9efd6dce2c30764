-- The size of a station's listing and certificate, and that they can be written.
use Rattle.std.proofs.Common.{◌≡◌, ℕ, ◌+◌, ◌*◌, ◌^◌, ◌<◌, ◌≤◌, ℤ, pos, ◌+ℤ◌, List, [], ◌∷◌, ◌++◌, length, Option, Some, None, All, refl, sym, ap, ◌∙◌, arith, append-nil, append_assoc}
use Rattle.std.specs.Prelude.{codes, unsigned_abs, sum_by, flat_map, option_to_list, IfSome}
use Rattle.std.specs.Option.{ForSome}
use Rattle.std.proofs.lemmas.Int.{ints}
use Rattle.std.proofs.lemmas.List.Elements.{All-weaker}
use Rattle.std.proofs.lemmas.List.Concat.{flat_map-append}
use Rattle.std.proofs.lemmas.List.Sums.{sum_by-append, sum_by-cons}
use Rattle.cert_text.specs.declared.certificate.Certificate.{Certificate}
use Rattle.cert_text.specs.declared.track_name.TrackName.{TrackName}
use Rattle.cert_text.specs.declared.track_name.TrackName.TheVariants as names
use Rattle.cert_text.specs.Certificates.{IsCell, IsCellOf, IsMark, IsStationName}
use Rattle.cert_text.specs.Lines.{certificate_text, title_of, station_line_of, begin_line_of, end_line_of, mark_line_of, last_line, head_lines_of, track_lines_of, lines_if_there, ended, joined}
use Rattle.curve_law.specs.declared.cell.Cell.{Cell}
use Rattle.curve_law.specs.declared.cell.Cell.TheVariants.{Quiet, Still, Turn}
use Rattle.curve_law.specs.declared.event.Event.{Event}
use Rattle.curve_law.specs.declared.tracks.Tracks.{Tracks}
use Rattle.curve_law.specs.Cells.{event_in, minutes_of, cell_events}
use Rattle.event_list.specs.Events.{cell_count, cells_in, merged_of}
use Rattle.event_list.specs.Merging.{cells_left}
use Rattle.event_list.specs.Order.{ordered}
use Rattle.event_list.specs.Shifts.{widened_of}
use Rattle.event_list.proofs.EventLemmas.{cells-parts, count-few, merged-parts}
use Rattle.event_list.proofs.OrderLemmas.{sum-ordered}
use Rattle.interval_search.specs.Looking.{Looking}
use Rattle.station_span.specs.declared.span_request.SpanRequest.{SpanRequest}
use Rattle.station_span.specs.declared.found_station.FoundStation.{FoundStation}
use Rattle.station_span.specs.declared.purpose.Purpose.TheVariants.{Events}
use Rattle.station_span.specs.Following.{followed, tracks_of}
use Rattle.station_span.specs.Workings.Finds.{AreReferences, site_of}
use Rattle.station_span.proofs.HeldLemmas.{found_for}
use Rattle.station_span.specs.CellSending.{left_count}
use Rattle.tide_answer.specs.Workings.Streaming.{head_text, tracks_text, HasCells}
use Rattle.tide_answer.specs.Workings.Certifying.{certificate_in}
use Rattle.station_span.specs.Workings.Spans.{AreMoments}
use Rattle.tide_answer.proofs.CertificateLemmas.{certificate_valid}

-- ---- cells

pub cells_small : (found_station : FoundStation) → found_station.purpose ≡ Events
    → cells_in (tracks_of found_station.curve.book (site_of found_station) found_station.span_request) ≤ 600000000000
unfolding cell_count tracks_of
cells_small found_station is =
    let few = count-few (followed found_station.curve.book (site_of found_station) found_station.span_request)
    (widened_of found_station.basis found_station.span_request.begin found_station.span_request.end) in
    let in_range = (found_for found_station Events is).span.in_range in
    let forward = in_range.forward in
    let begin = in_range.begin in
    let end = in_range.end in
    omega (arith, ints, few)

pub left_counted : {C : Type 0} (search : Option (Looking C)) → left_count search ≡ sum_by length (option_to_list (cells_left search))
left_counted None = refl
left_counted (Some search) = omega (arith, sum_by-cons length search.remaining [])

pub all_counted : {C : Type 0} (turn : List Cell) (slack mark : Option (Looking C)) → length turn + left_count slack
    + left_count mark ≡ cells_in (record { turn = turn; slack = cells_left slack; mark = cells_left mark })
all_counted turn slack mark =
    omega (
      arith,
      left_counted slack,
      left_counted mark,
      cells-parts (record { turn = turn; slack = cells_left slack; mark = cells_left mark }),
    )

-- ---- events

abbrev one : Event → ℕ
one e = 1

ones : (es : List Event) → sum_by one es ≡ length es
ones [] = refl
ones (e ∷ es) = omega (arith, sum_by-cons one e es, ones es)

event_few : (a : ℤ) (cell : Cell) → length (event_in a cell) ≤ 1
event_few a (Quiet n) = omega arith
event_few a Still = omega arith
event_few a (Turn kind level) = omega arith

cell_events_few : (a : ℤ) (cells : List Cell) → sum_by one (cell_events a cells) ≤ length cells
unfolding cell_events
cell_events_few a [] = omega arith
cell_events_few a (cell ∷ cells) =
    omega (
      arith,
      sum_by-append one (event_in a cell) (cell_events (a +ℤ pos (minutes_of cell)) cells),
      ones (event_in a cell),
      event_few a cell,
      cell_events_few (a +ℤ pos (minutes_of cell)) cells,
    )

track_few : (a : ℤ) (cells : Option (List Cell))
    → sum_by one (flat_map (cell_events a) (option_to_list cells)) ≤ sum_by length (option_to_list cells)
track_few a None = omega arith
track_few a (Some cells) = rw (append-nil (cell_events a cells)) (omega (arith, sum_by-cons length cells [], cell_events_few a cells))

merged_few : (a : ℤ) (t : Tracks) → length (merged_of a t) ≤ cells_in t
merged_few a t =
    let turn = cell_events a t.turn in
    let slack = flat_map (cell_events a) (option_to_list t.slack) in
    let mark = flat_map (cell_events a) (option_to_list t.mark) in
    let all = sum-ordered one (turn ++ (slack ++ mark)) in
    rw (merged-parts a t)
    (omega (
      arith,
      sym (ones (ordered (turn ++ (slack ++ mark)))) ∙ all,
      sum_by-append one turn (slack ++ mark),
      sum_by-append one slack mark,
      cells-parts t,
      cell_events_few a t.turn,
      track_few a t.slack,
      track_few a t.mark,
    ))

pub events_small : (found_station : FoundStation) (events : List Event) → found_station.purpose ≡ Events → AreReferences found_station events
    → 96 * length events < 2 ^ 63
events_small found_station events is references =
    let few = merged_few found_station.span.begin (tracks_of found_station.curve.book (site_of found_station) found_station.span_request) in
    let small = cells_small found_station is in
    rw references (omega (arith, few, small))

-- ---- the parts of a certificate

pub turn_small : (found_station : FoundStation) → found_station.purpose ≡ Events
    → length (tracks_of found_station.curve.book (site_of found_station) found_station.span_request).turn ≤ 600000000000
turn_small found_station is = omega (arith, cells-parts (tracks_of found_station.curve.book (site_of found_station) found_station.span_request), cells_small found_station is)

pub slack_small : {C : Type 0} (found_station : FoundStation) (search : Option (Looking C)) → found_station.purpose ≡ Events
    → cells_left search ≡ (tracks_of found_station.curve.book (site_of found_station) found_station.span_request).slack
    → left_count search ≤ 600000000000
slack_small found_station search is remaining =
    let tracks = tracks_of found_station.curve.book (site_of found_station) found_station.span_request in
    let count : left_count search ≡ sum_by length (option_to_list tracks.slack) =
    left_counted search ∙ ap (λ (o : Option (List Cell)). sum_by length (option_to_list o)) remaining in
    omega (arith, count, cells-parts tracks, cells_small found_station is)

pub mark_small : {C : Type 0} (found_station : FoundStation) (search : Option (Looking C)) → found_station.purpose ≡ Events
    → cells_left search ≡ (tracks_of found_station.curve.book (site_of found_station) found_station.span_request).mark
    → left_count search ≤ 600000000000
mark_small found_station search is remaining =
    let tracks = tracks_of found_station.curve.book (site_of found_station) found_station.span_request in
    let count : left_count search ≡ sum_by length (option_to_list tracks.mark) =
    left_counted search ∙ ap (λ (o : Option (List Cell)). sum_by length (option_to_list o)) remaining in
    omega (arith, count, cells-parts tracks, cells_small found_station is)

pub mark_in_range : (mark : Option ℤ) → ForSome mark (λ level. unsigned_abs level ≤ 10000000000) → IfSome mark IsMark
mark_in_range (Some level) small = small level refl
mark_in_range None small = tt

cell_of : (track : TrackName) (cell : Cell) → IsCellOf track cell → IsCell cell
cell_of track (Quiet n) is = is
cell_of track Still is = tt
cell_of track (Turn kind level) is = is.1

if_cells : (track : TrackName) (cells : Option (List Cell)) → IfSome cells (All (IsCellOf track)) → IfSome cells (All IsCell)
if_cells track (Some cells) all = All-weaker (IsCellOf track) IsCell (cell_of track) cells all
if_cells track None all = tt

pub has_cells : (name : List ℕ) (found_station : FoundStation) → found_station.purpose ≡ Events → IsStationName name
    → AreMoments found_station.span_request → HasCells (tracks_of found_station.curve.book (site_of found_station) found_station.span_request)
has_cells name found_station purpose named moments =
    let tracks = tracks_of found_station.curve.book (site_of found_station) found_station.span_request in
    let is = certificate_valid name found_station.curve.book found_station.span_request (site_of found_station) tracks named moments.begin moments.end
    (found_for found_station Events purpose) refl in
    record {
      turn = All-weaker (IsCellOf names.Turn) IsCell (cell_of names.Turn) tracks.turn is.turn;
      slack = if_cells names.Slack tracks.slack is.slack;
      mark = if_cells names.Mark tracks.mark is.crossings;
    }

pub searched : {C : Type 0} (search : Option (Looking C)) (cells : Option (List Cell)) → cells_left search ≡ cells
    → IfSome cells (All IsCell) → ForSome search (λ s. All IsCell s.remaining)
searched (Some s) cells is all x e = let same : s ≡ x = cc in rw (← same) (rw (← is) at all)
searched None cells is all x e = absurd cc

-- the text in its parts
text_parts : (c : Certificate) → certificate_text c ≡ joined (head_lines_of c)
    ++ joined (track_lines_of names.Turn c.tracks.turn) ++ joined (lines_if_there names.Slack c.tracks.slack)
    ++ joined (lines_if_there names.Mark c.tracks.mark) ++ ended last_line
unfolding certificate_text last_line
text_parts c =
    let turn = track_lines_of names.Turn c.tracks.turn in
    let slack = lines_if_there names.Slack c.tracks.slack in
    let crossings = lines_if_there names.Mark c.tracks.mark in
    flat_map-append ended (head_lines_of c) (turn ++ (slack ++ (crossings ++ last_line ∷ [])))
    ∙ ap (λ bs. joined (head_lines_of c) ++ bs) (flat_map-append ended turn (slack ++ (crossings ++ last_line ∷ []))
    ∙ ap (λ bs. joined turn ++ bs) (flat_map-append ended slack (crossings ++ last_line ∷ [])
    ∙ ap (λ bs. joined slack ++ bs) (flat_map-append ended crossings (last_line ∷ []))))
    ∙ sym (append_assoc (joined (head_lines_of c)) (joined turn) (joined slack ++ (joined crossings ++ ended last_line)))
    ∙ sym (append_assoc (joined (head_lines_of c) ++ joined turn) (joined slack) (joined crossings ++ ended last_line))
    ∙ sym (append_assoc (joined (head_lines_of c) ++ joined turn ++ joined slack) (joined crossings) (ended last_line))

pub certificate_parts : (name : List ℕ) (span_request : SpanRequest) (tracks : Tracks)
    → certificate_text (certificate_in name span_request tracks) ≡ head_text name span_request ++ tracks_text tracks ++ codes "done\n"
unfolding title_of station_line_of last_line
certificate_parts name span_request tracks =
    let b = ended (begin_line_of span_request.begin) in
    let e = ended (end_line_of span_request.end) in
    let m = ended (mark_line_of span_request.mark) in
    let front = codes "tide certificate 2\nstation " ++ name ++ codes "\n" in
    let span : b ++ (e ++ (m ++ [])) ≡ b ++ e ++ m = ap (λ ys. b ++ (e ++ ys)) (append-nil m) ∙ sym (append_assoc b e m) in
    let head : joined (head_lines_of (certificate_in name span_request tracks)) ≡ head_text name span_request = ap (λ ys. front ++ ys) span in
    let t = joined (track_lines_of names.Turn tracks.turn) in
    let s = joined (lines_if_there names.Slack tracks.slack) in
    let k = joined (lines_if_there names.Mark tracks.mark) in
    let h = head_text name span_request in
    let nested : h ++ t ++ s ++ k ≡ h ++ (t ++ s ++ k) = ap (λ ys. ys ++ k) (append_assoc h t s) ∙ append_assoc h (t ++ s) k in
    text_parts (certificate_in name span_request tracks)
    ∙ ap (λ ys. ys ++ t ++ s ++ k ++ codes "done\n") head
    ∙ ap (λ ys. ys ++ codes "done\n") nested
