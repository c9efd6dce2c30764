-- The check of a certificate that was read, and the consequences of no fault.
use Rattle.std.proofs.Common.{◌≡◌, ℕ, ◌+◌, ◌^◌, ◌<◌, ◌≤◌, ℤ, pos, Bool, true, false, List, [], ◌∷◌, ◌++◌, map, length, length-append, Option, Some, None, is_some, option_map, Result, Ok, Err, All, refl, sym, subst, ap, ◌∙◌, arith}
use Rattle.std.specs.Prelude.{unsigned_abs, IfOk, IfSome, flat_map, option_to_list}
use Rattle.std.specs.Option.{ForSome}
use Rattle.std.proofs.lemmas.Int.{ints}
use Rattle.std.proofs.lemmas.List.{length-map}
use Rattle.cert_text.specs.declared.certificate.Certificate.{Certificate}
use Rattle.cert_text.specs.declared.track_name.TrackName.{TrackName}
use Rattle.cert_text.specs.declared.track_name.TrackName.TheVariants.{Turn, Slack, Mark}
use Rattle.cert_text.specs.Certificates.{IsCertificate, IsMark}
use Rattle.cert_text.specs.Lines.{cell_line_of, last_line, head_lines_of, track_lines_of, lines_if_there, lines_of, ended, joined, certificate_text}
use Rattle.cert_text.specs.Readings.{certificate_of}
use Rattle.curve_law.specs.declared.cell.Cell.{Cell}
use Rattle.curve_law.specs.declared.event.Event.{Event}
use Rattle.curve_law.specs.CurveSpec.{CurveSpec}
use Rattle.curve_law.specs.Track.{plain_list}
use Rattle.decimal_text.specs.Expected.{Excused}
use Rattle.event_list.specs.declared.span.Span.{Span}
use Rattle.event_list.specs.Events.{AreAccepted, AreShort, span_minutes, events_over, station_events, merged_of}
use Rattle.event_list.specs.Order.{ordered}
use Rattle.event_list.specs.Shifts.{IsMovable, widened_of, moved_within, shifted_of}
use Rattle.event_list.proofs.EventLemmas.{events_of as events_in, events-parts, shifted-events}
use Rattle.harmonics_book.specs.declared.book.Book.{Book}
use Rattle.rate_bound.specs.declared.version.Version.{Version}
use Rattle.rate_bound.specs.declared.version.Version.TheVariants.{Second}
use Rattle.rate_bound.specs.CurveSpecs.{predicted_mark}
use Rattle.station_table.specs.declared.offsets.Offsets.{Offsets}
use Rattle.zone_time.specs.declared.zone.Zone.{Zone}
use Rattle.station_span.specs.declared.span_request.SpanRequest.{SpanRequest}
use Rattle.station_span.specs.declared.purpose.Purpose.TheVariants.{Events}
use Rattle.tide_fault.specs.declared.refusal.Refusal.{Refusal}
use Rattle.tide_answer.specs.Answers.{checked, judged, version_of}
use Rattle.tide_answer.specs.Asking.{request_by_certificate}
use Rattle.station_span.specs.Following.{asks_slack, slack_times, slack_plus, if_asked, followed_by, events_of}
use Rattle.station_span.specs.Sites.{Site, site_in}
use Rattle.station_span.specs.Rejections.{HasFewCells}
use Rattle.tide_answer.specs.Workings.Certifying.{judged_in, rejection_in}
use Rattle.station_span.specs.Workings.Spans.{IsFound, IsInRange}
use Rattle.station_span.proofs.RejectionLemmas.{all_accepted, tracks_short}
use Rattle.tide_answer.proofs.CertificateLemmas.{looked_few}
use Rattle.station_span.specs.declared.found_station.FoundStation.{FoundStation}
use Rattle.station_span.specs.Workings.Finds.{site_of}
use Rattle.station_span.proofs.FollowLemmas.{found_valid_over, site_lines, site_movable}
use Rattle.station_span.proofs.HeldLemmas.{found_for, span_for}
use Rattle.event_text.specs.Lines.{IsListed}
use Rattle.station_span.proofs.FoundLemmas.{excused_then}
use Rattle.decimal_text.specs.declared.limits.TheConstants.{MOST_BYTES}

-- ---- a text has a line for each cell

pub lines_long : (lines : List (List ℕ)) → length lines ≤ length (joined lines)
lines_long [] = omega arith
lines_long (line ∷ lines) =
    let more = lines_long lines in
    let all : length (joined (line ∷ lines)) ≡ length (ended line) + length (joined lines) = length-append (ended line) (joined lines) in
    let one : length (ended line) ≡ length line + 1 = length-append line (10 ∷ []) in
    omega arith

there_long : (track : TrackName) (o : Option (List Cell)) (most : ℕ) → length (lines_if_there track o) ≤ most
    → ForSome o (λ cells. length cells ≤ most)
there_long track (Some cells) most few x e =
    let same : cells ≡ x = cc in
    let all : length (map cell_line_of cells) ≡ length cells = length-map cells cell_line_of in
    rw (← same) (omega (arith, few))
there_long track None most few x e = absurd cc

fewer : (o : Option (List Cell)) (most : ℕ) → most < 2 ^ 32 → ForSome o (λ cells. length cells ≤ most)
    → ForSome o (λ cells. length cells < 2 ^ 32)
fewer o most small each x e = let one = each x e in omega arith

pub few_read : (c : Certificate) (bytes : List ℕ) → certificate_text c ≡ bytes → length bytes ≤ MOST_BYTES → HasFewCells c.tracks
unfolding certificate_text
few_read c bytes text few =
    let is : joined (lines_of c) ≡ bytes = text in
    let size = ap length is in
    let long = lines_long (lines_of c) in
    let slack_on = lines_if_there Mark c.tracks.mark ++ last_line ∷ [] in
    let turn_on = lines_if_there Slack c.tracks.slack ++ slack_on in
    let all : length (lines_of c) ≡ 5 + length (track_lines_of Turn c.tracks.turn ++ turn_on) =
    length-append (head_lines_of c) (track_lines_of Turn c.tracks.turn ++ turn_on) in
    let turn : length (track_lines_of Turn c.tracks.turn ++ turn_on) ≡ length (track_lines_of Turn c.tracks.turn)
    + length turn_on = length-append (track_lines_of Turn c.tracks.turn) turn_on in
    let slack : length turn_on ≡ length (lines_if_there Slack c.tracks.slack) + length slack_on =
    length-append (lines_if_there Slack c.tracks.slack) slack_on in
    let mark : length slack_on ≡ length (lines_if_there Mark c.tracks.mark) + 1 =
    length-append (lines_if_there Mark c.tracks.mark) (last_line ∷ []) in
    let cells : length (map cell_line_of c.tracks.turn) ≡ length c.tracks.turn = length-map c.tracks.turn cell_line_of in
    record {
      turn = omega arith;
      slack = fewer c.tracks.slack MOST_BYTES (omega arith) (there_long Slack c.tracks.slack MOST_BYTES (omega arith));
      mark = fewer c.tracks.mark MOST_BYTES (omega arith) (there_long Mark c.tracks.mark MOST_BYTES (omega arith));
    }

-- ---- no fault

mark_followed : (version : Version) (book : Book) (site : Site) (mark : Option ℤ)
    → is_some (followed_by version book site mark).mark ≡ is_some mark
unfolding followed_by
mark_followed version book site (Some level) = refl
mark_followed version book site None = refl

pub site_accepted : (book : Book) (site : Site) (cert : Certificate) → IsCertificate cert → rejection_in book site cert ≡ None
    → AreAccepted (followed_by (version_of cert) book site cert.mark) (widened_of site.basis cert.begin cert.end) cert.tracks
site_accepted book site cert valid none =
    all_accepted (followed_by (version_of cert) book site cert.mark) (widened_of site.basis cert.begin cert.end) cert.tracks
    (mark_followed (version_of cert) book site cert.mark ∙ sym valid.marked) none

-- the result of a step under another name
pub ok_same : (A E : Type 0) (r : Result A E) (x y : A) → x ≡ y → IfOk r (λ v. v ≡ x) → IfOk r (λ v. v ≡ y)
ok_same A E (Ok v) x y same is = is ∙ same
ok_same A E (Err fault) x y same is = tt

pub ok_has : (A E : Type 0) (r : Result A E) (x : A) (P : A → Type 0) → P x → IfOk r (λ v. v ≡ x) → IfOk r P
ok_has A E (Ok v) x P has is = rw is has
ok_has A E (Err fault) x P has is = tt

-- ---- both versions have the same events

slack_events : (s : Span) (asks : Bool) (c d : CurveSpec) → c.track ≡ d.track
    → flat_map (events_over s) (option_to_list (if_asked asks c))
    ≡ flat_map (events_over s) (option_to_list (if_asked asks d))
slack_events s true c d same = ap (λ t. plain_list t s.begin (span_minutes s) ++ []) same
slack_events s false c d same = refl

mark_events : (s : Span) (mark : Option ℤ) (f g : ℤ → CurveSpec) → ((level : ℤ) → (f level).track ≡ (g level).track)
    → flat_map (events_over s) (option_to_list (option_map f mark))
    ≡ flat_map (events_over s) (option_to_list (option_map g mark))
mark_events s (Some level) f g same = ap (λ t. plain_list t s.begin (span_minutes s) ++ []) (same level)
mark_events s None f g same = refl

version_events : (v : Version) (book : Book) (site : Site) (mark : Option ℤ) (s : Span)
    → events_in s (followed_by v book site mark) ≡ events_in s (followed_by Second book site mark)
unfolding followed_by
version_events v book site mark s =
    let station = site.station in
    let basis = site.basis in
    let slack = slack_events s (asks_slack station.units basis)
    (predicted_mark v book station (slack_times basis) (slack_plus basis) (pos 0) true)
    (predicted_mark Second book station (slack_times basis) (slack_plus basis) (pos 0) true) refl in
    let mark = mark_events s mark
    (λ level. predicted_mark v book station basis.high.times basis.high.plus level false)
    (λ level. predicted_mark Second book station basis.high.times basis.high.plus level false) (λ level. refl) in
    rw (slack, mark) refl

one_list : (v : Version) (book : Book) (site : Site) (mark : Option ℤ) (begin end : ℤ)
    → station_events (followed_by v book site mark) site.basis begin end
    ≡ station_events (followed_by Second book site mark) site.basis begin end
one_list v book site mark begin end =
    events-parts (followed_by v book site mark) site.basis begin end
    ∙ ap (λ es. ordered (moved_within site.basis begin end es)) (version_events v book site mark (widened_of site.basis begin end))
    ∙ sym (events-parts (followed_by Second book site mark) site.basis begin end)

accepted_events : (book : Book) (site : Site) (cert : Certificate) → IsFound Events book (request_by_certificate cert) site
    → IsCertificate cert → rejection_in book site cert ≡ None → shifted_of site.basis cert.begin cert.end
    (merged_of (widened_of site.basis cert.begin cert.end).begin cert.tracks)
    ≡ events_of book site (request_by_certificate cert)
unfolding events_of
accepted_events book site cert is valid none =
    shifted-events (followed_by (version_of cert) book site cert.mark) site.basis cert.begin cert.end cert.tracks
    (found_valid_over (version_of cert) book (request_by_certificate cert) site is) (site_accepted book site cert valid none)
    ∙ one_list (version_of cert) book site cert.mark cert.begin cert.end

-- ---- the station, the span and the mark

marks_in_range : (mark : Option ℤ) → IfSome mark IsMark → ForSome mark (λ level. unsigned_abs level ≤ 10000000000)
marks_in_range (Some level) is x e = let same : level ≡ x = cc in rw (← same) is
marks_in_range None is x e = absurd cc

pub read_in_range : (cert : Certificate) → IsCertificate cert → IsInRange (request_by_certificate cert)
read_in_range cert valid =
    let begin = valid.begin in
    let end = valid.end in
    record { begin = omega (arith, ints); end = omega (arith, ints); mark = marks_in_range cert.mark valid.mark }

-- ---- the answer

pub judged_by : (book : Book) (table : List Offsets) (cert : Certificate) (zone : Zone) (site : Site)
    → site_in Events book table cert.station (request_by_certificate cert) ≡ Ok site
    → judged_in book table cert zone ≡ Ok (judged book site cert zone (rejection_in book site cert))
unfolding judged_in
judged_by book table cert zone site expected = rw expected refl

pub judged_refused : (memory : Bool) (book : Book) (table : List Offsets) (cert : Certificate) (zone : Zone)
    (refusal : Refusal) → Excused memory (site_in Events book table cert.station (request_by_certificate cert)) refusal
    → Excused memory (judged_in book table cert zone) refusal
unfolding judged_in
judged_refused memory book table cert zone refusal excused = excused_then memory _ _ refusal excused

pub checked_by : (book : Book) (table : List Offsets) (bytes : List ℕ) (zone : Zone) (cert : Certificate)
    → certificate_of bytes ≡ Ok cert → checked book table bytes zone ≡ judged_in book table cert zone
unfolding checked judged_in
checked_by book table bytes zone cert is = rw is refl

-- ---- a station that was found

found_in : (found_station : FoundStation) (cert : Certificate) → found_station.purpose ≡ Events → found_station.span_request ≡ request_by_certificate cert
    → IsFound Events found_station.curve.book (request_by_certificate cert) (site_of found_station)
found_in found_station cert purpose same =
    subst (λ a. IsFound Events found_station.curve.book a (site_of found_station)) same (found_for found_station Events purpose)

pub span_in : (found_station : FoundStation) (cert : Certificate) → found_station.purpose ≡ Events
    → found_station.span_request ≡ request_by_certificate cert → found_station.span ≡ widened_of found_station.basis cert.begin cert.end
span_in found_station cert purpose same = span_for found_station Events purpose ∙ ap (λ (a : SpanRequest). widened_of found_station.basis a.begin a.end) same

-- accepted tracks are short
pub found_short : (found_station : FoundStation) (cert : Certificate) → found_station.purpose ≡ Events
    → found_station.span_request ≡ request_by_certificate cert → IsCertificate cert
    → rejection_in found_station.curve.book (site_of found_station) cert ≡ None → AreShort cert.tracks
found_short found_station cert purpose same valid none =
    let book = found_station.curve.book in
    let site = site_of found_station in
    let few = looked_few book (request_by_certificate cert) site (found_in found_station cert purpose same) in
    tracks_short (followed_by (version_of cert) book site cert.mark) (widened_of site.basis cert.begin cert.end) cert.tracks
    (omega (arith, few)) (site_accepted book site cert valid none)

pub found_movable : (found_station : FoundStation) (cert : Certificate) (events : List Event) → found_station.purpose ≡ Events
    → found_station.span_request ≡ request_by_certificate cert → events ≡ merged_of found_station.span.begin cert.tracks → IsCertificate cert
    → rejection_in found_station.curve.book (site_of found_station) cert ≡ None → All IsMovable events
found_movable found_station cert events purpose same is valid none =
    rw (is, span_in found_station cert purpose same)
    (site_movable (version_of cert) found_station.curve.book (request_by_certificate cert) (site_of found_station) cert.tracks
    (found_in found_station cert purpose same) (site_accepted found_station.curve.book (site_of found_station) cert valid none))

pub found_list : (found_station : FoundStation) (cert : Certificate) (events : List Event) → found_station.purpose ≡ Events
    → found_station.span_request ≡ request_by_certificate cert → events ≡ merged_of found_station.span.begin cert.tracks → IsCertificate cert
    → rejection_in found_station.curve.book (site_of found_station) cert ≡ None
    → shifted_of found_station.basis found_station.span_request.begin found_station.span_request.end events
    ≡ events_of found_station.curve.book (site_of found_station) (request_by_certificate cert)
found_list found_station cert events purpose same is valid none =
    rw (is, span_in found_station cert purpose same, same)
    (accepted_events found_station.curve.book (site_of found_station) cert (found_in found_station cert purpose same) valid none)

pub found_lines : (found_station : FoundStation) (cert : Certificate) → found_station.purpose ≡ Events
    → found_station.span_request ≡ request_by_certificate cert → All (IsListed found_station.curve.station.units)
    (events_of found_station.curve.book (site_of found_station) (request_by_certificate cert))
found_lines found_station cert purpose same =
    site_lines found_station.curve.book (request_by_certificate cert) (site_of found_station) (found_in found_station cert purpose same)
