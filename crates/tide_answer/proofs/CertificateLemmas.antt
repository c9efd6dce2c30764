-- The certificate of a station's tracks.
use Rattle.std.proofs.Common.{◌≡◌, ℕ, ◌^◌, ◌<◌, ◌≤◌, ℤ, Bool, true, false, List, [], length, Option, Some, None, is_some, option_map, All, refl, inr, arith}
use Rattle.std.specs.Prelude.{unsigned_abs, IfSome, unwrap_or}
use Rattle.std.specs.Option.{ForSome}
use Rattle.std.proofs.lemmas.Int.{ints}
use Rattle.cert_text.specs.declared.certificate.Certificate.{Certificate}
use Rattle.cert_text.specs.declared.track_name.TrackName.{TrackName}
use Rattle.cert_text.specs.declared.track_name.TrackName.TheVariants.{Turn, Slack, Mark}
use Rattle.cert_text.specs.Certificates.{IsCertificate, IsCellOf, IsStationName, HasUsualLevel, HasUsualLevels, cell_count as cells_of_all}
use Rattle.cert_text.specs.Lines.{certificate_text}
use Rattle.cert_text.specs.Tracks.{track_of}
use Rattle.curve_law.specs.declared.cell.Cell.{Cell}
use Rattle.curve_law.specs.declared.tracks.Tracks.{Tracks}
use Rattle.curve_law.specs.declared.verdict.Verdict.TheVariants.{Accepted}
use Rattle.curve_law.specs.CurveSpec.{CurveSpec, IsSpan}
use Rattle.curve_law.specs.Verdicts.{verdict}
use Rattle.event_list.specs.declared.span.Span.{Span}
use Rattle.event_list.specs.Events.{Followed, IsValidOver, AreAccepted, IsAccepted, span_minutes, cover_over, covers_of, cell_count, cells_in}
use Rattle.event_list.specs.Shifts.{widened_of}
use Rattle.event_list.proofs.EventLemmas.{covers-accepted}
use Rattle.harmonics_book.specs.declared.book.Book.{Book}
use Rattle.rate_bound.specs.declared.version.Version.{Version}
use Rattle.rate_bound.specs.declared.version.Version.TheVariants.{Second}
use Rattle.station_curve.specs.Curves.{IsPrediction, IsWithinLimits, Prediction, prediction_of}
use Rattle.station_curve.proofs.Ranges.{all_minutes_valid}
use Rattle.station_curve.specs.Schureman.{predicted_millionths}
use Rattle.zone_time.specs.Moments.{IsMoment}
use Rattle.station_span.specs.declared.span_request.SpanRequest.{SpanRequest}
use Rattle.station_span.specs.declared.purpose.Purpose.TheVariants.{Events}
use Rattle.station_span.specs.declared.found_station.FoundStation.{FoundStation}
use Rattle.station_span.specs.Workings.Finds.{site_of}
use Rattle.station_span.specs.Following.{if_asked, followed, followed_by, tracks_of, cells_of}
use Rattle.station_span.specs.Sites.{Site}
use Rattle.tide_answer.specs.Workings.Certifying.{certificate_in}
use Rattle.tide_answer.specs.Workings.Streaming.{certificate_for}
use Rattle.station_span.specs.Workings.Spans.{IsBeside, IsFound}
use Rattle.station_span.proofs.CellLemmas.{IsOf, accepted_track, few_track, usual_track}
use Rattle.station_span.proofs.FollowLemmas.{few_cells, found_valid_over}
use Rattle.station_span.proofs.HeldLemmas.{found_for}
use Rattle.station_span.proofs.MovableLemmas.{millionths_small}

-- ---- the number of cells

pub few_for : (f : FoundStation) → f.purpose ≡ Events → cells_in (tracks_of f.curve.book (site_of f) f.span_request) < 2 ^ 64
few_for f is = few_cells f.curve.book f.span_request (site_of f) (found_for f Events is)

-- ---- the parts are within their ranges

if_some : (P : ℤ → Type 0) (o : Option ℤ) → ForSome o P → IfSome o P
if_some P (Some x) holds = holds x refl
if_some P None holds = tt

of_notes : (track : TrackName) (curve : Prediction) (c : CurveSpec) → IsPrediction curve → c.first ≡ curve.first → c.last ≡ curve.last
    → c.track.note ≡ predicted_millionths curve.book curve.station
    → track_of c.track.rising ≡ track → track_of c.track.falling ≡ track → IsOf track c
of_notes track curve c within_limits first last note rising falling = record {
  rising = rising;
  falling = falling;
  small = λ m minute.
      rw note (millionths_small curve m within_limits (record { least = rw first at minute.first; most = rw last at minute.last }));
}

of_if_asked : (asks : Bool) (c : CurveSpec) → IsOf Slack c → ForSome (if_asked asks c) (IsOf Slack)
of_if_asked true c is x e = let same : c ≡ x = cc in rw (← same) is
of_if_asked false c is x e = absurd cc

of_if_marked : (mark : Option ℤ) (f : ℤ → CurveSpec) → ((level : ℤ) → IsOf Mark (f level)) → ForSome (option_map f mark) (IsOf Mark)
of_if_marked (Some level) f is x e = let same : f level ≡ x = cc in rw (← same) (is level)
of_if_marked None f is x e = absurd cc

-- the curves of a station have the events and the levels of their tracks
record AreOf (f : Followed) : Type 0 where
  pub turn : IsOf Turn f.turn
  pub slack : ForSome f.slack (IsOf Slack)
  pub mark : ForSome f.mark (IsOf Mark)

followed_of : (version : Version) (book : Book) (site : Site) (mark : Option ℤ) → IsWithinLimits book site.station
    → AreOf (followed_by version book site mark)
unfolding followed_by
followed_of version book site mark limits =
    let p = prediction_of book site.station in
    let valid = all_minutes_valid book site.station limits in
    record {
      turn = of_notes Turn p _ valid refl refl refl refl refl;
      slack = of_if_asked _ _ (of_notes Slack p _ valid refl refl refl refl refl);
      mark = of_if_marked mark _ (λ level. of_notes Mark p _ valid refl refl refl refl refl);
    }

-- a fact of an accepted track holds of one that may be absent
track_if : (P : List Cell → Type 0) (track : TrackName) (s : Span) (curve : Option CurveSpec) (cells : Option (List Cell))
    → ((c : CurveSpec) (cells : List Cell) → IsOf track c → IsSpan c s.begin (span_minutes s)
    → verdict c s.begin (span_minutes s) cells ≡ Accepted → P cells) → ForSome curve (IsOf track)
    → ForSome curve (IsValidOver s) → IsAccepted s curve cells → IfSome cells P
track_if P track s None None each of valid_over accepted = tt
track_if P track s None (Some cells) each of valid_over accepted = absurd accepted
track_if P track s (Some c) None each of valid_over accepted = absurd accepted
track_if P track s (Some c) (Some cells) each of valid_over accepted = each c cells (of c refl) (valid_over c refl).span accepted

track_valid : (track : TrackName) (s : Span) (curve : Option CurveSpec) (cells : Option (List Cell))
    → ForSome curve (IsOf track) → ForSome curve (IsValidOver s) → IsAccepted s curve cells
    → IfSome cells (All (IsCellOf track))
track_valid track s curve cells = track_if (All (IsCellOf track)) track s curve cells
    (λ c cells is span ok. accepted_track track c s cells is span ok)

track_usual : (track : TrackName) (s : Span) (curve : Option CurveSpec) (cells : Option (List Cell))
    → ForSome curve (IsOf track) → ForSome curve (IsValidOver s) → IsAccepted s curve cells
    → IfSome cells (All HasUsualLevel)
track_usual track s curve cells =
    track_if (All HasUsualLevel) track s curve cells (λ c cells is span ok. usual_track track c s cells is span ok)

marked_alike : (mark : Option ℤ) (f : ℤ → CurveSpec) (g : CurveSpec → List Cell) → is_some (option_map g (option_map f mark)) ≡ is_some mark
marked_alike (Some level) f g = refl
marked_alike None f g = refl

pub certificate_valid : (name : List ℕ) (book : Book) (span_request : SpanRequest) (site : Site) (tracks : Tracks) → IsStationName name
    → IsMoment span_request.begin → IsMoment span_request.end → IsFound Events book span_request site → tracks ≡ tracks_of book site span_request
    → IsCertificate (certificate_in name span_request tracks)
unfolding tracks_of followed_by
certificate_valid name book span_request site tracks named begin end is same =
    let s = widened_of site.basis span_request.begin span_request.end in
    let f = followed book site span_request in
    let valid_over = found_valid_over Second book span_request site is in
    let accepted = covers-accepted f s in
    let of = followed_of Second book site span_request.mark is.limits in
    rw same (record {
      version = inr refl;
      station = named;
      begin = begin;
      end = end;
      mark = if_some (λ level. unsigned_abs level ≤ 10000000000) span_request.mark is.in_range.mark;
      turn = accepted_track Turn f.turn s (cover_over s f.turn) of.turn valid_over.turn.span accepted.turn;
      slack = track_valid Slack s f.slack (option_map (cover_over s) f.slack) of.slack valid_over.slack accepted.slack;
      crossings = track_valid Mark s f.mark (option_map (cover_over s) f.mark) of.mark valid_over.mark accepted.mark;
      marked = marked_alike span_request.mark _ (cover_over s);
    })

-- ---- every accepted text is short

pub accepted_usual : (version : Version) (book : Book) (span_request : SpanRequest) (site : Site) (c : Certificate) → IsFound Events book span_request site
    → AreAccepted (followed_by version book site span_request.mark) (widened_of site.basis span_request.begin span_request.end) c.tracks → HasUsualLevels c
accepted_usual version book span_request site c is accepted =
    let s = widened_of site.basis span_request.begin span_request.end in
    let f = followed_by version book site span_request.mark in
    let valid_over = found_valid_over version book span_request site is in
    let of = followed_of version book site span_request.mark is.limits in
    record {
      turn = usual_track Turn f.turn s c.tracks.turn of.turn valid_over.turn.span accepted.turn;
      slack = track_usual Slack s f.slack c.tracks.slack of.slack valid_over.slack accepted.slack;
      crossings = track_usual Mark s f.mark c.tracks.mark of.mark valid_over.mark accepted.mark;
    }

-- the number of minutes of the longest span with a day at both ends
pub looked_few : (book : Book) (span_request : SpanRequest) (site : Site) → IsFound Events book span_request site
    → span_minutes (widened_of site.basis span_request.begin span_request.end) ≤ 5273280
looked_few book span_request site is =
    let few = is.few in
    let forward = is.span.forward in
    let beside : IsBeside span_request.begin span_request.end (widened_of site.basis span_request.begin span_request.end) = is.span.beside in
    let begins = beside.begins in
    let ends = beside.ends in
    omega (arith, ints)

track_few : (s : Span) (curve : Option CurveSpec) (cells : Option (List Cell)) → IsAccepted s curve cells
    → length (unwrap_or cells []) ≤ span_minutes s
track_few s None None accepted = omega arith
track_few s None (Some cells) accepted = absurd accepted
track_few s (Some c) None accepted = absurd accepted
track_few s (Some c) (Some cells) accepted = few_track c s cells accepted

pub accepted_few : (version : Version) (book : Book) (span_request : SpanRequest) (site : Site) (c : Certificate) → IsFound Events book span_request site
    → AreAccepted (followed_by version book site span_request.mark) (widened_of site.basis span_request.begin span_request.end) c.tracks
    → cells_of_all c ≤ 15819840
accepted_few version book span_request site c is accepted =
    let s = widened_of site.basis span_request.begin span_request.end in
    let f = followed_by version book site span_request.mark in
    let turn = few_track f.turn s c.tracks.turn accepted.turn in
    let slack = track_few s f.slack c.tracks.slack accepted.slack in
    let crossings = track_few s f.mark c.tracks.mark accepted.mark in
    omega (arith, looked_few book span_request site is, turn, slack, crossings)

pub certificate_usual : (name : List ℕ) (book : Book) (span_request : SpanRequest) (site : Site) → IsFound Events book span_request site
    → HasUsualLevels (certificate_in name span_request (tracks_of book site span_request))
unfolding tracks_of
certificate_usual name book span_request site is =
    let f = followed book site span_request in
    let s = widened_of site.basis span_request.begin span_request.end in
    accepted_usual Second book span_request site (certificate_in name span_request (covers_of f s)) is (covers-accepted f s)

pub certificate_few : (name : List ℕ) (book : Book) (span_request : SpanRequest) (site : Site) → IsFound Events book span_request site
    → cells_of_all (certificate_in name span_request (tracks_of book site span_request)) ≤ 15819840
unfolding tracks_of
certificate_few name book span_request site is =
    let f = followed book site span_request in
    let s = widened_of site.basis span_request.begin span_request.end in
    accepted_few Second book span_request site (certificate_in name span_request (covers_of f s)) is (covers-accepted f s)

-- ---- the answer

pub certificate_made : (found_station : FoundStation) (name : List ℕ) (tracks : Tracks) (text : List ℕ) (cells : ℕ)
    → tracks ≡ tracks_of found_station.curve.book (site_of found_station) found_station.span_request
    → text ≡ certificate_text (certificate_in name found_station.span_request tracks) → cells ≡ cells_in tracks
    → certificate_for found_station name ≡ record { text = text; rejected = false; cells = cells }
unfolding cells_of cell_count tracks_of
certificate_made found_station name tracks text cells same written counted = rw (written, counted, same) refl
