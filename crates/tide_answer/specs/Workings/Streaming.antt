-- The answers with a station's events, and the parts of one that is streamed.
use Rattle.std.specs.Prelude.{◌≡◌, ℕ, IsTrue, List, ◌++◌, All, IfSome, codes}
use Rattle.cert_text.specs.Certificates.{IsCell, IsStationName}
use Rattle.cert_text.specs.declared.track_name.TrackName.TheVariants.{Turn, Slack, Mark}
use Rattle.cert_text.specs.Lines.{certificate_text, begin_line_of, end_line_of, mark_line_of, track_lines_of, lines_if_there, ended, joined}
use Rattle.curve_law.specs.declared.tracks.Tracks.{Tracks}
use Rattle.listing.specs.ByLayout.{events_text}
use Rattle.question.specs.declared.command.Command.{Command}
use Rattle.question.specs.declared.command.Command.TheVariants.{Certify}
use Rattle.question.specs.declared.layout.Layout.{Layout}
use Rattle.question.specs.declared.layout.Layout.TheVariants.{Plain}
use Rattle.station_table.specs.Bases.{is_plain}
use Rattle.zone_time.specs.declared.zone.Zone.{Zone}
use Rattle.zone_time.specs.Zones.{IsZone}
use Rattle.station_span.specs.declared.span_request.SpanRequest.{SpanRequest}
use Rattle.tide_answer.specs.declared.form.Form.{Form}
use Rattle.tide_answer.specs.declared.form.Form.TheVariants.{Listing, Certificate}
use Rattle.station_span.specs.declared.found_station.FoundStation.{FoundStation}
use Rattle.station_span.specs.declared.purpose.Purpose.TheVariants.{Events}
use Rattle.station_span.specs.Following.{events_of}
use Rattle.station_span.specs.Workings.Finds.{site_of}
use Rattle.tide_answer.specs.Answers.{certificate_by, text_of_events}
use Rattle.tide_answer.specs.declared.text.Answer.{Answer}
use Rattle.station_span.specs.Workings.Spans.{AreMoments}

-- the answer with the text `text`, and with the number of cells of the search for the events of the
-- station `found_station`
abbrev pub answer_for : FoundStation → List ℕ → Answer
answer_for found_station text = text_of_events found_station.curve.book (site_of found_station) found_station.span_request text

-- the listing, in a layout, of the events of the station `found_station`, called `name`, as an answer
abbrev pub listing_for : FoundStation → List ℕ → Layout → Zone → Answer
listing_for found_station name layout zone =
    answer_for found_station (events_text layout name found_station.curve.station.units
    (events_of found_station.curve.book (site_of found_station) found_station.span_request) zone)

-- the certificate of the events of the station `found_station`, called `name`, as an answer
abbrev pub certificate_for : FoundStation → List ℕ → Answer
certificate_for found_station name =
    answer_for found_station (certificate_text (certificate_by found_station.curve.book (site_of found_station) name found_station.span_request))

-- the answer for the station `found_station`, called `name`: the listing of its events in a layout, or
-- their certificate
abbrev pub whole_of : Form → FoundStation → List ℕ → Layout → Zone → Answer
whole_of Listing found_station name layout zone = listing_for found_station name layout zone
whole_of Certificate found_station name layout zone = certificate_for found_station name

-- a streamed answer for the station `found_station`, called `name`: the listing of its events, or their
-- certificate
abbrev pub stream_of : Form → FoundStation → List ℕ → Zone → Answer
stream_of form found_station name zone = whole_of form found_station name Plain zone

-- the form of a command's streamed answers: a certificate for `certify`, a listing for any other command
abbrev pub form_of : Command → Form
form_of Certify = Certificate
form_of _ = Listing

-- the certificate of the events of `found_station` can be written: the station was found for events, its
-- span can be written as text, and its name is a station's name
pub record CanCertify (found_station : FoundStation) (name : List ℕ) : Type 0 where
  pub purpose : found_station.purpose ≡ Events
  pub moments : AreMoments found_station.span_request
  pub named : IsStationName name

-- an answer for `found_station` can be streamed: the station was found for events and has no offsets,
-- its span can be written as text, its name is a station's name, and the zone has a local time at each
-- minute
pub record IsStream (found_station : FoundStation) (name : List ℕ) (zone : Zone) : Type 0 where
  pub purpose : found_station.purpose ≡ Events
  pub moments : AreMoments found_station.span_request
  pub named : IsStationName name
  pub clock : IsZone zone
  pub plain : IsTrue (is_plain found_station.basis)

-- ---- the parts of a certificate

-- the lines of a certificate before its cells: version, station, begin, end, and the mark if there is
-- one
abbrev pub head_text : List ℕ → SpanRequest → List ℕ
head_text name span_request =
    codes "tide certificate 2\nstation " ++ name ++ codes "\n"
    ++ (ended (begin_line_of span_request.begin) ++ ended (end_line_of span_request.end) ++ ended (mark_line_of span_request.mark))

-- the lines of a certificate that have its cells: high and low waters, then slack waters and mark if
-- present
abbrev pub tracks_text : Tracks → List ℕ
tracks_text tracks =
    joined (track_lines_of Turn tracks.turn) ++ joined (lines_if_there Slack tracks.slack) ++ joined (lines_if_there Mark tracks.mark)

-- each cell can be written as a line: a quiet cell (without an event) has 2 to 1,024 minutes, and a
-- level has at most 14 digits
pub record HasCells (tracks : Tracks) : Type 0 where
  pub turn : All IsCell tracks.turn
  pub slack : IfSome tracks.slack (All IsCell)
  pub mark : IfSome tracks.mark (All IsCell)
