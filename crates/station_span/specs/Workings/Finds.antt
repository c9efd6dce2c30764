-- A station that was found, in terms of the definitions.
use Rattle.std.specs.Prelude.{◌≡◌, All, ℤ, ◌-ℤ◌, ◌≤ℤ◌, List, IsTrue, Result, Ok, Err}
use Rattle.curve_law.specs.declared.event.Event.{Event}
use Rattle.decimal_text.specs.Expected.{Excused}
use Rattle.event_list.specs.Events.{Followed, merged_of}
use Rattle.event_text.specs.Lines.{IsListed}
use Rattle.harmonics_book.specs.declared.book.Book.{Book}
use Rattle.rate_bound.specs.declared.version.Version.{Version}
use Rattle.station_curve.specs.Curves.{IsPrediction, prediction_of}
use Rattle.station_table.specs.Bases.{is_equal}
use Rattle.station_span.specs.declared.span_request.SpanRequest.{SpanRequest}
use Rattle.station_span.specs.declared.following.FoundEvents.{FoundEvents}
use Rattle.station_span.specs.declared.found_station.FoundStation.{FoundStation}
use Rattle.station_span.specs.declared.reference_station.ReferenceStation.{ReferenceStation}
use Rattle.station_span.specs.declared.purpose.Purpose.{Purpose}
use Rattle.station_span.specs.declared.purpose.Purpose.TheVariants.{Highest}
use Rattle.station_span.specs.Following.{cells_of, events_of, followed_by, tracks_of}
use Rattle.station_span.specs.Sites.{Site}
use Rattle.station_span.specs.Workings.Spans.{HasLevels, site_with}
use Rattle.tide_fault.specs.declared.refusal.Refusal.{Refusal}
use Rattle.tide_fault.specs.Faults.{refusal_is_out_of_memory}
use Rattle.zone_time.specs.Zones.{InZoneYears}

-- the reference station and the offsets of `found_station`
abbrev pub site_of : FoundStation → Site
site_of found_station = site_with found_station.basis found_station.curve.station

-- the curves whose changes of sign are the events of `found_station`; the version determines the bounds
-- on their change
abbrev pub followed_at : Version → FoundStation → Followed
followed_at version found_station = followed_by version found_station.curve.book (site_of found_station) found_station.span_request.mark

-- ---- a station that was found

-- `found_station` is the expected station, for the purpose `reach_for`, of the harmonics file
-- `book_read`, with the span and mark `asked_for`
pub record IsFoundIn (reach_for : Purpose) (book_read : Book) (asked_for : SpanRequest) (expected : Result Site Refusal)
    (found_station : FoundStation) : Type 0 where
  pub site : expected ≡ Ok (site_of found_station)
  pub purpose : found_station.purpose ≡ reach_for
  pub book : found_station.curve.book ≡ book_read
  pub span_request : found_station.span_request ≡ asked_for

-- the last argument is Ok with the expected station, found for this purpose, span and mark, or Err
-- with the expected refusal, or with the refusal that memory ran out
abbrev pub FindsIn : Purpose → Book → SpanRequest → Result Site Refusal → Result FoundStation Refusal → Type 0
FindsIn purpose book span_request expected (Ok found_station) = IsFoundIn purpose book span_request expected found_station
FindsIn purpose book span_request expected (Err refusal) = Excused (refusal_is_out_of_memory refusal) expected refusal

-- `reference` is the reference station of the expected station, with its curve for all minutes of the
-- harmonics file
pub record IsReferenceFound (book : Book) (expected : Result Site Refusal) (reference : ReferenceStation) : Type 0 where
  pub site : Site
  pub is : expected ≡ Ok site
  pub station : reference.station.now ≡ site.station
  pub levels : HasLevels site.station.units
  pub curve : reference.curve ≡ prediction_of book site.station
  pub valid : IsPrediction reference.curve

-- the last argument is Ok with the expected reference station, or Err with the expected refusal, or
-- with the refusal that memory ran out
abbrev pub FindsReference : Book → Result Site Refusal → Result ReferenceStation Refusal → Type 0
FindsReference book expected (Ok reference) = IsReferenceFound book expected reference
FindsReference book expected (Err refusal) = Excused (refusal_is_out_of_memory refusal) expected refusal

-- ---- levels

-- the level of `found_station` at `minute` can be computed: `minute` less the minutes of the
-- high-water offset is one of the minutes of the reference station's curve
pub record IsEvaluable (found_station : FoundStation) (minute : ℤ) : Type 0 where
  pub from : found_station.span.begin ≤ℤ (minute -ℤ found_station.basis.high.add)
  pub until : (minute -ℤ found_station.basis.high.add) ≤ℤ found_station.span.end

-- the level can be computed at each minute of the requested span and at the minute of its end
abbrev pub AreEvaluable : FoundStation → Type 0
AreEvaluable found_station = (minute : ℤ) → found_station.span_request.begin ≤ℤ minute → minute ≤ℤ found_station.span_request.end → IsEvaluable found_station minute

-- `found_station` has a highest water over its span: it was found for that purpose, so its span has
-- at least one minute, and its high and low waters have the same offsets, so it has a level at each
-- minute
pub record HasPeak (found_station : FoundStation) : Type 0 where
  pub purpose : found_station.purpose ≡ Highest
  pub equal : IsTrue (is_equal found_station.basis)

-- ---- events

-- `listed` has the events of the station `site` over the span of the request, their unit and the number
-- of cells; the span isn't backward, and its begin and end are minutes that have a local time in every
-- zone
pub record IsSiteList (book : Book) (span_request : SpanRequest) (site : Site) (listed : FoundEvents) : Type 0 where
  pub units : listed.units ≡ site.station.units
  pub levels : HasLevels listed.units
  pub events : listed.events ≡ events_of book site span_request
  pub cells : listed.cells ≡ cells_of book site span_request
  pub lines : All (IsListed listed.units) listed.events
  pub forward : span_request.begin ≤ℤ span_request.end
  pub begins : InZoneYears span_request.begin
  pub ends : InZoneYears span_request.end

-- the last argument is Ok with the events of the expected station, or Err with the expected
-- refusal, or with the refusal that memory ran out
abbrev pub Lists : Book → SpanRequest → Result Site Refusal → Result FoundEvents Refusal → Type 0
Lists book span_request expected (Ok listed) = (site : Site) × (expected ≡ Ok site) × IsSiteList book span_request site listed
Lists book span_request expected (Err refusal) = Excused (refusal_is_out_of_memory refusal) expected refusal

-- the events are all events in the cells of the reference station's curves, over the minutes at
-- which an event can be moved into the requested span by the offsets, sorted by minute, then by
-- kind, then by level
abbrev pub AreReferences : FoundStation → List Event → Type 0
AreReferences found_station events = events ≡ merged_of found_station.span.begin (tracks_of found_station.curve.book (site_of found_station) found_station.span_request)
