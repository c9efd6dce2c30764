-- An answer with a station's events, by the station that was found.
use Rattle.std.specs.Prelude.{ℕ, List}
use Rattle.question.specs.declared.layout.Layout.{Layout}
use Rattle.zone_time.specs.declared.zone.Zone.{Zone}
use Rattle.zone_time.specs.Zones.{IsZone}
use Rattle.station_span.specs.declared.found_station.FoundStation.{FoundStation}
use Rattle.tide_answer.specs.FoundAnswers.{FoundAnswer}
use Rattle.tide_answer.specs.declared.form.Form.{Form}
use Rattle.tide_answer.specs.Streams.{streams_by}
use Rattle.tide_answer.specs.Workings.Streaming.{CanCertify, whole_of}

-- an answer with the events of `found_station` can be made: their certificate can be written, and the
-- zone has a local time at each minute
pub record HasEvents (found_station : FoundStation) (name : List ℕ) (zone : Zone) : Type 0 where
  pub certifies : CanCertify found_station name
  pub clock : IsZone zone

-- the answer for the station `found_station`, called `name`, and whether it is streamed
abbrev pub found_answer : Form → FoundStation → List ℕ → Layout → Zone → FoundAnswer
found_answer form found_station name layout zone =
    record { answer = whole_of form found_station name layout zone; streams = streams_by found_station.basis layout zone }
