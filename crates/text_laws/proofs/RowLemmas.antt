-- A record for each line.
use Rattle.std.proofs.Common.{ℕ, List, ◌++◌, map, All, refl, sym, ap}
use Rattle.std.specs.Prelude.{codes}
use Rattle.curve_law.specs.declared.event.Event.{Event}
use Rattle.event_text.specs.Lines.{height_line_of, event_line_of, event_line_in}
use Rattle.harmonics_book.specs.declared.book.Units.{Units}
use Rattle.listing.specs.declared.row.Row.{Row}
use Rattle.listing.specs.Listings.{plain_events_of, plain_heights_of, row_line_in}
use Rattle.listing.specs.Records.{csv_events_of, csv_heights_of, event_fields, event_header, row_fields, row_header}
use Rattle.text_laws.specs.Lines.{IsLevel}
use Rattle.text_laws.specs.Rows.{AreOneList, ShowOneEvent, ShowOneLevel}
use Rattle.text_laws.proofs.LineLemmas.{event-lines, row-lines}
use Rattle.text_laws.proofs.ListLemmas.{flat_map-map, AllZip-maps}
use Rattle.text_laws.proofs.RecordLemmas.{events-read, heights-read}
use Rattle.zone_time.specs.declared.zone.Zone.{Zone}
use Rattle.zone_time.specs.Locals.{local_text}

one_event : (name : List ℕ) (units : Units) (zone : Zone) (event : Event)
    → ShowOneEvent name zone (event_fields name units zone event) (event_line_in zone units event)
unfolding event_line_of height_line_of local_text
one_event name units zone event = record {
  minute = event.minute;
  level = event.level;
  station = refl;
  moment = refl;
  millionths = refl;
  line_is = refl;
}

one_level : (name : List ℕ) (units : Units) (zone : Zone) (row : Row)
    → ShowOneLevel name zone (row_fields name units zone row) (row_line_in zone units row)
unfolding height_line_of local_text
one_level name units zone row = record {
  minute = row.minute;
  level = row.level;
  station = refl;
  moment = refl;
  millionths = refl;
  line_is = refl;
}

pub events-shown : (name : List ℕ) (units : Units) (events : List Event) (zone : Zone) → All (λ event. IsLevel event.level) events
    → AreOneList event_header name (ShowOneEvent name zone) (csv_events_of name units events zone) (plain_events_of name units events zone)
unfolding plain_events_of
events-shown name units events zone small = record {
  rows = map (event_fields name units zone) events;
  lines = map (event_line_in zone units) events;
  read = events-read name units events zone;
  listed = ap (λ (rest : List ℕ). name ++ codes "\n" ++ rest) (sym (flat_map-map (λ line. line) (event_line_in zone units) events));
  single = event-lines zone units events small;
  related = AllZip-maps (ShowOneEvent name zone) (event_fields name units zone) (event_line_in zone units)
      (one_event name units zone) events;
}

pub heights-shown : (name : List ℕ) (units : Units) (levels : List Row) (zone : Zone) → All (λ row. IsLevel row.level) levels
    → AreOneList row_header name (ShowOneLevel name zone) (csv_heights_of name units levels zone) (plain_heights_of name units levels zone)
unfolding plain_heights_of
heights-shown name units levels zone small = record {
  rows = map (row_fields name units zone) levels;
  lines = map (row_line_in zone units) levels;
  read = heights-read name units levels zone;
  listed = ap (λ (rest : List ℕ). name ++ codes "\n" ++ rest) (sym (flat_map-map (λ line. line) (row_line_in zone units) levels));
  single = row-lines zone units levels small;
  related = AllZip-maps (ShowOneLevel name zone) (row_fields name units zone) (row_line_in zone units) (one_level name units zone) levels;
}
