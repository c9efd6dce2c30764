use Rattle.std.proofs.Common.{◌≡◌, ◌++◌, take}
use Rattle.std.specs.List.{flat_map}
use Rattle.listing.specs.Records.{event_fields, event_header, record_of}
use Rattle.listing.specs.Workings.Writers.{IsAtRecord, written}
use Rattle.listing.proofs.records.csv_events.Given as goal

abbrev pub invariant-loop-event : goal.invariant-loop-event
invariant-loop-event l = record {
  start : IsAtRecord l.records;
  bytes : written l.records ≡ record_of event_header ++ flat_map (λ event.
      record_of (event_fields l.fn.name l.fn.units l.fn.zone event)) (take l.event-index l.event-items);
}
