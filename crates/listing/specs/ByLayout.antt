-- The text of events and of levels in each layout (this project).
use Rattle.std.specs.Prelude.{ℕ, List}
use Rattle.curve_law.specs.declared.event.Event.{Event}
use Rattle.harmonics_book.specs.declared.book.Units.{Units}
use Rattle.listing.specs.declared.row.Row.{Row}
use Rattle.listing.specs.Listings.{plain_events_of, plain_heights_of}
use Rattle.listing.specs.Records.{csv_events_of, csv_heights_of}
use Rattle.question.specs.declared.layout.Layout.{Layout}
use Rattle.question.specs.declared.layout.Layout.TheVariants.{Plain, Csv}
use Rattle.zone_time.specs.declared.zone.Zone.{Zone}

-- the listing of `events` of the station `name` in the local time of `zone`: as lines (Plain) or as
-- comma-separated values (Csv)
abbrev pub events_text : Layout → List ℕ → Units → List Event → Zone → List ℕ
events_text Plain name units events zone = plain_events_of name units events zone
events_text Csv name units events zone = csv_events_of name units events zone

-- the listing of the levels `rows` of the station `name` in the local time of `zone`: as lines (Plain)
-- or as comma-separated values (Csv)
abbrev pub heights_text : Layout → List ℕ → Units → List Row → Zone → List ℕ
heights_text Plain name units rows zone = plain_heights_of name units rows zone
heights_text Csv name units rows zone = csv_heights_of name units rows zone
