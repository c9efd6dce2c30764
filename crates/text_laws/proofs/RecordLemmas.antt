-- Records that were written are read.
use Rattle.std.proofs.Common.{◌≡◌, ℕ, zero, suc, ◌+◌, ◌<◌, ◌≤◌, List, [], ◌∷◌, ◌++◌, map, length, if◌then◌else◌, refl, sym, ap, ◌∙◌, length-append, arith}
use Rattle.std.specs.List.{flat_map}
use Rattle.csv.specs.Machine.{next_record}
use Rattle.csv.specs.Reading.{records, records_from, default_config, strip_bom}
use Rattle.csv.specs.Writing.{default_writer, row_body, is_blank, fields_text, read_back}
use Rattle.csv.specs.declared.parser.State.TheVariants as st
use Rattle.csv.proofs.RoundTrip.{read-write}
use Rattle.curve_law.specs.declared.event.Event.{Event}
use Rattle.harmonics_book.specs.declared.book.Units.{Units}
use Rattle.listing.specs.declared.row.Row.{Row}
use Rattle.listing.specs.Records.{record_of, csv_events_of, csv_heights_of, event_fields, event_header, row_fields, row_header}
use Rattle.text_laws.specs.Rows.{records_in}
use Rattle.text_laws.proofs.ListLemmas.{flat_map-map, map-same}
use Rattle.zone_time.specs.declared.zone.Zone.{Zone}

abbrev written : List (List (List ℕ)) → List ℕ
written rows = flat_map record_of rows

-- each record has at least one byte
ends : (body blank : List ℕ) → 1 ≤ length (body ++ (blank ++ 10 ∷ []))
ends body blank = omega (arith, length-append body (blank ++ 10 ∷ []), length-append blank (10 ∷ []))

some : (row : List (List ℕ)) → 1 ≤ length (record_of row)
some row = ends (row_body default_writer row) (if is_blank default_writer row then 34 ∷ 34 ∷ [] else [])

long : (rows : List (List (List ℕ))) → length rows ≤ length (written rows)
long [] = omega arith
long (row ∷ rows) = omega (arith, long rows, some row, length-append (record_of row) (written rows))

read_within : (n : ℕ) (rows : List (List (List ℕ))) → length rows < n
    → records_from default_config n st.StartRecord (written rows) ≡ map read_back rows
unfolding records_from next_record
read_within zero rows within = absurd (omega arith)
read_within (suc n) [] within = refl
read_within (suc n) (row ∷ rows) within =
    rw (read-write row (written rows)) (ap (λ (rest : List (List (List ℕ))). read_back row ∷ rest) (read_within n rows (omega arith)))

read_written : (rows : List (List (List ℕ))) → records default_config (written rows) ≡ map read_back rows
read_written rows = read_within (length (written rows) + 1) rows (omega (arith, long rows))

no_bom-events : (rest : List ℕ) → strip_bom (record_of event_header ++ rest) ≡ record_of event_header ++ rest
unfolding strip_bom is_blank fields_text
no_bom-events rest = refl

no_bom-heights : (rest : List ℕ) → strip_bom (record_of row_header ++ rest) ≡ record_of row_header ++ rest
unfolding strip_bom is_blank fields_text
no_bom-heights rest = refl

pub events-read : (name : List ℕ) (units : Units) (events : List Event) (zone : Zone)
    → records_in (csv_events_of name units events zone) ≡ event_header ∷ map (event_fields name units zone) events
unfolding csv_events_of
events-read name units events zone =
    let rows : List (List (List ℕ)) = map (event_fields name units zone) events in
    let text : written rows ≡ flat_map (λ event. record_of (event_fields name units zone event)) events =
    flat_map-map record_of (event_fields name units zone) events in
    let same : map read_back rows ≡ rows = map-same read_back (event_fields name units zone) (λ event. refl) events in
    let read : records default_config (written (event_header ∷ rows)) ≡ event_header ∷ map read_back rows =
    read_written (event_header ∷ rows) in
    ap (records default_config) (no_bom-events _ ∙ ap (λ (rest : List ℕ). record_of event_header ++ rest) (sym text))
    ∙ read ∙ ap (λ (rest : List (List (List ℕ))). event_header ∷ rest) same

pub heights-read : (name : List ℕ) (units : Units) (levels : List Row) (zone : Zone)
    → records_in (csv_heights_of name units levels zone) ≡ row_header ∷ map (row_fields name units zone) levels
unfolding csv_heights_of
heights-read name units levels zone =
    let rows : List (List (List ℕ)) = map (row_fields name units zone) levels in
    let text : written rows ≡ flat_map (λ row. record_of (row_fields name units zone row)) levels =
    flat_map-map record_of (row_fields name units zone) levels in
    let same : map read_back rows ≡ rows = map-same read_back (row_fields name units zone) (λ row. refl) levels in
    let read : records default_config (written (row_header ∷ rows)) ≡ row_header ∷ map read_back rows = read_written (row_header ∷ rows) in
    ap (records default_config) (no_bom-heights _ ∙ ap (λ (rest : List ℕ). record_of row_header ++ rest) (sym text))
    ∙ read ∙ ap (λ (rest : List (List (List ℕ))). row_header ∷ rest) same
