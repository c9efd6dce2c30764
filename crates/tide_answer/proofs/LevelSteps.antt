-- The results of the steps of a list of levels, and of the steps of `clock`.
use Rattle.std.proofs.Common.{◌≡◌, ℕ, ℤ, Bool, false, List, Ok, refl}
use Rattle.decimal_text.specs.Expected.{Excused}
use Rattle.harmonics_book.specs.declared.book.Book.{Book}
use Rattle.listing.specs.declared.row.Row.{Row}
use Rattle.listing.specs.Listings.{clock_text_of}
use Rattle.question.specs.declared.layout.Layout.{Layout}
use Rattle.station_table.specs.declared.offsets.Offsets.{Offsets}
use Rattle.zone_time.specs.declared.zone.Zone.{Zone}
use Rattle.station_span.specs.declared.span_request.SpanRequest.{SpanRequest}
use Rattle.station_span.specs.declared.following.FoundEvents.{FoundEvents}
use Rattle.station_span.specs.declared.purpose.Purpose.TheVariants.{Events, Levels}
use Rattle.tide_fault.specs.declared.refusal.Refusal.{Refusal}
use Rattle.station_span.specs.Levels.{is_rising_at, level_at, level_in}
use Rattle.station_span.specs.Sites.{Site, site_in}
use Rattle.station_span.specs.Workings.Finds.{IsSiteList}
use Rattle.station_span.proofs.FoundLemmas.{excused_then}
use Rattle.listing.specs.ByLayout.{heights_text}
use Rattle.tide_answer.specs.Answers.{heights, on_clock, rows_in, rows_of, text_alone}
use Rattle.tide_answer.specs.Asking.{request_from_minute}

-- ---- a list of levels

-- the number of rows is refused
pub refused_rows : (memory : Bool) (book : Book) (table : List Offsets) (name : List ℕ) (span_request : SpanRequest) (step : ℤ)
    (layout : Layout) (zone : Zone) (site : Site) (refusal : Refusal) → site_in Levels book table name span_request ≡ Ok site
    → level_in site.basis ≡ Ok tt → Excused memory (rows_in span_request.begin span_request.end step) refusal
    → Excused memory (heights book table name span_request step layout zone) refusal
unfolding heights
refused_rows memory book table name span_request step layout zone site refusal expected level excused =
    rw (expected, level) (excused_then memory (rows_in span_request.begin span_request.end step) _ refusal excused)

-- nothing is refused
pub whole_list : (book : Book) (table : List Offsets) (name : List ℕ) (span_request : SpanRequest) (step : ℤ) (layout : Layout)
    (zone : Zone) (site : Site) (rows : List Row) → site_in Levels book table name span_request ≡ Ok site
    → level_in site.basis ≡ Ok tt → rows_in span_request.begin span_request.end step ≡ Ok tt
    → rows ≡ rows_of book site span_request.begin span_request.end step → heights book table name span_request step layout zone
    ≡ Ok (text_alone (heights_text layout name site.station.units rows zone))
unfolding heights
whole_list book table name span_request step layout zone site rows expected level few are = rw (expected, level, few, are) refl

-- ---- a clock

-- a level is refused
pub refused_level : (memory : Bool) (book : Book) (table : List Offsets) (name : List ℕ) (now : ℤ) (zone : Zone)
    (site : Site) (refusal : Refusal) → site_in Events book table name (request_from_minute now) ≡ Ok site
    → Excused memory (level_in site.basis) refusal → Excused memory (on_clock book table name now zone) refusal
unfolding on_clock
refused_level memory book table name now zone site refusal expected excused =
    rw expected (excused_then memory (level_in site.basis) _ refusal excused)

-- nothing is refused
pub whole_clock :
    (book : Book) (table : List Offsets) (name : List ℕ) (now : ℤ) (zone : Zone) (site : Site) (listed : FoundEvents)
    → site_in Events book table name (request_from_minute now) ≡ Ok site → level_in site.basis ≡ Ok tt
    → IsSiteList book (request_from_minute now) site listed → on_clock book table name now zone ≡ Ok (record {
      text = clock_text_of name site.station.units now (level_at book site now) (is_rising_at book site now) listed.events zone;
      rejected = false;
      cells = listed.cells;
    })
unfolding on_clock
whole_clock book table name now zone site listed expected level list = rw (expected, level, list.events, list.cells) refl
