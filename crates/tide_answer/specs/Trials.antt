-- A trial of the predictor with a sample file (this project).
use Rattle.std.specs.Prelude.{
  ℕ,
  ◌+◌,
  ◌*◌,
  pos,
  List,
  [],
  ◌∷◌,
  ◌++◌,
  length,
  sum_by,
  take,
  codes,
  decimal,
  Option,
  Some,
  None,
  Result,
  Ok,
  Err,
}
use Rattle.curve_law.specs.declared.cell.Cell.{Cell}
use Rattle.curve_law.specs.declared.cell.Cell.TheVariants.{Quiet, Still, Turn}
use Rattle.curve_law.specs.declared.event.Event.{Event}
use Rattle.curve_law.specs.declared.tracks.Tracks.{Tracks}
use Rattle.decimal_text.specs.Expected.{◌>>=◌}
use Rattle.event_list.specs.declared.span.Span.{Span}
use Rattle.event_list.specs.Events.{span_minutes, cells_in, tracks_of as tracks_in}
use Rattle.event_list.specs.Shifts.{widened_of}
use Rattle.harmonics_book.specs.declared.book.Book.{Book}
use Rattle.harmonics_book.specs.declared.book.Station.{Station}
use Rattle.harmonics_text.specs.Reading.{At, book_of}
use Rattle.sample_tides.specs.File.{sample_of}
use Rattle.station_span.specs.declared.span_request.SpanRequest.{SpanRequest}
use Rattle.station_span.specs.declared.purpose.Purpose.TheVariants.{Events}
use Rattle.tide_fault.specs.declared.refusal.Refusal.{Refusal}
use Rattle.tide_fault.specs.declared.refusal.Refusal.TheVariants.{BadSample}
use Rattle.station_span.specs.declared.rejection.Rejection.{Rejection}
use Rattle.tide_answer.specs.declared.tally.Tally.{Tally}
use Rattle.station_span.specs.Following.{followed, events_of, tracks_of}
use Rattle.station_span.specs.Rejections.{rejection_of}
use Rattle.station_span.specs.Sites.{Site, site_in}

-- the span of the trial: from 2000-12-01T00:00Z up to 2001-02-01T00:00Z, not included, without a mark
abbrev pub trial_span : SpanRequest
trial_span = record { begin = pos 16260480; end = pos 16349760; mark = None }

-- ---- the counts of a station

-- 1 for a quiet cell (several minutes without an event), and 0 for any other cell
abbrev pub quiet_one : Cell → ℕ
quiet_one (Quiet minutes) = 1
quiet_one Still = 0
quiet_one (Turn kind level) = 0

-- the number of quiet cells (several minutes without an event) of a track
abbrev pub quiet_in : List Cell → ℕ
quiet_in cells = sum_by quiet_one cells

-- 1 if the check of a certificate found no fault (None), and 0 if it found one
abbrev pub accepted_if : Option Rejection → ℕ
accepted_if None = 1
accepted_if (Some rejection) = 0

-- the counts of a trial at one station: the minutes of `span` times the number of tracks; the events;
-- the cells, and the quiet ones among them (several minutes without an event); and 1 or 0 accepted
-- certificates
unfoldable pub tally_by : Span → Tracks → List Event → Option Rejection → Tally
tally_by span tracks events rejection = record {
  minutes = span_minutes span * length (tracks_in tracks);
  events = length events;
  cells = cells_in tracks;
  quiet = sum_by quiet_in (tracks_in tracks);
  accepted = accepted_if rejection;
}

-- the counts of a trial at one station over the span of a request
unfoldable pub tally_at : Book → Site → SpanRequest → Tally
tally_at book site span_request =
    let span = widened_of site.basis span_request.begin span_request.end in
    let tracks = tracks_of book site span_request in
    tally_by span tracks (events_of book site span_request) (rejection_of (followed book site span_request) span tracks)

-- the counts of a trial at the station called `name`, over December 2000 and January 2001; or the first
-- refusal
unfoldable pub station_tally : Book → List ℕ → Result Tally Refusal
station_tally book name = do
  site ← site_in Events book [] name trial_span
  Ok (tally_at book site trial_span)

-- ---- the sums over stations

-- the sums of the counts `sum` and `one`
unfoldable pub plus : Tally → Tally → Tally
plus sum one = record {
  minutes = sum.minutes + one.minutes;
  events = sum.events + one.events;
  cells = sum.cells + one.cells;
  quiet = sum.quiet + one.quiet;
  accepted = sum.accepted + one.accepted;
}

-- counts that are all 0
abbrev pub nothing : Tally
nothing = record { minutes = 0; events = 0; cells = 0; quiet = 0; accepted = 0 }

-- `sum` plus the counts of a trial at each of the stations in turn; or the first refusal
unfoldable pub tally_on : Book → Tally → List Station → Result Tally Refusal
tally_on book sum [] = Ok sum
tally_on book sum (station ∷ stations) = do
  one ← station_tally book station.name
  tally_on book (plus sum one) stations

-- ---- the trial

-- the number of stations at which the command `trial` predicts
abbrev pub station_count : ℕ
station_count = 40

-- the harmonic constants that were read from a made-up file; or the refusal BadSample with the
-- first bad line and its fault
abbrev pub book_from : Result Book At → Result Book Refusal
book_from (Ok book) = Ok book
book_from (Err fault) = Err (BadSample fault.line fault.why)

-- a line of the command `trial`: the word `what`, a space and the number
abbrev pub number_line : List ℕ → ℕ → List ℕ
number_line what number = what ++ codes " " ++ decimal number ++ codes "\n"

-- the lines of the command `trial`: the seed, the number of stations and the summed counts
unfoldable pub trial_text : ℕ → Tally → List ℕ
trial_text seed sum =
    number_line (codes "seed") seed
    ++ number_line (codes "stations") station_count
    ++ number_line (codes "minutes") sum.minutes
    ++ number_line (codes "events") sum.events
    ++ number_line (codes "cells") sum.cells
    ++ number_line (codes "quiet") sum.quiet
    ++ number_line (codes "accepted") sum.accepted

-- the text of the command `trial`: the summed counts at the first 40 stations of the made-up file that
-- the seed determines; or the first refusal
unfoldable pub trial_of : ℕ → Result (List ℕ) Refusal
trial_of seed = do
  book ← book_from (book_of (sample_of seed))
  sum ← tally_on book nothing (take station_count book.stations)
  Ok (trial_text seed sum)
