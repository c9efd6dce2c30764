-- The answer to a request with harmonic constants and a table of offsets (this project).
use Rattle.std.specs.Prelude.{
  ℕ,
  ◌+◌,
  ◌/◌,
  ℤ,
  pos,
  ◌+ℤ◌,
  ◌-ℤ◌,
  ◌*ℤ◌,
  nat_lt,
  unsigned_abs,
  true,
  false,
  not,
  ◌==◌,
  if◌then◌else◌,
  List,
  ◌++◌,
  count_by,
  map,
  codes,
  Option,
  Some,
  None,
  Result,
  Ok,
  Err,
}
use Rattle.std.specs.List.{range_with_len}
use Rattle.std.specs.Option.{ok_or}
use Rattle.std.specs.Ordering.{int_eq}
use Rattle.cert_text.specs.declared.certificate.Certificate.{Certificate}
use Rattle.cert_text.specs.declared.fault.CertFault.{CertFault}
use Rattle.cert_text.specs.Lines.{certificate_text}
use Rattle.cert_text.specs.Readings.{certificate_of}
use Rattle.calendar_sheet.specs.Calendars.{calendar_text_of}
use Rattle.decimal_text.specs.Expected.{◌>>=◌}
use Rattle.event_list.specs.Shifts.{widened_of}
use Rattle.harmonics_book.specs.declared.book.Book.{Book}
use Rattle.harmonics_book.specs.declared.book.Station.{Station}
use Rattle.peak_text.specs.declared.certificate.PeakCertificate.{PeakCertificate}
use Rattle.peak_text.specs.declared.fault.PeakFault.{PeakFault}
use Rattle.peak_text.specs.declared.fault.PeakFault.TheVariants as peak
use Rattle.highest_water.specs.declared.verdict.PeakVerdict.{PeakVerdict}
use Rattle.highest_water.specs.declared.verdict.PeakVerdict.TheVariants.{Accepted}
use Rattle.peak_text.specs.PeakTexts.{peak_text}
use Rattle.peak_text.specs.PeakReadings.{peak_of}
use Rattle.peak_text.specs.VerdictLines.{verdict_line}
use Rattle.listing.specs.declared.row.Row.{Row}
use Rattle.listing.specs.Abouts.{about_text_of}
use Rattle.listing.specs.ByLayout.{events_text, heights_text}
use Rattle.listing.specs.Listings.{plain_events_of, clock_text_of, highest_text_of}
use Rattle.listing.specs.StationLists.{stations_text_of}
use Rattle.question.specs.declared.command.Command.{Command}
use Rattle.question.specs.declared.command.Command.TheVariants.{
  Predict,
  Certify,
  Check,
  Heights,
  Calendar,
  Clock,
  Stations,
  Sample,
  Trial,
  Serve,
  Report,
  Highest,
  Peak,
  PeakCheck,
  About,
}
use Rattle.question.specs.declared.layout.Layout.{Layout}
use Rattle.question.specs.declared.question.Question.{Question}
use Rattle.rate_bound.specs.declared.version.Version.{Version}
use Rattle.rate_bound.specs.declared.version.Version.TheVariants.{First, Second}
use Rattle.sample_tides.specs.File.{sample_of}
use Rattle.slope_agreement.specs.Agreements.{predicted_agreement}
use Rattle.station_table.specs.declared.offsets.Offsets.{Offsets}
use Rattle.zone_time.specs.declared.zone.Zone.{Zone}
use Rattle.zone_time.specs.declared.zone.Zone.TheVariants.{Utc}
use Rattle.station_span.specs.declared.span_request.SpanRequest.{SpanRequest}
use Rattle.tide_answer.specs.declared.inputs.Given.{Given}
use Rattle.station_span.specs.declared.purpose.Purpose.TheVariants.{Events, Levels}
use Rattle.tide_fault.specs.declared.refusal.Refusal.{Refusal}
use Rattle.tide_fault.specs.declared.refusal.Refusal.TheVariants.{NoMemory, NotACertificate, NoStation, TooManyRows}
use Rattle.station_span.specs.declared.rejection.Rejection.{Rejection}
use Rattle.tide_answer.specs.declared.listed.Listed.{Listed}
use Rattle.tide_answer.specs.declared.text.Answer.{Answer}
use Rattle.tide_answer.specs.Asking.{request_by_question, request_from_minute, request_by_certificate, request_by_peak_certificate}
use Rattle.tide_fault.specs.Faults.{refusal_of_cert}
use Rattle.station_span.specs.Following.{followed_by, events_of, tracks_of, cells_of}
use Rattle.station_span.specs.Rejections.{rejection_of, rejection_line}
use Rattle.station_span.specs.Levels.{is_rising_at, level_at, level_in}
use Rattle.station_span.specs.Peaks.{highest_of, highest_site, highest_verdict}
use Rattle.station_span.specs.Sites.{Site, site_in, station_in}
use Rattle.tide_answer.specs.Trials.{trial_of}

-- an answer with this text, 0 cells and no rejection
abbrev pub text_alone : List ℕ → Answer
text_alone text = record { text = text; rejected = false; cells = 0 }

-- an answer that lists events: `text`, no rejection, and the number of cells (stretches of minutes with
-- at most one event) of the search for the events
abbrev pub text_of_events : Book → Site → SpanRequest → List ℕ → Answer
text_of_events book site span_request text = record { text = text; rejected = false; cells = cells_of book site span_request }

-- the answer that accepts a certificate: the line `Accepted`, and then the text `shown`
abbrev pub text_accepted : List ℕ → Answer
text_accepted shown = text_alone (codes "Accepted\n" ++ shown)

-- the answer that rejects a certificate; `line` reports the first fault
abbrev pub text_rejected : List ℕ → Answer
text_rejected line = record { text = line; rejected = true; cells = 0 }

-- ---- events

-- the answer of the command `predict`: the events of a station over a span, or the first refusal
unfoldable pub predicted : Book → List Offsets → List ℕ → SpanRequest → Layout → Zone → Result Answer Refusal
predicted book table name span_request layout zone = do
  site ← site_in Events book table name span_request
  Ok (text_of_events book site span_request (events_text layout name site.station.units (events_of book site span_request) zone))

-- the answer of the command `calendar`: the events of a station by local date, or the first refusal
unfoldable pub on_calendar : Book → List Offsets → List ℕ → SpanRequest → Zone → Result Answer Refusal
on_calendar book table name span_request zone = do
  site ← site_in Events book table name span_request
  Ok (text_of_events book site span_request
      (calendar_text_of name site.station.units (events_of book site span_request) zone span_request.begin span_request.end))

-- ---- certificates

-- the certificate, by the rules of version 2, of the events of the station called `name` over a span
abbrev pub certificate_by : Book → Site → List ℕ → SpanRequest → Certificate
certificate_by book site name span_request = record {
  version = 2;
  station = name;
  begin = span_request.begin;
  end = span_request.end;
  mark = span_request.mark;
  tracks = tracks_of book site span_request;
}

-- the answer of the command `certify`: the certificate of a station's events, or the first refusal
unfoldable pub certified : Book → List Offsets → List ℕ → SpanRequest → Result Answer Refusal
certified book table name span_request = do
  site ← site_in Events book table name span_request
  Ok (text_of_events book site span_request (certificate_text (certificate_by book site name span_request)))

-- the certificate that was read from a text; or the refusal for the fault of a text that isn't a
-- certificate
abbrev pub certificate_from : Result Certificate CertFault → Result Certificate Refusal
certificate_from (Ok cert) = Ok cert
certificate_from (Err fault) = Err (refusal_of_cert fault)

-- the version of the rules for bounding how much a curve changes in a minute, by which a certificate is
-- checked: First for a certificate of version 1, else Second
abbrev pub version_of : Certificate → Version
version_of cert = if cert.version == 1 then First else Second

-- the answer of the command `check` for the certificate `cert`: without a rejection, `Accepted` and the
-- events of the certificate's station, span and mark in the local time of `zone`; with one, the line
-- that reports it
abbrev pub judged : Book → Site → Certificate → Zone → Option Rejection → Answer
judged book site cert zone None =
    text_accepted (plain_events_of cert.station site.station.units (events_of book site (request_by_certificate cert)) zone)
judged book site cert zone (Some rejection) = text_rejected (rejection_line rejection)

-- the answer of the command `check` for the text `bytes`: `Accepted` and the events of its station,
-- span and mark if it is a valid certificate, the line with its first fault if it isn't valid; or
-- the first refusal, also if it isn't a certificate
unfoldable pub checked : Book → List Offsets → List ℕ → Zone → Result Answer Refusal
checked book table bytes zone = do
  cert ← certificate_from (certificate_of bytes)
  site ← site_in Events book table cert.station (request_by_certificate cert)
  Ok (judged book site cert zone (rejection_of (followed_by (version_of cert) book site cert.mark)
      (widened_of site.basis cert.begin cert.end) cert.tracks))

-- ---- levels

-- the number of rows of a listing of levels, one every `step` minutes from `begin` on; `end` has a row
-- if a step leads to it
abbrev pub row_count : ℤ → ℤ → ℤ → ℕ
row_count begin end step = unsigned_abs (end -ℤ begin) / unsigned_abs step + 1

-- the greatest number of rows that a listing of levels may have
abbrev pub row_limit : ℕ
row_limit = 100000

-- Ok if a listing of levels, one every `step` minutes from `begin` to `end`, has at most 100,000 rows;
-- otherwise the refusal TooManyRows with their number
unfoldable pub rows_in : ℤ → ℤ → ℤ → Result (Unit {0}) Refusal
rows_in begin end step =
    if nat_lt row_limit (row_count begin end step) then Err (TooManyRows (pos (row_count begin end step))) else Ok tt

-- the row of a listing of levels at `index`, counted from 0: the minute `index` times `step` minutes
-- after `begin`, and the station's level then
abbrev pub row_at : Book → Site → ℤ → ℤ → ℕ → Row
row_at book site begin step index =
    let minute = begin +ℤ (step *ℤ pos index) in record { minute = minute; level = level_at book site minute }

-- the rows of a listing of levels, one every `step` minutes from `begin` on; `end` has a row if a step
-- leads to it
abbrev pub rows_of : Book → Site → ℤ → ℤ → ℤ → List Row
rows_of book site begin end step = map (row_at book site begin step) (range_with_len 0 (row_count begin end step))

-- the answer of the command `heights`: the levels of a station over a span, one every `step` minutes, or
-- the first refusal
unfoldable pub heights : Book → List Offsets → List ℕ → SpanRequest → ℤ → Layout → Zone → Result Answer Refusal
heights book table name span_request step layout zone = do
  site ← site_in Levels book table name span_request
  level ← level_in site.basis
  few ← rows_in span_request.begin span_request.end step
  Ok (text_alone (heights_text layout name site.station.units (rows_of book site span_request.begin span_request.end step) zone))

-- the answer of the command `clock`: the level at the minute `now`, whether it rises then, and the
-- events of the 1,440 minutes from `now` on; or the first refusal
unfoldable pub on_clock : Book → List Offsets → List ℕ → ℤ → Zone → Result Answer Refusal
on_clock book table name now zone = do
  site ← site_in Events book table name (request_from_minute now)
  level ← level_in site.basis
  Ok (text_of_events book site (request_from_minute now)
      (clock_text_of name site.station.units now (level_at book site now) (is_rising_at book site now)
      (events_of book site (request_from_minute now)) zone))

-- ---- the highest water

-- the text of the command `highest`: the station's name, and the minute and level of its highest water;
-- `at` is the reference station's minute, to which the high-water offset adds its minutes
abbrev pub highest_text_at : Book → Site → List ℕ → ℤ → Zone → List ℕ
highest_text_at book site name at zone =
    let minute = at +ℤ site.basis.high.add in highest_text_of name site.station.units minute (level_at book site minute) zone

-- the answer of the command `highest`: the highest water of a station over a span, or the first refusal
unfoldable pub highest : Book → List Offsets → List ℕ → SpanRequest → Zone → Result Answer Refusal
highest book table name span_request zone = do
  site ← highest_site book table name span_request
  Ok (text_alone (highest_text_at book site name (highest_of book site span_request).at zone))

-- the certificate of the highest water, over the span of a request, of the station called `name`
abbrev pub peak_certificate_by : Book → Site → List ℕ → SpanRequest → PeakCertificate
peak_certificate_by book site name span_request =
    record { station = name; begin = span_request.begin; end = span_request.end; peak = highest_of book site span_request }

-- the answer of the command `peak`: the certificate of the highest water of a span, or the first refusal
unfoldable pub peak_certified : Book → List Offsets → List ℕ → SpanRequest → Result Answer Refusal
peak_certified book table name span_request = do
  site ← highest_site book table name span_request
  Ok (text_alone (peak_text (peak_certificate_by book site name span_request)))

-- the refusal for the fault of a text that isn't a certificate of a highest water
abbrev pub refusal_of_peak : PeakFault → Refusal
refusal_of_peak peak.NoMemory = NoMemory
refusal_of_peak (peak.NotACertificate line) = NotACertificate line

-- the certificate of a highest water that was read from a text; or the refusal for the fault of a
-- text that isn't one
abbrev pub peak_from : Result PeakCertificate PeakFault → Result PeakCertificate Refusal
peak_from (Ok cert) = Ok cert
peak_from (Err fault) = Err (refusal_of_peak fault)

-- the answer of the command `peakcheck` for the certificate `cert`: if the verdict accepts it,
-- `Accepted` and its highest water in universal time; otherwise the line that reports the fault
abbrev pub peak_judged : Book → Site → PeakCertificate → PeakVerdict → Answer
peak_judged book site cert Accepted = text_accepted (highest_text_at book site cert.station cert.peak.at Utc)
peak_judged book site cert verdict = text_rejected (verdict_line verdict)

-- the answer of the command `peakcheck` for the text `bytes`: `Accepted` and the highest water if
-- it is a valid certificate of one, the line with its fault if it isn't valid; or the first
-- refusal, also if it isn't such a certificate
unfoldable pub peak_checked : Book → List Offsets → List ℕ → Result Answer Refusal
peak_checked book table bytes = do
  cert ← peak_from (peak_of bytes)
  site ← highest_site book table cert.station (request_by_peak_certificate cert)
  Ok (peak_judged book site cert (highest_verdict book site (request_by_peak_certificate cert) cert.peak))

-- ---- the facts of a station

-- the number of constituents whose amplitude at the station isn't 0
abbrev pub constituent_count : Station → ℕ
constituent_count station = count_by (λ amplitude. not (int_eq amplitude (pos 0))) station.amplitude

-- the answer of the command `about` for the station called `name`: its reference, unit, number of
-- constituents and slope bound, or the first refusal
unfoldable pub station_about : Book → List Offsets → List ℕ → Result Answer Refusal
station_about book table name = do
  site ← station_in book table name
  Ok (text_alone (about_text_of name site.station.name site.station.units (constituent_count site.station)
      (predicted_agreement book site.station)))

-- ---- every request

-- the refusal of a question without the station, the span or the seed that its command needs, and of a
-- command that isn't answered here (`report`, `serve`); a question that was read from text has what its
-- command needs
abbrev pub refusal_of_incomplete : Refusal
refusal_of_incomplete = NoStation

-- Ok with a value that a command needs, or the refusal of an incomplete question if it is missing
abbrev pub named_by : {A : Type 0} → Option A → Result A Refusal
named_by value = ok_or value refusal_of_incomplete

-- the result of `next` for the name and the span of a question, or the refusal if one of them is missing
unfoldable pub asks_span : Question → (List ℕ → SpanRequest → Result Answer Refusal) → Result Answer Refusal
asks_span question next = do
  name ← named_by question.station
  span_request ← named_by (request_by_question question)
  next name span_request

-- the result of `next` for the name of the station of a question, or the refusal if it is missing
unfoldable pub asks_name : Question → (List ℕ → Result Answer Refusal) → Result Answer Refusal
asks_name question next = do
  name ← named_by question.station
  next name

-- the events, for a report, of the station, span and mark of a question, or the first refusal
unfoldable pub listed : Book → List Offsets → Question → Result Listed Refusal
listed book table question = do
  name ← named_by question.station
  span_request ← named_by (request_by_question question)
  site ← site_in Events book table name span_request
  Ok (record { name = name; units = site.station.units; events = events_of book site span_request })

-- the answer of a command that reads no file (`sample` or `trial`) for its seed; a refusal for any other
-- command, or without a seed
abbrev pub text_from : Command → Option ℕ → Result Answer Refusal
text_from Sample (Some seed) = Ok (text_alone (sample_of seed))
text_from Trial (Some seed) = trial_of seed >>= λ text. Ok (text_alone text)
text_from _ _ = Err refusal_of_incomplete

-- the answer to a question whose command reads no file (`sample` or `trial`), or the first refusal
unfoldable pub answered_without_files : Question → Result Answer Refusal
answered_without_files question = text_from question.command question.seed

-- the answer of a command that needs a station called `name` and a span; a refusal for any other command
abbrev pub text_over : Command → Book → List Offsets → Question → Zone → List ℕ → SpanRequest → Result Answer Refusal
text_over Predict book table question zone name span_request = predicted book table name span_request question.layout zone
text_over Certify book table question zone name span_request = certified book table name span_request
text_over Heights book table question zone name span_request = heights book table name span_request question.step question.layout zone
text_over Calendar book table question zone name span_request = on_calendar book table name span_request zone
text_over Highest book table question zone name span_request = highest book table name span_request zone
text_over Peak book table question zone name span_request = peak_certified book table name span_request
text_over _ book table question zone name span_request = Err refusal_of_incomplete

-- the answer of a command to a question, with the harmonic constants `book`, the offsets `table` and the
-- zone, certificate and present minute of `inputs`
abbrev pub text_by : Command → Book → List Offsets → Question → Given → Result Answer Refusal
text_by Check book table question inputs = checked book table inputs.certificate inputs.zone
text_by PeakCheck book table question inputs = peak_checked book table inputs.certificate
text_by Clock book table question inputs =
    asks_name question (λ name. on_clock book table name inputs.now inputs.zone)
text_by About book table question inputs = asks_name question (λ name. station_about book table name)
text_by Stations book table question inputs = Ok (text_alone (stations_text_of book table))
text_by Sample book table question inputs = answered_without_files question
text_by Trial book table question inputs = answered_without_files question
text_by Report book table question inputs = Err refusal_of_incomplete
text_by Serve book table question inputs = Err refusal_of_incomplete
text_by command book table question inputs =
    asks_span question (text_over command book table question inputs.zone)

-- the answer to a question with the harmonic constants `book` and the offsets `table`, or the first
-- refusal
unfoldable pub answered : Book → List Offsets → Question → Given → Result Answer Refusal
answered book table question inputs = text_by question.command book table question inputs
