-- The exit status and the printed line for each reason why a request has no answer (this project).
use Rattle.std.specs.Prelude.{ℕ, ℤ, pos, negsuc, int_le, ◌&&◌, if◌then◌else◌, Bool, true, false, List, [], ◌++◌, codes, decimal, slice_get}
use Rattle.std.specs.Option.{option_map_or}
use Rattle.std.specs.Fmt.{signed_decimal}
use Rattle.cert_text.specs.declared.fault.CertFault.{CertFault}
use Rattle.cert_text.specs.declared.fault.CertFault.TheVariants as cert
use Rattle.harmonics_text.specs.declared.fault.BookFault.{BookFault}
use Rattle.harmonics_text.specs.declared.fault.BookFault.TheVariants as form
use Rattle.harmonics_text.specs.declared.fault.Why.{Why}
use Rattle.harmonics_text.specs.Whys.{fault_number, text_of}
use Rattle.question.specs.declared.fault.AskFault.{AskFault}
use Rattle.question.specs.declared.fault.AskFault.TheVariants as ask
use Rattle.question.specs.Keys.{name_of}
use Rattle.station_table.specs.declared.fault.OffsetFault.{OffsetFault}
use Rattle.station_table.specs.declared.fault.OffsetFault.TheVariants as table
use Rattle.station_table.specs.declared.fault.OffsetWhy.{OffsetWhy}
use Rattle.station_table.specs.declared.finding.FindFault.{FindFault}
use Rattle.station_table.specs.declared.finding.FindFault.TheVariants as find
use Rattle.station_table.specs.declared.offsets.Offsets.{Offsets as TableRow}
use Rattle.station_table.specs.Reasons.{fault_number as number_of_row, text_of as text_of_row}
use Rattle.station_curve.specs.declared.fault.CurveFault.{CurveFault}
use Rattle.station_curve.specs.declared.fault.CurveFault.TheVariants as curve
use Rattle.zone_time.specs.Moments.{moment_text}
use Rattle.tide_fault.specs.declared.fault.Fault.{Fault}
use Rattle.tide_fault.specs.declared.fault.Fault.TheVariants.{Ask, NoSheet, TooLong, Book, Offsets, BadZone, Refused}
use Rattle.tide_fault.specs.declared.refusal.Refusal.{Refusal}
use Rattle.tide_fault.specs.declared.refusal.Refusal.TheVariants.{
  NoMemory,
  NotACertificate,
  BadSample,
  NoStation,
  NoReference,
  Hydraulic,
  BackwardSpan,
  EmptySpan,
  OutOfYears,
  TooLarge,
  TooSteep,
  SpanTooLong,
  MarkNotHere,
  LevelNotHere,
  TooManyRows,
}
use Rattle.tide_fault.specs.declared.slot.Slot.{Slot}
use Rattle.tide_fault.specs.declared.slot.Slot.TheVariants as slots
use Rattle.tide_fault.specs.declared.status.Status.{Status}
use Rattle.tide_fault.specs.declared.status.Status.TheVariants as status

-- ---- statuses

-- the exit status for a command line or query that isn't a request: `Words`, or `NoMemory` if
-- memory ran out while it was read
abbrev pub status_of_ask : AskFault → Status
status_of_ask ask.NoMemory = status.NoMemory
status_of_ask _ = status.Words

-- the exit status for a file of harmonic constants that isn't in its format: `FileRefused`, or
-- `NoMemory` if memory ran out while it was read
abbrev pub status_of_form : BookFault → Status
status_of_form form.NoMemory = status.NoMemory
status_of_form (form.At line why) = status.FileRefused

-- the exit status for a table of subordinate stations that isn't in its format: `FileRefused`, or
-- `NoMemory` if memory ran out while it was read
abbrev pub status_of_table : OffsetFault → Status
status_of_table table.NoMemory = status.NoMemory
status_of_table (table.At row why) = status.FileRefused

-- the exit status for a request that has no answer with the files that were read: `NoMemory` if
-- memory ran out, `FileRefused` for a bad certificate or sample, `Limit` if a number is too large,
-- and otherwise `Refused`
abbrev pub status_of_refusal : Refusal → Status
status_of_refusal NoMemory = status.NoMemory
status_of_refusal (NotACertificate line) = status.FileRefused
status_of_refusal (BadSample line why) = status.FileRefused
status_of_refusal (TooLarge year) = status.Limit
status_of_refusal (TooSteep year) = status.Limit
status_of_refusal (SpanTooLong minutes) = status.Limit
status_of_refusal (TooManyRows rows) = status.Limit
status_of_refusal _ = status.Refused

-- the exit status of a run that ends with this fault
abbrev pub status_of : Fault → Status
status_of (Ask fault) = status_of_ask fault
status_of (NoSheet word) = status.Refused
status_of (TooLong slot) = status.FileRefused
status_of (Book fault) = status_of_form fault
status_of (Offsets fault) = status_of_table fault
status_of BadZone = status.FileRefused
status_of (Refused refusal) = status_of_refusal refusal

-- ---- lines

-- the word for a kind of file at the start of a line that reports a fault, such as `offsets`
abbrev pub slot_name : Slot → List ℕ
slot_name slots.File = codes "file"
slot_name slots.Offsets = codes "offsets"
slot_name slots.Zone = codes "zone"
slot_name slots.Certificate = codes "certificate"

-- `pair_line pair what`: a line about one argument of a command line or pair of a query, by its
-- number `pair`, counted from 1, and then `what`, which ends with the LF
abbrev pub pair_line : ℕ → List ℕ → List ℕ
pair_line pair what = codes "words: pair " ++ decimal pair ++ what

-- the line, with its LF, for a command line or query that isn't a request, or if memory ran out
-- while it was read
unfoldable pub ask_line : AskFault → List ℕ
ask_line ask.NoMemory = codes "no memory\n"
ask_line ask.NoCommand = codes "words: no command\n"
ask_line ask.UnknownCommand = codes "words: unknown command\n"
ask_line (ask.NotAPair pair) = pair_line pair (codes " is not key=value\n")
ask_line (ask.UnknownKey pair) = pair_line pair (codes " has an unknown key\n")
ask_line (ask.RepeatedKey pair) = pair_line pair (codes " repeats a key\n")
ask_line (ask.BadValue pair) = pair_line pair (codes " has a bad value\n")
ask_line (ask.MissingKey key) = codes "words: " ++ name_of key ++ codes " is missing\n"

-- `file_line line why`: the line, with its LF, for a harmonics file in which the line with the
-- number `line`, counted from 1, is bad for the reason `why`; it ends with the reason's text and
-- number
abbrev pub file_line : ℕ → Why → List ℕ
file_line line why =
    (codes "file: line " ++ decimal line ++ codes ": ") ++ text_of why ++ (codes " (" ++ decimal (fault_number why) ++ codes ")\n")

-- the line, with its LF, for a file of harmonic constants that isn't in its format, or if memory
-- ran out while it was read
unfoldable pub form_line : BookFault → List ℕ
form_line form.NoMemory = codes "no memory\n"
form_line (form.At line why) = file_line line why

-- `row_line row why`: the line, with its LF, for a table of subordinate stations in which the row
-- with the number `row` (the header is row 1) is bad for the reason `why`; it ends with the
-- reason's text and number
abbrev pub row_line : ℕ → OffsetWhy → List ℕ
row_line row why =
    (codes "offsets: row " ++ decimal row ++ codes ": ") ++ text_of_row why ++ (codes " (" ++ decimal (number_of_row why) ++ codes ")\n")

-- the line, with its LF, for a table of subordinate stations that isn't in its format, or if memory
-- ran out while it was read
unfoldable pub table_line : OffsetFault → List ℕ
table_line table.NoMemory = codes "no memory\n"
table_line (table.At row why) = row_line row why

-- `reference_at rows index`: the name of the reference station in the row of the table with this
-- index, counted from 0, or no bytes if there is no such row
abbrev pub reference_at : List TableRow → ℕ → List ℕ
reference_at rows index = option_map_or (λ row. row.reference) (slice_get rows index) []

-- `naming_line what name`: the line, with its LF, of `what` and then `name`
abbrev pub naming_line : List ℕ → List ℕ → List ℕ
naming_line what name = what ++ name ++ codes "\n"

-- `is_moment minute`: the minute, counted from 1970-01-01T00:00Z, is in the years 1 to 9999
abbrev pub is_moment : ℤ → Bool
is_moment minute = int_le (negsuc 1035593279) minute && int_le minute (pos 4223371679)

-- `minute_text minute`: the minute, counted from 1970-01-01T00:00Z, as text, such as
-- `2000-01-10T00:00Z`; no bytes if it isn't in the years 1 to 9999
abbrev pub minute_text : ℤ → List ℕ
minute_text minute = if is_moment minute then moment_text minute else []

-- `years_line first last`: the line, with its LF, for a span outside the years of the harmonics
-- file. They are the minutes from `first` up to but not including `last`, counted from
-- 1970-01-01T00:00Z.
abbrev pub years_line : ℤ → ℤ → List ℕ
years_line first last =
    codes "refused: out of years: file has " ++ minute_text first ++ codes " to " ++ minute_text last ++ codes "\n"

-- `refusal_line rows refusal`: the line, with its LF, that reports a refusal; `rows` are the rows
-- of the table of subordinate stations that was read
unfoldable pub refusal_line : List TableRow → Refusal → List ℕ
refusal_line rows NoMemory = codes "no memory\n"
refusal_line rows (NotACertificate line) = codes "certificate: line " ++ decimal line ++ codes "\n"
refusal_line rows (BadSample line why) = file_line line why
refusal_line rows NoStation = codes "refused: no station\n"
refusal_line rows (NoReference index) = naming_line (codes "refused: no reference ") (reference_at rows index)
refusal_line rows Hydraulic = codes "refused: hydraulic\n"
refusal_line rows BackwardSpan = codes "refused: backward span\n"
refusal_line rows EmptySpan = codes "refused: empty span\n"
refusal_line rows (OutOfYears first last) = years_line first last
refusal_line rows (TooLarge year) = codes "limit: too large in " ++ signed_decimal year ++ codes "\n"
refusal_line rows (TooSteep year) = codes "limit: too steep in " ++ signed_decimal year ++ codes "\n"
refusal_line rows (SpanTooLong minutes) = codes "limit: span of " ++ signed_decimal minutes ++ codes " minutes\n"
refusal_line rows MarkNotHere = codes "refused: mark not here\n"
refusal_line rows LevelNotHere = codes "refused: level not here\n"
refusal_line rows (TooManyRows count) = codes "limit: " ++ signed_decimal count ++ codes " rows\n"

-- `line_of rows fault`: the line, with its LF, that reports a fault; `rows` are the rows of the
-- table of subordinate stations that was read
unfoldable pub line_of : List TableRow → Fault → List ℕ
line_of rows (Ask fault) = ask_line fault
line_of rows (NoSheet word) = naming_line (codes "refused: no sheet ") word
line_of rows (TooLong slot) = slot_name slot ++ codes ": too long\n"
line_of rows (Book fault) = form_line fault
line_of rows (Offsets fault) = table_line fault
line_of rows BadZone = codes "zone: bad zone file\n"
line_of rows (Refused refusal) = refusal_line rows refusal

-- ---- out of memory, and faults of the crates below

-- true if the refusal is that memory ran out
abbrev pub refusal_is_out_of_memory : Refusal → Bool
refusal_is_out_of_memory NoMemory = true
refusal_is_out_of_memory _ = false

-- true if the exit status is the one of a run in which memory ran out
abbrev pub is_memory : Status → Bool
is_memory status.NoMemory = true
is_memory _ = false

-- true if the fault is that memory ran out
abbrev pub is_out_of_memory : Fault → Bool
is_out_of_memory fault = is_memory (status_of fault)

-- the refusal for each reason why bytes can't be read as a certificate
abbrev pub refusal_of_cert : CertFault → Refusal
refusal_of_cert cert.NoMemory = NoMemory
refusal_of_cert (cert.NotACertificate line) = NotACertificate line

-- the refusal for each reason why no station is found for a name
abbrev pub refusal_of_find : FindFault → Refusal
refusal_of_find find.NoStation = NoStation
refusal_of_find (find.NoReference row) = NoReference row

-- the refusal for each reason why a station has no curve
abbrev pub refusal_of_curve : CurveFault → Refusal
refusal_of_curve curve.NoMemory = NoMemory
refusal_of_curve curve.Hydraulic = Hydraulic
refusal_of_curve (curve.TooLarge year) = TooLarge year
refusal_of_curve (curve.TooSteep year) = TooSteep year
