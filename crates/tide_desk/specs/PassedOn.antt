-- A certificate that one run writes and the next run checks (this project).
use Rattle.std.specs.Prelude.{◌≡◌, ℕ, IsTrue, List, [], Some, Ok}
use Rattle.harmonics_book.specs.declared.book.Book.{Book}
use Rattle.named_files.specs.declared.materials.Materials.{Materials}
use Rattle.named_files.specs.Readings.{files_in, zone_named}
use Rattle.question.specs.declared.command.Command.TheVariants.{Certify, Check, Peak, PeakCheck}
use Rattle.question.specs.declared.layout.Layout.TheVariants.{Plain}
use Rattle.question.specs.declared.question.Question.{Question}
use Rattle.report_sheets.specs.Sheets.{SheetSpec}
use Rattle.station_span.specs.declared.span_request.SpanRequest.{SpanRequest}
use Rattle.station_table.specs.declared.offsets.Offsets.{Offsets}
use Rattle.tide_answer.specs.declared.text.Answer.{Answer}
use Rattle.tide_answer.specs.Answers.{highest as highest_water, predicted}
use Rattle.tide_answer.specs.Laws.{AcceptsListing}
use Rattle.tide_edge.specs.Faults.{Rose}
use Rattle.tide_edge.specs.FileStates.{Opening}
use Rattle.tide_fault.specs.declared.status.Status.{Status}
use Rattle.tide_fault.specs.declared.status.Status.TheVariants.{Done}
use Rattle.zone_time.specs.declared.zone.Zone.{Zone}
use Rattle.zone_time.specs.declared.zone.Zone.TheVariants.{Utc}
use Rattle.tide_desk.specs.Answers.{question_of_words}
use Rattle.tide_desk.specs.Completeness.{EndsAccepting, NothingFailed, folder_held}
use Rattle.tide_desk.specs.Laws.{Asks, AcceptsWithListing, HoldsCertificate, Subject, subject_of}
use Rattle.tide_desk.specs.PeakLaws.{AcceptsWithHighest}
use Rattle.tide_desk.specs.Promises.{AnswersAs, Objects, States}
use Rattle.tide_desk.specs.Shown.{folders_by}

-- ---- By the contents of the files

-- a run ended with the status Done, its files can be observed, and its output was empty before it
pub record IsDone {F O E K : Type 0} (s : States F O E K) (sheets : List SheetSpec) (words : List (List ℕ))
    (before after : Objects F O E K) : Type 0 where
  pub answers : AnswersAs s sheets words Done before after
  pub observable : IsTrue (s.files before.files).file_contents.is_observable
  pub empty : (s.out before.out).accepted ≡ []

-- The command `check`, over files, a clock and outputs that don't fail, accepts the certificate that a
-- run of `certify` has written, if it is unchanged and the constants and the table are the same, and
-- lists its events; or it runs out of memory.
abbrev pub ChecksWhatWasCertified : {F O E K G P D L : Type 0} → States F O E K → States G P D L → Type 0
ChecksWhatWasCertified {F} {O} {E} {K} {G} {P} {D} {L} s t = (sheets : List SheetSpec) (words more : List (List ℕ))
    (certify check : Question) (zone : Zone) (before after : Objects F O E K) (status : Status) (first last : Objects G P D L) →
    Asks sheets words Certify certify → IsDone s sheets words before after →
    Asks sheets more Check check → AnswersAs t sheets more status first last → NothingFailed t sheets more first last →
    HoldsCertificate (folder_held s before) (folder_held t first) certify check (s.out after.out).accepted →
    zone_named (folder_held t first) check.zone ≡ Ok zone →
    EndsAccepting t (AcceptsWithListing sheets (folder_held t first) check (subject_of certify)) status first last

-- The command `peakcheck`, over files, a clock and outputs that don't fail, accepts the certificate that
-- a run of `peak` has written, if it is unchanged and the constants and the table are the same, and
-- prints the highest water; or it runs out of memory.
abbrev pub ChecksWhatPeakCertified : {F O E K G P D L : Type 0} → States F O E K → States G P D L → Type 0
ChecksWhatPeakCertified {F} {O} {E} {K} {G} {P} {D} {L} s t = (sheets : List SheetSpec) (words more : List (List ℕ))
    (peak check : Question) (before after : Objects F O E K) (status : Status) (first last : Objects G P D L) →
    Asks sheets words Peak peak → IsDone s sheets words before after →
    Asks sheets more PeakCheck check → AnswersAs t sheets more status first last → NothingFailed t sheets more first last →
    HoldsCertificate (folder_held s before) (folder_held t first) peak check (s.out after.out).accepted →
    EndsAccepting t (AcceptsWithHighest sheets (folder_held t first) check (subject_of peak)) status first last

-- ---- By the bytes that were read, over objects of any kind

-- The bytes that were read for a request are whole files, no longer than may be read and in their
-- formats, and `read` has their contents.
pub record CameAs (sheets : List SheetSpec) (words : List (List ℕ)) (question : Question) (open_log : List Opening) (read : Materials)
    : Type 0 where
  pub name : List ℕ
  pub file : question.file ≡ Some name
  pub files : files_in (folders_by (question_of_words sheets words) open_log) question name ≡ Ok read

-- the certificate that the second run read is the text that the first run wrote, and both runs read the
-- same harmonic constants and table
pub record IsPassedOn (first second : Materials) (written : List ℕ) : Type 0 where
  pub book : second.book ≡ first.book
  pub offsets : second.table ≡ first.table
  pub certificate : second.certificate ≡ written

-- the station called `name`, the span and the mark, as what a request or a certificate is about
abbrev pub subject_over : List ℕ → SpanRequest → Subject
subject_over name span_request = record { station = Some name; begin = Some span_request.begin; end = Some span_request.end; mark = span_request.mark }

-- the answer is the line `Accepted`, and the events of the station, span and mark of `subject`, with
-- these constants and table, in the local time of `zone`
pub record AcceptsSubject (book : Book) (table : List Offsets) (zone : Zone) (subject : Subject) (answer : Answer) : Type 0 where
  pub name : List ℕ
  pub span_request : SpanRequest
  pub about : subject ≡ subject_over name span_request
  pub listing : AcceptsListing (predicted book table name span_request Plain zone) answer

-- The command `check` accepts a certificate that it read, if a run of `certify` has written this text
-- and both runs read the same constants and table, and lists its events; or it runs out of memory. This
-- holds unless a write of its answer has failed.
abbrev pub ChecksWhatCame : {F O E K G P D L : Type 0} → States F O E K → States G P D L → Type 0
ChecksWhatCame {F} {O} {E} {K} {G} {P} {D} {L} s t = (sheets : List SheetSpec) (words more : List (List ℕ)) (certify check : Question)
    (before after : Objects F O E K) (status : Status) (first last : Objects G P D L) (one two : Materials)
    (made : AnswersAs s sheets words Done before after) (checks : AnswersAs t sheets more status first last) →
    Asks sheets words Certify certify → (s.out before.out).accepted ≡ [] → CameAs sheets words certify made.shown.open_log one →
    Asks sheets more Check check → CameAs sheets more check checks.shown.open_log two → IsPassedOn one two (s.out after.out).accepted →
    ¬ (Rose (t.out first.out).faults (t.out last.out).faults) →
    EndsAccepting t (AcceptsSubject one.book one.table two.zone (subject_of certify)) status first last

-- the answer is the line `Accepted`, and the highest water of the station and span of `subject`, with
-- these constants and table, in universal time
pub record AcceptsPeakOf (book : Book) (table : List Offsets) (subject : Subject) (answer : Answer) : Type 0 where
  pub name : List ℕ
  pub span_request : SpanRequest
  pub about : subject ≡ subject_over name span_request
  pub highest : AcceptsListing (highest_water book table name span_request Utc) answer

-- The command `peakcheck` accepts a certificate that it read, if a run of `peak` has written this text
-- and both runs read the same constants and table, and prints the highest water; or it runs out of
-- memory. This holds unless a write of its answer has failed.
abbrev pub ChecksPeakThatCame : {F O E K G P D L : Type 0} → States F O E K → States G P D L → Type 0
ChecksPeakThatCame {F} {O} {E} {K} {G} {P} {D} {L} s t = (sheets : List SheetSpec) (words more : List (List ℕ)) (peak check : Question)
    (before after : Objects F O E K) (status : Status) (first last : Objects G P D L) (one two : Materials)
    (made : AnswersAs s sheets words Done before after) (checks : AnswersAs t sheets more status first last) →
    Asks sheets words Peak peak → (s.out before.out).accepted ≡ [] → CameAs sheets words peak made.shown.open_log one →
    Asks sheets more PeakCheck check → CameAs sheets more check checks.shown.open_log two → IsPassedOn one two (s.out after.out).accepted →
    ¬ (Rose (t.out first.out).faults (t.out last.out).faults) →
    EndsAccepting t (AcceptsPeakOf one.book one.table (subject_of peak)) status first last
