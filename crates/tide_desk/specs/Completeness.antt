-- A run over files, a clock and outputs that don't fail ends with its answer, with the whole text
-- written, or out of memory (this project).
use Rattle.std.specs.Prelude.{◌≡◌, ◌⊎◌, ℕ, ℤ, Bool, false, IsTrue, if◌then◌else◌, List, Some, None, Result, Ok, Err}
use Rattle.cert_text.specs.declared.certificate.Certificate.{Certificate}
use Rattle.cert_text.specs.Readings.{certificate_of}
use Rattle.event_list.specs.Shifts.{widened_of}
use Rattle.harmonics_book.specs.declared.book.Book.{Book}
use Rattle.peak_text.specs.declared.certificate.PeakCertificate.{PeakCertificate}
use Rattle.highest_water.specs.declared.verdict.PeakVerdict.TheVariants.{Accepted}
use Rattle.peak_text.specs.PeakReadings.{peak_of}
use Rattle.named_files.specs.declared.materials.Materials.{Materials}
use Rattle.named_files.specs.declared.run_fault.RunFault.{RunFault}
use Rattle.named_files.specs.RunFaults.{status_of}
use Rattle.named_files.specs.Readings.{book_named, certificate_named, files_in, table_named, zone_named}
use Rattle.question.specs.declared.command.Command.TheVariants.{Check, PeakCheck}
use Rattle.question.specs.declared.question.Question.{Question}
use Rattle.report_sheets.specs.Sheets.{SheetSpec}
use Rattle.station_span.specs.Rejections.{rejection_of}
use Rattle.station_span.specs.Following.{followed_by}
use Rattle.station_span.specs.Peaks.{highest_site, highest_verdict}
use Rattle.station_span.specs.Sites.{Site, site_in}
use Rattle.station_span.specs.declared.purpose.Purpose.TheVariants.{Events}
use Rattle.station_table.specs.declared.offsets.Offsets.{Offsets}
use Rattle.tide_answer.specs.declared.text.Answer.{Answer}
use Rattle.tide_answer.specs.Answers.{checked, peak_checked, version_of}
use Rattle.tide_answer.specs.Asking.{request_by_certificate, request_by_peak_certificate}
use Rattle.tide_edge.specs.Clocks.{next_minute}
use Rattle.tide_edge.specs.Faults.{Rose}
use Rattle.tide_edge.specs.FileStates.{Folder}
use Rattle.tide_edge.specs.SinkStates.{Wrote, put}
use Rattle.tide_fault.specs.declared.status.Status.{Status}
use Rattle.tide_fault.specs.declared.status.Status.TheVariants.{Done, Rejected, NoMemory}
use Rattle.zone_time.specs.declared.zone.Zone.{Zone}
use Rattle.tide_desk.specs.Answers.{ReadsClock, answer_of, answered_over_book, question_of_words, given_with, is_report, minute_for}
use Rattle.tide_desk.specs.Laws.{Asks, IsTrueAnswer}
use Rattle.tide_desk.specs.Outcomes.{IsFirm, refusal_line, text_with}
use Rattle.tide_desk.specs.PeakLaws.{IsTruePeakAnswer}
use Rattle.tide_desk.specs.Promises.{AnswersAs, Objects, States, sources_of}
use Rattle.tide_desk.specs.Shown.{answer_by}

-- ---- Objects that don't fail

-- the folder of the files of a run, if their contents can be observed
abbrev pub folder_held : {F O E K : Type 0} → States F O E K → Objects F O E K → Folder
folder_held s o = (s.files o.files).file_contents.folder

-- the answer to the command line `words` with the files and the clock of the objects `o`, if their
-- contents can be observed
abbrev pub answer_held : {F O E K : Type 0} → States F O E K → List SheetSpec → List (List ℕ) → Objects F O E K
    → Result Answer RunFault
answer_held s sheets words o = answer_of sheets (folder_held s o) (next_minute (s.clock o.clock)) words

-- The files have contents that can be observed, and each that exists can always be opened and read. The
-- clock, if the command line needs it, can be observed and hasn't failed. No write of the answer has
-- failed. (If a count of faults is at its maximum, it counts as grown.)
pub record NothingFailed {F O E K : Type 0} (s : States F O E K) (sheets : List SheetSpec) (words : List (List ℕ))
    (before after : Objects F O E K) : Type 0 where
  pub observable : IsTrue (s.files before.files).file_contents.is_observable
  pub readable : ReadsClock (question_of_words sheets words) → IsTrue (s.clock before.clock).is_observable
  pub firm : IsFirm (ReadsClock (question_of_words sheets words)) (sources_of s before) (sources_of s after)
  pub written : ¬ (Rose (s.out before.out).faults (s.out after.out).faults)

-- ---- The end of a run over objects that don't fail

-- the exit status of an answer (Rejected if it rejects a certificate, else Done), or of the reason why
-- there is none
abbrev pub status_with : Result Answer RunFault → Status
status_with (Ok answer) = if answer.rejected then Rejected else Done
status_with (Err none) = status_of none

-- the exit status is the one for `expected`, and the whole text of this answer was written to the
-- output; or `expected` is a reason why there is no answer, nothing was written to the output, and
-- the line that was written to `err` gives this reason
pub record EndsWhole {F O E K : Type 0} (s : States F O E K) (expected : Result Answer RunFault) (status : Status)
    (before after : Objects F O E K) : Type 0 where
  pub ends : status ≡ status_with expected
  pub text : s.out after.out ≡ put (text_with expected) (s.out before.out)
  pub line : (failed : Bool) × Wrote (s.err before.err) (s.err after.err) failed (refusal_line expected)

-- the exit status says that memory ran out, and nothing was written to `out`
pub record RanOut {F O E K : Type 0} (status : Status) (before after : Objects F O E K) : Type 0 where
  pub ends : status ≡ NoMemory
  pub unwritten : after.out ≡ before.out

-- A run over files, a clock and outputs that don't fail ends with the answer to its command line, or out
-- of memory. It ends with a read fault only if a file that the command line names is missing, and never
-- with a write fault.
abbrev pub EndsByItsAnswer : {F O E K : Type 0} → States F O E K → Type 0
EndsByItsAnswer {F} {O} {E} {K} s = (sheets : List SheetSpec) (words : List (List ℕ)) (status : Status)
    (before after : Objects F O E K) →
    AnswersAs s sheets words status before after → NothingFailed s sheets words before after →
    EndsWhole s (answer_held s sheets words before) status before after ⊎ RanOut status before after

-- A run over any files, clock and outputs ends with the answer for the bytes that it read from the
-- opened files and the minute that the clock returned, or out of memory, unless a write of the answer
-- has failed. So it ends with a read fault only if the clock couldn't be read or a file couldn't be read
-- to its end.
abbrev pub EndsByWhatCame : {F O E K : Type 0} → States F O E K → Type 0
EndsByWhatCame {F} {O} {E} {K} s = (sheets : List SheetSpec) (words : List (List ℕ)) (status : Status) (before after : Objects F O E K)
    (answers : AnswersAs s sheets words status before after) → ¬ (Rose (s.out before.out).faults (s.out after.out).faults) →
    EndsWhole s (answer_by sheets words answers.shown.open_log (s.clock before.clock) (s.clock after.clock)) status before after
    ⊎ RanOut status before after

-- ---- A request that nothing refuses

-- The command line `words` is a request whose files are all in `folder`, no longer than may be read and
-- in their formats, and with their contents at this minute nothing refuses the request: it has the
-- answer `answer`.
pub record HasAnswer (sheets : List SheetSpec) (folder : Folder) (minute : ℤ) (words : List (List ℕ)) (answer : Answer)
    : Type 0 where
  pub question : Question
  pub asked : question_of_words sheets words ≡ Ok question
  pub name : List ℕ
  pub file : question.file ≡ Some name
  pub read : Materials
  pub files : files_in (λ slot. folder) question name ≡ Ok read
  pub unrefused : answered_over_book (is_report question.command) sheets read.book read.table question
      (given_with read (minute_for question.command minute)) ≡ Ok answer

-- the exit status is Done, or Rejected if the answer rejects a certificate; the whole text of the answer
-- was written to `out`, and nothing to `err`
pub record WroteAll {F O E K : Type 0} (s : States F O E K) (answer : Answer) (status : Status) (before after : Objects F O E K)
    : Type 0 where
  pub ends : status ≡ (if answer.rejected then Rejected else Done)
  pub text : s.out after.out ≡ put answer.text (s.out before.out)
  pub silent : after.err ≡ before.err

-- A run for a request that nothing refuses ends with the whole text of its answer written, or out of
-- memory, if the files can always be opened and read, the clock and the outputs don't fail, and the
-- command line has an answer with their contents.
abbrev pub IsComplete : {F O E K : Type 0} → States F O E K → Type 0
IsComplete {F} {O} {E} {K} s = (sheets : List SheetSpec) (words : List (List ℕ)) (status : Status) (before after : Objects F O E K)
    (answer : Answer) →
    AnswersAs s sheets words status before after → NothingFailed s sheets words before after →
    HasAnswer sheets (folder_held s before) (next_minute (s.clock before.clock)) words answer →
    WroteAll s answer status before after ⊎ RanOut status before after

-- ---- A valid certificate

-- the run ended with status Done and wrote an answer that meets the condition `accepts`, or it ran out
-- of memory and wrote nothing
abbrev pub EndsAccepting : {F O E K : Type 0} → States F O E K → (Answer → Type 0) → Status → Objects F O E K → Objects F O E K
    → Type 0
EndsAccepting s accepts status before after =
    ((answer : Answer) × accepts answer × (status ≡ Done) × (s.out after.out ≡ put answer.text (s.out before.out)))
    ⊎ RanOut status before after

-- The text is a certificate, and nothing refuses a request for the certificate's station, span and
-- mark. It has cells for slack waters exactly if the station's slack waters are listed, and the
-- cells of each track agree with its curve and cover the minutes of the reference station that
-- determine the events.
pub record IsValid (book : Book) (table : List Offsets) (text : List ℕ) : Type 0 where
  pub certificate : Certificate
  pub site : Site
  pub written : certificate_of text ≡ Ok certificate
  pub unrefused : site_in Events book table certificate.station (request_by_certificate certificate) ≡ Ok site
  pub accepted : rejection_of (followed_by (version_of certificate) book site certificate.mark)
      (widened_of site.basis certificate.begin certificate.end) certificate.tracks ≡ None

-- The text is a certificate of a highest water, nothing refuses a request for the certificate's
-- station and span, and the claimed highest water and its cells agree with the curve of the level.
pub record IsValidPeak (book : Book) (table : List Offsets) (text : List ℕ) : Type 0 where
  pub certificate : PeakCertificate
  pub site : Site
  pub written : peak_of text ≡ Ok certificate
  pub unrefused : highest_site book table certificate.station (request_by_peak_certificate certificate) ≡ Ok site
  pub accepted : highest_verdict book site (request_by_peak_certificate certificate) certificate.peak ≡ Accepted

-- each certificate that `check` accepts is valid: nothing refuses its station, span and mark, and
-- the cells of each of its tracks agree with the track's curve
abbrev pub IsValidIfAccepted : Type 0
IsValidIfAccepted = (book : Book) (table : List Offsets) (text : List ℕ) (zone : Zone) (answer : Answer) →
    checked book table text zone ≡ Ok answer → answer.rejected ≡ false → IsValid book table text

-- each certificate of a highest water that `peakcheck` accepts is valid: nothing refuses its
-- station and span, and its highest water and cells agree with the curve of the level
abbrev pub IsValidPeakIfAccepted : Type 0
IsValidPeakIfAccepted = (book : Book) (table : List Offsets) (text : List ℕ) (answer : Answer) →
    peak_checked book table text ≡ Ok answer → answer.rejected ≡ false → IsValidPeak book table text

-- under the names that a request to check a certificate gives, the folder has these harmonic constants,
-- this table and this certificate text
pub record HoldsFiles (folder : Folder) (question : Question) (book : Book) (table : List Offsets) (text : List ℕ) : Type 0 where
  pub name : List ℕ
  pub file : question.file ≡ Some name
  pub constants : book_named folder name ≡ Ok book
  pub offsets : table_named folder question.offsets ≡ Ok table
  pub certificate : certificate_named folder question.certificate ≡ Ok text

-- The command `check`, over files, a clock and outputs that don't fail, accepts a valid certificate and
-- lists the events of its station, span and mark; or it runs out of memory.
abbrev pub AcceptsValid : {F O E K : Type 0} → States F O E K → Type 0
AcceptsValid {F} {O} {E} {K} s = (sheets : List SheetSpec) (words : List (List ℕ)) (check : Question) (book : Book)
    (table : List Offsets) (text : List ℕ) (zone : Zone) (status : Status) (before after : Objects F O E K) →
    Asks sheets words Check check → HoldsFiles (folder_held s before) check book table text →
    zone_named (folder_held s before) check.zone ≡ Ok zone →
    IsValid book table text → AnswersAs s sheets words status before after → NothingFailed s sheets words before after →
    EndsAccepting s (IsTrueAnswer sheets (folder_held s before) check) status before after

-- The command `peakcheck`, over files, a clock and outputs that don't fail, accepts a valid certificate
-- of a highest water and prints its highest water; or it runs out of memory.
abbrev pub AcceptsValidPeaks : {F O E K : Type 0} → States F O E K → Type 0
AcceptsValidPeaks {F} {O} {E} {K} s = (sheets : List SheetSpec) (words : List (List ℕ)) (check : Question) (book : Book)
    (table : List Offsets) (text : List ℕ) (status : Status) (before after : Objects F O E K) →
    Asks sheets words PeakCheck check → HoldsFiles (folder_held s before) check book table text →
    IsValidPeak book table text → AnswersAs s sheets words status before after → NothingFailed s sheets words before after →
    EndsAccepting s (IsTruePeakAnswer sheets (folder_held s before) check) status before after
