-- A run over objects that don't fail ends by its answer, or out of memory.
use Rattle.std.proofs.Common.{◌≡◌, ◌⊎◌, ◌∙◌, ℕ, ℤ, ◌≤◌, Bool, true, false, List, [], codes, length, pos, Option, Some, None, Result, Ok, Err, inl, inr, refl, sym, ap, arith, le_refl}
use Rattle.std.proofs.lemmas.Bool.{leb-true}
use Rattle.std.specs.Prelude.{if◌then◌else◌}
use Rattle.cert_text.specs.declared.certificate.Certificate.{Certificate}
use Rattle.cert_text.specs.declared.fault.CertFault.{CertFault}
use Rattle.cert_text.specs.Readings.{certificate_of}
use Rattle.peak_text.specs.declared.certificate.PeakCertificate.{PeakCertificate}
use Rattle.peak_text.specs.declared.fault.PeakFault.{PeakFault}
use Rattle.highest_water.specs.declared.verdict.PeakVerdict.{PeakVerdict}
use Rattle.highest_water.specs.declared.verdict.PeakVerdict.TheVariants.{WrongLength, Outside, NotUnder, WrongValue, Above, Accepted}
use Rattle.peak_text.specs.PeakReadings.{peak_of}
use Rattle.peak_text.specs.VerdictLines.{verdict_line}
use Rattle.event_text.specs.Lines.{text_of_unit}
use Rattle.harmonics_book.specs.declared.book.Book.{Book}
use Rattle.harmonics_text.specs.Reading.{book_of}
use Rattle.harmonics_book.specs.Worked.{pier_book}
use Rattle.harmonics_text.specs.Worked.{file_of, pier_lines}
use Rattle.listing.specs.StationLists.{stations_text_of}
use Rattle.named_files.specs.declared.materials.Materials.{Materials}
use Rattle.named_files.specs.declared.run_fault.RunFault.{RunFault}
use Rattle.named_files.specs.Readings.{book_named, certificate_named, limit_of, table_named, zone_named}
use Rattle.question.specs.Worked.{bare}
use Rattle.question.specs.declared.command.Command.TheVariants.{Check, PeakCheck, Stations}
use Rattle.question.specs.declared.question.Question.{Question}
use Rattle.report_sheets.specs.Sheets.{SheetSpec}
use Rattle.station_span.specs.declared.rejection.Rejection.{Rejection}
use Rattle.station_span.specs.Rejections.{rejection_line}
use Rattle.station_span.specs.declared.purpose.Purpose.TheVariants.{Events}
use Rattle.station_span.specs.Peaks.{highest_site}
use Rattle.station_span.specs.Sites.{Site, site_in}
use Rattle.decimal_text.proofs.ExpectedLemmas.{then_ok}
use Rattle.station_table.specs.declared.offsets.Offsets.{Offsets}
use Rattle.tide_answer.specs.declared.text.Answer.{Answer}
use Rattle.tide_answer.specs.Answers.{answered, certificate_from, checked, judged as judged_as, peak_checked, peak_from, peak_judged, text_alone, text_rejected}
use Rattle.tide_answer.specs.Asking.{request_by_certificate, request_by_peak_certificate}
use Rattle.tide_edge.specs.Clocks.{next_minute}
use Rattle.tide_edge.specs.Faults.{Rose, counted}
use Rattle.tide_edge.specs.FileStates.{Folder}
use Rattle.tide_edge.specs.SinkStates.{SinkState, Wrote, put}
use Rattle.tide_fault.specs.declared.refusal.Refusal.{Refusal}
use Rattle.tide_fault.specs.declared.slot.Slot.TheVariants as slots
use Rattle.tide_fault.specs.declared.status.Status.{Status}
use Rattle.tide_fault.specs.declared.status.Status.TheVariants.{Done, Rejected, Words, FileRefused, Refused, Limit, ReadFault, WriteFault, NoMemory}
use Rattle.zone_time.specs.declared.zone.Zone.{Zone}
use Rattle.zone_time.specs.declared.zone.Zone.TheVariants.{Utc}
use Rattle.tide_desk.specs.Answers.{answer_of, answered_over_optional_file, answered_over_file, question_of_words}
use Rattle.tide_desk.specs.Completeness.{NothingFailed, answer_held, folder_held, status_with, EndsWhole, RanOut, EndsByItsAnswer, EndsByWhatCame, HasAnswer, WroteAll, IsComplete, EndsAccepting, IsValid, IsValidPeak, IsValidIfAccepted, IsValidPeakIfAccepted, HoldsFiles, AcceptsValid, AcceptsValidPeaks}
use Rattle.tide_desk.specs.Laws.{AcceptsOnlyTrueCertificates, IsTrueAnswer}
use Rattle.tide_desk.specs.Outcomes.{EndsAs, IsSilent, IsUntouched, Outputs, refusal_line, text_with}
use Rattle.tide_desk.specs.PeakLaws.{AcceptsOnlyTruePeaks, IsTruePeakAnswer}
use Rattle.tide_desk.specs.Promises.{AnswersAs, Objects, States, outputs_of}
use Rattle.tide_desk.specs.Shown.{answer_by}
use Rattle.tide_desk.specs.Worked.{in_memory, pier, pier_words}
use Rattle.tide_desk.proofs.AskedLemmas.{names_no_zone}
use Rattle.tide_desk.proofs.CheckingLemmas.{checks}
use Rattle.tide_desk.proofs.FileLemmas.{WasRead, bytes_whole, read_whole, words_answer}
use Rattle.tide_desk.proofs.PeakCertificateLemmas.{utc_named}
use Rattle.tide_desk.proofs.SettledLemmas.{never}

-- ---- The end of a run

-- a write that failed raises the count of faults
wrote_risen : (before after : SinkState) (text : List ℕ) → Wrote before after true text → Rose before.faults after.faults
wrote_risen before after text wrote = rw wrote.2 (le_refl (counted before.faults))

-- the texts and the status are the answer's
record IsWhole (expected : Result Answer RunFault) (status : Status) (before after : Outputs) : Type 0 where
  ends : status ≡ status_with expected
  text : after.out ≡ put (text_with expected) before.out
  line : (failed : Bool) × Wrote before.err after.err failed (refusal_line expected)

judged : (rejected is_rejected : Bool) → rejected ≡ is_rejected
    → (if is_rejected then Rejected else Done) ≡ (if rejected then Rejected else Done)
judged rejected is_rejected is = rw is refl

whole_by : (expected : Result Answer RunFault) (status : Status) (before after : Outputs) → EndsAs expected status before after
    → ¬ (Rose before.out.faults after.out.faults) → IsWhole expected status before after ⊎ (status ≡ NoMemory)
whole_by (Ok answer) Done before after ends unrisen =
    inl (record { ends = judged answer.rejected false ends.says; text = ends.output; line = (ends.failed, ends.line) })
whole_by (Ok answer) Rejected before after ends unrisen =
    inl (record { ends = judged answer.rejected true ends.says; text = ends.output; line = (ends.failed, ends.line) })
whole_by expected WriteFault before after ends unrisen =
    absurd (unrisen (wrote_risen before.out after.out (text_with expected) ends.output))
whole_by expected NoMemory before after ends unrisen = inr refl
whole_by (Ok answer) Words before after ends unrisen = absurd ends.says
whole_by (Ok answer) FileRefused before after ends unrisen = absurd ends.says
whole_by (Ok answer) Refused before after ends unrisen = absurd ends.says
whole_by (Ok answer) Limit before after ends unrisen = absurd ends.says
whole_by (Ok answer) ReadFault before after ends unrisen = absurd ends.says
whole_by (Err none) Done before after ends unrisen = absurd ends.says
whole_by (Err none) Rejected before after ends unrisen = absurd ends.says
whole_by (Err none) Words before after ends unrisen =
    inl (record { ends = sym ends.says; text = ends.output; line = (ends.failed, ends.line) })
whole_by (Err none) FileRefused before after ends unrisen =
    inl (record { ends = sym ends.says; text = ends.output; line = (ends.failed, ends.line) })
whole_by (Err none) Refused before after ends unrisen =
    inl (record { ends = sym ends.says; text = ends.output; line = (ends.failed, ends.line) })
whole_by (Err none) Limit before after ends unrisen =
    inl (record { ends = sym ends.says; text = ends.output; line = (ends.failed, ends.line) })
whole_by (Err none) ReadFault before after ends unrisen =
    inl (record { ends = sym ends.says; text = ends.output; line = (ends.failed, ends.line) })

ran_out : {F O E K : Type 0} (status : Status) (before after : Objects F O E K)
    → IsUntouched status before.out after.out → status ≡ NoMemory → RanOut status before after
ran_out status before after untouched is = record { ends = is; unwritten = rw is at untouched }

-- the end of a run by its whole objects
ends_by : {F O E K : Type 0} (s : States F O E K) (sheets : List SheetSpec) (words : List (List ℕ)) (status : Status)
    (before after : Objects F O E K) (expected : Result Answer RunFault)
    → AnswersAs s sheets words status before after → EndsAs expected status (outputs_of s before) (outputs_of s after)
    → ¬ (Rose (s.out before.out).faults (s.out after.out).faults) → EndsWhole s expected status before after ⊎ RanOut status before after
ends_by s sheets words status before after expected answers ends unrisen =
    elim (whole_by expected status (outputs_of s before) (outputs_of s after) ends unrisen) [
      | inl is ↦ inl (record { ends = is.ends; text = is.text; line = is.line })
      | inr is ↦ inr (ran_out status before after answers.unwritten is)
    ]

pub ends_by_answer : {F O E K : Type 0} (s : States F O E K) → EndsByItsAnswer s
ends_by_answer s sheets words status before after answers nothing =
    ends_by s sheets words status before after (answer_held s sheets words before) answers
    (answers.own_files nothing.observable nothing.readable (inl nothing.firm)) nothing.written

pub ends_by_what_came : {F O E K : Type 0} (s : States F O E K) → EndsByWhatCame s
ends_by_what_came s sheets words status before after answers unrisen =
    ends_by s sheets words status before after (answer_by sheets words answers.shown.open_log (s.clock before.clock)
    (s.clock after.clock)) answers answers.shown.ends unrisen

-- ---- A request that nothing refuses

over_files : (sheets : List SheetSpec) (folder : Folder) (minute : ℤ) (words : List (List ℕ)) (answer : Answer)
    (has : HasAnswer sheets folder minute words answer)
    → answered_over_file sheets (λ slot. folder) minute has.question has.name ≡ Ok answer
unfolding answered_over_file
over_files sheets folder minute words answer has = rw (has.files, has.unrefused) refl

pub has_answer : (sheets : List SheetSpec) (folder : Folder) (minute : ℤ) (words : List (List ℕ)) (answer : Answer)
    → HasAnswer sheets folder minute words answer
    → answer_of sheets folder minute words ≡ Ok answer
has_answer sheets folder minute words answer has =
    words_answer sheets folder minute words has.question has.asked
    ∙ ap (answered_over_optional_file sheets (λ slot. folder) minute has.question) has.file
    ∙ over_files sheets folder minute words answer has

-- no line is written with a text that was written whole
silent : {E : Type 0} (rejected : Bool) (status : Status) (before after : E) → status ≡ (if rejected then Rejected else Done)
    → IsSilent status before after → after ≡ before
silent true status before after is quiet = rw is at quiet
silent false status before after is quiet = rw is at quiet

-- the end of a run that has an answer
answered_whole : {F O E K : Type 0} (s : States F O E K) (expected : Result Answer RunFault) (answer : Answer)
    (status : Status) (before after : Objects F O E K)
    → expected ≡ Ok answer → IsSilent status before.err after.err → EndsWhole s expected status before after
    → WroteAll s answer status before after
answered_whole s expected answer status before after is quiet whole =
    let ends : status ≡ (if answer.rejected then Rejected else Done) = whole.ends ∙ ap status_with is in
    let text : s.out after.out ≡ put answer.text (s.out before.out) = whole.text ∙ ap (λ e. put (text_with e) (s.out before.out)) is in
    record { ends = ends; text = text; silent = silent answer.rejected status before.err after.err ends quiet }

pub is_answered : {F O E K : Type 0} (s : States F O E K) (sheets : List SheetSpec) (words : List (List ℕ))
    (status : Status) (before after : Objects F O E K) (answer : Answer)
    → AnswersAs s sheets words status before after → NothingFailed s sheets words before after
    → answer_held s sheets words before ≡ Ok answer
    → WroteAll s answer status before after ⊎ RanOut status before after
is_answered s sheets words status before after answer answers nothing is =
    elim (ends_by_answer s sheets words status before after answers nothing) [
      | inl whole ↦ inl (answered_whole s (answer_held s sheets words before) answer status before after is answers.unprinted whole)
      | inr out ↦ inr out
    ]

pub is_complete : {F O E K : Type 0} (s : States F O E K) → IsComplete s
is_complete s sheets words status before after answer answers nothing has =
    is_answered s sheets words status before after answer answers nothing
    (has_answer sheets (folder_held s before) (next_minute (s.clock before.clock)) words answer has)

-- ---- Certificates

-- the end of a run whose answer rejects nothing
pub accepting_by : {F O E K : Type 0} (s : States F O E K) (accepts : Answer → Type 0) (sheets : List SheetSpec)
    (words : List (List ℕ)) (status : Status) (before after : Objects F O E K) (expected : Result Answer RunFault)
    (answer : Answer)
    → AnswersAs s sheets words status before after → expected ≡ Ok answer → answer.rejected ≡ false → accepts answer
    → EndsWhole s expected status before after ⊎ RanOut status before after → EndsAccepting s accepts status before after
accepting_by s accepts sheets words status before after expected answer answers is kept accepted ends =
    elim ends [
      | inl whole ↦
          let all = answered_whole s expected answer status before after is answers.unprinted whole in
          inl (answer, accepted, rw kept at all.ends, all.text)
      | inr out ↦ inr out
    ]

pub accepting : {F O E K : Type 0} (s : States F O E K) (accepts : Answer → Type 0) (sheets : List SheetSpec)
    (words : List (List ℕ)) (status : Status) (before after : Objects F O E K) (answer : Answer)
    → AnswersAs s sheets words status before after → NothingFailed s sheets words before after
    → answer_held s sheets words before ≡ Ok answer → answer.rejected ≡ false → accepts answer → EndsAccepting s accepts status before after
accepting s accepts sheets words status before after answer answers nothing is kept accepted =
    accepting_by s accepts sheets words status before after (answer_held s sheets words before) answer answers is kept accepted
    (ends_by_answer s sheets words status before after answers nothing)

-- the files of a check
files_held : (folder : Folder) (question : Question) (book : Book) (table : List Offsets) (text : List ℕ) (zone : Zone)
    (holds : HoldsFiles folder question book table text)
    → zone_named folder question.zone ≡ Ok zone
    → WasRead folder question holds.name (record { book = book; table = table; zone = zone; certificate = text })
files_held folder question book table text zone holds shown =
    record { book = holds.constants; table = holds.offsets; zone = shown; certificate = holds.certificate }

-- the answer of a check
abbrev judging : Answer → Result Answer Refusal
judging answer = Ok answer

-- a valid certificate is accepted
valid_checked : (book : Book) (table : List Offsets) (text : List ℕ) (zone : Zone) → IsValid book table text
    → (answer : Answer) × (checked book table text zone ≡ Ok answer) × (answer.rejected ≡ false)
unfolding checked
valid_checked book table text zone valid =
    (judged_as book valid.site valid.certificate zone None, rw (valid.written, valid.unrefused, valid.accepted) refl, refl)

valid_peak_checked : (book : Book) (table : List Offsets) (text : List ℕ) → IsValidPeak book table text
    → (answer : Answer) × (peak_checked book table text ≡ Ok answer) × (answer.rejected ≡ false)
unfolding peak_checked
valid_peak_checked book table text valid =
    (peak_judged book valid.site valid.certificate Accepted, rw (valid.written, valid.unrefused, valid.accepted) refl, refl)

-- an accepted certificate is valid
certificate_ok : (read : Result Certificate CertFault) (certificate : Certificate)
    → certificate_from read ≡ Ok certificate → read ≡ Ok certificate
certificate_ok (Ok found) certificate ok = cc
certificate_ok (Err fault) certificate ok = absurd cc

unrejected : (book : Book) (site : Site) (certificate : Certificate) (zone : Zone) (rejection : Option Rejection) (answer : Answer)
    → judging (judged_as book site certificate zone rejection) ≡ judging answer → answer.rejected ≡ false → rejection ≡ None
unrejected book site certificate zone None answer is accepted = refl
unrejected book site certificate zone (Some rejection) answer is accepted =
    let same : text_rejected (rejection_line rejection) ≡ answer = cc in never (sym accepted ∙ ap (λ (a : Answer). a.rejected) (sym same))

pub valid_if_accepted : IsValidIfAccepted
unfolding checked
valid_if_accepted book table text zone answer ok accepted =
    let certificate = then_ok (certificate_from (certificate_of text)) _ answer ok in
    let site = then_ok (site_in Events book table certificate.0.station (request_by_certificate certificate.0)) _ answer certificate.2 in
    record {
      certificate = certificate.0;
      site = site.0;
      written = certificate_ok (certificate_of text) certificate.0 certificate.1;
      unrefused = site.1;
      accepted = unrejected book site.0 certificate.0 zone _ answer site.2 accepted;
    }

peak_ok : (read : Result PeakCertificate PeakFault) (certificate : PeakCertificate) → peak_from read ≡ Ok certificate
    → read ≡ Ok certificate
peak_ok (Ok found) certificate ok = cc
peak_ok (Err fault) certificate ok = absurd cc

rejecting : {G : Type 0} (line : List ℕ) (answer : Answer) → judging (text_rejected line) ≡ judging answer → answer.rejected ≡ false → G
rejecting line answer is accepted =
    let same : text_rejected line ≡ answer = cc in never (sym accepted ∙ ap (λ (a : Answer). a.rejected) (sym same))

peak_unrejected : (book : Book) (site : Site) (certificate : PeakCertificate) (verdict : PeakVerdict) (answer : Answer)
    → judging (peak_judged book site certificate verdict) ≡ judging answer → answer.rejected ≡ false → verdict ≡ Accepted
peak_unrejected book site certificate Accepted answer is accepted = refl
peak_unrejected book site certificate (WrongLength covered wanted) answer is accepted =
    rejecting (verdict_line (WrongLength covered wanted)) answer is accepted
peak_unrejected book site certificate Outside answer is accepted = rejecting (verdict_line Outside) answer is accepted
peak_unrejected book site certificate (NotUnder cell) answer is accepted = rejecting (verdict_line (NotUnder cell)) answer is accepted
peak_unrejected book site certificate (WrongValue written computed) answer is accepted =
    rejecting (verdict_line (WrongValue written computed)) answer is accepted
peak_unrejected book site certificate (Above cell) answer is accepted = rejecting (verdict_line (Above cell)) answer is accepted

pub valid_peak_if_accepted : IsValidPeakIfAccepted
unfolding peak_checked
valid_peak_if_accepted book table text answer ok accepted =
    let certificate = then_ok (peak_from (peak_of text)) _ answer ok in
    let site = then_ok (highest_site book table certificate.0.station (request_by_peak_certificate certificate.0)) _ answer certificate.2 in
    record {
      certificate = certificate.0;
      site = site.0;
      written = peak_ok (peak_of text) certificate.0 certificate.1;
      unrefused = site.1;
      accepted = peak_unrejected book site.0 certificate.0 _ answer site.2 accepted;
    }

pub accepts_valid : {F O E K : Type 0} (s : States F O E K) → AcceptsOnlyTrueCertificates → AcceptsValid s
accepts_valid s reports sheets words check book table text zone status before after asks holds shown valid answers nothing =
    let folder = folder_held s before in
    let minute = next_minute (s.clock before.clock) in
    let read : Materials = record { book = book; table = table; zone = zone; certificate = text } in
    let made = valid_checked book table text zone valid in
    let is = checks sheets folder minute words Check check holds.name read made.0 refl asks holds.file
    (files_held folder check book table text zone holds shown) made.1 in
    accepting s (IsTrueAnswer sheets folder check) sheets words status before after made.0 answers nothing is made.2
    (reports sheets folder minute words check made.0 asks is made.2)

pub accepts_valid_peaks : {F O E K : Type 0} (s : States F O E K) → AcceptsOnlyTruePeaks → AcceptsValidPeaks s
accepts_valid_peaks s reports sheets words check book table text status before after asks holds valid answers nothing =
    let folder = folder_held s before in
    let minute = next_minute (s.clock before.clock) in
    let read : Materials = record { book = book; table = table; zone = Utc; certificate = text } in
    let made = valid_peak_checked book table text valid in
    let shown = utc_named folder check.zone (names_no_zone sheets words check PeakCheck refl asks.asked asks.is) in
    let is = checks sheets folder minute words PeakCheck check holds.name read made.0 refl asks holds.file
    (files_held folder check book table text Utc holds shown) made.1 in
    accepting s (IsTruePeakAnswer sheets folder check) sheets words status before after made.0 answers nothing is made.2
    (reports sheets folder minute words check made.0 asks is made.2)

-- ---- A run worked out by hand

book_there : (folder : Folder) (name bytes : List ℕ) (book : Book) → folder name ≡ Some bytes
    → length bytes ≤ limit_of slots.File → book_of bytes ≡ Ok book → book_named folder name ≡ Ok book
unfolding book_named
book_there folder name bytes book held few is = rw (bytes_whole slots.File (folder name) bytes held few, is) refl

one_below : ¬ (Rose 0 0)
one_below rose = absurd (omega (arith, rose))

pier_read : book_of (file_of pier_lines) ≡ Ok pier_book
    → WasRead (folder_held in_memory pier) (record (bare Stations) { file = Some (codes "f") }) (codes "f")
    (record { book = pier_book; table = []; zone = Utc; certificate = [] })
unfolding table_named zone_named certificate_named
pier_read is = record {
  book = book_there (folder_held in_memory pier) (codes "f") (file_of pier_lines) pier_book refl (leb-true _ _ refl) is;
  table = refl;
  zone = refl;
  certificate = refl;
}

pub pier_answer : book_of (file_of pier_lines) ≡ Ok pier_book
    → question_of_words [] pier_words ≡ Ok (record (bare Stations) { file = Some (codes "f") })
    → HasAnswer [] (folder_held in_memory pier) (pos 15791220) pier_words (text_alone (codes "Ref feet Pier\n"))
unfolding answered stations_text_of text_of_unit
pier_answer is asked = record {
  question = record (bare Stations) { file = Some (codes "f") };
  asked = asked;
  name = codes "f";
  file = refl;
  read = record { book = pier_book; table = []; zone = Utc; certificate = [] };
  files = read_whole (folder_held in_memory pier) (record (bare Stations) { file = Some (codes "f") }) (codes "f") _ (pier_read is);
  unrefused = refl;
}

pub pier_unfailed : question_of_words [] pier_words ≡ Ok (record (bare Stations) { file = Some (codes "f") })
    → NothingFailed in_memory [] pier_words pier pier
pier_unfailed asked = record {
  observable = refl;
  readable = λ asks. refl;
  firm = record { files = refl; clock = λ rose. one_below rose.1 };
  written = λ rose. one_below rose;
}
