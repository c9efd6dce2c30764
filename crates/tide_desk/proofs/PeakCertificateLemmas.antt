-- The laws of certificates of a highest water over files and command lines.
use Rattle.std.proofs.Common.{◌≡◌, ℕ, ℤ, List, [], Some, None, Ok, refl, ap, ◌∙◌, arith}
use Rattle.peak_text.specs.PeakSpelling.{SpellsPeak}
use Rattle.question.specs.declared.command.Command.{Command}
use Rattle.question.specs.declared.command.Command.TheVariants.{Highest, Peak, PeakCheck}
use Rattle.question.specs.declared.question.Question.{Question}
use Rattle.question.specs.declared.question.ZoneWord.{ZoneWord}
use Rattle.question.specs.declared.question.ZoneWord.TheVariants as word
use Rattle.report_sheets.specs.Sheets.{SheetSpec}
use Rattle.zone_time.specs.declared.zone.Zone.TheVariants.{Utc}
use Rattle.station_span.specs.declared.span_request.SpanRequest.{SpanRequest}
use Rattle.tide_answer.specs.declared.text.Answer.{Answer}
use Rattle.tide_answer.specs.Answers.{highest, peak_certified, text_by}
use Rattle.tide_answer.specs.Asking.{request_by_peak_certificate}
use Rattle.tide_answer.specs.Laws.{AcceptsListing}
use Rattle.tide_answer.specs.PeakLaws as books
use Rattle.named_files.specs.declared.materials.Materials.{Materials}
use Rattle.named_files.specs.Readings.{zone_named}
use Rattle.tide_desk.specs.Answers.{answered_over_optional_file, given_with, is_report, minute_for}
use Rattle.tide_desk.specs.Laws.{Subject, subject_of}
use Rattle.tide_desk.specs.PeakLaws.{subject_of_peak, AsksHighest, AcceptsWithHighest, AcceptsWhatPeakAnswers, AcceptsOnlyTruePeaks}
use Rattle.tide_edge.specs.FileStates.{Folder}
use Rattle.tide_desk.proofs.AskedLemmas.{NamesSpan, asked_in_range, is_requestable, goes_over_span, names_no_certificate, names_no_zone}
use Rattle.tide_desk.proofs.CheckingLemmas.{IsSubject, accepts_with, checked_files, checks, has_book, named_read, names_subject, shown_over, subject_named, text_at, text_some, was_made}
use Rattle.tide_desk.proofs.FileLemmas.{ReadsFiles, WasRead, certificate_held, named_book, named_table, was_answered}

-- ---- the commands

peak_reads : (question : Question) → question.command ≡ Peak → ReadsFiles question
peak_reads question is = record { alone = λ seed. rw is refl; plain = ap is_report is }

check_reads : (question : Question) → question.command ≡ PeakCheck → ReadsFiles question
check_reads question is = record { alone = λ seed. rw is refl; plain = ap is_report is }

pub utc_named : (folder : Folder) (zone : ZoneWord) → zone ≡ word.Utc → zone_named folder zone ≡ Ok Utc
unfolding zone_named
utc_named folder zone is = rw is refl

-- ---- the highest water of a subject

highest_text : (question : Question) (read : Materials) (minute : ℤ) (name : List ℕ) (span_request : SpanRequest) (shown : Answer)
    → question.command ≡ Highest → NamesSpan question name span_request
    → highest read.book read.table name span_request read.zone ≡ Ok shown
    → text_by question.command read.book read.table question (given_with read (minute_for question.command minute))
    ≡ Ok shown
highest_text question read minute name span_request shown command names is =
    let inputs = given_with read (minute_for question.command minute) in
    ap (λ (c : Command). text_by c read.book read.table question inputs) command
    ∙ goes_over_span question (λ name span_request. highest read.book read.table name span_request read.zone) name span_request names
    ∙ is

reported : (sheets : List SheetSpec) (folder : Folder) (check question : Question) (subject : Subject)
    (file name : List ℕ) (span_request : SpanRequest) (read : Materials) (shown : Answer) (minute : ℤ) → check.file ≡ Some file
    → WasRead folder check file read → IsSubject subject name span_request → highest read.book read.table name span_request Utc
    ≡ Ok shown → AsksHighest check subject question → question.certificate ≡ None
    → answered_over_optional_file sheets (λ slot. folder) minute question question.file ≡ Ok shown
reported sheets folder check question subject file name span_request read shown minute named was about is asks none =
    shown_over sheets folder check question file read Utc shown minute named was (ap is_report asks.command) asks.files
    (utc_named folder question.zone asks.zone) none
    (highest_text question (record read { zone = Utc; certificate = [] }) minute name span_request shown asks.command
    (names_subject question subject name span_request asks.about about) is)

with_highest : (sheets : List SheetSpec) (folder : Folder) (check : Question) (subject : Subject)
    (file name : List ℕ) (span_request : SpanRequest) (read : Materials) (answer : Answer) → check.file ≡ Some file
    → WasRead folder check file read → IsSubject subject name span_request
    → AcceptsListing (highest read.book read.table name span_request Utc) answer
    → AcceptsWithHighest sheets folder check subject answer
with_highest sheets folder check subject file name span_request read answer named was about accepts =
    accepts_with sheets folder (AsksHighest check subject) accepts.0 answer
    (λ words question is asks. names_no_certificate sheets words question Highest refl is asks.command)
    (λ minute question asks none. reported sheets folder check question subject file name span_request read accepts.0 minute
    named was about accepts.1 asks none)
    accepts.2

-- ---- the answer of `peak` is accepted

pub peak_accepted : books.AcceptsWhatPeakCertifies → books.PeakCertifiesInShort → AcceptsWhatPeakAnswers
peak_accepted accepts shortens sheets before after minute later words more peak check certificate asks ok asks_check holds =
    let was = was_made peak_certified sheets before minute words Peak peak certificate (peak_reads peak asks.is)
    (λ book table question inputs. refl) asks ok in
    let book = named_book before was.file was.read.book was.files.book in
    let table = named_table before peak.offsets was.read.table was.files.table in
    let can = is_requestable peak was.name was.span_request (asked_in_range sheets words peak asks.asked) was.names in
    let short = shortens was.read.book was.read.table was.name was.span_request certificate book table can was.text in
    let has = has_book peak_certified before after peak check certificate was holds.file in
    let shown = utc_named after check.zone (names_no_zone sheets more check PeakCheck refl asks_check.asked asks_check.is) in
    let files = checked_files peak_certified before after peak check certificate Utc was has (omega (arith, short)) holds shown in
    let read : Materials = record { book = was.read.book; table = was.read.table; zone = Utc; certificate = certificate.text } in
    let accepted = accepts was.read.book was.read.table was.name was.span_request certificate book table can was.text in (
      accepted.0,
      checks sheets after later more PeakCheck check has.name read accepted.0 refl asks_check has.named files accepted.1,
      with_highest sheets after check (subject_of peak) has.name was.name was.span_request read accepted.0 has.named files
          (subject_named peak was.name was.span_request was.names) accepted.2,
    )

-- ---- an accepted certificate is true

pub peak_true : books.AcceptsOnlyTruePeaks → AcceptsOnlyTruePeaks
peak_true reports sheets folder minute words check answer asks ok accepted =
    let was = was_answered sheets folder minute words check answer asks.asked (check_reads check asks.is) ok in
    let read = was.read in
    let judged = text_at check.command PeakCheck read check (given_with read (minute_for check.command minute)) answer asks.is was.text in
    let is_true = reports read.book read.table read.certificate answer
    (named_book folder was.name read.book was.files.book) (named_table folder check.offsets read.table was.files.table) judged accepted in
    let cert = is_true.certificate in
    let some = text_some SpellsPeak cert read.certificate (λ spelled. spelled) is_true.written in
    record {
      book = read.book;
      table = read.table;
      text = read.certificate;
      file = named_read folder check.file was.name read.book was.file was.files.book;
      offsets = was.files.table;
      held = certificate_held folder check.certificate read.certificate was.files.certificate some;
      is_true = is_true;
      reported = with_highest sheets folder check (subject_of_peak cert) was.name cert.station
          (request_by_peak_certificate cert) read answer was.file was.files
          (record { station = refl; begin = refl; end = refl; mark = refl }) is_true.listing;
    }
