-- The laws of certificates over files and command lines.
use Rattle.std.proofs.Common.{◌≡◌, ℕ, ℤ, List, [], Some, None, Ok, refl, ap, ◌∙◌, arith}
use Rattle.cert_text.specs.Spelling.{Spells}
use Rattle.question.specs.declared.command.Command.{Command}
use Rattle.question.specs.declared.command.Command.TheVariants.{Predict, Certify, Check}
use Rattle.question.specs.declared.layout.Layout.{Layout}
use Rattle.question.specs.declared.layout.Layout.TheVariants.{Plain}
use Rattle.question.specs.declared.question.Question.{Question}
use Rattle.report_sheets.specs.Sheets.{SheetSpec}
use Rattle.station_span.specs.declared.span_request.SpanRequest.{SpanRequest}
use Rattle.tide_answer.specs.declared.text.Answer.{Answer}
use Rattle.tide_answer.specs.Answers.{certified, predicted, text_by}
use Rattle.tide_answer.specs.Asking.{request_by_certificate}
use Rattle.tide_answer.specs.Laws as books
use Rattle.named_files.specs.declared.materials.Materials.{Materials}
use Rattle.named_files.specs.Readings.{zone_named}
use Rattle.tide_desk.specs.Answers.{answered_over_optional_file, given_with, is_report, minute_for}
use Rattle.tide_desk.specs.Laws.{Subject, subject_in, subject_of, AsksListing, AcceptsWithListing, AcceptsWhatCertifyAnswers, AcceptsOnlyTrueCertificates}
use Rattle.tide_edge.specs.FileStates.{Folder}
use Rattle.tide_desk.proofs.AskedLemmas.{NamesSpan, asked_in_range, is_requestable, goes_over_span, names_no_certificate}
use Rattle.tide_desk.proofs.CheckingLemmas.{IsSubject, accepts_with, checked_files, checks, has_book, named_read, names_subject, shown_over, subject_named, text_at, text_some, was_made}
use Rattle.tide_desk.proofs.FileLemmas.{ReadsFiles, WasRead, certificate_held, named_book, named_table, was_answered}

-- ---- the commands

certify_reads : (question : Question) → question.command ≡ Certify → ReadsFiles question
certify_reads question is = record { alone = λ seed. rw is refl; plain = ap is_report is }

check_reads : (question : Question) → question.command ≡ Check → ReadsFiles question
check_reads question is = record { alone = λ seed. rw is refl; plain = ap is_report is }

-- ---- the listing of a subject

listing_text : (question : Question) (read : Materials) (minute : ℤ) (name : List ℕ) (span_request : SpanRequest) (listing : Answer)
    → question.command ≡ Predict → question.layout ≡ Plain → NamesSpan question name span_request
    → predicted read.book read.table name span_request Plain read.zone ≡ Ok listing
    → text_by question.command read.book read.table question (given_with read (minute_for question.command minute))
    ≡ Ok listing
listing_text question read minute name span_request listing command layout names is =
    let inputs = given_with read (minute_for question.command minute) in
    ap (λ (c : Command). text_by c read.book read.table question inputs) command
    ∙ goes_over_span question (λ name span_request. predicted read.book read.table name span_request question.layout read.zone) name span_request names
    ∙ ap (λ (l : Layout). predicted read.book read.table name span_request l read.zone) layout
    ∙ is

listed : (sheets : List SheetSpec) (folder : Folder) (check question : Question) (subject : Subject)
    (file name : List ℕ) (span_request : SpanRequest) (read : Materials) (listing : Answer) (minute : ℤ) → check.file ≡ Some file
    → WasRead folder check file read → IsSubject subject name span_request
    → predicted read.book read.table name span_request Plain read.zone ≡ Ok listing → AsksListing check subject question
    → question.certificate ≡ None
    → answered_over_optional_file sheets (λ slot. folder) minute question question.file ≡ Ok listing
listed sheets folder check question subject file name span_request read listing minute named was about is asks none =
    shown_over sheets folder check question file read read.zone listing minute named was
    (ap is_report asks.command) asks.files (ap (zone_named folder) asks.zone ∙ was.zone) none
    (listing_text question (record read { certificate = [] }) minute name span_request listing asks.command asks.layout
    (names_subject question subject name span_request asks.about about) is)

with_listing : (sheets : List SheetSpec) (folder : Folder) (check : Question) (subject : Subject)
    (file name : List ℕ) (span_request : SpanRequest) (read : Materials) (answer : Answer) → check.file ≡ Some file
    → WasRead folder check file read → IsSubject subject name span_request
    → books.AcceptsListing (predicted read.book read.table name span_request Plain read.zone) answer
    → AcceptsWithListing sheets folder check subject answer
with_listing sheets folder check subject file name span_request read answer named was about accepts =
    accepts_with sheets folder (AsksListing check subject) accepts.0 answer
    (λ words question is asks. names_no_certificate sheets words question Predict refl is asks.command)
    (λ minute question asks none. listed sheets folder check question subject file name span_request read accepts.0 minute
    named was about accepts.1 asks none)
    accepts.2

-- ---- the answer of `certify` is accepted

pub certified_accepted : books.AcceptsWhatIsCertified → books.CertifiesInShort → AcceptsWhatCertifyAnswers
certified_accepted accepts shortens sheets before after minute later words more certify check certificate zone asks ok
    asks_check holds shown =
    let was = was_made certified sheets before minute words Certify certify certificate (certify_reads certify asks.is)
    (λ book table question inputs. refl) asks ok in
    let book = named_book before was.file was.read.book was.files.book in
    let table = named_table before certify.offsets was.read.table was.files.table in
    let can = is_requestable certify was.name was.span_request (asked_in_range sheets words certify asks.asked) was.names in
    let short = shortens was.read.book was.read.table was.name was.span_request certificate book table can was.text in
    let has = has_book certified before after certify check certificate was holds.file in
    let files = checked_files certified before after certify check certificate zone was has (omega (arith, short)) holds shown in
    let read : Materials = record { book = was.read.book; table = was.read.table; zone = zone; certificate = certificate.text } in
    let accepted = accepts was.read.book was.read.table was.name was.span_request zone certificate book table can was.text in (
      accepted.0,
      checks sheets after later more Check check has.name read accepted.0 refl asks_check has.named files accepted.1,
      with_listing sheets after check (subject_of certify) has.name was.name was.span_request read accepted.0 has.named files
          (subject_named certify was.name was.span_request was.names) accepted.2,
    )

-- ---- an accepted certificate is true

pub accepted_true : books.AcceptsOnlyWhatIsTrue → AcceptsOnlyTrueCertificates
accepted_true reports sheets folder minute words check answer asks ok accepted =
    let was = was_answered sheets folder minute words check answer asks.asked (check_reads check asks.is) ok in
    let read = was.read in
    let judged = text_at check.command Check read check (given_with read (minute_for check.command minute)) answer asks.is was.text in
    let is_true = reports read.book read.table read.certificate read.zone answer
    (named_book folder was.name read.book was.files.book) (named_table folder check.offsets read.table was.files.table) judged accepted in
    let cert = is_true.certificate in
    let some = text_some Spells cert read.certificate (λ spelled. spelled) is_true.written in
    record {
      book = read.book;
      table = read.table;
      zone = read.zone;
      text = read.certificate;
      file = named_read folder check.file was.name read.book was.file was.files.book;
      offsets = was.files.table;
      shown = was.files.zone;
      held = certificate_held folder check.certificate read.certificate was.files.certificate some;
      is_true = is_true;
      listing = with_listing sheets folder check (subject_in cert) was.name cert.station
          (request_by_certificate cert) read answer was.file was.files
          (record { station = refl; begin = refl; end = refl; mark = refl }) is_true.listing;
    }
