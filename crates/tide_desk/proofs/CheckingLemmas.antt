-- Certificates of any kind over files and command lines: how one is made, how one is held, and the answer
-- of a check.
use Rattle.std.proofs.Common.{◌≡◌, ℕ, ℤ, ◌≤◌, false, List, [], ◌∷◌, ◌++◌, codes, length, length-append, Option, Some, None, Result, Ok, refl, subst, sym, ap, ◌∙◌, arith}
use Rattle.std.specs.Prelude.{IsSomeAnd}
use Rattle.cert_text.specs.Texts.{ended, joined, IsTextBy}
use Rattle.decimal_text.specs.declared.limits.TheConstants.{MOST_BYTES}
use Rattle.harmonics_book.specs.declared.book.Book.{Book}
use Rattle.question.specs.declared.command.Command.{Command}
use Rattle.question.specs.declared.question.Question.{Question}
use Rattle.report_sheets.specs.Sheets.{SheetSpec}
use Rattle.station_table.specs.declared.offsets.Offsets.{Offsets}
use Rattle.zone_time.specs.declared.zone.Zone.{Zone}
use Rattle.station_span.specs.declared.span_request.SpanRequest.{SpanRequest}
use Rattle.tide_fault.specs.declared.refusal.Refusal.{Refusal}
use Rattle.tide_answer.specs.declared.inputs.Given.{Given}
use Rattle.tide_answer.specs.declared.text.Answer.{Answer}
use Rattle.tide_answer.specs.Answers.{asks_span, text_alone, text_by}
use Rattle.named_files.specs.declared.materials.Materials.{Materials}
use Rattle.named_files.specs.Readings.{book_named, table_named, zone_named, certificate_named}
use Rattle.tide_desk.specs.Answers.{answer_of, answered_over_optional_file, question_of_words, given_with, is_report, minute_for}
use Rattle.tide_desk.specs.Laws.{Asks, NameSameFiles, Subject, subject_of, HaveSameBook, HoldsCertificate, AcceptsWith}
use Rattle.tide_edge.specs.FileStates.{Folder}
use Rattle.tide_desk.proofs.AskedLemmas.{NamesSpan, went_over_span}
use Rattle.tide_desk.proofs.FileLemmas.{ReadsFiles, WasRead, certificate_there, is_answered, was_answered, words_answer}

-- ---- the text of a command

pub text_at : (command other : Command) (read : Materials) (question : Question) (inputs : Given) (answer : Answer)
    → command ≡ other → text_by command read.book read.table question inputs ≡ Ok answer
    → text_by other read.book read.table question inputs ≡ Ok answer
text_at command other read question inputs answer same ok =
    subst (λ (c : Command). text_by c read.book read.table question inputs ≡ Ok answer) same ok

-- ---- a subject

-- a subject is the station, the span and the mark
pub record IsSubject (subject : Subject) (name : List ℕ) (span_request : SpanRequest) : Type 0 where
  pub station : subject.station ≡ Some name
  pub begin : subject.begin ≡ Some span_request.begin
  pub end : subject.end ≡ Some span_request.end
  pub mark : subject.mark ≡ span_request.mark

pub names_subject : (question : Question) (subject : Subject) (name : List ℕ) (span_request : SpanRequest)
    → subject_of question ≡ subject → IsSubject subject name span_request → NamesSpan question name span_request
names_subject question subject name span_request same is = record {
  station = ap (λ (s : Subject). s.station) same ∙ is.station;
  begin = ap (λ (s : Subject). s.begin) same ∙ is.begin;
  end = ap (λ (s : Subject). s.end) same ∙ is.end;
  mark = ap (λ (s : Subject). s.mark) same ∙ is.mark;
}

pub subject_named : (question : Question) (name : List ℕ) (span_request : SpanRequest) → NamesSpan question name span_request
    → IsSubject (subject_of question) name span_request
subject_named question name span_request names = record { station = names.station; begin = names.begin; end = names.end; mark = names.mark }

-- ---- a request over the files of a check

-- such a request without a certificate, in a zone that was read
pub shown_over : (sheets : List SheetSpec) (folder : Folder) (check question : Question) (file : List ℕ)
    (read : Materials) (zone : Zone) (shown : Answer) (minute : ℤ) → check.file ≡ Some file
    → WasRead folder check file read → is_report question.command ≡ false → NameSameFiles question check
    → zone_named folder question.zone ≡ Ok zone → question.certificate ≡ None
    → text_by question.command read.book read.table question
    (given_with (record read { zone = zone; certificate = [] }) (minute_for question.command minute)) ≡ Ok shown
    → answered_over_optional_file sheets (λ slot. folder) minute question question.file ≡ Ok shown
unfolding certificate_named
shown_over sheets folder check question file read zone shown minute named was plain files place none text =
    is_answered sheets folder minute question shown plain (record {
      name = file;
      file = files.file ∙ named;
      read = record read { zone = zone; certificate = [] };
      files = record {
        book = was.book;
        table = ap (table_named folder) files.offsets ∙ was.table;
        zone = place;
        certificate = ap (certificate_named folder) none;
      };
      text = text;
    })

-- ---- a certificate that is made

abbrev pub Makes : Type 0
Makes = Book → List Offsets → List ℕ → SpanRequest → Result Answer Refusal

-- the command makes a certificate of a station's span
abbrev pub GoesOver : Command → Makes → Type 0
GoesOver command made = (book : Book) (table : List Offsets) (question : Question) (inputs : Given)
    → text_by command book table question inputs ≡ asks_span question (λ name span_request. made book table name span_request)

-- the station and the span of an answer of the command
pub record IsMade (made : Makes) (folder : Folder) (question : Question) (certificate : Answer) : Type 0 where
  pub file : List ℕ
  pub named : question.file ≡ Some file
  pub read : Materials
  pub files : WasRead folder question file read
  pub name : List ℕ
  pub span_request : SpanRequest
  pub names : NamesSpan question name span_request
  pub text : made read.book read.table name span_request ≡ Ok certificate

pub was_made : (made : Makes) (sheets : List SheetSpec) (folder : Folder) (minute : ℤ) (words : List (List ℕ))
    (command : Command) (question : Question) (certificate : Answer) → ReadsFiles question → GoesOver command made
    → Asks sheets words command question → answer_of sheets folder minute words ≡ Ok certificate
    → IsMade made folder question certificate
was_made made sheets folder minute words command question certificate reads goes asks ok =
    let was = was_answered sheets folder minute words question certificate asks.asked reads ok in
    let inputs = given_with was.read (minute_for question.command minute) in
    let text = text_at question.command command was.read question inputs certificate asks.is was.text in
    let over = went_over_span question (λ name span_request. made was.read.book was.read.table name span_request) certificate
    (sym (goes was.read.book was.read.table question inputs) ∙ text) in
    record {
      file = was.name;
      named = was.file;
      read = was.read;
      files = was.files;
      name = over.0;
      span_request = over.1;
      names = over.2;
      text = over.3;
    }

-- ---- a certificate that is held

-- an option with a value, and a fact of this value
there_and : {A : Type 0} (named : Option A) (P : A → Type 0) → IsSomeAnd named P → (name : A) × (named ≡ Some name) × P name
there_and (Some name) P is = (name, refl, is)
there_and None P is = absurd is

one_name : (named : Option (List ℕ)) (name other : List ℕ) → named ≡ Some name → named ≡ Some other → name ≡ other
one_name named name other is also = cc

-- the harmonic constants of the check, under its own name
pub record HasBook (folder : Folder) (check : Question) (book : Book) : Type 0 where
  pub name : List ℕ
  pub named : check.file ≡ Some name
  pub is : book_named folder name ≡ Ok book

pub has_book : (made : Makes) (before after : Folder) (question check : Question) (certificate : Answer)
    (was : IsMade made before question certificate) → HaveSameBook before after question.file check.file
    → HasBook after check was.read.book
has_book made before after question check certificate was same =
    let there = there_and check.file _ same in
    let here = there_and question.file _ there.2 in
    let name = one_name question.file here.0 was.file here.1 was.named in
    record { name = there.0; named = there.1; is = here.2 ∙ ap (book_named before) name ∙ was.files.book }

-- the files of the check, and the certificate among them
pub checked_files : (made : Makes) (before after : Folder) (question check : Question) (certificate : Answer)
    (zone : Zone) (was : IsMade made before question certificate) (has : HasBook after check was.read.book)
    → length certificate.text ≤ MOST_BYTES → HoldsCertificate before after question check certificate.text
    → zone_named after check.zone ≡ Ok zone → WasRead after check has.name
    (record { book = was.read.book; table = was.read.table; zone = zone; certificate = certificate.text })
checked_files made before after question check certificate zone was has few holds shown = record {
  book = has.is;
  table = holds.offsets ∙ was.files.table;
  zone = shown;
  certificate = certificate_there after check.certificate certificate.text holds.certificate few;
}

-- ---- the answer of a check

pub checks : (sheets : List SheetSpec) (folder : Folder) (minute : ℤ) (words : List (List ℕ)) (command : Command)
    (check : Question) (file : List ℕ) (read : Materials) (answer : Answer) → is_report command ≡ false
    → Asks sheets words command check → check.file ≡ Some file → WasRead folder check file read
    → text_by command read.book read.table check (given_with read (minute_for check.command minute)) ≡ Ok answer
    → answer_of sheets folder minute words ≡ Ok answer
checks sheets folder minute words command check file read answer plain asks named was ok =
    words_answer sheets folder minute words check asks.asked
    ∙ is_answered sheets folder minute check answer (ap is_report asks.is ∙ plain)
    (record {
      name = file;
      file = named;
      read = read;
      files = was;
      text = text_at command check.command read check (given_with read (minute_for check.command minute)) answer (sym asks.is) ok;
    })

-- a request for what is shown names no certificate
pub accepts_with : (sheets : List SheetSpec) (folder : Folder) (asks : Question → Type 0) (shown answer : Answer)
    → ((words : List (List ℕ)) (question : Question) → question_of_words sheets words ≡ Ok question → asks question
    → question.certificate ≡ None) → ((minute : ℤ) (question : Question) → asks question → question.certificate ≡ None
    → answered_over_optional_file sheets (λ slot. folder) minute question question.file ≡ Ok shown)
    → answer ≡ text_alone (codes "Accepted\n" ++ shown.text) → AcceptsWith sheets folder asks answer
accepts_with sheets folder asks shown answer none shows text = record {
  shown = shown;
  text = text;
  to_words = λ minute words question is span_request.
      words_answer sheets folder minute words question is ∙ shows minute question span_request (none words question is span_request);
  to_question = shows;
}

-- ---- a text has at least one byte

lines_some : {C : Type 0} (spells : C → List (List ℕ) → Type 0) (said : C) (lines : List (List ℕ))
    → (spells said [] → ⊥) → spells said lines → joined lines ≡ [] → ⊥
lines_some spells said [] never spelled none = never spelled
lines_some spells said (line ∷ lines) never spelled none =
    let length_none = ap length none in
    omega (arith, length_none, length-append (ended line) (joined lines), length-append line (10 ∷ []))

pub text_some : {C : Type 0} (spells : C → List (List ℕ) → Type 0) (said : C) (text : List ℕ) → (spells said [] → ⊥)
    → IsTextBy spells said text → text ≡ [] → ⊥
text_some spells said text never written none = lines_some spells said written.0 never written.1 (sym written.2 ∙ none)

pub named_read : (folder : Folder) (file : Option (List ℕ)) (name : List ℕ) (book : Book) → file ≡ Some name
    → book_named folder name ≡ Ok book → IsSomeAnd file (λ n. book_named folder n ≡ Ok book)
named_read folder file name book named ok = rw named ok
