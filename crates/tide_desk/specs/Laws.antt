-- The laws of certificates with files and command lines: `check` accepts what `certify` returned, and
-- what `check` accepts is true (this project).
use Rattle.std.specs.Prelude.{◌≡◌, ℕ, ℤ, false, List, ◌++◌, codes, Option, Some, None, IsSomeAnd, Ok}
use Rattle.cert_text.specs.declared.certificate.Certificate.{Certificate}
use Rattle.harmonics_book.specs.declared.book.Book.{Book}
use Rattle.question.specs.declared.command.Command.{Command}
use Rattle.question.specs.declared.command.Command.TheVariants.{Predict, Certify, Check}
use Rattle.question.specs.declared.layout.Layout.TheVariants.{Plain}
use Rattle.question.specs.declared.question.Question.{Question}
use Rattle.report_sheets.specs.Sheets.{SheetSpec}
use Rattle.station_table.specs.declared.offsets.Offsets.{Offsets}
use Rattle.zone_time.specs.declared.zone.Zone.{Zone}
use Rattle.tide_answer.specs.declared.text.Answer.{Answer}
use Rattle.tide_answer.specs.Answers.{text_alone}
use Rattle.tide_answer.specs.Laws.{IsTrueCertificate}
use Rattle.tide_desk.specs.Answers.{answer_of, answered_over_optional_file, question_of_words}
use Rattle.named_files.specs.Readings.{book_named, table_named, zone_named}
use Rattle.tide_edge.specs.FileStates.{Folder}

-- ---- the requests

-- the command line `words` is the request `question`, for the command `command`; each sheet that it
-- names is one of `sheets`
pub record Asks (sheets : List SheetSpec) (words : List (List ℕ)) (command : Command) (question : Question) : Type 0 where
  pub asked : question_of_words sheets words ≡ Ok question
  pub is : question.command ≡ command

-- both requests name the same harmonics file, and the same table of offsets or none
pub record NameSameFiles (question other : Question) : Type 0 where
  pub file : question.file ≡ other.file
  pub offsets : question.offsets ≡ other.offsets

-- what a request or a certificate is about: a station, a span and a mark
pub record Subject : Type 0 where
  pub station : Option (List ℕ)
  pub begin : Option ℤ
  pub end : Option ℤ
  pub mark : Option ℤ

-- the station, the span and the mark of a request
abbrev pub subject_of : Question → Subject
subject_of question =
    record { station = question.station; begin = question.begin; end = question.end; mark = question.mark }

-- the station, the span and the mark of a certificate
abbrev pub subject_in : Certificate → Subject
subject_in certificate = record {
  station = Some certificate.station;
  begin = Some certificate.begin;
  end = Some certificate.end;
  mark = certificate.mark;
}

-- `question` is a request to `predict` the station, span and mark of `subject`, as lines of text, with
-- the harmonics file, the table and the zone of the request `check`
pub record AsksListing (check : Question) (subject : Subject) (question : Question) : Type 0 where
  pub command : question.command ≡ Predict
  pub files : NameSameFiles question check
  pub about : subject_of question ≡ subject
  pub zone : question.zone ≡ check.zone
  pub layout : question.layout ≡ Plain

-- ---- the contents of files

-- both names are given, and the harmonic constants under the name `other` in the folder `after` are the
-- same as under the name `named` in the folder `before`
abbrev pub HaveSameBook : Folder → Folder → Option (List ℕ) → Option (List ℕ) → Type 0
HaveSameBook before after named other =
    IsSomeAnd other (λ there. IsSomeAnd named (λ here. book_named after there ≡ book_named before here))

-- a name is given, and the file of this name in the folder has this text
abbrev pub Holds : Folder → Option (List ℕ) → List ℕ → Type 0
Holds folder named text = IsSomeAnd named (λ name. folder name ≡ Some text)

-- with the names of `check`, the folder `after` has the harmonic constants and the table that the folder
-- `before` has with the names of `certify`, and has `text` as the certificate; no table counts as one
-- without rows
pub record HoldsCertificate (before after : Folder) (certify check : Question) (text : List ℕ) : Type 0 where
  pub file : HaveSameBook before after certify.file check.file
  pub offsets : table_named after check.offsets ≡ table_named before certify.offsets
  pub certificate : Holds after check.certificate text

-- ---- the answers

-- `answer` is the line `Accepted` and then the text `shown`, which is the answer, with the files of
-- `folder`, to each request that meets the condition `asks`, from a command line or without one
pub record AcceptsWith (sheets : List SheetSpec) (folder : Folder) (asks : Question → Type 0) (answer : Answer) : Type 0 where
  pub shown : Answer
  pub text : answer ≡ text_alone (codes "Accepted\n" ++ shown.text)
  pub to_words : (minute : ℤ) (words : List (List ℕ)) (question : Question) →
      question_of_words sheets words ≡ Ok question → asks question → answer_of sheets folder minute words ≡ Ok shown
  pub to_question : (minute : ℤ) (question : Question) →
      asks question → question.certificate ≡ None
      → answered_over_optional_file sheets (λ slot. folder) minute question question.file ≡ Ok shown

-- the answer is the line `Accepted`, and then what `predict` prints, with the files and in the zone of
-- the request `check`, for a station, span and mark
abbrev pub AcceptsWithListing : List SheetSpec → Folder → Question → Subject → Answer → Type 0
AcceptsWithListing sheets folder check subject = AcceptsWith sheets folder (AsksListing check subject)

-- If `certify` has an answer with the files of the folder `before`, then `check` accepts its text
-- as a certificate and lists the events of its station, span and mark, with the files of any folder
-- `after` that has this text as the certificate, the same constants and table, and the zone of
-- `check`.
abbrev pub AcceptsWhatCertifyAnswers : Type 0
AcceptsWhatCertifyAnswers = (sheets : List SheetSpec) (before after : Folder) (minute later : ℤ)
    (words more : List (List ℕ)) (certify check : Question) (certificate : Answer) (zone : Zone) →
    Asks sheets words Certify certify → answer_of sheets before minute words ≡ Ok certificate →
    Asks sheets more Check check → HoldsCertificate before after certify check certificate.text →
    zone_named after check.zone ≡ Ok zone →
    (answer : Answer) × (answer_of sheets after later more ≡ Ok answer)
    × AcceptsWithListing sheets after check (subject_of certify) answer

-- with the harmonics file, the table and the zone that `check` names, the file that it names as the
-- certificate is a true certificate, and `answer` lists the events of this certificate's station, span
-- and mark
pub record IsTrueAnswer (sheets : List SheetSpec) (folder : Folder) (check : Question) (answer : Answer) : Type 0 where
  pub book : Book
  pub table : List Offsets
  pub zone : Zone
  pub text : List ℕ
  pub file : IsSomeAnd check.file (λ name. book_named folder name ≡ Ok book)
  pub offsets : table_named folder check.offsets ≡ Ok table
  pub shown : zone_named folder check.zone ≡ Ok zone
  pub held : Holds folder check.certificate text
  pub is_true : IsTrueCertificate book table text zone answer
  pub listing : AcceptsWithListing sheets folder check (subject_in is_true.certificate) answer

-- each certificate that `check` accepts, however it was made, has exactly the events of its
-- station, span and mark
abbrev pub AcceptsOnlyTrueCertificates : Type 0
AcceptsOnlyTrueCertificates = (sheets : List SheetSpec) (folder : Folder) (minute : ℤ) (words : List (List ℕ))
    (check : Question) (answer : Answer) →
    Asks sheets words Check check → answer_of sheets folder minute words ≡ Ok answer → answer.rejected ≡ false →
    IsTrueAnswer sheets folder check answer
