-- The laws of certificates of a highest water with files and command lines: `peakcheck` accepts what
-- `peak` returned, and what `peakcheck` accepts is true (this project).
use Rattle.std.specs.Prelude.{◌≡◌, ℕ, ℤ, false, List, Some, None, IsSomeAnd, Ok}
use Rattle.harmonics_book.specs.declared.book.Book.{Book}
use Rattle.peak_text.specs.declared.certificate.PeakCertificate.{PeakCertificate}
use Rattle.question.specs.declared.command.Command.TheVariants.{Highest, Peak, PeakCheck}
use Rattle.question.specs.declared.question.Question.{Question}
use Rattle.question.specs.declared.question.ZoneWord.TheVariants.{Utc}
use Rattle.report_sheets.specs.Sheets.{SheetSpec}
use Rattle.station_table.specs.declared.offsets.Offsets.{Offsets}
use Rattle.tide_answer.specs.declared.text.Answer.{Answer}
use Rattle.tide_answer.specs.PeakLaws.{IsTruePeak}
use Rattle.named_files.specs.Readings.{book_named, table_named}
use Rattle.tide_edge.specs.FileStates.{Folder}
use Rattle.tide_desk.specs.Answers.{answer_of}
use Rattle.tide_desk.specs.Laws.{Asks, NameSameFiles, Subject, subject_of, Holds, HoldsCertificate, AcceptsWith}

-- ---- the requests

-- the station and the span of a certificate of a highest water
abbrev pub subject_of_peak : PeakCertificate → Subject
subject_of_peak certificate = record {
  station = Some certificate.station;
  begin = Some certificate.begin;
  end = Some certificate.end;
  mark = None;
}

-- `question` is a request for the command `highest` about the station and span of `subject`, with the
-- harmonics file and the table of the request `check`, in universal time
pub record AsksHighest (check : Question) (subject : Subject) (question : Question) : Type 0 where
  pub command : question.command ≡ Highest
  pub files : NameSameFiles question check
  pub about : subject_of question ≡ subject
  pub zone : question.zone ≡ Utc

-- ---- the answers

-- the answer is the line `Accepted`, and then what `highest` prints in universal time, with the
-- harmonics file and the table of the request `check`, for a station and span
abbrev pub AcceptsWithHighest : List SheetSpec → Folder → Question → Subject → Answer → Type 0
AcceptsWithHighest sheets folder check subject = AcceptsWith sheets folder (AsksHighest check subject)

-- If `peak` has an answer with the files of the folder `before`, then `peakcheck` accepts its text
-- as a certificate and prints the highest water of its station and span, with the files of any
-- folder `after` that has this text as the certificate, and the same constants and table.
abbrev pub AcceptsWhatPeakAnswers : Type 0
AcceptsWhatPeakAnswers = (sheets : List SheetSpec) (before after : Folder) (minute later : ℤ)
    (words more : List (List ℕ)) (peak check : Question) (certificate : Answer) →
    Asks sheets words Peak peak → answer_of sheets before minute words ≡ Ok certificate →
    Asks sheets more PeakCheck check → HoldsCertificate before after peak check certificate.text →
    (answer : Answer) × (answer_of sheets after later more ≡ Ok answer)
    × AcceptsWithHighest sheets after check (subject_of peak) answer

-- with the harmonics file and the table that `check` names, the file that it names as the certificate is
-- a true certificate, and `answer` has the highest water of this certificate's station and span
pub record IsTruePeakAnswer (sheets : List SheetSpec) (folder : Folder) (check : Question) (answer : Answer) : Type 0 where
  pub book : Book
  pub table : List Offsets
  pub text : List ℕ
  pub file : IsSomeAnd check.file (λ name. book_named folder name ≡ Ok book)
  pub offsets : table_named folder check.offsets ≡ Ok table
  pub held : Holds folder check.certificate text
  pub is_true : IsTruePeak book table text answer
  pub reported : AcceptsWithHighest sheets folder check (subject_of_peak is_true.certificate) answer

-- each certificate that `peakcheck` accepts, however it was made, has the highest water of its
-- station and span
abbrev pub AcceptsOnlyTruePeaks : Type 0
AcceptsOnlyTruePeaks = (sheets : List SheetSpec) (folder : Folder) (minute : ℤ) (words : List (List ℕ))
    (check : Question) (answer : Answer) →
    Asks sheets words PeakCheck check → answer_of sheets folder minute words ≡ Ok answer → answer.rejected ≡ false →
    IsTruePeakAnswer sheets folder check answer
