-- Answers over the pier's file, by the request of the arguments and its answer.
use Rattle.std.proofs.Common.{◌≡◌, ℕ, pos, List, [], Some, None, Ok, refl, ap, ◌∙◌}
use Rattle.std.specs.Prelude.{codes}
use Rattle.std.specs.List.{slice_split}
use Rattle.harmonics_book.specs.Worked.{pier_book}
use Rattle.harmonics_text.specs.Worked.{file_of, pier_lines}
use Rattle.harmonics_text.proofs.Worked.{pier_is}
use Rattle.named_files.specs.declared.materials.Materials.{Materials}
use Rattle.named_files.specs.Readings.{book_named, certificate_named, files_in, table_named, zone_named}
use Rattle.question.specs.declared.question.Question.{Question}
use Rattle.question.specs.declared.question.ZoneWord.TheVariants as words
use Rattle.question.specs.Worked.{is_space}
use Rattle.report_sheets.specs.Sheets.{SheetSpec}
use Rattle.tide_answer.specs.declared.text.Answer.{Answer}
use Rattle.tide_desk.specs.Answers.{answer_of, answered_over_optional_file, answered_over_file, answered_over_book, question_of_words, given_with, is_report, minute_for}
use Rattle.tide_desk.proofs.FileLemmas.{words_answer}
use Rattle.tide_edge.specs.FileStates.{Folder}
use Rattle.zone_time.specs.declared.zone.Zone.TheVariants as zones
use Rattle.command_laws.specs.Worked.{pier_answer}

abbrev pub pier_folder : Folder
pier_folder = λ name. Some (file_of pier_lines)

abbrev pub pier_read : Materials
pier_read = record { book = pier_book; table = []; zone = zones.Utc; certificate = [] }

-- a request that names only the file
pub record NamesPier (question : Question) : Type 0 where
  pub file : question.file ≡ Some (codes "p")
  pub offsets : question.offsets ≡ None
  pub zone : question.zone ≡ words.Utc
  pub certificate : question.certificate ≡ None

reads_pier : (folder : Folder) (question : Question) → folder (codes "p") ≡ Some (file_of pier_lines)
    → NamesPier question → files_in (λ slot. folder) question (codes "p") ≡ Ok pier_read
unfolding files_in book_named table_named zone_named certificate_named
reads_pier folder question held names = rw (names.offsets, names.zone, names.certificate, held, pier_is) refl

over_pier : (sheets : List SheetSpec) (folder : Folder) (question : Question) (answer : Answer) → folder (codes "p")
    ≡ Some (file_of pier_lines) → NamesPier question → answered_over_book (is_report question.command) sheets pier_book
    [] question (given_with pier_read (minute_for question.command (pos 0))) ≡ Ok answer
    → answered_over_file sheets (λ slot. folder) (pos 0) question (codes "p") ≡ Ok answer
unfolding answered_over_file
over_pier sheets folder question answer held names text = rw (reads_pier folder question held names, text) refl

-- the answer in a folder that has the pier's file under this name
pub answers_over : (sheets : List SheetSpec) (folder : Folder) (said : List (List ℕ)) (question : Question)
    (answer : Answer) → folder (codes "p") ≡ Some (file_of pier_lines) → question_of_words sheets said ≡ Ok question
    → NamesPier question → answered_over_book (is_report question.command) sheets pier_book [] question
    (given_with pier_read (minute_for question.command (pos 0))) ≡ Ok answer
    → answer_of sheets folder (pos 0) said ≡ Ok answer
answers_over sheets folder said question answer held asked names text =
    words_answer sheets folder (pos 0) said question asked
    ∙ ap (answered_over_optional_file sheets (λ slot. folder) (pos 0) question) names.file
    ∙ over_pier sheets folder question answer held names text

pub pier_answers : (sheets : List SheetSpec) (said : List ℕ) (question : Question) (answer : Answer)
    → question_of_words sheets (slice_split is_space said) ≡ Ok question → NamesPier question
    → answered_over_book (is_report question.command) sheets pier_book [] question
    (given_with pier_read (minute_for question.command (pos 0))) ≡ Ok answer → pier_answer sheets said ≡ Ok answer
pier_answers sheets said question answer asked names text =
    answers_over sheets pier_folder (slice_split is_space said) question answer refl asked names text
