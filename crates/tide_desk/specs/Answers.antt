-- The answer to a command line with files and a clock, and with the sheets of a report (this project).
use Rattle.std.specs.Prelude.{
  ℕ,
  ℤ,
  pos,
  Bool,
  true,
  false,
  IsTrue,
  if◌then◌else◌,
  List,
  [],
  Option,
  Some,
  None,
  Result,
  Ok,
  Err,
  IsOk,
  IsSome,
  slice_get,
  unwrap_or,
}
use Rattle.std.specs.Option.{option_map_or, IsSomeAnd}
use Rattle.std.specs.Result.{IsOkAnd}
use Rattle.decimal_text.specs.Expected.{◌>>=◌}
use Rattle.harmonics_book.specs.declared.book.Book.{Book}
use Rattle.question.specs.declared.command.Command.{Command}
use Rattle.question.specs.declared.command.Command.TheVariants.{Clock, Report}
use Rattle.question.specs.declared.fault.AskFault.{AskFault}
use Rattle.question.specs.declared.fault.AskFault.TheVariants.{UnknownCommand}
use Rattle.question.specs.declared.question.Question.{Question}
use Rattle.question.specs.Questions.{question_of}
use Rattle.question.specs.Words.{asks_to_serve, pairs_of}
use Rattle.report_sheets.specs.declared.head.Head.{Head}
use Rattle.report_sheets.specs.Pages.{missing_of, pages_of}
use Rattle.report_sheets.specs.Sheets.{SheetSpec}
use Rattle.station_table.specs.declared.offsets.Offsets.{Offsets}
use Rattle.tide_fault.specs.declared.fault.Fault.{Fault}
use Rattle.tide_fault.specs.declared.fault.Fault.TheVariants.{Ask, NoSheet, Refused}
use Rattle.tide_fault.specs.declared.refusal.Refusal.{Refusal}
use Rattle.tide_answer.specs.declared.inputs.Given.{Given}
use Rattle.tide_answer.specs.declared.listed.Listed.{Listed}
use Rattle.tide_answer.specs.declared.text.Answer.{Answer}
use Rattle.tide_answer.specs.Answers.{answered, answered_without_files, listed, text_alone}
use Rattle.named_files.specs.declared.run_fault.RunFault.{RunFault}
use Rattle.named_files.specs.RunFaults.{faulty, refused_over}
use Rattle.named_files.specs.declared.materials.Materials.{Materials}
use Rattle.named_files.specs.Readings.{Folders, files_allowed, files_in}
use Rattle.tide_edge.specs.FileStates.{Folder}
use Rattle.tide_edge.specs.Whole.{Allowance, no_file}

-- ---- The arguments

-- what was read from the arguments; or the error of reading them, as a fault of the run
abbrev pub ask_from : {A : Type 0} → Result A AskFault → Result A Fault
ask_from (Ok value) = Ok value
ask_from (Err fault) = Err (Ask fault)

-- the value of a step of an answer; or its refusal, as a fault of the run
abbrev pub refused_from : {A : Type 0} → Result A Refusal → Result A Fault
refused_from (Ok value) = Ok value
refused_from (Err refusal) = Err (Refused refusal)

-- the request of the command line `words`, or the reason why it isn't one; `serve` is an unknown command
-- here
abbrev pub question_in : List (List ℕ) → Result Question AskFault
question_in words = if asks_to_serve words then Err UnknownCommand else question_of (pairs_of words)

-- the words of the sheets that a request names; the empty list if it isn't for a report
abbrev pub wanted_by : Question → List (List ℕ)
wanted_by question = unwrap_or question.sheets []

-- the word of `wanted` at the index `place`, counted from 0; the empty word if there is none
abbrev pub word_at : List (List ℕ) → ℕ → List ℕ
word_at wanted place = unwrap_or (slice_get wanted place) []

-- Ok if `place` is None; otherwise the fault NoSheet with the word of `wanted` at the index `place`,
-- which is the first word that no sheet has
abbrev pub found_in : List (List ℕ) → Option ℕ → Result (Unit {0}) Fault
found_in wanted None = Ok tt
found_in wanted (Some place) = Err (NoSheet (word_at wanted place))

-- the request of the command line `words`, if each sheet that it names is one of `sheets`; otherwise the
-- first fault
unfoldable pub question_of_words : List SheetSpec → List (List ℕ) → Result Question Fault
question_of_words sheets words = do
  question ← ask_from (question_in words)
  known ← found_in (wanted_by question) (missing_of sheets (wanted_by question))
  Ok question

-- a command line is a request, and the request names a harmonics file
abbrev pub NamesFile : Result Question Fault → Type 0
NamesFile parsed_question = IsOkAnd parsed_question (λ question. IsSome question.file)

-- a command line is a request, and the files that it names exist in `folders`, can be read and are in
-- their formats
abbrev pub HasFiles : Folders → Result Question Fault → Type 0
HasFiles folders parsed_question = IsOkAnd parsed_question (λ question. IsSomeAnd question.file (λ name. IsOk (files_in folders question name)))

-- ---- The clock, which is read after all files

-- Bool: whether a command reads the clock: `clock` and `report` do
abbrev pub reads_clock : Command → Bool
reads_clock Clock = true
reads_clock Report = true
reads_clock _ = false

-- the minute that a command is answered for: the present minute if the command reads the clock, and 0
-- otherwise
abbrev pub minute_for : Command → ℤ → ℤ
minute_for command minute = if reads_clock command then minute else pos 0

-- the zone and the certificate that were read, and the minute `now`, as inputs of an answer
abbrev pub given_with : Materials → ℤ → Given
given_with read now = record { zone = read.zone; certificate = read.certificate; now = now }

-- a command line is a request, and its command reads the clock
abbrev pub ReadsClock : Result Question Fault → Type 0
ReadsClock parsed_question = IsOkAnd parsed_question (λ question. IsTrue (reads_clock question.command))

-- ---- The bytes that may be read

-- the number of files that may be opened, and of bytes that may be read, for a request
abbrev pub question_allowed : Question → Allowance
question_allowed question = option_map_or (λ name. files_allowed question) question.file no_file

-- the number of files that may be opened, and of bytes that may be read, for a command line; both 0 if
-- it isn't a request
abbrev pub allowed_by : Result Question Fault → Allowance
allowed_by (Ok question) = question_allowed question
allowed_by (Err fault) = no_file

-- ---- The answer, or the first reason for which there is none

-- Bool: whether a command is `report`, which writes sheets
abbrev pub is_report : Command → Bool
is_report Report = true
is_report _ = false

-- the head of the pages of a report: the station's name, its unit and the present minute `now`
abbrev pub head_of : Listed → ℤ → Head
head_of listed now = record { name = listed.name; units = listed.units; now = now }

-- the answer of the command `report`: the pages of the requested sheets, with the station's events; or
-- the first refusal
unfoldable pub reported : List SheetSpec → Book → List Offsets → Question → ℤ → Result Answer Refusal
reported sheets book table question now = do
  events ← listed book table question
  Ok (text_alone (pages_of sheets (wanted_by question) (head_of events now) events.events))

-- the answer to a question with the constants `book` and the offsets `table`, or the first refusal; the
-- Bool says whether the command is `report`
abbrev pub answered_over_book : Bool → List SheetSpec → Book → List Offsets → Question → Given → Result Answer Refusal
answered_over_book true sheets book table question inputs = reported sheets book table question inputs.now
answered_over_book false sheets book table question inputs = answered book table question inputs

-- the answer to a question whose harmonics file is called `name`, with the contents of `folders`, or the
-- first reason why there is none
unfoldable pub answered_over_file : List SheetSpec → Folders → ℤ → Question → List ℕ → Result Answer RunFault
answered_over_file sheets folders minute question name = do
  read ← files_in folders question name
  refused_over read.table
      (answered_over_book (is_report question.command) sheets read.book read.table question
      (given_with read (minute_for question.command minute)))

-- the answer to a question with the contents of `folders`, or the first reason why there is none; the
-- Option is the name of the harmonics file, None if the question names no file
abbrev pub answered_over_optional_file : List SheetSpec → Folders → ℤ → Question → Option (List ℕ) → Result Answer RunFault
answered_over_optional_file sheets folders minute question None = faulty (refused_from (answered_without_files question))
answered_over_optional_file sheets folders minute question (Some name) = answered_over_file sheets folders minute question name

-- the answer to the command line `words` at the present minute `minute`, or the first reason why there
-- is none; `folders` has a folder for each kind of file
unfoldable pub answer_from : List SheetSpec → Folders → ℤ → List (List ℕ) → Result Answer RunFault
answer_from sheets folders minute words = do
  question ← faulty (question_of_words sheets words)
  answered_over_optional_file sheets folders minute question question.file

-- the answer to a command line, with the files in `folder`, at a present minute; or the first reason why
-- there is none
abbrev pub answer_of : List SheetSpec → Folder → ℤ → List (List ℕ) → Result Answer RunFault
answer_of sheets folder = answer_from sheets (λ slot. folder)
