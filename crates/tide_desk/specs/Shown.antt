-- The answer to a command line, from the openings of its files and the minute that the clock returned
-- (this project).
use Rattle.std.specs.Prelude.{◌≡◌, ℕ, ℤ, pos, Bool, false, IfErr, if◌then◌else◌, List, [], ◌∷◌, ◌++◌, length, drop, map, Option, Some, None, Result, Ok, Err}
use Rattle.decimal_text.specs.Expected.{◌>>=◌}
use Rattle.question.specs.declared.command.Command.{Command}
use Rattle.question.specs.declared.question.Question.{Question}
use Rattle.report_sheets.specs.Sheets.{SheetSpec}
use Rattle.tide_answer.specs.declared.text.Answer.{Answer}
use Rattle.tide_answer.specs.Answers.{answered_without_files}
use Rattle.tide_edge.specs.Clocks.{ClockState, clock_after}
use Rattle.tide_edge.specs.FileStates.{Opening, openings_of}
use Rattle.tide_fault.specs.declared.fault.Fault.{Fault}
use Rattle.tide_fault.specs.declared.slot.Slot.{Slot}
use Rattle.tide_fault.specs.declared.status.Status.{Status}
use Rattle.tide_fault.specs.declared.status.Status.TheVariants.{NoMemory}
use Rattle.named_files.specs.declared.run_fault.RunFault.{RunFault}
use Rattle.named_files.specs.declared.run_fault.RunFault.TheVariants.{Unread}
use Rattle.named_files.specs.RunFaults.{faulty, refused_over}
use Rattle.named_files.specs.Opened.{failing_file, folders_shown, names_to}
use Rattle.named_files.specs.Readings.{Folders, files_in}
use Rattle.tide_desk.specs.Answers.{answered_over_book, question_of_words, reads_clock, given_with, is_report, refused_from}
use Rattle.tide_desk.specs.Outcomes.{EndsAs, Outputs, Sources}
use Rattle.tide_desk.specs.Workings.Settled.{IsSettled}

-- ---- The answer, if the clock may fail

-- the minute that the clock returned; or a read fault if it returned none, because it failed
abbrev pub minute_given : Option ℤ → Result ℤ RunFault
minute_given None = Err Unread
minute_given (Some minute) = Ok minute

-- the minute that a command is answered for: 0 if it doesn't read the clock, and otherwise what the
-- clock returned, or a read fault if it returned none
abbrev pub minute_read : Command → Option ℤ → Result ℤ RunFault
minute_read command given = if reads_clock command then minute_given given else Ok (pos 0)

-- the answer to a question whose harmonics file is called `name`, with the contents of `folders`;
-- `given` is the minute that the clock, which is read after the files, returned, None if it failed
unfoldable pub shown_over : List SheetSpec → Folders → Option ℤ → Question → List ℕ → Result Answer RunFault
shown_over sheets folders given question name = do
  read ← files_in folders question name
  now ← minute_read question.command given
  refused_over read.table
      (answered_over_book (is_report question.command) sheets read.book read.table question (given_with read now))

-- the answer to a question with the contents of `folders`; the last argument is the name of the
-- harmonics file, None if the question names no file; `given` is the minute that the clock returned,
-- None if it failed
abbrev pub shown_by : List SheetSpec → Folders → Option ℤ → Question → Option (List ℕ) → Result Answer RunFault
shown_by sheets folders given question None = faulty (refused_from (answered_without_files question))
shown_by sheets folders given question (Some name) = shown_over sheets folders given question name

-- the answer to the command line `words`; `folders` has a folder for each kind of file, and `given` is
-- the minute that the clock returned, None if it failed
unfoldable pub answer_shown : List SheetSpec → Folders → Option ℤ → List (List ℕ) → Result Answer RunFault
answer_shown sheets folders given words = do
  question ← faulty (question_of_words sheets words)
  shown_by sheets folders given question question.file

-- ---- The openings and the minute

-- the names of a request's files in the order of reading; if `why` is Some, only up to the file that is
-- the reason why there is no answer
abbrev pub names_by : Question → Option (List ℕ) → Option Slot → List (List ℕ)
names_by question None why = []
names_by question (Some name) why = names_to name question why

-- the names of the files of a command line in the order of reading, up to the file that `why` names, if
-- it does; none if the command line isn't a request
abbrev pub names_wanted : Result Question Fault → Option Slot → List (List ℕ)
names_wanted (Ok question) why = names_by question question.file why
names_wanted (Err fault) why = []

-- the files of a command line, with the contents that `open_log`, the record of opened files, shows
abbrev pub folders_by : Result Question Fault → List Opening → Folders
folders_by (Ok question) open_log = folders_shown question open_log
folders_by (Err fault) open_log = λ slot name. None

-- the readings of a clock between two of its states
abbrev pub readings_between : ClockState → ClockState → List (Option ℤ)
readings_between before after = drop (length before.readings) after.readings

-- the minute that the first of these readings returned; None if it failed or there is none
abbrev pub first_minute : List (Option ℤ) → Option ℤ
first_minute [] = None
first_minute (reading ∷ more) = reading

-- the minute of a clock's first reading between two of its states, or None if this reading failed or
-- there is none
abbrev pub given_between : ClockState → ClockState → Option ℤ
given_between before after = first_minute (readings_between before after)

-- `given`, a minute or None, agrees with these readings: it is what the first of them returned, None if it
-- failed; nothing is said if there is none
abbrev pub Agrees : Option ℤ → List (Option ℤ) → Type 0
Agrees given [] = Unit {0}
Agrees given (reading ∷ more) = reading ≡ given

-- the answer to the command line `words`, from `open_log`, the record of opened files, and from the
-- minute that the clock returned between two of its states
abbrev pub answer_by : List SheetSpec → List (List ℕ) → List Opening → ClockState → ClockState → Result Answer RunFault
answer_by sheets words open_log before after =
    answer_shown sheets (folders_by (question_of_words sheets words) open_log) (given_between before after) words

-- A run ends with the answer to its command line, from the files that it opened and the minute that the
-- clock returned. It opened files only in the order in which they are read, each once, and, unless
-- memory ran out, none after the file that is the reason why there is no answer.
pub record EndsAsShown (sheets : List SheetSpec) (words : List (List ℕ)) (before after : Sources) (status : Status)
    (unwritten written : Outputs) : Type 0 where
  pub open_log : List Opening
  pub all : openings_of after.files.open_log ≡ openings_of before.files.open_log ++ open_log
  pub unopened : List (List ℕ)
  pub names : names_wanted (question_of_words sheets words) None ≡ map (λ o. o.name) open_log ++ unopened
  pub last : ¬ (status ≡ NoMemory) → (behind : List (List ℕ))
      × (names_wanted (question_of_words sheets words) (failing_file (answer_by sheets words open_log before.clock after.clock))
      ≡ map (λ o. o.name) open_log ++ behind)
  pub ends : EndsAs (answer_by sheets words open_log before.clock after.clock) status unwritten written

-- The clock is read after all files, at most once. The fields, for any contents of the files that agree
-- with the bytes that were read of them:
-- - `last`: the clock is unchanged (`unread`) if not all files can be read.
-- - `once`: the clock was read once if all files can be read, the request needs the clock (`asks`), and
--   the result is neither a fault of reading nor of memory.
pub record IsReadLast {T : Type 0} (asks unread : Type 0) (shows : Bool → List Opening → Folders → Type 0) (has_files : Folders → Type 0)
    (before after : Sources) (result : Result T RunFault) : Type 0 where
  pub open_log : List Opening
  pub all : openings_of after.files.open_log ≡ openings_of before.files.open_log ++ open_log
  pub last : (folders : Folders) → shows false open_log folders → ¬ (has_files folders) → unread
  pub once : (folders : Folders) → shows false open_log folders → has_files folders → asks → IfErr result IsSettled
      → (minute : ℤ) × (after.clock ≡ clock_after (Ok minute) before.clock)
