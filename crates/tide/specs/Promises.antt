-- The contract of the program, over objects of any kind (this project).
use Rattle.std.specs.Prelude.{◌≡◌, ◌⊎◌, ℕ, Bool, List, [], ◌∷◌, IsSome, IfSome}
use Rattle.ical_sheet.specs.Calendars.{ical_sheet}
use Rattle.report_sheets.specs.Listings.{first_sheet}
use Rattle.report_sheets.specs.Ranges.{range_sheet}
use Rattle.report_sheets.specs.Sheets.{SheetSpec}
use Rattle.report_sheets.specs.Tallies.{tally_sheet}
use Rattle.tide_desk.specs.Outcomes.{EndsAs, outputs}
use Rattle.tide_desk.specs.Promises.{AnswersAs, objects, states}
use Rattle.tide_edge.specs.Clocks.{ClockState}
use Rattle.tide_edge.specs.Doors.{DoorState, no_connections, not_listening}
use Rattle.tide_edge.specs.FileStates.{FilesState, no_openings}
use Rattle.tide_edge.specs.SinkStates.{SinkState, Wrote}
use Rattle.tide_fault.specs.declared.status.Status.{Status}
use Rattle.tide_fault.specs.declared.status.Status.TheVariants.{NoMemory}
use Rattle.tide_server.specs.Promises.{ServesAs, services, service_states}
use Rattle.tide.specs.ArgumentErrors.{Given, HasWords, LacksWords, line_of, status_of}
use Rattle.tide.specs.Pages.{AsksAnswer, AsksService, page_answer, page_of}
use Rattle.tide.specs.declared.arguments.ArgumentError.{ArgumentError}

-- the sheets that a report can have, in the order of their pages, each with the greatest number of
-- events that it accepts
abbrev pub program_sheets : List SheetSpec
program_sheets = tally_sheet 1000000 ∷ range_sheet 1000000 ∷ first_sheet 10 ∷ ical_sheet 100000 ∷ []

-- the files, the port (`door`), the standard output, the standard error and the clock of a run of the
-- program, each of any type
pub record World (F D O E K : Type 0) : Type 0 where
  pub files : F
  pub door : D
  pub out : O
  pub err : E
  pub clock : K

-- files, a port, standard output, standard error and a clock as one record
abbrev pub world : {F D O E K : Type 0} → F → D → O → E → K → World F D O E K
world files door out err clock = record { files = files; door = door; out = out; err = err; clock = clock }

-- functions that give the states of the files, the port, both outputs and the clock, each of any type
pub record WorldStates (F D O E K : Type 0) : Type 0 where
  pub files : F → FilesState
  pub door : D → DoorState
  pub out : O → SinkState
  pub err : E → SinkState
  pub clock : K → ClockState

-- the functions that give the states of files, a port, two outputs and a clock, as one record
abbrev pub world_states : {F D O E K : Type 0} → (F → FilesState) → (D → DoorState) → (O → SinkState) → (E → SinkState) → (K → ClockState)
    → WorldStates F D O E K
world_states files door out err clock = record { files = files; door = door; out = out; err = err; clock = clock }

-- The program responds to the arguments `words`: it prints its help or its version, or serves, or
-- answers a request. Help and version are written without allocating and use no files, port or clock; an
-- answer doesn't use the port; and serving doesn't use `out`.
pub record RespondsAs {F D O E K : Type 0} (s : WorldStates F D O E K) (sheets : List SheetSpec)
    (words : List (List ℕ)) (status : Status)
    (before after : World F D O E K) : Type 0 where
  pub page : IfSome (page_of words) (λ page. EndsAs (page_answer page) status
      (outputs (s.out before.out) (s.err before.err)) (outputs (s.out after.out) (s.err after.err)))
  pub page_memory : IsSome (page_of words) → ¬ (status ≡ NoMemory)
  pub page_alone : IsSome (page_of words) → (after.files ≡ before.files) × (after.door ≡ before.door) × (after.clock ≡ before.clock)
  pub answer : AsksAnswer words → AnswersAs (states s.files s.out s.err s.clock) sheets words status
      (objects before.files before.out before.err before.clock) (objects after.files after.out after.err after.clock)
  pub same_door : AsksAnswer words → after.door ≡ before.door
  pub service : AsksService words → ServesAs (service_states s.files s.door s.err s.clock) words status
      (services before.files before.door before.err before.clock) (services after.files after.door after.err after.clock)
  pub same_out : AsksService words → after.out ≡ before.out

-- ---- The program's arguments

-- The arguments can't be used: one line on standard error and the exit status say why, and nothing else
-- is used.
pub record RefusesAs {F D O E K : Type 0} (s : WorldStates F D O E K) (why : ArgumentError) (status : Status)
    (before after : World F D O E K)
    : Type 0 where
  pub says : status ≡ status_of why
  pub failed : Bool
  pub line : Wrote (s.err before.err) (s.err after.err) failed (line_of why)
  pub same_files : after.files ≡ before.files
  pub same_door : after.door ≡ before.door
  pub same_out : after.out ≡ before.out
  pub same_clock : after.clock ≡ before.clock

-- The program responds to its arguments, with its four sheets for a report; or the arguments can't be
-- used, or there is no memory for the sheets, and it says so.
abbrev pub AnswersArguments : {F D O E K A : Type 0} → WorldStates F D O E K → Given A → Status → World F D O E K → World F D O E K → Type 0
AnswersArguments s arguments status before after =
    ((words : List (List ℕ)) × HasWords arguments words × RespondsAs s program_sheets words status before after)
    ⊎ ((why : ArgumentError) × LacksWords arguments why × RefusesAs s why status before after)

-- ---- The machine

-- nothing was done yet: no file was opened, nothing was written, the clock wasn't read, the port wasn't
-- listened to, and no fault was counted
pub record IsFresh {F D O E K : Type 0} (s : WorldStates F D O E K) (w : World F D O E K) : Type 0 where
  pub open_log : (s.files w.files).open_log ≡ no_openings
  pub files_faults : (s.files w.files).faults ≡ 0
  pub listener_state : (s.door w.door).listener_state ≡ not_listening
  pub connections : (s.door w.door).connections ≡ no_connections
  pub door_faults : (s.door w.door).faults ≡ 0
  pub line_faults : (s.door w.door).line_faults ≡ 0
  pub out : s.out w.out ≡ record { accepted = []; faults = 0 }
  pub err : s.err w.err ≡ record { accepted = []; faults = 0 }
  pub clock_read : (s.clock w.clock).readings ≡ []
  pub clock_faults : (s.clock w.clock).faults ≡ 0

-- There are files, a port, two outputs and a clock, unused before the run and in the states `after` it,
-- with which the program responds to its arguments. The two outputs meet the conditions `is_out` and
-- `is_err`, that is, write to the streams that were passed.
abbrev pub AnswersOver : {F D O E K A : Type 0} → WorldStates F D O E K → (O → Type 0) → (E → Type 0) → Given A → Status → Type 0
AnswersOver {F} {D} {O} {E} {K} s is_out is_err arguments status =
    (before : World F D O E K) × (after : World F D O E K) × IsFresh s before × is_out before.out × is_err before.err
    × AnswersArguments s arguments status before after
