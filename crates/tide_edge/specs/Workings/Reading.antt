-- Reading the open file to its end (this project).
use Rattle.std.specs.Prelude.{◌≡◌, ◌↔◌, ◌<◌, ◌≤◌, ◌+◌, ℕ, Bool, true, false, IsTrue, List, length, Option, Some, Result, Ok, Err}
use Rattle.decimal_text.specs.Expected.{Meets, is_outside_fault}
use Rattle.tide_edge.specs.Faults.{faults_after}
use Rattle.tide_edge.specs.FileStates.{FilesState, Opening, Openings, just_opened}
use Rattle.tide_edge.specs.Whole.{Shows, source_of, whole}
use Rattle.tide_edge.specs.declared.files.piece.TheConstants.{PIECE}
use Rattle.tide_edge.specs.declared.files.read_all_fault.ReadAllFault.{ReadAllFault}
use Rattle.tide_edge.specs.declared.files.read_all_fault.ReadAllFault.TheVariants.{TooLong}

-- All bytes that a receiver got, if the result is a success; else the error.
abbrev pub all_taken : List ℕ → Result (Unit {0}) ReadAllFault → Result (List ℕ) ReadAllFault
all_taken bytes (Ok done) = Ok bytes
all_taken bytes (Err fault) = Err fault

-- A call of `open` that succeeded for the file `name`, after which `bytes` were read, and not yet
-- the end.
abbrev pub still_open : List ℕ → List ℕ → Opening
still_open name bytes = record { name = name; is_open = true; bytes = bytes; ends = 0; read_failed = false }

-- The latest call of `open` succeeded, and nothing was read after it.
abbrev pub IsFresh : Openings → Type 0
IsFresh o = (name : List ℕ) × (o.latest ≡ Some (just_opened true name))

-- From `before`, when a file was just opened, to `now`, only this file was read: `bytes` of it, not
-- yet the end. No call failed.
pub record IsSoFar (before now : FilesState) (bytes : List ℕ) : Type 0 where
  pub name : List ℕ
  pub fresh : before.open_log.latest ≡ Some (just_opened true name)
  pub open_log : now.open_log ≡ record before.open_log { latest = Some (still_open name bytes) }
  pub file_contents : now.file_contents ≡ before.file_contents
  pub faults : now.faults ≡ before.faults

-- From `before`, when a file was just opened, to `after`, at most `limit` + 65,536 bytes of it were
-- read, and its end was found at most once. The result is TooLong exactly if more than `limit`
-- bytes were read, and it meets (`Meets`) the expected one for any contents that agree with what
-- was read (`Shows`; `firm` is true if calls on existing files never fail: a failed call then means
-- that there is no file).
pub record HasCome (limit : ℕ) (before after : FilesState) (accepted : List ℕ) (result : Result (Unit {0}) ReadAllFault) : Type 0 where
  pub opening : Opening
  pub fresh : before.open_log.latest ≡ Some (just_opened true opening.name)
  pub open_log : after.open_log ≡ record before.open_log { latest = Some opening }
  pub ends : opening.ends ≤ 1
  pub bytes : length opening.bytes ≤ limit + PIECE
  pub file_contents : after.file_contents ≡ before.file_contents
  pub faults : after.faults ≡ faults_after (is_outside_fault source_of result) before.faults
  pub too_long : (result ≡ Err TooLong) ↔ (limit < length opening.bytes)
  pub answer : (firm : Bool) (file : Option (List ℕ)) → Shows limit firm opening file
      → Meets source_of (IsTrue firm) (whole limit file) (all_taken accepted result)
