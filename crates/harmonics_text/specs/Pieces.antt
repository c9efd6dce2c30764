-- The fault of a harmonics file that its first bytes determine, whatever bytes follow (this
-- project).
use Rattle.std.specs.Prelude.{
  ◌≡◌,
  ℕ,
  ◌++◌,
  nat_lt,
  if◌then◌else◌,
  List,
  [],
  ◌∷◌,
  length,
  take,
  count_by,
  Option,
  Some,
  None,
  Result,
  Ok,
  Err,
}
use Rattle.std.specs.List.{after_last}
use Rattle.harmonics_text.specs.declared.fault.BookFault.{BookFault}
use Rattle.harmonics_text.specs.declared.fault.BookFault.TheVariants.{NoMemory}
use Rattle.harmonics_text.specs.declared.fault.BookFault.TheVariants as faults
use Rattle.harmonics_text.specs.Lines.{is_lf, is_comment, cut, numbered, kept}
use Rattle.harmonics_text.specs.Reading.{At, book}

-- the lines that have ended within a file's first bytes, which are those with an LF after them;
-- each is given without its LF
unfoldable pub ended_lines : List ℕ → List (List ℕ)
ended_lines bytes = take (count_by is_lf bytes) (cut bytes)

-- the line that has not ended: the bytes after the last LF
unfoldable pub pending_line : List ℕ → List ℕ
pending_line bytes = after_last is_lf bytes

-- the number of a file's first bytes that are after the last LF among them, or 0 if they are a
-- comment; without an LF, all are counted
unfoldable pub pending_length : List ℕ → ℕ
pending_length bytes = if is_comment (pending_line bytes) then 0 else length (pending_line bytes)

-- the lines of a file's first bytes that further bytes can't mend: each line that ends with an LF,
-- and the bytes after the last LF if they have more than 4,096 bytes and aren't a comment
unfoldable pub judged_lines : List ℕ → List (List ℕ)
judged_lines bytes = ended_lines bytes ++ (if nat_lt 4096 (pending_length bytes) then pending_line bytes ∷ [] else [])

-- the fault of a part of a file; None if the part has no fault, or if only its last lines are
-- missing
abbrev pub fault_in : {A : Type 0} → Result A (Option At) → Option At
fault_in (Ok x) = None
fault_in (Err fault) = fault

-- the fault of the first bad line in a file's first bytes; None if no line that has ended is bad
-- and the line after it isn't too long
unfoldable pub fault_so_far : List ℕ → Option At
fault_so_far bytes = fault_in (book (kept (numbered 1 (judged_lines bytes))))

-- `ReturnsFault result fault`: true if the function's result is the error `fault`, or success if
-- `fault` is None, or if it is the error NoMemory (memory ran out)
abbrev pub ReturnsFault : Result (Unit {0}) BookFault → Option At → Type 0
ReturnsFault (Ok x) fault = fault ≡ None
ReturnsFault (Err NoMemory) fault = Unit {0}
ReturnsFault (Err (faults.At line why)) fault = fault ≡ Some (record { line = line; why = why })

-- the value of a reader in contracts: all bytes that it was fed, and the fault that it returned, or
-- None
pub record Fed : Type 0 where
  pub bytes : List ℕ
  pub fault : Option BookFault
