-- The expected result of reading a whole file, and a bound on what is opened and read for it (this
-- project).
use Rattle.std.specs.Prelude.{
  ◌≡◌,
  ◌⊎◌,
  ◌<◌,
  ◌≤◌,
  ◌+◌,
  ℕ,
  Bool,
  false,
  IsTrue,
  not,
  nat_le,
  nat_lt,
  ◌&&◌,
  ◌||◌,
  if◌then◌else◌,
  List,
  [],
  ◌++◌,
  length,
  sum_by,
  Option,
  Some,
  None,
  Result,
  Ok,
  Err,
}
use Rattle.decimal_text.specs.Expected.{Source, Meets, memory, outside, given}
use Rattle.tide_edge.specs.Faults.{faults_after}
use Rattle.tide_edge.specs.FileStates.{FilesState, Opening, Openings, openings_of}
use Rattle.tide_edge.specs.declared.files.read_all_fault.ReadAllFault.{ReadAllFault}
use Rattle.tide_edge.specs.declared.files.read_all_fault.ReadAllFault.TheVariants.{Failed, TooLong, NoMemory}
use Rattle.tide_edge.specs.declared.files.piece.TheConstants.{PIECE}

-- The expected result of reading a whole file with these contents (None if there is no such file):
-- its bytes if there are at most `limit`, else TooLong; Failed if there is no file.
abbrev pub whole : ℕ → Option (List ℕ) → Result (List ℕ) ReadAllFault
whole limit None = Err Failed
whole limit (Some bytes) = (if nat_le (length bytes) limit then Ok bytes else Err TooLong)

-- True if enough of a file was read after a call of `open` to know the result: the file was opened,
-- and its end was found or more than `limit` bytes were read.
abbrev pub is_read_out : ℕ → Opening → Bool
is_read_out limit opening = opening.is_open && (nat_lt 0 opening.ends || nat_lt limit (length opening.bytes))

-- The contents that a call of `open` and the reads after it show: the bytes read, if the end was
-- found or they are more than `limit`. Otherwise None, as if there were no file: it couldn't be
-- opened, or not read far enough.
abbrev pub as_came : ℕ → Opening → Option (List ℕ)
as_came limit opening = if is_read_out limit opening then Some opening.bytes else None

-- The contents `file` (None if there is no file) agree with what was read after a call of `open`.
-- If enough was read to know the result (the end, or more than `limit` bytes), they begin with the
-- bytes read, and equal them if the end was found. If too little was read, and opening or a read
-- failed, there is no file, provided that `firm` is true: calls on existing files never fail. If
-- `firm` is false, such a failure says nothing about the file.
pub record Shows (limit : ℕ) (firm : Bool) (opening : Opening) (file : Option (List ℕ)) : Type 0 where
  pub read : IsTrue (is_read_out limit opening)
      → (left : List ℕ) × (file ≡ Some (opening.bytes ++ left)) × (0 < opening.ends → left ≡ [])
  pub absent : IsTrue firm → is_read_out limit opening ≡ false → IsTrue (not opening.is_open || opening.read_failed) → file ≡ None

-- `HasPassed limit before after`: between the states `before` and `after` of the log of opened
-- files, `open` was called exactly once, and more than `limit` bytes were read after this call.
abbrev pub HasPassed : ℕ → Openings → Openings → Type 0
HasPassed limit before after =
    (opening : Opening) × (after ≡ record { earlier = openings_of before; latest = Some opening }) × (limit < length opening.bytes)

-- The cause of each error of reading a whole file: a failed call on the files, a file that is too
-- long, or memory that ran out.
abbrev pub source_of : ReadAllFault → Source
source_of Failed = outside
source_of TooLong = given
source_of NoMemory = memory

-- A limit on reading: the most files that may be opened, and the most bytes that may be read of
-- them.
pub record Allowance : Type 0 where
  pub files : ℕ
  pub bytes : ℕ

-- The limit that allows opening no file and reading no byte.
abbrev pub no_file : Allowance
no_file = record { files = 0; bytes = 0 }

-- The limit that allows opening one file and reading at most `limit` bytes and 65,536 more.
abbrev pub one_file : ℕ → Allowance
one_file limit = record { files = 1; bytes = limit + PIECE }

-- The sum of two limits on reading: of the numbers of files, and of the numbers of bytes.
abbrev pub both : Allowance → Allowance → Allowance
both first second = record { files = first.files + second.files; bytes = first.bytes + second.bytes }

-- From `before` to `after`, files were read within the limit `allowed`: there were at most
-- `allowed.files` calls of `open`, at most `allowed.files` ends of files were found, and at most
-- `allowed.bytes` bytes were read. If `failed` is true, the count of failures is one more (up to
-- the greatest `u64`), else it is the same. The contents of the files are unchanged.
pub record ReadWithin (allowed : Allowance) (failed : Bool) (before after : FilesState) : Type 0 where
  pub open_log : List Opening
  pub all : openings_of after.open_log ≡ openings_of before.open_log ++ open_log
  pub opens : length open_log ≤ allowed.files
  pub ends : sum_by (λ o. o.ends) open_log ≤ allowed.files
  pub bytes : sum_by (λ o. length o.bytes) open_log ≤ allowed.bytes
  pub file_contents : after.file_contents ≡ before.file_contents
  pub faults : after.faults ≡ faults_after failed before.faults

-- The result is an error, and by the function `source` its cause is that memory ran out.
abbrev pub IsOutOfMemory : {T E : Type 0} → (E → Source) → Result T E → Type 0
IsOutOfMemory source (Ok value) = ⊥
IsOutOfMemory source (Err fault) = source fault ≡ memory

-- `OpenedOnce source expected limit name before after result`: between the states `before` and
-- `after` of the log of opened files, either memory ran out before any call of `open`; or `open`
-- was called once, for `name`, and the result meets (`Meets`) what `expected` gives for any
-- contents of the file that agree with what was read (`Shows`: its end, or more than `limit` bytes,
-- are enough to know the result). Here `firm` is true if calls on existing files never fail: a
-- failed call then means that there is no file. If it is false, a failed call says nothing about
-- the file. `source` gives the cause of an error.
abbrev pub OpenedOnce : {T E : Type 0} → (E → Source) → (Option (List ℕ) → Result T E) → ℕ → List ℕ → Openings → Openings → Result T E
    → Type 0
OpenedOnce source expected limit name before after result =
    ((after ≡ before) × IsOutOfMemory source result)
    ⊎ ((opening : Opening) × (opening.name ≡ name) × (after ≡ record { earlier = openings_of before; latest = Some opening })
    × ((firm : Bool) (file : Option (List ℕ)) → Shows limit firm opening file → Meets source (IsTrue firm) (expected file) result))
