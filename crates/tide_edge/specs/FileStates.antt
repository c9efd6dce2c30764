-- The contents of files, the calls of `open` with the bytes read after each, and what calls change
-- (this project).
use Rattle.std.specs.Prelude.{
  ◌≡◌,
  ℕ,
  ◌+◌,
  ◌==◌,
  Bool,
  true,
  false,
  if◌then◌else◌,
  List,
  [],
  ◌∷◌,
  ◌++◌,
  take,
  drop,
  Option,
  Some,
  None,
  unwrap_or,
  IfSome,
  Result,
  Ok,
  Err,
  is_ok,
  is_err,
}
use Rattle.std.specs.Option.{option_map}
use Rattle.tide_edge.specs.declared.failed.Failed.{Failed}
use Rattle.tide_edge.specs.Faults.{counted, faults_after}

-- The contents of the file with a name, or None if there is no such file.
abbrev pub Folder : Type 0
Folder = List ℕ → Option (List ℕ)

-- The part of the state of files that no call changes. `is_observable`: the state has the contents
-- of the files, as for files in memory; false for the machine's files. `folder`: the contents of
-- the file with each name. `is_steady`: opening and reading an existing file never fails. The last
-- two mean something only if `is_observable`.
pub record FileContents : Type 0 where
  pub is_observable : Bool
  pub folder : Folder
  pub is_steady : Bool

-- One call of `open`. `name`: the name of the file; `is_open`: the call succeeded; `bytes`: the
-- bytes read of the file; `ends`: how many calls of `read` returned 0, the end of the file;
-- `read_failed`: a call of `read` has failed.
pub record Opening : Type 0 where
  pub name : List ℕ
  pub is_open : Bool
  pub bytes : List ℕ
  pub ends : ℕ
  pub read_failed : Bool

-- All calls of `open`, the earliest first. `earlier`: all but the last; `latest`: the last, or None
-- if there is none.
pub record Openings : Type 0 where
  pub earlier : List Opening
  pub latest : Option Opening

-- No call of `open`.
abbrev pub no_openings : Openings
no_openings = record { earlier = []; latest = None }

-- The list with the value as its only item, or the empty list if there is no value.
abbrev pub as_list : {A : Type 0} → Option A → List A
as_list None = []
as_list (Some value) = value ∷ []

-- All calls of `open` as one list, the earliest first.
abbrev pub openings_of : Openings → List Opening
openings_of o = o.earlier ++ as_list o.latest

-- No file is open: `open` wasn't called yet, or its latest call failed.
abbrev pub IsNoneOpen : Openings → Type 0
IsNoneOpen o = IfSome o.latest (λ opening. opening.is_open ≡ false)

-- A call of `open` for the file `name`, before any byte is read; `is_open` is true if the call
-- succeeded.
abbrev pub just_opened : Bool → List ℕ → Opening
just_opened is_open name = record { name = name; is_open = is_open; bytes = []; ends = 0; read_failed = false }

-- The calls of `open` with another one for the file `name`; `is_open` is true if it succeeded.
abbrev pub openings_after_open : Bool → List ℕ → Openings → Openings
openings_after_open is_open name o = record { earlier = openings_of o; latest = Some (just_opened is_open name) }

-- An opening (a call of `open` with the bytes read after it) after `count` more bytes were read
-- into the first bytes of `buffer`; a count of 0 is the end of the file.
abbrev pub opening_after_read : ℕ → List ℕ → Opening → Opening
opening_after_read count buffer opening = record opening {
  bytes = opening.bytes ++ take count buffer;
  ends = (if count == 0 then opening.ends + 1 else opening.ends);
}

-- The openings (calls of `open` with the bytes read after each) after `count` more bytes were read
-- into the first bytes of `buffer`; they belong to the latest opening.
abbrev pub openings_after_read : ℕ → List ℕ → Openings → Openings
openings_after_read count buffer o = record o { latest = option_map (opening_after_read count buffer) o.latest }

-- An opening (a call of `open` with the bytes read after it) after a `read` that failed.
abbrev pub opening_after_failure : Opening → Opening
opening_after_failure opening = record opening { read_failed = true }

-- The openings (calls of `open` with the bytes read after each) after a `read` that failed, which
-- is recorded for the latest opening.
abbrev pub openings_after_failure : Openings → Openings
openings_after_failure o = record o { latest = option_map opening_after_failure o.latest }

-- The state of files. `file_contents`: the part that no call changes; `unread_bytes`: the unread
-- bytes of the open file, none if no file is open, which mean something only if the state has the
-- contents of the files (`file_contents.is_observable`); `open_log`: the calls of `open` with the
-- bytes read after each; `faults`: the number of failures, which saturates at the greatest `u64`.
pub record FilesState : Type 0 where
  pub file_contents : FileContents
  pub unread_bytes : List ℕ
  pub open_log : Openings
  pub faults : ℕ

-- The unread bytes after `open` with this result, for a file with these contents: all of them, or
-- none if the call failed or there is no such file.
abbrev pub begun : {T : Type 0} → Result T Failed → Option (List ℕ) → List ℕ
begun (Ok opened) file = unwrap_or file []
begun (Err failed) file = []

-- The state of files after `open` of `name` with this result: the call is recorded, and a failure
-- is counted. The unread bytes become all bytes that the state has of the file, or none if the
-- call failed.
abbrev pub files_after_open : {T : Type 0} → Result T Failed → List ℕ → FilesState → FilesState
files_after_open result name s = record s {
  unread_bytes = begun result (s.file_contents.folder name);
  open_log = openings_after_open (is_ok result) name s.open_log;
  faults = faults_after (is_err result) s.faults;
}

-- The state of files after `read` with this result; `buffer` is the caller's buffer after the call.
-- The bytes that were read, the first of `buffer`, are recorded for the latest call of `open`, and
-- as many unread bytes are dropped. A failure is recorded and counted.
abbrev pub files_after_read : Result ℕ Failed → List ℕ → FilesState → FilesState
files_after_read (Ok count) buffer s = record s {
  unread_bytes = drop count s.unread_bytes;
  open_log = openings_after_read count buffer s.open_log;
}
files_after_read (Err failed) buffer s = record s { open_log = openings_after_failure s.open_log; faults = counted s.faults }
