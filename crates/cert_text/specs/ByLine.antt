-- Reading a text line by line with parts. A part reads some lines from a position in the text, and
-- returns a value and the position after these lines, or the number of the first line that it can't
-- read (this project).
use Rattle.std.specs.Prelude.{◌≡◌, ℕ, ◌+◌, ◌==◌, Bool, true, false, if◌then◌else◌, List, [], ◌∷◌, Option, None, Some, Result, Ok, Err}
use Rattle.std.specs.List.{slice_split}
use Rattle.std.specs.Option.{option_map}
use Rattle.std.specs.Str.{bytes_eq}
use Rattle.cert_text.specs.declared.fault.CertFault.{CertFault}
use Rattle.cert_text.specs.declared.fault.CertFault.TheVariants.{NoMemory, NotACertificate}

-- ---- lines

-- the byte is LF, 10
abbrev pub is_lf : ℕ → Bool
is_lf b = b == 10

-- the bytes, split at each LF: the lines without their LF, and then the bytes after the last LF, of
-- which there may be none
abbrev pub pieces : List ℕ → List (List ℕ)
pieces bytes = slice_split is_lf bytes

-- all of the byte strings except the last
abbrev pub but_last : List (List ℕ) → List (List ℕ)
but_last [] = []
but_last (piece ∷ []) = []
but_last (piece ∷ next ∷ more) = piece ∷ but_last (next ∷ more)

-- the last of the byte strings, or no bytes if there is none
abbrev pub last_of : List (List ℕ) → List ℕ
last_of [] = []
last_of (piece ∷ []) = piece
last_of (piece ∷ next ∷ more) = last_of (next ∷ more)

-- the lines in the bytes, each without the LF that ends it; bytes after the last LF aren't a line
abbrev pub lines_in : List ℕ → List (List ℕ)
lines_in bytes = but_last (pieces bytes)

-- the bytes after the last LF
abbrev pub last_in : List ℕ → List ℕ
last_in bytes = last_of (pieces bytes)

-- a position in a text: the number of lines read, the unread lines without their LF, and the bytes
-- after the last LF
pub record Place : Type 0 where
  pub lines_read : ℕ
  pub lines : List (List ℕ)
  pub last : List ℕ

-- `place_at lines_read bytes`: the position after `lines_read` lines were read, if `bytes` are the
-- unread bytes
abbrev pub place_at : ℕ → List ℕ → Place
place_at lines_read bytes = record { lines_read = lines_read; lines = lines_in bytes; last = last_in bytes }

-- `past_line at lines`: the position after one line more than at `at`, if `lines` are the unread
-- lines
abbrev pub past_line : Place → List (List ℕ) → Place
past_line at lines = record { lines_read = at.lines_read + 1; lines = lines; last = at.last }

-- ---- parts

-- a part (a reader of some lines): from a position it returns its value and the position after the
-- lines that it read, or the fault
abbrev pub Part : Type 0 → Type 0
Part A = Place → Result (A × Place) CertFault

-- `handed next result`: the result of a part, followed by the part that `next` returns for its
-- value and that reads on from its position; if the result is a fault, it stays the result
abbrev pub handed : {A B : Type 0} → (A → Part B) → Result (A × Place) CertFault → Result (B × Place) CertFault
handed next (Ok done) = next done.0 done.1
handed next (Err fault) = Err fault

-- `part >>= next`: reads `part`, and then the part that `next` returns for its value; a fault of
-- either is the result
infixl 10 ◌>>=◌
abbrev pub ◌>>=◌ : {A B : Type 0} → Part A → (A → Part B) → Part B
(part >>= next) at = handed next (part at)

-- `returned value`: a part that reads no line and has this value
abbrev pub returned : {A : Type 0} → A → Part A
returned value at = Ok (value, at)

-- `required option`: a part that reads no line and has the value in `option`; if this is None, the
-- fault is at the line that was read last
abbrev pub required : {A : Type 0} → Option A → Part A
required (Some value) at = Ok (value, at)
required None at = Err (NotACertificate at.lines_read)

-- `first_line at lines`: the first of `lines`, which are the unread lines at `at`, and the position
-- after it; if there is none, the fault is at the next line
abbrev pub first_line : Place → List (List ℕ) → Result (List ℕ × Place) CertFault
first_line at [] = Err (NotACertificate (at.lines_read + 1))
first_line at (line ∷ lines) = Ok (line, past_line at lines)

-- a part (a reader of some lines) that reads one line, whatever it is, and returns it without its
-- LF; if no line is left, the fault has the number of the next line, counted from 1
abbrev pub any_line : Part (List ℕ)
any_line at = first_line at at.lines

-- `line_of item_of`: a part (a reader of some lines) that reads one line and returns the value that
-- `item_of` gives for it. If `item_of` gives None, or there is no further line, the fault has the
-- number of this line, counted from 1.
abbrev pub line_of : {A : Type 0} → (List ℕ → Option A) → Part A
line_of item_of = any_line >>= λ line. required (item_of line)

-- `is_word word line`: `Some tt` if the line is `word`, and None for any other line
abbrev pub is_word : List ℕ → List ℕ → Option (Unit {0})
is_word word line = if bytes_eq line word then Some tt else None

-- `is_next word lines`: true if the first of the unread lines `lines` is `word`; false if there is
-- no line
abbrev pub is_next : List ℕ → List (List ℕ) → Bool
is_next word [] = false
is_next word (line ∷ lines) = bytes_eq line word

-- `item_in item_of at lines`: the value by `item_of` of the first of `lines`, which are the unread
-- lines at `at`, and the position after this line; None if no line is left or `item_of` returns
-- None for it
abbrev pub item_in : {A : Type 0} → (List ℕ → Option A) → Place → List (List ℕ) → Option (A × Place)
item_in item_of at [] = None
item_in item_of at (line ∷ lines) = option_map (λ item. (item, past_line at lines)) (item_of line)

-- `first_item item_of at`: the value by `item_of` of the next line, and the position after it; None
-- if no line is left or `item_of` returns None for it
abbrev pub first_item : {A : Type 0} → (List ℕ → Option A) → Place → Option (A × Place)
first_item item_of at = item_in item_of at at.lines

-- `items_from at item rest`: `item`, which is on the line at `at`, and then the items in `rest`,
-- with the position after them; no items and `at` if `item` is None
abbrev pub items_from : {A : Type 0} → Place → Option A → List A × Place → List A × Place
items_from at None rest = ([], at)
items_from at (Some item) rest = (item ∷ rest.0, rest.1)

-- `items_at item_of lines_read lines last`: the values by `item_of` of the unread lines `lines`, up
-- to the first line for which it returns None, and the position before that line. `lines_read`
-- lines were read before, and `last` are the bytes after the last LF.
abbrev pub items_at : {A : Type 0} → (List ℕ → Option A) → ℕ → List (List ℕ) → List ℕ → List A × Place
items_at item_of lines_read [] last = ([], record { lines_read = lines_read; lines = []; last = last })
items_at item_of lines_read (line ∷ lines) last =
    items_from (record { lines_read = lines_read; lines = line ∷ lines; last = last }) (item_of line) (items_at item_of (lines_read + 1) lines last)

-- `items_of item_of`: a part (a reader of some lines) that reads lines as long as `item_of` gives a
-- value for the next one, and returns the list of these values; it has no fault
abbrev pub items_of : {A : Type 0} → (List ℕ → Option A) → Part (List A)
items_of item_of at = Ok (items_at item_of at.lines_read at.lines at.last)

-- `part_if present part`: reads `part` if `present` is true, and otherwise reads no line and has
-- the value None
abbrev pub part_if : {A : Type 0} → Bool → Part A → Part (Option A)
part_if true part = part >>= λ value. returned (Some value)
part_if false part = returned None

-- `part_after heading part`: reads `part`, heading included, if the next line is `heading`, and
-- otherwise reads no line and has the value None
abbrev pub part_after : {A : Type 0} → List ℕ → Part A → Part (Option A)
part_after heading part at = part_if (is_next heading at.lines) part at

-- `is_over lines last`: no byte is unread: there is neither an unread line in `lines` nor a byte in
-- `last`
abbrev pub is_over : List (List ℕ) → List ℕ → Bool
is_over [] [] = true
is_over [] (byte ∷ last) = false
is_over (line ∷ lines) last = false

-- a part (a reader of some lines) that reads no line and checks that no byte is unread; if one is,
-- the fault has the number of the next line, counted from 1
abbrev pub end_of_text : Part (Unit {0})
end_of_text at = if is_over at.lines at.last then Ok (tt, at) else Err (NotACertificate (at.lines_read + 1))

-- ---- results

-- the result of a part, without the position after it
abbrev pub without_place : {A : Type 0} → Result (A × Place) CertFault → Result A CertFault
without_place (Ok done) = Ok done.0
without_place (Err fault) = Err fault

-- `read_by part bytes`: the value that `part` reads from the first of `bytes` on, or its fault.
-- Bytes after the lines that it reads are ignored unless the part checks for the end of the text.
abbrev pub read_by : {A : Type 0} → Part A → List ℕ → Result A CertFault
read_by part bytes = without_place (part (place_at 0 bytes))

-- true if the fault is that memory ran out
abbrev pub is_out_of_memory : CertFault → Bool
is_out_of_memory NoMemory = true
is_out_of_memory (NotACertificate line) = false

-- `Takes part old new result`: a function that starts at the position `old` and returns `result`
-- does what `part` does: it has the same value and stops at the same position, `new`, or has the
-- same fault. A fault that memory ran out is always allowed.
abbrev pub Takes : {A : Type 0} → Part A → Place → Place → Result A CertFault → Type 0
Takes part old new (Ok value) = part old ≡ Ok (value, new)
Takes part old new (Err fault) = is_out_of_memory fault ≡ false → part old ≡ Err fault

-- `TakesExactly part old new result`: a function that reads from the position `old`, stops at `new`
-- and returns `result` does what `part` (a reader of some lines) does: both return the same value
-- and stop at the same position, or both return the same fault, and then `new` may be any position
abbrev pub TakesExactly : {A : Type 0} → Part A → Place → Place → Result A CertFault → Type 0
TakesExactly part old new (Ok value) = part old ≡ Ok (value, new)
TakesExactly part old new (Err fault) = part old ≡ Err fault
