-- The state of a reader that was fed the first bytes of a file, and the state after further bytes.
-- The proofs derive the faults of Pieces.antt and the book of Reading.antt from these states (this
-- project).
use Rattle.std.specs.Prelude.{
  ◌≡◌,
  ℕ,
  ◌+◌,
  ◌≤◌,
  Bool,
  false,
  if◌then◌else◌,
  List,
  [],
  ◌∷◌,
  ◌++◌,
  length,
  codes,
  Option,
  Some,
  None,
  Result,
  Ok,
  Err,
}
use Rattle.std.specs.List.{list_any}
use Rattle.decimal_text.specs.Expected.{◌>>=◌}
use Rattle.harmonics_book.specs.declared.book.Book.{Book}
use Rattle.harmonics_text.specs.declared.book_parser.BookParser.{BookParser}
use Rattle.harmonics_text.specs.declared.book_parser.BookParser.TheVariants as parsing
use Rattle.harmonics_text.specs.declared.progress.Progress.{Progress}
use Rattle.harmonics_text.specs.declared.fault.Why.{Why}
use Rattle.harmonics_text.specs.declared.fault.Why.TheVariants.{CutShort, LineTooLong}
use Rattle.harmonics_text.specs.declared.fault.BookFault.{BookFault}
use Rattle.harmonics_text.specs.declared.fault.BookFault.TheVariants.{NoMemory}
use Rattle.harmonics_text.specs.declared.fault.BookFault.TheVariants as faults
use Rattle.harmonics_text.specs.Lines.{is_lf, is_comment, is_too_long, is_filled}
use Rattle.harmonics_text.specs.Reading.{At}
use Rattle.harmonics_text.specs.Pieces.{ended_lines, pending_line}
use Rattle.harmonics_text.specs.Workings.BookParsing.{IsBookParser, after_line, book_in}
use Rattle.decimal_text.specs.declared.limits.TheConstants.{MOST_BYTES}

-- true if the bytes have an LF
abbrev pub has_lf : List ℕ → Bool
has_lf bytes = list_any is_lf bytes

-- the invariant of a state of reading: the parser's state is valid, and the kept bytes of the line
-- that hasn't ended have no LF
pub record IsProgress (p : Progress) : Type 0 where
  pub parser : IsBookParser p.parser
  pub pending : has_lf p.pending ≡ false

-- the state before the first byte of a file
abbrev pub nothing_read : Progress
nothing_read = record { parser = parsing.Count; number = 1; pending = [] }

-- the value of a rule, or its error as a fault of the line with the number n
abbrev pub on_line : {A : Type 0} → ℕ → Result A Why → Result A At
on_line n (Ok x) = Ok x
on_line n (Err why) = Err (record { line = n; why = why })

-- the bytes that are kept of the first bytes of a line: only `#` if it is a comment; LineTooLong if
-- it isn't and has more than 4,096 bytes; else all
abbrev pub held : List ℕ → Result (List ℕ) Why
held line = if is_comment line then Ok (codes "#") else if is_too_long line then Err LineTooLong else Ok line

-- `with_pending d n line`: the state with the parser state d and the first bytes of the line with
-- the number n, or LineTooLong at this line
unfoldable pub with_pending : BookParser → ℕ → List ℕ → Result Progress At
with_pending d n line = on_line n (held line) >>= λ begun. Ok (record { parser = d; number = n; pending = begun })

-- `after_lines d n lines`: the parser state after the lines, the first of which has the number n,
-- or the fault of the first bad line; d is the state before them
unfoldable pub after_lines : BookParser → ℕ → List (List ℕ) → Result BookParser At
after_lines d n [] = Ok d
after_lines d n (line ∷ lines) = on_line n (after_line d line) >>= λ e. after_lines e (n + 1) lines

-- `with_bytes d n bytes`: the state after the bytes, which begin at the start of the line with the
-- number n, or the fault of the first bad line; d is the parser state before them
unfoldable pub with_bytes : BookParser → ℕ → List ℕ → Result Progress At
with_bytes d n bytes = after_lines d n (ended_lines bytes) >>= λ e. with_pending e (n + length (ended_lines bytes)) (pending_line bytes)

-- the book, or CutShort at the line with the number n if there is no book
abbrev pub finished : ℕ → Option Book → Result Book At
finished n (Some b) = Ok b
finished n None = Err (record { line = n; why = CutShort })

-- the book if the file ends in the state p, or its fault; the last line may lack its LF
unfoldable pub ended : Progress → Result Book At
ended p =
    if is_filled p.pending then (on_line p.number (after_line p.parser p.pending) >>= λ d. finished (p.number + 1) (book_in d))
    else finished p.number (book_in p.parser)

-- `FailsAt fault read`: true if `fault` is NoMemory (memory ran out), or if `read`, the result by
-- definition, is the error `fault`
abbrev pub FailsAt : {Y : Type 0} → BookFault → Result Y At → Type 0
FailsAt NoMemory read = Unit {0}
FailsAt (faults.At line why) read = read ≡ Err (record { line = line; why = why })

-- `ReturnsAt result read`: true if the function's result is `read`, the result by definition, or is
-- the error NoMemory (memory ran out)
abbrev pub ReturnsAt : {Y : Type 0} → Result Y BookFault → Result Y At → Type 0
ReturnsAt (Ok y) read = read ≡ Ok y
ReturnsAt (Err e) read = FailsAt e read

-- ---- The reader

-- the state of a reader if it returned no fault, else this fault
abbrev pub reached : Progress → Option BookFault → Result Progress BookFault
reached p None = Ok p
reached p (Some fault) = Err fault

-- `Reads progress bytes`: true if `progress` is the state, or the fault, after these first bytes of
-- a file, or is the error NoMemory (memory ran out)
abbrev pub Reads : Result Progress BookFault → List ℕ → Type 0
Reads progress bytes = ReturnsAt progress (with_bytes parsing.Count 1 bytes)

-- the invariant of a reader: its state or its fault is the one after all bytes that it was fed, and
-- these are at most 400,000,000
pub record IsReader (progress : Result Progress BookFault) (bytes : List ℕ) : Type 0 where
  pub reads : Reads progress bytes
  pub few : length bytes ≤ MOST_BYTES

-- `ReadsOn progress piece after`: true if `after` is the state, or the fault, after the next bytes,
-- `piece`, or is the error NoMemory (memory ran out); after a fault it is the same fault
abbrev pub ReadsOn : Result Progress BookFault → List ℕ → Result Progress BookFault → Type 0
ReadsOn (Ok p) piece after = ReturnsAt after (with_bytes p.parser p.number (p.pending ++ piece))
ReadsOn (Err fault) piece after = after ≡ Err fault
