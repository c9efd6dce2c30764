-- Texts of lines, each ended by LF, for any grammar, and the line at which bytes stop following it.
-- A grammar is a relation `spells` between a value and the lines (without LF) that spell it (this
-- project).
use Rattle.std.specs.Prelude.{◌≡◌, ℕ, ◌<◌, List, [], ◌∷◌, ◌++◌, length, Result, Ok, Err}
use Rattle.std.specs.List.{flat_map}
use Rattle.cert_text.specs.declared.fault.CertFault.{CertFault}
use Rattle.cert_text.specs.declared.fault.CertFault.TheVariants.{NoMemory, NotACertificate}

-- ---- lines as bytes

-- the line with its LF (byte 10) after it
abbrev pub ended : List ℕ → List ℕ
ended line = line ++ 10 ∷ []

-- the lines one after the other, each with its LF after it
abbrev pub joined : List (List ℕ) → List ℕ
joined lines = flat_map ended lines

-- ---- texts

-- `IsTextBy spells decoded bytes`: `bytes` are lines that spell the value `decoded`, each with its
-- LF, and nothing more
abbrev pub IsTextBy : {C : Type 0} → (C → List (List ℕ) → Type 0) → C → List ℕ → Type 0
IsTextBy spells decoded bytes = (lines : List (List ℕ)) × spells decoded lines × (bytes ≡ joined lines)

-- `BeginsBy spells bytes count`: `bytes` begin with `count` lines, each with its LF, and with
-- further lines these spell some value. The bytes after them may be any.
pub record BeginsBy {C : Type 0} (spells : C → List (List ℕ) → Type 0) (bytes : List ℕ) (count : ℕ) : Type 0 where
  pub decoded : C
  pub lines : List (List ℕ)
  pub more : List (List ℕ)
  pub spelled : spells decoded (lines ++ more)
  pub counted : length lines ≡ count
  pub rest : List ℕ
  pub prefix : bytes ≡ joined lines ++ rest

-- `IsFaultBy spells bytes line`: `line` is the least number such that `bytes` don't begin with
-- `line` lines, each with its LF, that begin the lines of some value. Bytes after the last LF
-- aren't a line, so if `bytes` end too early, `line` is one past their last line. It says nothing
-- of whether `bytes` are a text.
pub record IsFaultBy {C : Type 0} (spells : C → List (List ℕ) → Type 0) (bytes : List ℕ) (line : ℕ) : Type 0 where
  pub none : ¬ (BeginsBy spells bytes line)
  pub least : (count : ℕ) → count < line → BeginsBy spells bytes count

-- `RefusedBy spells bytes line`: `bytes` are the text of no value, and `line`, counted from 1, is
-- the first line such that no value's lines begin with the lines up to it; one past the last line
-- if `bytes` end too early
abbrev pub RefusedBy : {C : Type 0} → (C → List (List ℕ) → Type 0) → List ℕ → ℕ → Type 0
RefusedBy {C} spells bytes line = ((decoded : C) → ¬ (IsTextBy spells decoded bytes)) × IsFaultBy spells bytes line

-- ---- what reading says

-- `RefusesBy spells bytes fault`: the fault of reading `bytes` is right: if it names a line,
-- `bytes` are the text of no value, and this is the first line such that no value's lines begin
-- with the lines up to it; the fault that memory ran out is always right
abbrev pub RefusesBy : {C : Type 0} → (C → List (List ℕ) → Type 0) → List ℕ → CertFault → Type 0
RefusesBy spells bytes NoMemory = Unit {0}
RefusesBy spells bytes (NotACertificate line) = RefusedBy spells bytes line

-- `ReadsBy spells bytes result`: the result of reading `bytes` is right: a value that `bytes` are
-- the text of; or, if they are the text of none, the first line such that no value's lines begin
-- with the lines up to it; or that memory ran out
abbrev pub ReadsBy : {C : Type 0} → (C → List (List ℕ) → Type 0) → List ℕ → Result C CertFault → Type 0
ReadsBy spells bytes (Ok decoded) = IsTextBy spells decoded bytes
ReadsBy spells bytes (Err fault) = RefusesBy spells bytes fault
