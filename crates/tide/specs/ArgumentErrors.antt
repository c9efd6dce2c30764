-- The arguments of the program, from the system's, and the end of the program without them (this
-- project).
use Rattle.std.specs.Prelude.{◌≡◌, ◌↔◌, ℕ, List, map, drop, codes, Result, Ok, Err, String, string_bytes}
use Rattle.std.specs.IoError.{error_kind}
use Rattle.std.specs.Vec.Iter.{into_iter_items}
use Rattle.std.specs.declared.vec.IntoIter.{IntoIter}
use Rattle.std.specs.declared.io.Error.{Error}
use Rattle.std.specs.declared.io.ErrorKind.TheVariants.{OutOfMemory}
use Rattle.tide_fault.specs.declared.status.Status.{Status}
use Rattle.tide_fault.specs.declared.status.Status.TheVariants as status
use Rattle.tide.specs.declared.arguments.ArgumentError.{ArgumentError}
use Rattle.tide.specs.declared.arguments.ArgumentError.TheVariants.{NotText, NoMemory}

-- what the system returns: the program's arguments, of which the first is the program's name, or an
-- error
abbrev pub Given : Type 0 → Type 0
Given A = Result (IntoIter (String A) A) Error

-- `words` are all arguments after the program's name, in the order of the command line
abbrev pub HasWords : {A : Type 0} → Given A → List (List ℕ) → Type 0
HasWords (Ok arguments) words = words ≡ map string_bytes (drop 1 (into_iter_items arguments))
HasWords (Err fault) words = ⊥

-- The arguments can't be used for the reason `why`: NoMemory if memory ran out, and NotText if the
-- system returned another error, because an argument isn't UTF-8.
abbrev pub LacksWords : {A : Type 0} → Given A → ArgumentError → Type 0
LacksWords (Ok arguments) why = why ≡ NoMemory
LacksWords (Err fault) why = (why ≡ NoMemory) ↔ (error_kind fault ≡ OutOfMemory)

-- the exit status for the reason why the arguments can't be used
abbrev pub status_of : ArgumentError → Status
status_of NotText = status.Words
status_of NoMemory = status.NoMemory

-- the line on standard error that reports why the arguments can't be used
abbrev pub line_of : ArgumentError → List ℕ
line_of NotText = codes "words: refused\n"
line_of NoMemory = codes "no memory\n"
