-- Steps that may fail, one after the other, and when a function's error agrees with the result
-- expected by definition (this project).
use Rattle.std.specs.Prelude.{◌≡◌, Bool, true, false, Result, Ok, Err}

-- `step >>= next`: the result of `next` for the value of the step, or the step's error
infixl 10 ◌>>=◌
abbrev pub ◌>>=◌ : {A B E : Type 0} → Result A E → (A → Result B E) → Result B E
(Ok value) >>= next = next value
(Err fault) >>= next = Err fault

-- the cause of an error: `memory`, memory ran out; `outside`, a call on an object outside the
-- program (files, a sink, a clock, a connection) failed; `given`, the input
pub data Source : Type 0 where
  memory : Source
  outside : Source
  given : Source

-- true if the cause is a failed call on an outside object
abbrev pub is_outside : Source → Bool
is_outside memory = false
is_outside outside = true
is_outside given = false

-- `is_outside_fault source result`: true if the result is an error and its cause is a failed call
-- on an outside object; `source` gives the cause of each error
abbrev pub is_outside_fault : {T E : Type 0} → (E → Source) → Result T E → Bool
is_outside_fault source (Ok value) = false
is_outside_fault source (Err fault) = is_outside (source fault)

-- `Excuses cause firm expected fault`: what an error and its cause imply for the expected result.
-- If memory ran out, they imply nothing. If a call on an outside object failed, the error is the
-- expected result if `firm` is true (the object is steady: its calls don't fail at random).
-- Otherwise the error is the expected result.
abbrev pub Excuses : {T E : Type 0} → Source → Type 0 → Result T E → E → Type 0
Excuses memory firm expected fault = Unit {0}
Excuses outside firm expected fault = firm → expected ≡ Err fault
Excuses given firm expected fault = expected ≡ Err fault

-- `Meets source firm expected result`: true if the result is the expected one. It may also be an
-- error because memory ran out, or, unless `firm` is true (outside objects are steady: their calls
-- don't fail at random), because a call on an outside object failed; `source` gives the cause of
-- each error.
abbrev pub Meets : {T E : Type 0} → (E → Source) → Type 0 → Result T E → Result T E → Type 0
Meets source firm expected (Ok value) = expected ≡ Ok value
Meets source firm expected (Err fault) = Excuses (source fault) firm expected fault

-- `source_within is_out_of_memory`: the cause of an error of a step that calls no outside object:
-- `memory` if the argument is true, else `given` (the input)
abbrev pub source_within : Bool → Source
source_within true = memory
source_within false = given

-- `Excused is_out_of_memory expected fault`: true if memory ran out (`is_out_of_memory` is true),
-- or if the error `fault` is `expected`, the result by definition; for functions that call no
-- object outside the program
abbrev pub Excused : {T E : Type 0} → Bool → Result T E → E → Type 0
Excused is_out_of_memory = Excuses (source_within is_out_of_memory) (Unit {0})

-- `EqualsUnlessNoMemory is_out_of_memory expected result`: true if a function's `result`, a value
-- or an error, is `expected`, the result by definition, or if it is an error of which
-- `is_out_of_memory` is true (memory ran out). It is for functions that call no object outside the
-- program, such as a file or a clock: every other error must be the expected one.
abbrev pub EqualsUnlessNoMemory : {T E : Type 0} → (E → Bool) → Result T E → Result T E → Type 0
EqualsUnlessNoMemory is_out_of_memory = Meets (λ fault. source_within (is_out_of_memory fault)) (Unit {0})
