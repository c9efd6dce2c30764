-- The calls on an object in memory, some of which fail (this project).
use Rattle.std.specs.Prelude.{ℕ, zero, suc, ◌==◌, Bool, true, false, List, Result, Ok, Err}
use Rattle.std.specs.List.{list_any}
use Rattle.tide_edge.specs.declared.failed.Failed.{Failed}
use Rattle.tide_edge.specs.Faults.{counted, faults_after}

-- The calls on an object in memory. `fails`: the numbers of the calls that are to fail, counted
-- from 1; `made`: the number of calls made; `faults`: the number of failures. Both counts saturate
-- at the greatest `u64`.
pub record HeldCalls : Type 0 where
  pub fails : List ℕ
  pub made : ℕ
  pub faults : ℕ

-- The calls on an object in memory before the first one; the calls with these numbers, counted from
-- 1, are to fail.
abbrev pub schedule_of : List ℕ → HeldCalls
schedule_of fails = record { fails = fails; made = 0; faults = 0 }

-- True if the next call is to fail: its number is one of `fails`. Calls are counted from 1, up to
-- the greatest `u64`.
abbrev pub is_to_fail : HeldCalls → Bool
is_to_fail fault_schedule = list_any (λ n. n == counted fault_schedule.made) fault_schedule.fails

-- The calls after one more call, which is counted; the Bool is true if it failed, and then the
-- failure is counted too.
abbrev pub after_call : Bool → HeldCalls → HeldCalls
after_call failed fault_schedule = record {
  fails = fault_schedule.fails;
  made = counted fault_schedule.made;
  faults = faults_after failed fault_schedule.faults;
}

-- The calls of an object in memory after `count` of them, of which exactly those with a number in
-- `fails` (counted from 1) have failed.
abbrev pub calls_after : List ℕ → ℕ → HeldCalls
calls_after fails zero = schedule_of fails
calls_after fails (suc count) = after_call (is_to_fail (calls_after fails count)) (calls_after fails count)

-- The result of a call: the error if the Bool is true, else the value.
abbrev pub answer : {T : Type 0} → Bool → T → Result T Failed
answer true value = Err record {}
answer false value = Ok value
