-- Counts of calls and of failures, which saturate at the greatest `u64` (this project).
use Rattle.std.specs.Prelude.{ℕ, ◌+◌, ◌-◌, ◌^◌, ◌==◌, ◌≤◌, Bool, if◌then◌else◌}

-- n + 1, or n if n is the greatest `u64`.
abbrev pub counted : ℕ → ℕ
counted n = if n == 2 ^ 64 - 1 then n else n + 1

-- n + 1 (or n, if n is the greatest `u64`) if the Bool is true; else n.
abbrev pub counted_if : Bool → ℕ → ℕ
counted_if is n = if is then counted n else n

-- A count of failures after a call: one more, up to the greatest `u64`, if the Bool is true (the
-- call failed), else the same.
abbrev pub faults_after : Bool → ℕ → ℕ
faults_after failed faults = counted_if failed faults

-- `Rose before now`: a count has grown from `before` to a greater one, or was already the greatest
-- `u64`. If it has grown over a part of a run, it has grown over the whole run.
abbrev pub Rose : ℕ → ℕ → Type 0
Rose before now = counted before ≤ now
