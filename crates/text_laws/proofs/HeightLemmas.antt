-- Rows at equal steps.
use Rattle.std.proofs.Common.{◌≡◌, ℕ, ◌+◌, ◌*◌, ◌/◌, ◌<◌, ◌≤◌, ℤ, pos, negsuc, ◌-ℤ◌, ◌≤ℤ◌, unsigned_abs, int_le, true, false, inl, inr, refl, arith}
use Rattle.std.specs.List.{slice_get}
use Rattle.std.proofs.lemmas.Bool.{cases_lt}
use Rattle.std.proofs.lemmas.Option.{slice_get-get_or, slice_get_past}
use Rattle.std.proofs.lemmas.List.FromFn.{get_or-map-range_with_len, length-map-range_with_len}
use Rattle.std.proofs.lemmas.Int.{ints}
use Rattle.std.proofs.Math.Nat.{div-mul-le_self, lt-div-mul-add}
use Rattle.std.proofs.lemmas.Nat.{mul-le}
use Rattle.listing.specs.declared.row.Row.{Row}
use Rattle.text_laws.specs.Heights.{minute_at, row_at, row_until, rows_over}

-- a number of steps that fit into a length
fits : (n s index : ℕ) → 1 ≤ s → index < n / s + 1 → s * index ≤ n
fits n s index positive within =
    let most : index * s ≤ n / s * s = grind (arith, mul-le) in
    omega (arith, most, div-mul-le_self n s)

-- one more step doesn't fit
passes : (n s index : ℕ) → 1 ≤ s → n / s + 1 ≤ index → n < s * index
passes n s index positive past =
    let least : (n / s + 1) * s ≤ index * s = grind (arith, mul-le) in
    omega (arith, least, lt-div-mul-add {a = n} {b = s} (omega arith))

pub row_until-is : (level : ℤ → ℤ) (begin end step : ℤ) → begin ≤ℤ end → pos 1 ≤ℤ step → (index : ℕ)
    → slice_get (rows_over level begin end step) index ≡ row_until level begin end step index
row_until-is level begin end (pos s) forward positive index =
    let n : ℕ = unsigned_abs (end -ℤ begin) in
    let whole : pos n ≡ end -ℤ begin = omega (arith, ints, forward) in
    let some : 1 ≤ s = omega (arith, ints, positive) in
    let step : ℕ → Row = row_at level begin (pos s) in
    let many = length-map-range_with_len step 0 (n / s + 1) in
    elim (cases_lt index (n / s + 1)) [
      | inl within ↦
          let test : int_le (minute_at begin (pos s) index) end ≡ true = grind (arith, ints, whole, fits n s index some within) in
          let read = slice_get-get_or (rows_over level begin end (pos s)) index (step 0) (omega (arith, many, within)) in
          let row = get_or-map-range_with_len step 0 (n / s + 1) index index (step 0) within (omega arith) in
          rw (read, row, test) refl
      | inr past ↦
          let test : int_le (minute_at begin (pos s) index) end ≡ false = grind (arith, ints, whole, passes n s index some past) in
          let none = slice_get_past (rows_over level begin end (pos s)) index (omega (arith, many, past)) in
          rw (none, test) refl
    ]
row_until-is level begin end (negsuc s) forward positive index = absurd (omega (arith, ints, positive))
