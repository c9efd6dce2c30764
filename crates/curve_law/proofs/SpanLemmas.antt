-- The minutes of a span as 64-bit numbers, and a count of minutes that stops at the greatest `i64`.
use Rattle.std.proofs.Common.{◌≡◌, ℕ, ◌-◌, ◌^◌, min, w64, to_z, of_z, FitsSigned, ℤ, pos, ◌-ℤ◌, ◌≤ℤ◌, unsigned_abs, refl, sym, ap, arith, ◌∙◌}
use Rattle.std.proofs.lemmas.Int.{ints, to_z-of_z}
use Rattle.curve_law.specs.CurveSpec.{CurveSpec, IsSpan, IsLawful}

-- the minutes `begin` and `end`, in this order, are minutes of the lawful curve c
pub record IsBetween (c : CurveSpec) (begin end : ℤ) : Type 0 where
  pub lawful : IsLawful c
  pub forward : begin ≤ℤ end
  pub first : c.first ≤ℤ begin
  pub last : end ≤ℤ c.last

-- the parts of `IsBetween` give the whole
pub as-between : (c : CurveSpec) (begin end : ℤ) → IsLawful c → begin ≤ℤ end → c.first ≤ℤ begin → end ≤ℤ c.last → IsBetween c begin end
as-between c begin end lawful forward first last = record { lawful = lawful; forward = forward; first = first; last = last }

-- the saturated count of a span's minutes is their number, since a span has at most 2^61
pub all-of : (n : ℕ) (begin end : ℤ) → n ≡ unsigned_abs (end -ℤ begin) → begin ≤ℤ end → (end -ℤ begin) ≤ℤ pos (2 ^ 61)
    → pos (min n (2 ^ 63 - 1)) ≡ end -ℤ begin
all-of n begin end is forward few = omega (arith, ints)

-- no span has more minutes than an `i64` holds
whole-of : (n : ℕ) (begin end : ℤ) → pos (min n (2 ^ 63 - 1)) ≡ end -ℤ begin → begin ≤ℤ end
    → (end -ℤ begin) ≤ℤ pos (2 ^ 61) → n ≡ unsigned_abs (end -ℤ begin)
whole-of n begin end is forward few = omega (arith, ints)

-- a span of a lawful curve has at most 2^61 minutes
pub minutes-few : (c : CurveSpec) (begin end : ℤ) → IsBetween c begin end → (end -ℤ begin) ≤ℤ pos (2 ^ 61)
minutes-few c begin end between =
    let early = between.lawful.early in let late = between.lawful.late in
    let first = between.first in let last = between.last in
    omega (arith, ints)

-- a minute of the span as a 64-bit number
minute-fits : (c : CurveSpec) (begin end m : ℤ) → IsBetween c begin end → begin ≤ℤ m → m ≤ℤ end → FitsSigned w64 m
minute-fits c begin end m between from to =
    let early = between.lawful.early in let late = between.lawful.late in
    let first = between.first in let last = between.last in
    omega (arith, ints)

-- the difference of a span's ends as 64-bit numbers is the number of its minutes
pub ends-are : (c : CurveSpec) (begin end : ℤ) → IsBetween c begin end → to_z w64 (of_z w64 end) -ℤ to_z w64 (of_z w64 begin) ≡ end -ℤ begin
ends-are c begin end between =
    let forward = between.forward in
    let b = minute-fits c begin end begin between (omega (arith, ints)) forward in
    let e = minute-fits c begin end end between forward (omega (arith, ints)) in
    rw (to_z-of_z w64 begin b, to_z-of_z w64 end e) refl

-- the number of a span's minutes is the same as a 64-bit number
pub wanted-is : (c : CurveSpec) (begin end : ℤ) → IsBetween c begin end → to_z w64 (of_z w64 (end -ℤ begin)) ≡ end -ℤ begin
wanted-is c begin end between =
    let forward = between.forward in
    let few = minutes-few c begin end between in
    let fits : FitsSigned w64 (end -ℤ begin) = omega (arith, ints) in
    to_z-of_z w64 (end -ℤ begin) fits

-- a saturated count is the same as a 64-bit number
pub covered-is : (covered : ℤ) (n : ℕ) → covered ≡ pos (min n (2 ^ 63 - 1)) → to_z w64 (of_z w64 covered) ≡ covered
covered-is covered n is = omega (arith, ints)

-- a saturated count that is equal to the number of a span's minutes is the exact count
pub counted-whole : (c : CurveSpec) (begin end covered : ℤ) (n : ℕ) → IsBetween c begin end → covered
    ≡ pos (min n (2 ^ 63 - 1)) → of_z w64 covered ≡ of_z w64 (to_z w64 (of_z w64 end) -ℤ to_z w64 (of_z w64 begin))
    → n ≡ unsigned_abs (end -ℤ begin)
counted-whole c begin end covered n between is same =
    let minutes : covered ≡ end -ℤ begin = sym (covered-is covered n is)
    ∙ ap (to_z w64) (rw (ends-are c begin end between) at same) ∙ wanted-is c begin end between in
    whole-of n begin end (sym is ∙ minutes) between.forward (minutes-few c begin end between)

-- the minutes from `begin` up to but not including `end` are a span of the curve
pub within-span : (c : CurveSpec) (begin end : ℤ) (n : ℕ) → IsBetween c begin end → n ≡ unsigned_abs (end -ℤ begin) → IsSpan c begin n
within-span c begin end n between whole =
    let forward = between.forward in let last = between.last in
    record { first = between.first; last = omega (arith, ints) }
