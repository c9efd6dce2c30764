-- The phase t minutes after an hour before a year.
use Rattle.std.proofs.Common.{◌≡◌, ℕ, suc, ◌+◌, ◌-◌, ◌*◌, ◌%◌, ◌<◌, ◌≤◌, ℤ, pos, negsuc, ◌+ℤ◌, ◌-ℤ◌, ◌*ℤ◌, ◌≤ℤ◌, get_or, inl, inr, refl, sym, ap, ◌∙◌, arith, lit<}
use Rattle.std.specs.Prelude.{unsigned_abs}
use Rattle.std.specs.Int.{int_rem_euclid}
use Rattle.std.proofs.Math.Nat.{add-mod, mod-mod}
use Rattle.std.proofs.lemmas.Bool.{cases_lt}
use Rattle.std.proofs.lemmas.Int.{ints, int_rem_euclid_is}
use Rattle.std.proofs.lemmas.Nat.{mul-le}
use Rattle.fixed_sine.specs.Circle.{circle}
use Rattle.harmonics_book.specs.declared.book.Station.{Station}
use Rattle.harmonics_book.specs.declared.book.Book.{Book}
use Rattle.year_blend.specs.Places.{start_of}
use Rattle.station_curve.specs.Levels.{minutes_into}
use Rattle.station_curve.specs.Schureman.{speed_of, angle_of, phase_of}
use Rattle.station_curve.proofs.Products.{pos_abs}

-- the product of a number and a sum
pub times_plus : (v t : ℕ) (a : ℤ) → pos v *ℤ (a +ℤ pos t) ≡ (pos v *ℤ a) +ℤ pos (v * t)
times_plus v t (pos n) = ap pos (omega arith)
times_plus v t (negsuc n) =
    elim (cases_lt n t) [
      | inl below ↦
          let sum : negsuc n +ℤ pos t ≡ pos (t - suc n) = omega (arith, ints, below) in
          let parts : v * t ≡ v * (t - suc n) + v * suc n = ap (λ x. v * x) (split_above n t below) ∙ over_sum v (t - suc n) (suc n) in
          rw sum (omega (arith, ints, parts))
      | inr above ↦
          let sum : negsuc n +ℤ pos t ≡ negsuc (n - t) = omega (arith, ints, above) in
          let parts : v * suc n ≡ v * suc (n - t) + v * t = ap (λ x. v * x) (split_below n t above) ∙ over_sum v (suc (n - t)) t in
          rw sum (omega (arith, ints, parts))
    ]
  where
    split_above : (n t : ℕ) → n < t → t ≡ (t - suc n) + suc n
    split_above n t h = omega (arith, h)

    split_below : (n t : ℕ) → t ≤ n → suc n ≡ suc (n - t) + t
    split_below n t h = omega (arith, h)

    over_sum : (v a b : ℕ) → v * (a + b) ≡ v * a + v * b
    over_sum v a b = omega arith

-- the remainder of a sum
lifted : (z : ℤ) (n : ℕ) → 0 < n → pos 0 ≤ℤ (z +ℤ pos (unsigned_abs z * n))
lifted z n some =
    let most = mul-le (unsigned_abs z) 1 (unsigned_abs z) n (omega arith) some in
    omega (arith, ints, most)

pub rem_onward : (z : ℤ) (n j : ℕ) → 0 < n
    → (unsigned_abs (int_rem_euclid z (pos n)) + j) % n ≡ unsigned_abs (int_rem_euclid (z +ℤ pos j) (pos n))
rem_onward z n j some =
    let k = unsigned_abs z in
    let m = unsigned_abs (z +ℤ pos (k * n)) in
    let base : z +ℤ pos (k * n) ≡ pos m = sym (pos_abs (z +ℤ pos (k * n)) (lifted z n some)) in
    let later : (z +ℤ pos j) +ℤ pos (k * n) ≡ pos (m + j) = omega (arith, ints, base) in
    let first = ap unsigned_abs (int_rem_euclid_is z (pos n) n k m some refl base) in
    let second = ap unsigned_abs (int_rem_euclid_is (z +ℤ pos j) (pos n) n k (m + j) some refl later) in
    ap (λ r. (r + j) % n) first ∙ carried m j n ∙ sym second
  where
    carried : (m j n : ℕ) → (m % n + j) % n ≡ (m + j) % n
    carried m j n = add-mod (m % n) j n ∙ ap (λ r. (r + j % n) % n) (mod-mod m n) ∙ sym (add-mod m j n)

-- the angle of a wave t minutes later
hours : (start m meridian : ℤ) (t : ℕ) → pos t ≡ (m -ℤ start) +ℤ pos 60
    → (m -ℤ start) +ℤ meridian ≡ (((start -ℤ pos 60) -ℤ start) +ℤ meridian) +ℤ pos t
hours start m meridian t h = omega (arith, ints, h)

pub angle_onward : (b : Book) (s : Station) (year : ℕ) (m : ℤ) (k speed t : ℕ) → pos speed ≡ speed_of b k
    → pos t ≡ (m -ℤ start_of b.first_year year) +ℤ pos 60
    → angle_of b s year m k ≡ angle_of b s year (start_of b.first_year year -ℤ pos 60) k +ℤ pos (speed * t)
angle_onward b s year m k speed t is_speed is_t =
    let start = start_of b.first_year year in
    let turn = pos 60 *ℤ (get_or b.angles (k * b.years + year) (pos 0) -ℤ get_or s.epoch k (pos 0)) in
    let before = ((start -ℤ pos 60) -ℤ start) +ℤ s.meridian in
    let later : speed_of b k *ℤ ((m -ℤ start) +ℤ s.meridian) ≡ (speed_of b k *ℤ before) +ℤ pos (speed * t) =
    ap (λ x. speed_of b k *ℤ x) (hours start m s.meridian t is_t) ∙ ap (λ v. v *ℤ (before +ℤ pos t)) (sym is_speed)
    ∙ times_plus speed t before ∙ ap (λ v. (v *ℤ before) +ℤ pos (speed * t)) is_speed in
    ap (λ x. x +ℤ turn) later ∙ moved (speed_of b k *ℤ before) (pos (speed * t)) turn
  where
    moved : (x y z : ℤ) → (x +ℤ y) +ℤ z ≡ (x +ℤ z) +ℤ y
    moved x y z = omega (arith, ints)

-- a minute of the year or later, or of the hour before it
abbrev pub IsSince : ℤ → ℕ → ℤ → Type 0
IsSince first_year year m = pos 0 ≤ℤ ((m -ℤ start_of first_year year) +ℤ pos 60)

pub phase_onward : (b : Book) (s : Station) (year : ℕ) (m : ℤ) (k speed : ℕ) → pos speed ≡ speed_of b k
    → IsSince b.first_year year m
    → (phase_of b s year (start_of b.first_year year -ℤ pos 60) k + speed * minutes_into b.first_year year m) % circle
    ≡ phase_of b s year m k
phase_onward b s year m k speed is_speed since =
    let t = minutes_into b.first_year year m in
    let is_t : pos t ≡ (m -ℤ start_of b.first_year year) +ℤ pos 60 = pos_abs ((m -ℤ start_of b.first_year year) +ℤ pos 60) since in
    let angle = angle_of b s year (start_of b.first_year year -ℤ pos 60) k in
    rem_onward angle circle (speed * t) (lit< tt)
    ∙ ap (λ z. unsigned_abs (int_rem_euclid z (pos circle))) (sym (angle_onward b s year m k speed t is_speed is_t))
