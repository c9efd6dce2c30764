-- A book's constants at the indices of its lists.
use Rattle.std.proofs.Common.{◌≤ℤ◌, ◌≡◌, ℕ, suc, ◌+◌, ◌*◌, ◌^◌, ◌<◌, ◌≤◌, List, [], ◌∷◌, length, get_or, ℤ, pos, negsuc, ◌+ℤ◌, ◌-ℤ◌, ◌*ℤ◌, refl, sym, ap, ◌∙◌, arith}
use Rattle.std.specs.Prelude.{unsigned_abs, All}
use Rattle.std.proofs.lemmas.Int.{ints}
use Rattle.std.proofs.lemmas.List.{get_or-map}
use Rattle.decimal_text.specs.Rounding.{rounded_of}
use Rattle.harmonics_book.specs.declared.book.Constituent.{Constituent}
use Rattle.harmonics_book.specs.declared.book.Station.{Station}
use Rattle.harmonics_book.specs.declared.book.Book.{Book}
use Rattle.harmonics_book.specs.Books.{IsBook, IsStation, IsWithin}
use Rattle.year_blend.specs.Places.{start_of}
use Rattle.station_curve.specs.Schureman.{amplitude_of, speed_of, angle_of}
use Rattle.station_curve.proofs.Products.{abs_span, abs_within}

within_size : (n : ℕ) (xs : List ℤ) (k : ℕ) → All (IsWithin (negsuc n) (pos (suc n))) xs → k < length xs
    → unsigned_abs (get_or xs k (pos 0)) ≤ suc n
within_size n xs k all in_list =
    let w = all k (pos 0) in_list in
    abs_span (get_or xs k (pos 0)) n w.least w.most

pub station_amplitude : (count : ℕ) (s : Station) (k : ℕ) → IsStation count s → k < count
    → unsigned_abs (get_or s.amplitude k (pos 0)) ≤ 10 ^ 10
station_amplitude count s k h in_list = within_size 9999999999 s.amplitude k h.amplitude (omega (arith, h.amplitudes, in_list))

pub station_epoch : (count : ℕ) (s : Station) (k : ℕ) → IsStation count s → k < count → unsigned_abs (get_or s.epoch k (pos 0)) ≤ 7200000000
station_epoch count s k h in_list = within_size 7199999999 s.epoch k h.epoch (omega (arith, h.epochs, in_list))

pub book_angle : (b : Book) (place : ℕ) → IsBook b → place < length b.constituents * b.years
    → unsigned_abs (get_or b.angles place (pos 0)) ≤ 7200000000
book_angle b place h in_table = within_size 7199999999 b.angles place h.angles (omega (arith, h.all_angles, in_table))

pub book_factor : (b : Book) (place : ℕ) → IsBook b → place < length b.constituents * b.years
    → unsigned_abs (get_or b.factors place (pos 0)) ≤ 10 ^ 7
book_factor b place h in_table =
    let w = h.factors place (pos 0) (omega (arith, h.all_factors, in_table)) in
    abs_within (get_or b.factors place (pos 0)) 0 (10 ^ 7) w.least w.most

-- an amplitude of 0 makes no wave
zero_times : (z : ℤ) → pos 0 *ℤ z ≡ pos 0
zero_times (pos n) = ap pos (omega arith)
zero_times (negsuc n) = omega (arith, ints)

pub no_amplitude : (b : Book) (s : Station) (year k : ℕ) → get_or s.amplitude k (pos 0) ≡ pos 0 → pos 0 ≡ amplitude_of b s year k
unfolding rounded_of
no_amplitude b s year k e =
    sym (ap (λ z. rounded_of (z *ℤ get_or b.factors (k * b.years + year) (pos 0)) 1000000) e
    ∙ ap (λ z. rounded_of z 1000000) (zero_times (get_or b.factors (k * b.years + year) (pos 0))))

-- the speed of a constituent
pub constituent_speed : (b : Book) (c : Constituent) (k : ℕ) → k < length b.constituents → c ≡ get_or b.constituents k c
    → c.speed ≡ speed_of b k
constituent_speed b c k in_list at = ap (λ c. c.speed) at ∙ sym (get_or-map (λ c. c.speed) b.constituents k c (pos 0) in_list)

pub speed_within : (b : Book) (c : Constituent) (k : ℕ) → IsBook b → k < length b.constituents
    → c ≡ get_or b.constituents k c → IsWithin (pos 0) (pos 3600000000) c.speed
speed_within b c k h in_list at = rw at ((h.constituents k c in_list).speed)

-- the angle an hour before a year begins
hour_before : (start meridian : ℤ) → meridian -ℤ pos 60 ≡ ((start -ℤ pos 60) -ℤ start) +ℤ meridian
hour_before start meridian = omega (arith, ints)

pub angle_an_hour_before : (b : Book) (s : Station) (year k : ℕ) (speed minutes argument epoch : ℤ)
    → speed ≡ speed_of b k → minutes ≡ s.meridian -ℤ pos 60 → argument ≡ get_or b.angles (k * b.years + year) (pos 0)
    → epoch ≡ get_or s.epoch k (pos 0)
    → (speed *ℤ minutes) +ℤ (pos 60 *ℤ (argument -ℤ epoch)) ≡ angle_of b s year (start_of b.first_year year -ℤ pos 60) k
angle_an_hour_before b s year k speed minutes argument epoch is_speed is_minutes is_argument is_epoch =
    let hour = is_minutes ∙ hour_before (start_of b.first_year year) s.meridian in
    simp (is_speed, hour, is_argument, is_epoch)

pub speed_range : (b : Book) (k : ℕ) → IsBook b → k < length b.constituents
    → (pos 0 ≤ℤ speed_of b k) × (speed_of b k ≤ℤ pos 3600000000)
speed_range b k book in_list = with_one b.constituents refl
  where
    with_one : (cs : List Constituent) → cs ≡ b.constituents → (pos 0 ≤ℤ speed_of b k) × (speed_of b k ≤ℤ pos 3600000000)
    with_one [] e = absurd (omega (arith, in_list, ap length e))
    with_one (c ∷ cs) e =
        let w = (book.constituents k c in_list).speed in
        rw (get_or-map (λ c. c.speed) b.constituents k c (pos 0) in_list) (w.least, w.most)
