-- A bound on the amplitudes of all years, by the greatest factor.
use Rattle.std.proofs.Common.{◌≡◌, ℕ, ◌+◌, ◌*◌, ◌/◌, ◌<◌, ◌≤◌, List, length, get_or, take, drop, ℤ, pos, negsuc, ◌*ℤ◌, ◌≤ℤ◌, refl, sym, ◌∙◌, arith}
use Rattle.std.specs.Prelude.{unsigned_abs, All}
use Rattle.std.proofs.lemmas.Int.{ints, unsigned_abs-mul}
use Rattle.std.proofs.lemmas.List.{get_or-take, get_or-drop, length-take, length-drop}
use Rattle.std.proofs.lemmas.Nat.{mul-le}
use Rattle.decimal_text.specs.Rounding.{half_up, rounded_of}
use Rattle.harmonics_book.specs.declared.book.Station.{Station}
use Rattle.harmonics_book.specs.declared.book.Book.{Book}
use Rattle.harmonics_book.specs.Books.{IsBook, IsWithin}
use Rattle.station_curve.specs.Schureman.{amplitude_of, speed_of}
use Rattle.station_curve.specs.Waves.{amount_of, steepness_of}
use Rattle.station_curve.specs.Workings.YearLimits.{factors_of}
use Rattle.station_curve.proofs.Present.{waves_at, amount_more, steepness_more}

rounded-size : (z : ℤ) (unit : ℕ) → unsigned_abs (rounded_of z unit) ≡ half_up (unsigned_abs z) unit
unfolding rounded_of
rounded-size (pos n) unit = refl
rounded-size (negsuc n) unit = omega (arith, ints)

half_up-most : (n most : ℕ) → n ≤ most → half_up n 1000000 ≤ most / 1000000 + 1
half_up-most n most few = omega (arith, few)

factor-size : (factor : ℤ) (greatest : ℕ) → pos 0 ≤ℤ factor → factor ≤ℤ pos greatest → unsigned_abs factor ≤ greatest
factor-size factor greatest least most = omega (arith, ints, least, most)

effective-most : (amplitude factor : ℤ) (greatest : ℕ) → pos 0 ≤ℤ factor → factor ≤ℤ pos greatest
    → unsigned_abs (rounded_of (amplitude *ℤ factor) 1000000) ≤ unsigned_abs amplitude * greatest / 1000000 + 1
effective-most amplitude factor greatest least most =
    rw (rounded-size (amplitude *ℤ factor) 1000000, unsigned_abs-mul amplitude factor)
    (half_up-most (unsigned_abs amplitude * unsigned_abs factor) (unsigned_abs amplitude * greatest)
    (mul-le (unsigned_abs amplitude) (unsigned_abs factor) (unsigned_abs amplitude) greatest (omega arith)
    (factor-size factor greatest least most)))

in_table : (k count years year : ℕ) → k < count → year < years → k * years + year < count * years
in_table k count years year row column =
    let more = mul-le (k + 1) years count years (omega (arith, row)) (omega arith) in
    omega (arith, more, column)

-- the factors of a constituent are the part of the table from its first year on
pub factor-at : (b : Book) (k year : ℕ) → year < b.years
    → get_or (factors_of b k) year (pos 0) ≡ get_or b.factors (k * b.years + year) (pos 0)
factor-at b k year in_years =
    get_or-take b.years (drop (k * b.years) b.factors) year (pos 0) in_years ∙ get_or-drop (k * b.years) b.factors year (pos 0)

pub factors-range : (b : Book) (k : ℕ) → IsBook b → k < length b.constituents
    → All (IsWithin (pos 0) (pos 10000000)) (factors_of b k)
factors-range b k book in_list year d within =
    let rest = drop (k * b.years) b.factors in
    let in_years : year < b.years = omega (arith, within, length-take b.years rest) in
    let place = k * b.years + year in
    let range = book.factors place d (omega (arith, book.all_factors, in_table k (length b.constituents) b.years year in_list in_years)) in
    rw (get_or-take b.years rest year d in_years, get_or-drop (k * b.years) b.factors year d) range

pub factors-length : (b : Book) (k year : ℕ) → IsBook b → k < length b.constituents → year < b.years
    → year < length (factors_of b k)
factors-length b k year book in_list in_years =
    let rest = drop (k * b.years) b.factors in
    let all = in_table k (length b.constituents) b.years year in_list in_years in
    let last = mul-le (k + 1) b.years (length b.constituents) b.years (omega (arith, in_list)) (omega arith) in
    omega (arith, in_years, last, book.all_factors, length-take b.years rest, length-drop (k * b.years) b.factors)

pub amplitude-most : (b : Book) (s : Station) (k greatest : ℕ) → IsBook b → k < length b.constituents
    → ((place : ℕ) → place < b.years → get_or (factors_of b k) place (pos 0) ≤ℤ pos greatest) → (year : ℕ) → year < b.years
    → unsigned_abs (amplitude_of b s year k) ≤ unsigned_abs (get_or s.amplitude k (pos 0)) * greatest / 1000000 + 1
amplitude-most b s k greatest book in_list all year in_years =
    let place = k * b.years + year in
    let range = book.factors place (pos 0) (omega (arith, book.all_factors, in_table k (length b.constituents) b.years year in_list in_years)) in
    effective-most (get_or s.amplitude k (pos 0)) (get_or b.factors place (pos 0)) greatest range.least
    (rw (sym (factor-at b k year in_years)) (all year in_years))

-- ---- the sums of a year, with one constituent more

pub amount-most : (b : Book) (s : Station) (year : ℕ) (places : List ℕ) (i amount size : ℕ) → i < length places
    → amount_of (take i (waves_at b s year places)) ≤ amount → unsigned_abs (amplitude_of b s year (get_or places i 0)) ≤ size
    → amount_of (take (i + 1) (waves_at b s year places)) ≤ amount + size
amount-most b s year places i amount size in_list before here =
    let more = amount_more b s year places i _ _ in_list refl refl in
    omega (arith, more, before, here)

pub steepness-most : (b : Book) (s : Station) (year : ℕ) (places : List ℕ) (i steepness size speed : ℕ)
    → i < length places → steepness_of (take i (waves_at b s year places)) ≤ steepness
    → unsigned_abs (amplitude_of b s year (get_or places i 0)) ≤ size → pos speed ≡ speed_of b (get_or places i 0)
    → steepness_of (take (i + 1) (waves_at b s year places)) ≤ steepness + size * speed
steepness-most b s year places i steepness size speed in_list before here is =
    let own = unsigned_abs (amplitude_of b s year (get_or places i 0)) in
    let more = steepness_more b s year places i _ own speed in_list refl refl is in
    let last = mul-le own speed size speed here (omega arith) in
    omega (arith, more, before, last)
