-- One more year is stored.
use Rattle.std.proofs.Common.{◌≡◌, ℤ, ℕ, zero, suc, ◌+◌, ◌-◌, ◌<◌, ◌≤◌, ◌^◌, unsigned_abs, List, [], ◌∷◌, ◌++◌, length, get_or, length-append, Some, None, inl, inr, refl, ap, subst, ◌∙◌, add-one, add-zero, add-suc, arith, lit<}
use Rattle.std.proofs.lemmas.List.{get_or_append_left}
use Rattle.std.proofs.Math.Seq.{get_or-append_seam}
use Rattle.std.proofs.lemmas.Bool.{cases_lt}
use Rattle.harmonics_book.specs.declared.book.Station.{Station}
use Rattle.harmonics_book.specs.declared.book.Book.{Book}
use Rattle.year_blend.specs.Places.{start_of}
use Rattle.year_blend.specs.Years.{IsYearInReach, year_start_of}
use Rattle.year_blend.proofs.YearLemmas.{year_start_of_size}
use Rattle.station_curve.specs.declared.years.Year.{Year}
use Rattle.station_curve.specs.declared.fault.CurveFault.{CurveFault}
use Rattle.station_curve.specs.Curves.{waves_over, year_fault, first_fault}
use Rattle.station_curve.specs.Workings.Prepared.{IsReadyYear, AreReady, stored_over}
use Rattle.station_curve.specs.Sums.{sums_of}
use Rattle.station_curve.proofs.Products.{cast_small, abs_within}
use mir.Syntax.{w32, w64}
use mir.Val.{to_z, of_z}

-- a calendar year and its start, as machine numbers
pub calendar_cast : (y : ℤ) → IsYearInReach y → to_z w32 (of_z w32 y) ≡ y
calendar_cast y reach = cast_small w32 y 9300 (abs_within y 2 9300 reach.least reach.most) (lit< tt)

pub start_cast : (y start : ℤ) → IsYearInReach y → start ≡ year_start_of (to_z w32 (of_z w32 y))
    → to_z w64 (of_z w64 start) ≡ year_start_of y
start_cast y start reach is =
    let start_is : start ≡ year_start_of y = rw (calendar_cast y reach) at is in
    let size = year_start_of_size y reach in
    rw start_is (cast_small w64 (year_start_of y) 4000000000 (omega (arith, size)) (lit< tt))

pub start_in_range : (y start : ℤ) → IsYearInReach y → start ≡ year_start_of (to_z w32 (of_z w32 y))
    → unsigned_abs (to_z w64 (of_z w64 start)) ≤ 10 ^ 12
start_in_range y start reach is =
    let size = year_start_of_size y reach in
    rw (start_cast y start reach is) (omega (arith, size))

-- the first fault of the years so far and of one more
pub none_more : (b : Book) (s : Station) (year : ℕ) → first_fault b s year ≡ None → year_fault b s year ≡ None
    → first_fault b s (year + 1) ≡ None
unfolding first_fault
none_more b s year before here = rw add-one (simp (before, here))

pub some_more : (b : Book) (s : Station) (year : ℕ) (fault : CurveFault) → first_fault b s year ≡ None
    → year_fault b s year ≡ Some fault → first_fault b s (year + 1) ≡ Some fault
unfolding first_fault
some_more b s year fault before here = rw add-one (simp (before, here))

stays : (b : Book) (s : Station) (year more : ℕ) (fault : CurveFault) → first_fault b s year ≡ Some fault
    → first_fault b s (year + more) ≡ Some fault
unfolding first_fault
stays b s year zero fault h = rw add-zero h
stays b s year (suc more) fault h = rw add-suc (simp (stays b s year more fault h))

pub fault_stays : (b : Book) (s : Station) (year years : ℕ) (fault : CurveFault)
    → first_fault b s (year + 1) ≡ Some fault → year < years → first_fault b s years ≡ Some fault
fault_stays b s year years fault h below =
    let all : (year + 1) + (years - (year + 1)) ≡ years = omega (arith, below) in
    rw (← all) (stays b s (year + 1) (years - (year + 1)) fault h)

pub ready_none : (b : Book) (s : Station) (first last : ℤ) → AreReady b s first last 0 []
unfolding first_fault
ready_none b s first last = record {
  counted = refl;
  waves = λ k d h. absurd (omega (arith, h));
  starts = λ k d h. absurd (omega (arith, h));
  ends = λ k d h. absurd (omega (arith, h));
  sums = λ k d h. absurd (omega (arith, h));
  within = refl;
}

-- a property of the years so far and of the last one is one of all
last_too : (P : ℕ → Year → Type 0) (years : List Year) (y : Year) (count : ℕ) → length years ≡ count
    → ((k : ℕ) (d : Year) → k < count → P k (get_or years k d)) → P count y → (k : ℕ) (d : Year) → k < count + 1
    → P k (get_or (years ++ y ∷ []) k d)
last_too P years y count counted before last k d h =
    elim (cases_lt k count) [
      | inl below ↦ rw (get_or_append_left years (y ∷ []) d k (omega (arith, below, counted))) (before k d below)
      | inr above ↦
          let at : length years ≡ k = omega (arith, h, above, counted) in
          subst (λ (i : ℕ). P i (get_or (years ++ y ∷ []) i d)) at (rw (get_or-append_seam years y [] d) (rw counted last))
    ]

pub ready_more : (b : Book) (s : Station) (first last : ℤ) (year : ℕ) (years : List Year) (y : Year)
    → AreReady b s first last year years → IsReadyYear b s first last year y → AreReady b s first last (year + 1) (years ++ y ∷ [])
ready_more b s first last year years y ready last_one = record {
  counted = length-append years (y ∷ []) ∙ ap (λ n. n + 1) ready.counted;
  waves = last_too (λ k y. y.waves.items ≡ stored_over b s first last k) years y year ready.counted ready.waves last_one.waves;
  starts = last_too (λ k y. y.start ≡ start_of b.first_year k) years y year ready.counted ready.starts last_one.start;
  ends = last_too (λ k y. y.end ≡ start_of b.first_year (suc k)) years y year ready.counted ready.ends last_one.end;
  sums = last_too (λ k y. y.sums ≡ sums_of (waves_over b s first last k)) years y year ready.counted ready.sums last_one.sums;
  within = none_more b s year ready.within last_one.within;
}
