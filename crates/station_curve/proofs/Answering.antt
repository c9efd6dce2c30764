-- The result of making a station's curve.
use Rattle.std.proofs.Common.{◌≡◌, ℕ, ◌<◌, List, length, get_or, ℤ, subst, true, false, Some, None, Ok, Err, ◌⊎◌, inl, inr}
use Rattle.std.specs.Prelude.{IfSome, slice_get}
use Rattle.std.proofs.lemmas.Option.{slice_get-get_or}
use Rattle.harmonics_book.specs.declared.book.Station.{Station}
use Rattle.harmonics_book.specs.declared.book.Book.{Book}
use Rattle.station_curve.specs.declared.fault.CurveFault.{CurveFault}
use Rattle.station_curve.specs.declared.fault.CurveFault.TheVariants.{Hydraulic, TooLarge, TooSteep, NoMemory}
use Rattle.decimal_text.specs.Expected.{EqualsUnlessNoMemory}
use Rattle.station_curve.specs.Curves.{first_fault, prediction_over, is_hydraulic, curve_over, is_out_of_memory}

pub hydraulic_answer : (b : Book) (s : Station) (first last : ℤ) → is_hydraulic s.units ≡ true → curve_over b s first last ≡ Err Hydraulic
unfolding curve_over
hydraulic_answer b s first last h = simp h

pub ok_answer : (b : Book) (s : Station) (first last : ℤ) → is_hydraulic s.units ≡ false
    → first_fault b s b.years ≡ None → curve_over b s first last ≡ Ok (prediction_over b s first last)
unfolding curve_over
ok_answer b s first last h none = simp (h, none)

fault_found : (b : Book) (s : Station) (first last : ℤ) (fault : CurveFault) → is_hydraulic s.units ≡ false
    → first_fault b s b.years ≡ Some fault → curve_over b s first last ≡ Err fault
unfolding curve_over
fault_found b s first last fault h found = simp (h, found)

pub fault_answer : (b : Book) (s : Station) (first last : ℤ) (fault : CurveFault) → is_hydraulic s.units ≡ false
    → (fault ≡ NoMemory) ⊎ (first_fault b s b.years ≡ Some fault)
    → EqualsUnlessNoMemory is_out_of_memory (curve_over b s first last) (Err fault)
fault_answer b s first last NoMemory h why = tt
fault_answer b s first last Hydraulic h (inl e) = cc
fault_answer b s first last Hydraulic h (inr found) = fault_found b s first last Hydraulic h found
fault_answer b s first last (TooLarge year) h (inl e) = cc
fault_answer b s first last (TooLarge year) h (inr found) = fault_found b s first last (TooLarge year) h found
fault_answer b s first last (TooSteep year) h (inl e) = cc
fault_answer b s first last (TooSteep year) h (inr found) = fault_found b s first last (TooSteep year) h found

-- the station with an index of the book's list
pub at_station : (P : Station → Type 0) (xs : List Station) (i : ℕ) (s : Station) → i < length xs → s ≡ get_or xs i s
    → P s → IfSome (slice_get xs i) P
at_station P xs i s in_list is holds = rw (slice_get-get_or xs i s in_list) (subst P is holds)
