-- The results of the steps of a station's span.
use Rattle.std.proofs.Common.{◌≡◌, ℕ, Bool, true, false, List, Option, Some, None, ℤ, Result, Ok, Err, slice_get, refl}
use Rattle.decimal_text.specs.Expected.{◌>>=◌, Excused}
use Rattle.harmonics_book.specs.declared.book.Book.{Book}
use Rattle.harmonics_book.specs.declared.book.Station.{Station}
use Rattle.harmonics_book.specs.declared.book.Units.{Units}
use Rattle.station_curve.specs.declared.fault.CurveFault.{CurveFault}
use Rattle.station_curve.specs.Curves.{first_fault, is_hydraulic, curve_of, curve_over, Prediction, prediction_of, prediction_over, unless_fault}
use Rattle.station_table.specs.declared.basis.Basis.{Basis}
use Rattle.station_table.specs.declared.offsets.Offsets.{Offsets}
use Rattle.station_table.specs.Bases.{basis_of}
use Rattle.station_span.specs.declared.span_request.SpanRequest.{SpanRequest}
use Rattle.station_span.specs.declared.purpose.Purpose.{Purpose}
use Rattle.tide_fault.specs.declared.refusal.Refusal.{Refusal}
use Rattle.station_span.specs.Sites.{Site, basis_from, level_unit, span_in, curve_from, length_in, mark_in, site_at, site_in, station_in}

pub excused_then : {A B : Type 0} (memory : Bool) (step : Result A Refusal) (next : A → Result B Refusal)
    (refusal : Refusal) → Excused memory step refusal → Excused memory (step >>= next) refusal
excused_then true step next refusal excused = tt
excused_then false step next refusal excused = rw excused refl

-- ---- the curve for some minutes is refused if that for all is

both_ok : (over whole same : Prediction) (fault : Option CurveFault) → curve_from (unless_fault over fault) ≡ Ok same
    → (curve_from (unless_fault whole fault) ≡ Ok whole) × (same ≡ over)
both_ok over whole same None ok = (refl, (let is : Ok over ≡ Ok same = ok in cc))
both_ok over whole same (Some fault) ok = absurd cc

over_ok : (hydraulic : Bool) (book : Book) (station : Station) (first last : ℤ) (curve : Prediction)
    → is_hydraulic station.units ≡ hydraulic → curve_from (curve_over book station first last) ≡ Ok curve
    → (curve_from (curve_of book station) ≡ Ok (prediction_of book station)) × (curve ≡ prediction_over book station first last)
unfolding curve_of curve_over
over_ok true book station first last curve is ok = absurd (let none = rw is at ok in cc)
over_ok false book station first last curve is ok =
    rw is (both_ok (prediction_over book station first last) (prediction_of book station) curve (first_fault book station book.years)
    (rw is at ok))

pub curve_allowed : (book : Book) (station : Station) (first last : ℤ) (curve : Prediction)
    → curve_from (curve_over book station first last) ≡ Ok curve
    → curve_from (curve_of book station) ≡ Ok (prediction_of book station)
curve_allowed book station first last curve ok = (over_ok _ book station first last curve refl ok).0

pub curve_alone : (book : Book) (station : Station) (first last : ℤ) (curve : Prediction)
    → curve_from (curve_over book station first last) ≡ Ok curve → curve ≡ prediction_over book station first last
curve_alone book station first last curve ok = (over_ok _ book station first last curve refl ok).1

pub whole_alone : (book : Book) (station : Station) (curve : Prediction)
    → curve_from (curve_of book station) ≡ Ok curve → curve ≡ prediction_of book station
unfolding curve_of
whole_alone book station curve ok = curve_alone book station _ _ curve ok

both_refused : (over whole : Prediction) (fault : Option CurveFault) (refusal : Refusal)
    → curve_from (unless_fault over fault) ≡ Err refusal → curve_from (unless_fault whole fault) ≡ Err refusal
both_refused over whole None refusal refused = absurd cc
both_refused over whole (Some fault) refusal refused = refused

over_refused : (hydraulic : Bool) (book : Book) (station : Station) (first last : ℤ) (refusal : Refusal)
    → is_hydraulic station.units ≡ hydraulic → curve_from (curve_over book station first last) ≡ Err refusal
    → curve_from (curve_of book station) ≡ Err refusal
unfolding curve_of curve_over
over_refused true book station first last refusal is refused = rw is (rw is at refused)
over_refused false book station first last refusal is refused =
    rw is (both_refused (prediction_over book station first last) (prediction_of book station)
    (first_fault book station book.years) refusal (rw is at refused))

pub curve_excused : (memory : Bool) (book : Book) (station : Station) (first last : ℤ) (refusal : Refusal)
    → Excused memory (curve_from (curve_over book station first last)) refusal
    → Excused memory (curve_from (curve_of book station)) refusal
curve_excused true book station first last refusal excused = tt
curve_excused false book station first last refusal excused = over_refused _ book station first last refusal refl excused

-- ---- the steps after the curve

-- the steps of a station up to its curve
pub record HasCurve (purpose : Purpose) (book : Book) (site : Site) (span_request : SpanRequest) (units : Units) (whole : Prediction) : Type 0 where
  pub unit : level_unit site.station.units ≡ Ok units
  pub span : span_in purpose book site.basis span_request.begin span_request.end ≡ Ok tt
  pub curve : curve_from (curve_of book site.station) ≡ Ok whole

-- the span is refused
pub refused_span : (memory : Bool) (purpose : Purpose) (book : Book) (site : Site) (span_request : SpanRequest) (units : Units)
    (refusal : Refusal) → level_unit site.station.units ≡ Ok units
    → Excused memory (span_in purpose book site.basis span_request.begin span_request.end) refusal
    → Excused memory (site_at purpose book site span_request) refusal
unfolding site_at
refused_span memory purpose book site span_request units refusal unit excused =
    rw unit (excused_then memory (span_in purpose book site.basis span_request.begin span_request.end) _ refusal excused)

-- the curve is refused
pub refused_curve :
    (memory : Bool) (purpose : Purpose) (book : Book) (site : Site) (span_request : SpanRequest) (units : Units) (refusal : Refusal)
    → level_unit site.station.units ≡ Ok units → span_in purpose book site.basis span_request.begin span_request.end ≡ Ok tt
    → Excused memory (curve_from (curve_of book site.station)) refusal
    → Excused memory (site_at purpose book site span_request) refusal
unfolding site_at
refused_curve memory purpose book site span_request units refusal unit span excused =
    rw (unit, span) (excused_then memory (curve_from (curve_of book site.station)) _ refusal excused)

-- the span's length is refused
pub refused_length : (memory : Bool) (purpose : Purpose) (book : Book) (site : Site) (span_request : SpanRequest) (units : Units)
    (curve : Prediction) (refusal : Refusal) → HasCurve purpose book site span_request units curve
    → Excused memory (length_in span_request.begin span_request.end) refusal → Excused memory (site_at purpose book site span_request) refusal
unfolding site_at
refused_length memory purpose book site span_request units curve refusal has excused =
    rw (has.unit, has.span, has.curve) (excused_then memory (length_in span_request.begin span_request.end) _ refusal excused)

-- the mark is refused
pub refused_mark : (memory : Bool) (purpose : Purpose) (book : Book) (site : Site) (span_request : SpanRequest) (units : Units)
    (curve : Prediction) (refusal : Refusal) → HasCurve purpose book site span_request units curve
    → length_in span_request.begin span_request.end ≡ Ok tt → Excused memory (mark_in site.basis span_request.mark) refusal
    → Excused memory (site_at purpose book site span_request) refusal
unfolding site_at
refused_mark memory purpose book site span_request units curve refusal has few excused =
    rw (has.unit, has.span, has.curve, few) (excused_then memory (mark_in site.basis span_request.mark) _ refusal excused)

-- nothing is refused
pub found_whole : (purpose : Purpose) (book : Book) (site : Site) (span_request : SpanRequest) (units : Units) (curve : Prediction)
    → HasCurve purpose book site span_request units curve → length_in span_request.begin span_request.end ≡ Ok tt
    → mark_in site.basis span_request.mark ≡ Ok tt → site_at purpose book site span_request ≡ Ok site
unfolding site_at
found_whole purpose book site span_request units curve has few mark = rw (has.unit, has.span, has.curve, few, mark) refl

-- ---- a station by its name

pub reference_whole : (book : Book) (table : List Offsets) (name : List ℕ) (site : Site) (units : Units) (curve : Prediction)
    → basis_from (basis_of book table name) ≡ Ok site.basis
    → slice_get book.stations site.basis.station ≡ Some site.station → level_unit site.station.units ≡ Ok units
    → curve_from (curve_of book site.station) ≡ Ok curve → station_in book table name ≡ Ok site
unfolding station_in
reference_whole book table name site units curve from is unit whole = rw (from, is, unit, whole) refl

pub found_by : (purpose : Purpose) (book : Book) (table : List Offsets) (name : List ℕ) (span_request : SpanRequest) (basis : Basis)
    (station : Station) → basis_from (basis_of book table name) ≡ Ok basis
    → slice_get book.stations basis.station ≡ Some station
    → site_in purpose book table name span_request ≡ site_at purpose book (record { basis = basis; station = station }) span_request
unfolding site_in
found_by purpose book table name span_request basis station from is = rw (from, is) refl

pub excused_by : {A : Type 0} (memory : Bool) (expected : Result A Refusal) (refusal : Refusal) → expected ≡ Err refusal
    → Excused memory expected refusal
excused_by true expected refusal e = tt
excused_by false expected refusal e = e
