-- The station of an answer, and the steps before it.
use Rattle.std.proofs.Common.{◌≡◌, ℕ, ℤ, ◌≤ℤ◌, int_lt, Bool, true, false, ◌&&◌, List, Option, Some, None, Result, Ok, Err, refl, sym, subst, ap, ◌∙◌, arith}
use Rattle.std.specs.Prelude.{slice_get}
use Rattle.std.specs.Option.{ok_or}
use Rattle.std.proofs.lemmas.Int.{ints}
use Rattle.curve_law.proofs.CoverLemmas.{by_test}
use Rattle.event_list.specs.Shifts.{widened_of}
use Rattle.harmonics_book.specs.declared.book.Book.{Book}
use Rattle.harmonics_book.specs.declared.book.Units.{Units}
use Rattle.station_curve.specs.Curves.{Prediction, curve_of}
use Rattle.station_span.specs.declared.span_request.SpanRequest.{SpanRequest}
use Rattle.station_span.specs.declared.purpose.Purpose.{Purpose}
use Rattle.station_span.specs.declared.purpose.Purpose.TheVariants.{Events}
use Rattle.station_span.specs.Sites.{Site, basis_from, has_minute, has_span, lacks_minute, level_unit, length_in, mark_in, site_at, site_in, span_in, curve_from}
use Rattle.station_span.proofs.FoundLemmas.{HasCurve}
use Rattle.decimal_text.proofs.ExpectedLemmas.{then_ok}
use Rattle.station_table.specs.declared.basis.Basis.{Basis}
use Rattle.station_table.specs.declared.finding.FindFault.{FindFault}
use Rattle.station_table.specs.declared.offsets.Offsets.{Offsets}
use Rattle.station_table.specs.Bases.{basis_of}
use Rattle.tide_fault.specs.declared.refusal.Refusal.TheVariants.{NoStation}

-- ---- results and options

pub some_of : {T E : Type 0} (o : Option T) (fault : E) (x : T) → ok_or o fault ≡ Ok x → o ≡ Some x
some_of (Some y) fault x ok = cc
some_of None fault x ok = absurd cc

pub same_some : {T : Type 0} (o : Option T) (x y : T) → o ≡ Some x → o ≡ Some y → x ≡ y
same_some o x y left right = cc

pub basis_ok : (result : Result Basis FindFault) (basis : Basis) → basis_from result ≡ Ok basis → result ≡ Ok basis
basis_ok (Ok found) basis ok = cc
basis_ok (Err fault) basis ok = absurd cc

-- ---- the steps

-- the station and the offsets that a name finds, for any purpose, and the steps before the answer
pub record HasPassed (purpose : Purpose) (book : Book) (table : List Offsets) (name : List ℕ) (span_request : SpanRequest) (site : Site) : Type 0 where
  pub basis : basis_of book table name ≡ Ok site.basis
  pub station : slice_get book.stations site.basis.station ≡ Some site.station
  pub units : Units
  pub whole : Prediction
  pub curve : HasCurve purpose book site span_request units whole
  pub few : length_in span_request.begin span_request.end ≡ Ok tt
  pub mark : mark_in site.basis span_request.mark ≡ Ok tt

pub has_passed : (purpose : Purpose) (book : Book) (table : List Offsets) (name : List ℕ) (span_request : SpanRequest) (site : Site)
    → site_in purpose book table name span_request ≡ Ok site → HasPassed purpose book table name span_request site
unfolding site_in site_at
has_passed purpose book table name span_request site ok =
    let basis = then_ok (basis_from (basis_of book table name)) _ site ok in
    let station = then_ok (ok_or (slice_get book.stations basis.0.station) NoStation) _ site basis.2 in
    let unit = then_ok (level_unit station.0.units) _ site station.2 in
    let span = then_ok (span_in purpose book basis.0 span_request.begin span_request.end) _ site unit.2 in
    let curve = then_ok (curve_from (curve_of book station.0)) _ site span.2 in
    let few = then_ok (length_in span_request.begin span_request.end) _ site curve.2 in
    let mark = then_ok (mark_in basis.0 span_request.mark) _ site few.2 in
    let found : Site = record { basis = basis.0; station = station.0 } in
    let same : found ≡ site = (let last = mark.2 in cc) in
    subst (HasPassed purpose book table name span_request) same (record {
      basis = basis_ok _ basis.0 basis.1;
      station = some_of _ NoStation station.0 station.1;
      units = unit.0;
      whole = curve.0;
      curve = record { unit = unit.1; span = span.1; curve = curve.1 };
      few = few.1;
      mark = mark.1;
    })

pub same_site : (site found : Site) → found.basis ≡ site.basis → found.station ≡ site.station → found ≡ site
same_site site found basis station =
    ap (λ b. record { basis = b; station = found.station }) basis ∙ ap (λ s. record { basis = site.basis; station = s }) station

-- a name finds one station
pub one_site :
    (purpose other : Purpose) (book : Book) (table : List Offsets) (name : List ℕ) (span_request there : SpanRequest) (site found : Site)
    → site_in purpose book table name span_request ≡ Ok site → site_in other book table name there ≡ Ok found → found ≡ site
one_site purpose other book table name span_request there site found ok ok_there =
    let here = has_passed purpose book table name span_request site ok in
    let again = has_passed other book table name there found ok_there in
    let basis : found.basis ≡ site.basis = (let left = here.basis in let right = again.basis in cc) in
    let station : found.station ≡ site.station =
    same_some (slice_get book.stations site.basis.station) found.station site.station
    (ap (λ (b : Basis). slice_get book.stations b.station) (sym basis) ∙ again.station) here.station in
    same_site site found basis station

-- ---- the span

-- the file has the minutes from which the events of a span come
pub record ReachesSpan (book : Book) (basis : Basis) (begin end : ℤ) : Type 0 where
  pub forward : begin ≤ℤ end
  pub begins : has_minute book (widened_of basis begin end).begin ≡ true
  pub ends : has_minute book (widened_of basis begin end).end ≡ true

both : (a b : Bool) → (a && b) ≡ true → (a ≡ true) × (b ≡ true)
both true true is = (refl, refl)
both true false is = absurd cc
both false b is = absurd cc

not_after : (begin end : ℤ) → int_lt end begin ≡ false → begin ≤ℤ end
not_after begin end forward = grind (arith, ints)

pub reaches_span : (book : Book) (basis : Basis) (begin end : ℤ) → span_in Events book basis begin end ≡ Ok tt
    → ReachesSpan book basis begin end
unfolding span_in lacks_minute
reaches_span book basis begin end ok =
    let s = widened_of basis begin end in
    by_test (int_lt end begin)
    (λ backward. absurd (let none = rw backward at ok in cc))
    (λ forward. by_test (has_span book s)
    (λ inside.
    let parts = both (has_minute book s.begin) (has_minute book s.end) inside in
    record { forward = not_after begin end forward; begins = parts.0; ends = parts.1 })
    (λ outside. absurd (let none = rw (forward, outside) at ok in cc)))

-- the reference's minutes from which the events of a span come are those that are evaluated
pub reached_span : (book : Book) (basis : Basis) (begin end : ℤ) → begin ≤ℤ end
    → has_span book (widened_of basis begin end) ≡ true → span_in Events book basis begin end ≡ Ok tt
unfolding span_in lacks_minute
reached_span book basis begin end forward has =
    let test : int_lt end begin ≡ false = grind (arith, ints) in rw (test, has) refl
