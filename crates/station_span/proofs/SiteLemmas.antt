-- A station that was found has a curve.
use Rattle.std.proofs.Common.{◌≡◌, ℕ, zero, suc, ◌<◌, ◌≤◌, nat_lt, ℤ, pos, negsuc, ◌-ℤ◌, ◌≤ℤ◌, int_lt, unsigned_abs, Bool, true, false, IsTrue, List, [], ◌∷◌, length, Option, Some, None, Result, Ok, Err, All, slice_get, fold, refl, subst, ◌∙◌, arith}
use Rattle.std.specs.Int.{int_max, int_min}
use Rattle.std.specs.List.{position, position_or_len}
use Rattle.std.specs.Option.{ForSome, ok_or}
use Rattle.std.specs.Str.{bytes_eq}
use Rattle.std.proofs.lemmas.Bool.Decides.{nat_tests}
use Rattle.std.proofs.lemmas.Int.{ints, clamps}
use Rattle.std.proofs.lemmas.List.Elements.{All-head, All-tail}
use Rattle.curve_law.proofs.CoverLemmas.{by_test}
use Rattle.decimal_text.proofs.ExpectedLemmas.{then_ok}
use Rattle.event_list.specs.Shifts.{HasOffsets, slack_adds, greatest_add, least_add}
use Rattle.harmonics_book.specs.declared.book.Book.{Book}
use Rattle.harmonics_book.specs.declared.book.Station.{Station}
use Rattle.harmonics_book.specs.declared.book.Units.{Units}
use Rattle.harmonics_book.specs.declared.book.Units.TheVariants.{Feet, Meters, Knots, KnotsSquared}
use Rattle.harmonics_book.specs.Books.{IsBook, IsStation}
use Rattle.station_curve.specs.declared.fault.CurveFault.{CurveFault}
use Rattle.station_curve.specs.Curves.{is_hydraulic, first_fault, curve_of, Prediction, curve_over, prediction_of, unless_fault}
use Rattle.station_table.specs.declared.basis.Basis.{Basis}
use Rattle.station_table.specs.declared.finding.FindFault.{FindFault}
use Rattle.station_table.specs.declared.finding.FindFault.TheVariants as find
use Rattle.station_table.specs.declared.offset.Slack.{Slack}
use Rattle.station_table.specs.declared.offsets.Offsets.{Offsets}
use Rattle.station_table.specs.Bases.{IsBasis, usual, is_equal, station_at, row_at, reference_or, basis_over, basis_in, basis_of}
use Rattle.station_table.specs.Offsets.{IsTable, IsOffset, IsOffsets, IsSlack}
use Rattle.station_span.specs.declared.span_request.SpanRequest.{SpanRequest}
use Rattle.station_span.specs.declared.purpose.Purpose.{Purpose}
use Rattle.station_span.specs.declared.purpose.Purpose.TheVariants.{Events, Levels, Highest}
use Rattle.tide_fault.specs.declared.refusal.Refusal.TheVariants.{NoStation}
use Rattle.station_span.specs.Sites.{Site, basis_from, lacks_minute, level_unit, moved, reached, has_span, span_in, curve_from, length_in, mark_in, span_limit, site_at, site_in}
use Rattle.station_span.specs.Workings.Spans.{HasLevels, IsBeside, IsFound, IsInRange, IsSpanInRange, IsReached}
use Rattle.station_span.proofs.FoundLemmas.{HasCurve, found_by, found_whole}
use Rattle.station_span.proofs.SpanLemmas.{has_offsets, reached_span}
use Rattle.station_curve.proofs.WithinLimits.{limits_of}

-- ---- the results of a station's steps

record WentThrough (purpose : Purpose) (book : Book) (site : Site) (span_request : SpanRequest) : Type 0 where
  pub units : Units
  pub whole : Prediction
  pub curve : HasCurve purpose book site span_request units whole
  pub few : length_in span_request.begin span_request.end ≡ Ok tt
  pub mark : mark_in site.basis span_request.mark ≡ Ok tt

site_steps : (purpose : Purpose) (book : Book) (site result : Site) (span_request : SpanRequest)
    → site_at purpose book site span_request ≡ Ok result → WentThrough purpose book site span_request × (site ≡ result)
unfolding site_at
site_steps purpose book site result span_request ok =
    let unit = then_ok (level_unit site.station.units) _ result ok in
    let span = then_ok (span_in purpose book site.basis span_request.begin span_request.end) _ result unit.2 in
    let curve = then_ok (curve_from (curve_of book site.station)) _ result span.2 in
    let few = then_ok (length_in span_request.begin span_request.end) _ result curve.2 in
    let mark = then_ok (mark_in site.basis span_request.mark) _ result few.2 in
    let same : site ≡ result = (let last = mark.2 in cc) in (
      record {
        units = unit.0;
        whole = curve.0;
        curve = record { unit = unit.1; span = span.1; curve = curve.1 };
        few = few.1;
        mark = mark.1;
      },
      same,
    )

record WasFound (purpose : Purpose) (book : Book) (table : List Offsets) (name : List ℕ) (span_request : SpanRequest) (site : Site) : Type 0 where
  pub basis : basis_from (basis_of book table name) ≡ Ok site.basis
  pub station : slice_get book.stations site.basis.station ≡ Some site.station
  pub steps : WentThrough purpose book site span_request

got_ok : {T E : Type 0} (o : Option T) (fault : E) (x : T) → ok_or o fault ≡ Ok x → o ≡ Some x
got_ok (Some y) fault x ok = cc
got_ok None fault x ok = absurd cc

was_found : (purpose : Purpose) (book : Book) (table : List Offsets) (name : List ℕ) (span_request : SpanRequest) (site : Site)
    → site_in purpose book table name span_request ≡ Ok site → WasFound purpose book table name span_request site
unfolding site_in
was_found purpose book table name span_request site ok =
    let basis = then_ok (basis_from (basis_of book table name)) _ site ok in
    let station = then_ok (ok_or (slice_get book.stations basis.0.station) NoStation) _ site basis.2 in
    let steps = site_steps purpose book (record { basis = basis.0; station = station.0 }) site span_request station.2 in
    subst (WasFound purpose book table name span_request) steps.1
    (record { basis = basis.1; station = got_ok _ NoStation station.0 station.1; steps = steps.0 })

-- ---- each step

unit_levels : (units same : Units) → level_unit units ≡ Ok same → HasLevels units
unit_levels Feet same ok = refl
unit_levels Meters same ok = refl
unit_levels Knots same ok = refl
unit_levels KnotsSquared same ok = absurd cc

no_fault : (whole same : Prediction) (fault : Option CurveFault) → curve_from (unless_fault whole fault) ≡ Ok same → fault ≡ None
no_fault whole same None ok = refl
no_fault whole same (Some fault) ok = absurd cc

pub curve_none : (book : Book) (station : Station) (hydraulic : Bool) (curve : Prediction) → is_hydraulic station.units ≡ hydraulic
    → curve_from (curve_of book station) ≡ Ok curve → first_fault book station book.years ≡ None
unfolding curve_of curve_over
curve_none book station true curve is ok = absurd (let none = rw is at ok in cc)
curve_none book station false curve is ok = no_fault (prediction_of book station) curve _ (rw is at ok)

few_minutes : (begin end : ℤ) → length_in begin end ≡ Ok tt → (end -ℤ begin) ≤ℤ span_limit
unfolding length_in
few_minutes begin end ok = by_test (int_lt span_limit (end -ℤ begin))
    (λ long. absurd (let none = rw long at ok in cc))
    (λ short. grind (arith, ints))

mark_here : (basis : Basis) (mark : Option ℤ) → mark_in basis mark ≡ Ok tt → ForSome mark (λ level. IsTrue (is_equal basis))
mark_here basis None ok level is = absurd cc
mark_here basis (Some mark) ok level is = by_test (is_equal basis)
    (λ equal. rw equal refl)
    (λ other. absurd (let none = rw other at ok in cc))

span_tests : (purpose : Purpose) (book : Book) (basis : Basis) (begin end : ℤ) → span_in purpose book basis begin end ≡ Ok tt
    → (int_lt end begin ≡ false) × (lacks_minute purpose begin end ≡ false)
    × (has_span book (reached purpose basis begin end) ≡ true)
unfolding span_in
span_tests purpose book basis begin end ok = by_test (int_lt end begin)
    (λ backward. absurd (let none = rw backward at ok in cc))
    (λ forward. by_test (lacks_minute purpose begin end)
    (λ lacking. absurd (let none = rw (forward, lacking) at ok in cc))
    (λ some. by_test (has_span book (reached purpose basis begin end))
    (λ inside. (forward, some, inside))
    (λ outside. absurd (let none = rw (forward, some, outside) at ok in cc))))

-- ---- the offsets

pub position_within : {T : Type 0} (test : T → Bool) (xs : List T) (index : ℕ) → position test xs ≡ Some index
    → (position_or_len test xs < length xs) × (position_or_len test xs ≡ index)
position_within test xs index is = by_test (nat_lt (position_or_len test xs) (length xs))
    (λ within. (grind (arith, nat_tests), (let some = rw within at is in cc)))
    (λ beyond. absurd (let none = rw beyond at is in cc))

placed : {T : Type 0} (test : T → Bool) (xs : List T) (index : ℕ) → position test xs ≡ Some index → index < length xs
placed test xs index is = let at = position_within test xs index is in rw (← at.1) at.0

each_got : {T : Type 0} (P : T → Type 0) (xs : List T) (index : ℕ) (x : T) → All P xs → slice_get xs index ≡ Some x → P x
each_got P [] index x all got = absurd cc
each_got P (y ∷ ys) zero x all got = let same : y ≡ x = cc in subst P same (All-head P y ys all)
each_got P (y ∷ ys) (suc index) x all got = each_got P ys index x (All-tail P y ys all) got

usual_offset : IsOffset usual
usual_offset = record {
  add = record { least = omega (arith, ints); most = omega (arith, ints) };
  times = record { least = omega (arith, ints); most = omega (arith, ints) };
  plus = record { least = omega (arith, ints); most = omega (arith, ints) };
}

no_slack : ForSome None IsSlack
no_slack slack is = absurd cc

over_valid : (book : Book) (row : ℕ) (offsets : Offsets) (basis : Basis) (index : Option ℕ) → IsOffsets offsets
    → station_at book offsets.reference ≡ index → basis_over book row offsets ≡ Ok basis
    → IsBasis (length book.stations) basis
unfolding basis_over
over_valid book row offsets basis (Some station) valid found_station ok =
    let same :
    record { station = station; row = Some row; high = offsets.high; low = offsets.low; slack = offsets.slack }
    ≡ basis = (let some = rw found_station at ok in cc) in
    subst (IsBasis (length book.stations)) same (record {
      station = placed (λ (s : Station). bytes_eq s.name offsets.reference) book.stations station found_station;
      high = valid.high;
      low = valid.low;
      slack = valid.slack;
    })
over_valid book row offsets basis None valid found_station ok = absurd (let none = rw found_station at ok in cc)

in_valid : (book : Book) (table : List Offsets) (name : List ℕ) (basis : Basis) → IsTable table
    → basis_in book table name ≡ Ok basis → IsBasis (length book.stations) basis
unfolding basis_in
in_valid book table name basis is ok =
    let row = then_ok (ok_or (row_at table name) find.NoStation) _ basis ok in
    let offsets = then_ok (ok_or (slice_get table row.0) find.NoStation) _ basis row.2 in
    over_valid book row.0 offsets.0 basis (station_at book offsets.0.reference)
    (each_got IsOffsets table row.0 offsets.0 is.each (got_ok _ find.NoStation offsets.0 offsets.1)) refl offsets.2

of_valid : (book : Book) (table : List Offsets) (name : List ℕ) (basis : Basis) (index : Option ℕ) → IsTable table
    → station_at book name ≡ index → reference_or (basis_in book table name) index ≡ Ok basis
    → IsBasis (length book.stations) basis
of_valid book table name basis (Some station) is found_station ok =
    let same : record { station = station; row = None; high = usual; low = usual; slack = None } ≡ basis = cc in
    subst (IsBasis (length book.stations)) same (record {
      station = placed (λ (s : Station). bytes_eq s.name name) book.stations station found_station;
      high = usual_offset;
      low = usual_offset;
      slack = no_slack;
    })
of_valid book table name basis None is found_station ok = in_valid book table name basis is ok

basis_ok : (result : Result Basis FindFault) (basis : Basis) → basis_from result ≡ Ok basis → result ≡ Ok basis
basis_ok (Ok found_station) basis ok = cc
basis_ok (Err fault) basis ok = absurd cc

basis_valid : (book : Book) (table : List Offsets) (name : List ℕ) (basis : Basis) → IsTable table
    → basis_from (basis_of book table name) ≡ Ok basis → IsBasis (length book.stations) basis
unfolding basis_of
basis_valid book table name basis is ok =
    of_valid book table name basis (station_at book name) is refl (basis_ok _ basis ok)

-- ---- the minutes that are evaluated

record AreAdds (low high : ℤ) : Type 0 where
  pub least : negsuc 1439 ≤ℤ low
  pub ordered : low ≤ℤ high
  pub most : high ≤ℤ pos 1440

adds_in_range : (high low : ℤ) (slack : Option Slack) → unsigned_abs high ≤ 1440 → unsigned_abs low ≤ 1440
    → ForSome slack IsSlack
    → AreAdds (fold int_min high (low ∷ slack_adds slack)) (fold int_max high (low ∷ slack_adds slack))
adds_in_range high low None h l s =
    record { least = omega (arith, ints, clamps); ordered = omega (arith, ints, clamps); most = omega (arith, ints, clamps) }
adds_in_range high low (Some slack) h l s =
    let both = s slack refl in
    let flood = both.flood_add in
    let ebb = both.ebb_add in
    record { least = omega (arith, ints, clamps); ordered = omega (arith, ints, clamps); most = omega (arith, ints, clamps) }

basis_adds : (basis : Basis) → HasOffsets basis → AreAdds (least_add basis) (greatest_add basis)
basis_adds basis has =
    let high = has.high.add in
    let low = has.low.add in
    adds_in_range basis.high.add basis.low.add basis.slack (omega (arith, ints)) (omega (arith, ints)) has.slack

span_in_range : (begin end least greatest : ℤ) → begin ≤ℤ end → unsigned_abs begin ≤ 20000000000 → unsigned_abs end
    ≤ 20000000000 → AreAdds least greatest → IsSpanInRange (record { begin = begin -ℤ greatest; end = end -ℤ least })
    × IsBeside begin end (record { begin = begin -ℤ greatest; end = end -ℤ least })
span_in_range begin end least greatest forward b e adds =
    let low = adds.least in
    let mid = adds.ordered in
    let high = adds.most in (
      record { forward = omega (arith, ints); begin = omega (arith, ints); end = omega (arith, ints) },
      record { begins = omega (arith, ints); ends = omega (arith, ints) },
    )

high_add : (basis : Basis) → HasOffsets basis → AreAdds basis.high.add basis.high.add
high_add basis has =
    let add = has.high.add in record { least = add.least; ordered = omega (arith, ints); most = add.most }

moved_in_range : (basis : Basis) (begin end : ℤ) → begin ≤ℤ end → unsigned_abs begin ≤ 20000000000
    → unsigned_abs end ≤ 20000000000 → HasOffsets basis
    → IsSpanInRange (moved basis begin end) × IsBeside begin end (moved basis begin end)
moved_in_range basis begin end forward b e has = by_test (is_equal basis)
    (λ equal. rw equal (span_in_range begin end basis.high.add basis.high.add forward b e (high_add basis has)))
    (λ other. rw other (span_in_range begin end (least_add basis) (greatest_add basis) forward b e (basis_adds basis has)))

reached_in_range : (purpose : Purpose) (basis : Basis) (begin end : ℤ) → begin ≤ℤ end → unsigned_abs begin ≤ 20000000000
    → unsigned_abs end ≤ 20000000000 → HasOffsets basis
    → IsSpanInRange (reached purpose basis begin end) × IsBeside begin end (reached purpose basis begin end)
reached_in_range Events basis begin end forward b e has =
    span_in_range begin end (least_add basis) (greatest_add basis) forward b e (basis_adds basis has)
reached_in_range Levels basis begin end forward b e has = moved_in_range basis begin end forward b e has
reached_in_range Highest basis begin end forward b e has = moved_in_range basis begin end forward b e has

pub span_reached : (purpose : Purpose) (book : Book) (basis : Basis) (span_request : SpanRequest) → HasOffsets basis → IsInRange span_request
    → span_in purpose book basis span_request.begin span_request.end ≡ Ok tt → IsReached purpose book basis span_request.begin span_request.end
span_reached purpose book basis span_request has in_range ok =
    let tests = span_tests purpose book basis span_request.begin span_request.end ok in
    let forward : span_request.begin ≤ℤ span_request.end = (let test = tests.0 in grind (arith, ints)) in
    let both = reached_in_range purpose basis span_request.begin span_request.end forward in_range.begin in_range.end has in
    reached_span purpose book basis span_request.begin span_request.end tests.0 tests.1 tests.2 both.0 both.1

-- ---- a station that was found has a curve

pub found_of_site : (purpose : Purpose) (book : Book) (table : List Offsets) (name : List ℕ) (span_request : SpanRequest) (site : Site)
    → IsBook book → IsTable table → IsInRange span_request → site_in purpose book table name span_request ≡ Ok site
    → IsFound purpose book span_request site
found_of_site purpose book table name span_request site is rows in_range ok =
    let was = was_found purpose book table name span_request site ok in
    let steps = was.steps in
    let valid = basis_valid book table name site.basis rows was.basis in
    let station = each_got (IsStation (length book.constituents)) book.stations site.basis.station site.station is.stations was.station in
    let span = span_reached purpose book site.basis span_request (has_offsets _ site.basis valid) in_range steps.curve.span in
    record {
      valid = valid;
      levels = unit_levels site.station.units steps.units steps.curve.unit;
      limits = limits_of book site.station is station (curve_none book site.station _ steps.whole refl steps.curve.curve);
      span = span;
      few = few_minutes span_request.begin span_request.end steps.few;
      mark = mark_here site.basis span_request.mark steps.mark;
      in_range = in_range;
    }

-- ---- the facts of any station that was found

-- the span of a station that was found has the minutes that are needed
pub site_minutes : (purpose : Purpose) (book : Book) (table : List Offsets) (name : List ℕ) (span_request : SpanRequest) (site : Site)
    → site_in purpose book table name span_request ≡ Ok site → lacks_minute purpose span_request.begin span_request.end ≡ false
site_minutes purpose book table name span_request site ok =
    let was = was_found purpose book table name span_request site ok in
    (span_tests purpose book site.basis span_request.begin span_request.end was.steps.curve.span).1

-- the offsets of a station that was found are in the ranges of a table
pub site_basis : (purpose : Purpose) (book : Book) (table : List Offsets) (name : List ℕ) (span_request : SpanRequest) (site : Site)
    → IsTable table → site_in purpose book table name span_request ≡ Ok site → IsBasis (length book.stations) site.basis
site_basis purpose book table name span_request site rows ok =
    basis_valid book table name site.basis rows (was_found purpose book table name span_request site ok).basis

-- a station that was found is found also without a mark
pub site_unmarked : (purpose : Purpose) (book : Book) (table : List Offsets) (name : List ℕ) (span_request : SpanRequest) (site : Site)
    → site_in purpose book table name span_request ≡ Ok site
    → site_in purpose book table name (record span_request { mark = None }) ≡ Ok site
site_unmarked purpose book table name span_request site ok =
    let was = was_found purpose book table name span_request site ok in
    let steps = was.steps in
    let bare : SpanRequest = record span_request { mark = None } in
    let curve = steps.curve in
    found_by purpose book table name bare site.basis site.station was.basis was.station
    ∙ found_whole purpose book site bare steps.units steps.whole
    (record { unit = curve.unit; span = curve.span; curve = curve.curve }) steps.few refl
