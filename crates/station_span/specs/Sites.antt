-- The steps of every request about a station's span, in the order of refusals (this project).
use Rattle.std.specs.Prelude.{ℕ, ℤ, pos, ◌+ℤ◌, ◌-ℤ◌, int_lt, int_le, Bool, true, false, ◌&&◌, if◌then◌else◌, List, Option, Some, None, Result, Ok, Err, slice_get}
use Rattle.std.specs.Option.{ok_or}
use Rattle.decimal_text.specs.Expected.{◌>>=◌}
use Rattle.event_list.specs.declared.span.Span.{Span}
use Rattle.event_list.specs.Shifts.{widened_of}
use Rattle.harmonics_book.specs.declared.book.Book.{Book}
use Rattle.harmonics_book.specs.declared.book.Station.{Station}
use Rattle.harmonics_book.specs.declared.book.Units.{Units}
use Rattle.harmonics_book.specs.declared.book.Units.TheVariants.{Feet, Meters, Knots, KnotsSquared}
use Rattle.station_curve.specs.declared.fault.CurveFault.{CurveFault}
use Rattle.station_curve.specs.Curves.{Prediction, curve_of}
use Rattle.station_table.specs.declared.basis.Basis.{Basis}
use Rattle.station_table.specs.declared.finding.FindFault.{FindFault}
use Rattle.station_table.specs.declared.offsets.Offsets.{Offsets}
use Rattle.station_table.specs.Bases.{basis_of, is_equal}
use Rattle.year_blend.specs.Years.{year_start_of}
use Rattle.station_span.specs.declared.span_request.SpanRequest.{SpanRequest}
use Rattle.station_span.specs.declared.purpose.Purpose.{Purpose}
use Rattle.station_span.specs.declared.purpose.Purpose.TheVariants.{Events, Levels, Highest}
use Rattle.tide_fault.specs.declared.refusal.Refusal.{Refusal}
use Rattle.tide_fault.specs.declared.refusal.Refusal.TheVariants.{NoStation, Hydraulic, BackwardSpan, EmptySpan, OutOfYears, SpanTooLong, MarkNotHere}
use Rattle.tide_fault.specs.Faults.{refusal_of_curve, refusal_of_find}

-- a station of a harmonics file (`station`), and the offsets (`basis`) of the requested station from it
pub record Site : Type 0 where
  pub basis : Basis
  pub station : Station

-- the stations that can be requested: the stations of a harmonics file, and the subordinate stations of
-- a table of offsets
pub record BookWithTable : Type 0 where
  pub book : Book
  pub table : List Offsets

-- a request about a station: the station's name, a span and an optional mark
pub record NamedSpan : Type 0 where
  pub name : List ℕ
  pub span_request : SpanRequest

-- the greatest number of minutes that the span of a request may have
abbrev pub span_limit : ℤ
span_limit = pos 5270400

-- ---- each step

-- the same basis (the index of a reference station, and offsets from it), or the refusal for the
-- fault in finding it
abbrev pub basis_from : Result Basis FindFault → Result Basis Refusal
basis_from (Ok basis) = Ok basis
basis_from (Err fault) = Err (refusal_of_find fault)

-- Ok with the unit if levels can be given in it; knots squared, the unit of a hydraulic current, is
-- refused
abbrev pub level_unit : Units → Result Units Refusal
level_unit Feet = Ok Feet
level_unit Meters = Ok Meters
level_unit Knots = Ok Knots
level_unit KnotsSquared = Err Hydraulic

-- the minutes of the reference station that a request for levels needs: if high and low waters have the
-- same offset, the span moved back by the offset's minutes; otherwise the minutes that determine all
-- events of the span
abbrev pub moved : Basis → ℤ → ℤ → Span
moved basis begin end =
    if is_equal basis then record { begin = begin -ℤ basis.high.add; end = end -ℤ basis.high.add }
    else widened_of basis begin end

-- the minutes of the reference station that a request for this purpose needs: for events, the
-- minutes at which an event can be moved into the span by the offsets; for levels and the highest
-- water, the span moved back by the offset (`moved`)
abbrev pub reached : Purpose → Basis → ℤ → ℤ → Span
reached Events basis begin end = widened_of basis begin end
reached Levels basis begin end = moved basis begin end
reached Highest basis begin end = moved basis begin end

-- Bool: whether a request for this purpose needs a span with at least one minute: only the highest water
-- does
abbrev pub needs_minute : Purpose → Bool
needs_minute Events = false
needs_minute Levels = false
needs_minute Highest = true

-- Bool: whether the span from `begin` up to but not including `end` has no minute although a request for
-- this purpose needs one
unfoldable pub lacks_minute : Purpose → ℤ → ℤ → Bool
lacks_minute purpose begin end = needs_minute purpose && int_le end begin

-- Bool: whether a minute, since 1970-01-01T00:00Z, is in the years of the harmonics file or is the first
-- minute after them
abbrev pub has_minute : Book → ℤ → Bool
has_minute book minute =
    int_le (year_start_of book.first_year) minute
    && int_le minute (year_start_of (book.first_year +ℤ pos book.years))

-- Bool: whether the first minute of a span and the minute at its end are both in the years of the
-- harmonics file or the first minute after them
abbrev pub has_span : Book → Span → Bool
has_span book span = has_minute book span.begin && has_minute book span.end

-- Ok if a request for this purpose may have the span from `begin` up to but not including `end`: `end`
-- isn't before `begin`, the span has a minute if the purpose needs one, and the harmonics file has all
-- minutes of the reference station that are needed; otherwise the first refusal
unfoldable pub span_in : Purpose → Book → Basis → ℤ → ℤ → Result (Unit {0}) Refusal
span_in purpose book basis begin end =
    if int_lt end begin then Err BackwardSpan
    else if lacks_minute purpose begin end then Err EmptySpan
    else if has_span book (reached purpose basis begin end) then Ok tt
    else Err (OutOfYears (year_start_of book.first_year) (year_start_of (book.first_year +ℤ pos book.years)))

-- the same curve, or the refusal for the fault because of which the station has no curve
abbrev pub curve_from : Result Prediction CurveFault → Result Prediction Refusal
curve_from (Ok curve) = Ok curve
curve_from (Err fault) = Err (refusal_of_curve fault)

-- Ok if the span from `begin` to `end` has at most 5,270,400 minutes; otherwise the refusal SpanTooLong
unfoldable pub length_in : ℤ → ℤ → Result (Unit {0}) Refusal
length_in begin end =
    if int_lt span_limit (end -ℤ begin) then Err (SpanTooLong (end -ℤ begin)) else Ok tt

-- Ok if there is no mark, or the station's high and low waters have the same offsets; otherwise the
-- refusal MarkNotHere
abbrev pub mark_in : Basis → Option ℤ → Result (Unit {0}) Refusal
mark_in basis None = Ok tt
mark_in basis (Some mark) = if is_equal basis then Ok tt else Err MarkNotHere

-- ---- all of them

-- Ok with the station, if its unit, the span, its constants, the span's length and the mark allow an
-- answer to a request for this purpose; otherwise the refusal of the first that doesn't
unfoldable pub site_at : Purpose → Book → Site → SpanRequest → Result Site Refusal
site_at purpose book site span_request = do
  units ← level_unit site.station.units
  span ← span_in purpose book site.basis span_request.begin span_request.end
  curve ← curve_from (curve_of book site.station)
  few ← length_in span_request.begin span_request.end
  mark ← mark_in site.basis span_request.mark
  Ok site

-- Ok with the station called `name` and its offsets, if a request for this purpose over this span has an
-- answer; otherwise the first refusal
unfoldable pub site_in : Purpose → Book → List Offsets → List ℕ → SpanRequest → Result Site Refusal
site_in purpose book table name span_request = do
  basis ← basis_from (basis_of book table name)
  station ← ok_or (slice_get book.stations basis.station) NoStation
  site_at purpose book (record { basis = basis; station = station }) span_request

-- Ok with the station called `name` and its offsets, if its reference station has a curve for all
-- minutes of the harmonics file; otherwise the first refusal
unfoldable pub station_in : Book → List Offsets → List ℕ → Result Site Refusal
station_in book table name = do
  basis ← basis_from (basis_of book table name)
  station ← ok_or (slice_get book.stations basis.station) NoStation
  units ← level_unit station.units
  curve ← curve_from (curve_of book station)
  Ok (record { basis = basis; station = station })
