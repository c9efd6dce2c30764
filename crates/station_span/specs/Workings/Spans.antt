-- The facts that the steps of an answer pass to the next steps.
use Rattle.std.specs.Prelude.{◌≡◌, ℤ, negsuc, pos, ◌-ℤ◌, ◌≤ℤ◌, ◌≤◌, unsigned_abs, length, Bool, true, false, IsTrue}
use Rattle.std.specs.Option.{ForSome}
use Rattle.event_list.specs.declared.span.Span.{Span}
use Rattle.harmonics_book.specs.declared.book.Book.{Book}
use Rattle.harmonics_book.specs.declared.book.Units.{Units}
use Rattle.harmonics_book.specs.declared.book.Units.TheVariants.{Feet, Meters, Knots, KnotsSquared}
use Rattle.station_curve.specs.Curves.{IsWithinLimits}
use Rattle.station_table.specs.declared.basis.Basis.{Basis}
use Rattle.station_table.specs.Bases.{IsBasis, is_equal}
use Rattle.year_blend.specs.Places.{InDomain}
use Rattle.zone_time.specs.Moments.{IsMoment}
use Rattle.station_span.specs.declared.span_request.SpanRequest.{SpanRequest}
use Rattle.station_span.specs.declared.purpose.Purpose.{Purpose}
use Rattle.station_span.specs.Sites.{Site, lacks_minute, reached, span_limit}
use Rattle.harmonics_book.specs.declared.book.Station.{Station}

-- the begin and the end of a request's span are at most 20,000,000,000 minutes in size, and its mark, if
-- any, at most 10,000,000,000 millionths
pub record IsInRange (span_request : SpanRequest) : Type 0 where
  pub begin : unsigned_abs span_request.begin ≤ 20000000000
  pub end : unsigned_abs span_request.end ≤ 20000000000
  pub mark : ForSome span_request.mark (λ level. unsigned_abs level ≤ 10000000000)

-- the span `s` isn't backward, and its begin and end are at most 100,000,000,000 minutes in size
pub record IsSpanInRange (s : Span) : Type 0 where
  pub forward : s.begin ≤ℤ s.end
  pub begin : unsigned_abs s.begin ≤ 100000000000
  pub end : unsigned_abs s.end ≤ 100000000000

-- the begin and the end of a span can be written as text (for example 2000-01-01T00:00Z)
pub record AreMoments (span_request : SpanRequest) : Type 0 where
  pub begin : IsMoment span_request.begin
  pub end : IsMoment span_request.end

-- the begin of the span `s` is at most 1,440 minutes (a day) from the minute `begin`, and its end at
-- most 1,440 minutes from the minute `end`
pub record IsBeside (begin end : ℤ) (s : Span) : Type 0 where
  pub begins : unsigned_abs (s.begin -ℤ begin) ≤ 1440
  pub ends : unsigned_abs (s.end -ℤ end) ≤ 1440

-- the span from `begin` to `end` isn't backward, has a minute if the purpose needs one, and the
-- harmonics file has the minutes of the reference station that a request for this purpose needs
pub record IsReached (purpose : Purpose) (book : Book) (basis : Basis) (begin end : ℤ) : Type 0 where
  pub forward : begin ≤ℤ end
  pub begins : InDomain book.first_year book.years (reached purpose basis begin end).begin
  pub ends : InDomain book.first_year book.years (reached purpose basis begin end).end
  pub in_range : IsSpanInRange (reached purpose basis begin end)
  pub beside : IsBeside begin end (reached purpose basis begin end)
  pub some : lacks_minute purpose begin end ≡ false

-- Bool: whether levels can be given in a unit: in any but knots squared, the unit of a hydraulic current
abbrev pub has_levels : Units → Bool
has_levels Feet = true
has_levels Meters = true
has_levels Knots = true
has_levels KnotsSquared = false

-- levels can be given in this unit: it isn't knots squared, the unit of a hydraulic current
abbrev pub HasLevels : Units → Type 0
HasLevels units = IsTrue (has_levels units)

-- a minute, since 1970-01-01T00:00Z, from the beginning of the year 2 to the beginning of the year 9300
pub record IsFileMinute (minute : ℤ) : Type 0 where
  pub least : negsuc 1035067679 ≤ℤ minute
  pub most : minute ≤ℤ pos 3855208320

-- the station `site` can be predicted for this request: its unit and its constants allow it, the
-- harmonics file has the minutes that are needed, and the span and the mark are in range
pub record IsFound (purpose : Purpose) (book : Book) (span_request : SpanRequest) (site : Site) : Type 0 where
  pub valid : IsBasis (length book.stations) site.basis
  pub levels : HasLevels site.station.units
  pub limits : IsWithinLimits book site.station
  pub span : IsReached purpose book site.basis span_request.begin span_request.end
  pub few : (span_request.end -ℤ span_request.begin) ≤ℤ span_limit
  pub mark : ForSome span_request.mark (λ level. IsTrue (is_equal site.basis))
  pub in_range : IsInRange span_request

-- a station of the harmonics file together with its basis, which has the offsets from it
abbrev pub site_with : Basis → Station → Site
site_with basis station = record { basis = basis; station = station }
