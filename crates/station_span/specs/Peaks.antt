-- The highest water of a station over a span (this project).
use Rattle.std.specs.Prelude.{ℕ, ℤ, pos, ◌-ℤ◌, unsigned_abs, true, List, Result, Ok}
use Rattle.curve_law.specs.CurveSpec.{CurveSpec}
use Rattle.decimal_text.specs.Expected.{◌>>=◌}
use Rattle.harmonics_book.specs.declared.book.Book.{Book}
use Rattle.highest_water.specs.declared.peak.Peak.{Peak}
use Rattle.highest_water.specs.declared.verdict.PeakVerdict.{PeakVerdict}
use Rattle.highest_water.specs.Covers.{peak_of}
use Rattle.highest_water.specs.Verdicts.{peak_verdict}
use Rattle.rate_bound.specs.declared.version.Version.TheVariants.{Second}
use Rattle.rate_bound.specs.CurveSpecs.{predicted_mark}
use Rattle.station_table.specs.declared.offsets.Offsets.{Offsets}
use Rattle.tide_fault.specs.declared.refusal.Refusal.{Refusal}
use Rattle.station_span.specs.declared.span_request.SpanRequest.{SpanRequest}
use Rattle.station_span.specs.declared.purpose.Purpose.TheVariants.{Highest}
use Rattle.station_span.specs.Levels.{level_in}
use Rattle.station_span.specs.Sites.{Site, site_in}

-- the station called `name` with its offsets, if it has a level at each minute and a request for its
-- highest water over this span has an answer; otherwise the first refusal
unfoldable pub highest_site : Book → List Offsets → List ℕ → SpanRequest → Result Site Refusal
highest_site book table name span_request = do
  site ← site_in Highest book table name span_request
  level ← level_in site.basis
  Ok site

-- the curve of the reference station's level, without offsets; its values are in the station's
-- unit, multiplied by 10^21 * 4,147,200,000 (the total weight of the blend at a new year)
abbrev pub level_curve : Book → Site → CurveSpec
level_curve book site = predicted_mark Second book site.station (pos 1000000) (pos 0) (pos 0) true

-- the minute of the reference station that the high-water offset moves to the first minute of the span
abbrev pub first_source : Site → SpanRequest → ℤ
first_source site span_request = span_request.begin -ℤ site.basis.high.add

-- the number of minutes of a request's span, from its begin up to but not including its end
abbrev pub minute_count : SpanRequest → ℕ
minute_count span_request = unsigned_abs (span_request.end -ℤ span_request.begin)

-- the highest water of the reference station among the minutes that the high-water offset moves
-- into the span (`minute_count` minutes from `first_source` on), with the cells that prove it
unfoldable pub highest_of : Book → Site → SpanRequest → Peak
highest_of book site span_request = peak_of (level_curve book site) (first_source site span_request) (minute_count span_request)

-- the verdict on `peak`, claimed to be the highest water of the reference station among the minutes that
-- the high-water offset moves into the span; `peak` can be from any source
unfoldable pub highest_verdict : Book → Site → SpanRequest → Peak → PeakVerdict
highest_verdict book site span_request peak =
    peak_verdict (level_curve book site) (first_source site span_request) (minute_count span_request) peak
