-- The highest water of a station.
use Rattle.std.specs.Prelude.{ℤ, ◌+ℤ◌, ◌≤ℤ◌, ◌<ℤ◌}
use Rattle.station_span.specs.declared.span_request.SpanRequest.{SpanRequest}
use Rattle.station_span.specs.Sites.{Site}

-- the high-water offset moves the minute `at` of the reference station into the span of the request; the
-- end of the span isn't part of it
pub record IsSourceIn (site : Site) (span_request : SpanRequest) (at : ℤ) : Type 0 where
  pub from : span_request.begin ≤ℤ (at +ℤ site.basis.high.add)
  pub before : (at +ℤ site.basis.high.add) <ℤ span_request.end
