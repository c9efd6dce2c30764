use Rattle.std.proofs.Common.{◌^◌, ap, ◌∙◌, lit<, pos}
use mir.Syntax.{w32, w64}
use Rattle.station_curve.proofs.Products.{abs_span, abs_within, cast_small}
use Rattle.station_curve.specs.Waves.{amount_of, steepness_of}
use Rattle.station_curve.specs.Errors.{greatest_of}
use Rattle.station_curve.specs.Curves.{waves_over}
use Rattle.station_curve.proofs.WithinLimits.{limits_of}
use Rattle.station_curve.proofs.curve.StationCurve.of_years.Goals as goal

pub invariant_of-result : goal.invariant_of-result
invariant_of-result c =
    let b = c.args.book.now in
    let s = c.args.station.now in
    let first = c.args.minute_range.first in
    let last = c.args.minute_range.last in
    let ready = c.requires.years in
    let valid = c.get.ensures.valid in
    let years = rw c.as_slice.ensures.value at c.greatest_of_years-greatest.ensures in
    rw (c.of.ensures.0, c.of.ensures.1, c.get.ensures.exact, c.get-2.ensures.exact) record {
      valid = record {
        limits = limits_of b s valid c.requires.station ready.within;
        forward = c.requires.forward;
        begins = c.requires.first.least;
        ends = c.requires.last.most;
      };
      first_year = cast_small w32 b.first_year 8800 (abs_within b.first_year 2 8800 valid.first_year.least valid.first_year.most) (lit< tt);
      datum = cast_small w64 s.datum (10 ^ 10) (abs_span s.datum 9999999999 c.requires.station.datum.least c.requires.station.datum.most) (lit< tt);
      years = ready;
      amount = years.amount (λ year. amount_of (waves_over b s first last year))
          (λ k d below. ap (λ t. t.amount) (ready.sums k d (rw ready.counted at below))) ∙ ap (λ n. pos (greatest_of (λ year. amount_of (waves_over b s first last year)) n)) ready.counted;
      steepness = years.steepness (λ year. steepness_of (waves_over b s first last year))
          (λ k d below. ap (λ t. t.steep) (ready.sums k d (rw ready.counted at below))) ∙ ap (λ n. pos (greatest_of (λ year. steepness_of (waves_over b s first last year)) n)) ready.counted;
    }
