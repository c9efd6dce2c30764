use Rattle.std.proofs.Common.{◌≡◌, refl, sym, ◌∙◌, ap}
use Rattle.std.proofs.lemmas.Result.{err_from_is_err_and}
use Rattle.station_curve.specs.Curves.{Prediction, prediction_of, prediction_over}
use Rattle.station_span.proofs.FoundLemmas.{HasCurve, curve_allowed, curve_excused, excused_by, refused_span, refused_curve, refused_length, refused_mark, found_whole}
use Rattle.station_span.proofs.SiteLemmas.{span_reached}
use Rattle.station_span.proofs.SpanLemmas.{has_offsets}
use Rattle.station_span.specs.Sites.{Site}
use Rattle.station_span.specs.Workings.Spans.{IsFound, site_with}
use Rattle.station_span.proofs.station.find_at.Goals as goal

pub span_looked_at-requires : goal.span_looked_at-requires
span_looked_at-requires c = record { offsets = has_offsets _ _ c.requires.basis }

pub curve_over-requires-clause-begins : goal.curve_over-requires-clause-begins
curve_over-requires-clause-begins c =
    let reached = span_reached c.args.purpose c.args.book.now c.args.basis c.args.request.now.span_request (has_offsets _ _ c.requires.basis)
    c.span_request-span_request.ensures.in_range c.in_ok-span.ensures.found in
    rw c.in_ok-span.ensures.exact reached.begins

pub curve_over-requires-clause-ends : goal.curve_over-requires-clause-ends
curve_over-requires-clause-ends c =
    let reached = span_reached c.args.purpose c.args.book.now c.args.basis c.args.request.now.span_request (has_offsets _ _ c.requires.basis)
    c.span_request-span_request.ensures.in_range c.in_ok-span.ensures.found in
    rw c.in_ok-span.ensures.exact reached.ends

pub curve_over-requires-clause-forward : goal.curve_over-requires-clause-forward
curve_over-requires-clause-forward c =
    let reached = span_reached c.args.purpose c.args.book.now c.args.basis c.args.request.now.span_request (has_offsets _ _ c.requires.basis)
    c.span_request-span_request.ensures.in_range c.in_ok-span.ensures.found in
    rw c.in_ok-span.ensures.exact reached.in_range.forward

pub returns-in_err-span : goal.returns-in_err-span
returns-in_err-span c =
    let p = err_from_is_err_and c.from_residual-in_err-span.result c.from_residual-in_err-span.ensures.1 in
    let site : Site = record { basis = c.args.basis; station = c.args.station.now } in
    rw (p.1, p.2) (refused_span _ c.args.purpose c.args.book.now site c.args.request.now.span_request _ _
    (sym c.in_ok-level_units.ensures.exact) (excused_by _ _ _ c.in_err-span.ensures.refused))

pub returns-in_err-curve : goal.returns-in_err-curve
returns-in_err-curve c =
    let p = err_from_is_err_and c.from_residual-in_err-curve.result c.from_residual-in_err-curve.ensures.1 in
    let site : Site = record { basis = c.args.basis; station = c.args.station.now } in
    rw (p.1, p.2) (refused_curve _ c.args.purpose c.args.book.now site c.args.request.now.span_request _ _
    (sym c.in_ok-level_units.ensures.exact) c.in_ok-span.ensures.found
    (curve_excused _ c.args.book.now c.args.station.now _ _ _ c.in_err-curve.ensures.exact))

pub returns-in_err-check_length : goal.returns-in_err-check_length
returns-in_err-check_length c =
    let p = err_from_is_err_and c.from_residual-in_err-check_length.result c.from_residual-in_err-check_length.ensures.1 in
    let site : Site = record { basis = c.args.basis; station = c.args.station.now } in
    let has : HasCurve c.args.purpose c.args.book.now site c.args.request.now.span_request _ (prediction_of c.args.book.now c.args.station.now) =
    record {
      unit = sym c.in_ok-level_units.ensures.exact;
      span = c.in_ok-span.ensures.found;
      curve = curve_allowed c.args.book.now c.args.station.now _ _ c.in_ok-curve.curve c.in_ok-curve.ensures.exact;
    } in
    rw (p.1, p.2) (refused_length _ c.args.purpose c.args.book.now site c.args.request.now.span_request _
    (prediction_of c.args.book.now c.args.station.now) _ has (excused_by _ _ _ (sym c.in_err-check_length.ensures.exact)))

pub returns-in_err-check_mark : goal.returns-in_err-check_mark
returns-in_err-check_mark c =
    let p = err_from_is_err_and c.from_residual-in_err-check_mark.result c.from_residual-in_err-check_mark.ensures.1 in
    let site : Site = record { basis = c.args.basis; station = c.args.station.now } in
    let has : HasCurve c.args.purpose c.args.book.now site c.args.request.now.span_request _ (prediction_of c.args.book.now c.args.station.now) =
    record {
      unit = sym c.in_ok-level_units.ensures.exact;
      span = c.in_ok-span.ensures.found;
      curve = curve_allowed c.args.book.now c.args.station.now _ _ c.in_ok-curve.curve c.in_ok-curve.ensures.exact;
    } in
    rw (p.1, p.2) (refused_mark _ c.args.purpose c.args.book.now site c.args.request.now.span_request _
    (prediction_of c.args.book.now c.args.station.now) _ has (sym c.in_ok-check_length.ensures.exact) (excused_by _ _ _ (sym c.in_err-check_mark.ensures.exact)))

pub invariant_of-result : goal.invariant_of-result
invariant_of-result c =
    let is = c.in_ok-curve.ensures.predicts in
    let span = span_reached c.args.purpose c.args.book.now c.args.basis c.args.request.now.span_request (has_offsets _ _ c.requires.basis)
    c.span_request-span_request.ensures.in_range c.in_ok-span.ensures.found in
    let looked = c.in_ok-span.ensures.exact in
    let found_station : IsFound c.args.purpose c.args.book.now c.args.request.now.span_request (site_with c.args.basis c.args.station.now) = record {
      valid = c.requires.basis;
      levels = c.in_ok-level_units.ensures.levels;
      limits = (rw is at c.in_ok-curve.ensures.valid).limits;
      span = span;
      few = c.in_ok-check_length.ensures.count_bound;
      mark = c.in_ok-check_mark.ensures.here;
      in_range = c.span_request-span_request.ensures.in_range;
    } in
    let book : c.in_ok-curve.curve.book ≡ c.args.book.now = ap (λ (p : Prediction). p.book) is in
    let station : c.in_ok-curve.curve.station ≡ c.args.station.now = ap (λ (p : Prediction). p.station) is in
    record {
      unit = rw station refl;
      valid = rw (is, c.span_request-span_request.ensures.exact) found_station;
      looked = rw c.span_request-span_request.ensures.exact looked;
      alone = is
          ∙ ap (λ b. prediction_over b c.args.station.now c.in_ok-span.span.begin c.in_ok-span.span.end) (sym book)
          ∙ ap (λ s. prediction_over c.in_ok-curve.curve.book s c.in_ok-span.span.begin c.in_ok-span.span.end) (sym station);
    }

pub returns : goal.returns
returns c =
    let site : Site = record { basis = c.args.basis; station = c.args.station.now } in
    let has : HasCurve c.args.purpose c.args.book.now site c.args.request.now.span_request _ (prediction_of c.args.book.now c.args.station.now) =
    record {
      unit = sym c.in_ok-level_units.ensures.exact;
      span = c.in_ok-span.ensures.found;
      curve = curve_allowed c.args.book.now c.args.station.now _ _ c.in_ok-curve.curve c.in_ok-curve.ensures.exact;
    } in
    let whole =
    found_whole c.args.purpose c.args.book.now site c.args.request.now.span_request _ (prediction_of c.args.book.now c.args.station.now)
    has (sym c.in_ok-check_length.ensures.exact) (sym c.in_ok-check_mark.ensures.exact) in
    record {
      site = rw (ap (λ (p : Prediction). p.station) c.in_ok-curve.ensures.predicts) whole;
      purpose = refl;
      book = ap (λ (p : Prediction). p.book) c.in_ok-curve.ensures.predicts;
      span_request = c.span_request-span_request.ensures.exact;
    }
