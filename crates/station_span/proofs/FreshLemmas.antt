-- The curves of a station have the minutes of the reference that are evaluated.
use Rattle.std.proofs.Common.{◌≡◌, ◌≤ℤ◌, Option, Some, None, option_map, refl, sym, ap, ◌∙◌, arith}
use Rattle.std.proofs.lemmas.Int.{ints}
use Rattle.std.specs.Option.{ForSome}
use Rattle.curve_law.specs.CurveSpec.{CurveSpec}
use Rattle.curve_law.specs.CurveStates.{CurveState}
use Rattle.event_list.specs.FreshCurves.{IsFreshOver}
use Rattle.rate_bound.specs.declared.version.Version.{Version}
use Rattle.station_curve.specs.Curves.{Prediction}
use Rattle.station_span.specs.declared.found_station.FoundStation.{FoundStation}
use Rattle.station_span.specs.Following.{asks_slack}
use Rattle.station_span.specs.Workings.Curves.{mark_over, over, slack_over}
use Rattle.station_span.proofs.FollowLemmas.{for_asked, for_marked}

fresh_at : (f : FoundStation) (c : CurveState)
    → (c.curve_model.curve_spec.first ≡ f.curve.first) × (c.curve_model.curve_spec.last ≡ f.curve.last) → c.count ≡ 0 → IsFreshOver f.span c
fresh_at f c same fresh =
    let begin : f.curve.first ≡ f.span.begin = ap (λ (p : Prediction). p.first) f.alone in
    let end : f.curve.last ≡ f.span.end = ap (λ (p : Prediction). p.last) f.alone in
    let first = same.0 in
    let last = same.1 in
    let forward : f.span.begin ≤ℤ f.span.end = rw f.looked f.valid.span.in_range.forward in
    record { forward = forward; first = omega (arith, ints); last = omega (arith, ints); fresh = fresh }

pub fresh_turn : (f : FoundStation) (c : CurveState) (d : CurveSpec) → c.curve_model.curve_spec ≡ over f.curve d → c.count ≡ 0
    → IsFreshOver f.span c
fresh_turn f c d same fresh = fresh_at f c (ap (λ (m : CurveSpec). m.first) same, ap (λ (m : CurveSpec). m.last) same) fresh

abbrev IsOver : Prediction → CurveSpec → Type 0
IsOver p c = (c.first ≡ p.first) × (c.last ≡ p.last)

-- a curve that may not be followed
fresh_if : {C : Type 0} (f : FoundStation) (state : C → CurveState) (curve : Option C) (o : Option CurveSpec)
    → option_map (λ c. (state c).curve_model.curve_spec) curve ≡ o → ForSome o (IsOver f.curve)
    → ForSome curve (λ c. (state c).count ≡ 0) → ForSome curve (λ c. IsFreshOver f.span (state c))
fresh_if f state curve o same over fresh x is =
    fresh_at f (state x) (over (state x).curve_model.curve_spec (sym same ∙ ap (option_map (λ c. (state c).curve_model.curve_spec)) is)) (fresh x is)

pub fresh_slack : {C : Type 0} (f : FoundStation) (version : Version) (state : C → CurveState) (curve : Option C)
    → option_map (λ c. (state c).curve_model.curve_spec) curve ≡ slack_over version f.curve f.basis
    → ForSome curve (λ c. (state c).count ≡ 0) → ForSome curve (λ c. IsFreshOver f.span (state c))
fresh_slack f version state curve same fresh =
    fresh_if f state curve (slack_over version f.curve f.basis) same
    (for_asked (IsOver f.curve) (asks_slack f.curve.station.units f.basis) _ (refl, refl)) fresh

pub fresh_mark : {C : Type 0} (f : FoundStation) (version : Version) (state : C → CurveState) (curve : Option C)
    → option_map (λ c. (state c).curve_model.curve_spec) curve ≡ mark_over version f.curve f.basis f.span_request.mark
    → ForSome curve (λ c. (state c).count ≡ 0) → ForSome curve (λ c. IsFreshOver f.span (state c))
fresh_mark f version state curve same fresh =
    fresh_if f state curve (mark_over version f.curve f.basis f.span_request.mark) same
    (for_marked (IsOver f.curve) f.span_request.mark _ (λ level is. (refl, refl))) fresh

pub option_map-both : {A B C : Type 0} (f : B → C) (g : A → B) (o : Option A) → option_map (λ x. f (g x)) o ≡ option_map f (option_map g o)
option_map-both f g None = refl
option_map-both f g (Some x) = refl
