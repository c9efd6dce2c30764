use Rattle.std.proofs.Common.{◌≡◌, ◌-◌, FitsSigned, Some, rules, ap, ◌∙◌}
use Rattle.std.proofs.lemmas.Int.{to_z-of_z}
use mir.Syntax.{w64, w128}
use Rattle.station_curve.specs.declared.year_sums.Sums.{Sums}
use Rattle.rate_bound.specs.Rates.{plain_slope_rate, blended_slope_rate, limited, book_sums}
use Rattle.rate_bound.proofs.RateCases.{slope_rate-at}
use Rattle.rate_bound.specs.declared.version.Version.TheVariants.{First, Second}
use Rattle.year_blend.specs.declared.parts.Stretch.TheVariants.{Within, Across}
use Rattle.rate_bound.proofs.Naming.{needed_sums}
use Rattle.rate_bound.proofs.turn.TurnCurveCurve.rate.Goals as goal

pub returns-in-Within : goal.returns-in-Within
returns-in-Within c =
    let curve = c.args.self.now in
    let minute = to_z-of_z w64 c.args.a c.ranges.a in
    let fits : FitsSigned w128 c.plain_slope_rate.result = search rules in
    ap Some (to_z-of_z w128 c.plain_slope_rate.result fits ∙ c.plain_slope_rate.ensures.value
    ∙ ap plain_slope_rate (c.sums.ensures.value ∙ needed_sums curve.station.now c.in-Within.year c.in-Within.ensures.years))
    ∙ slope_rate-at curve.version curve.station.now.book curve.station.now.station c.args.a c.args.n (Within c.in-Within.year)
    (rw minute at c.in-Within.ensures.value)

pub returns-in-First : goal.returns-in-First
returns-in-First c =
    let curve = c.args.self.now in
    let minute = to_z-of_z w64 c.args.a c.ranges.a in
    rw c.in-First.is (slope_rate-at First curve.station.now.book curve.station.now.station c.args.a c.args.n (Across c.in-Across.year)
    (rw minute at c.in-Across.ensures.value))

pub returns-in-Second : goal.returns-in-Second
returns-in-Second c =
    let curve = c.args.self.now in
    let b = curve.station.now.book in
    let s = curve.station.now.station in
    let earlier = c.sums-in-Second.ensures.value ∙ needed_sums curve.station.now (c.in-Across.year - 1) c.in-Across.ensures.years.1 in
    let later = c.sums-in-Second-2.ensures.value ∙ needed_sums curve.station.now c.in-Across.year c.in-Across.ensures.years.2 in
    let year = c.in-Across.year in
    let minute = to_z-of_z w64 c.args.a c.ranges.a in
    let fits : FitsSigned w128 c.blended_slope_rate.result = search rules in
    let rate : c.blended_slope_rate.result ≡ blended_slope_rate (book_sums b s (year - 1)) (book_sums b s year) =
    c.blended_slope_rate.ensures ∙ ap (λ (s : Sums). blended_slope_rate s c.sums-in-Second-2.result) earlier
    ∙ ap (blended_slope_rate (book_sums b s (year - 1))) later in
    rw c.in-Second.is ((rw (to_z-of_z w128 c.blended_slope_rate.result fits) at c.limited.ensures) ∙ ap limited rate
    ∙ slope_rate-at Second b s c.args.a c.args.n (Across year) (rw minute at c.in-Across.ensures.value))
