use Rattle.std.proofs.Common.{◌≡◌, ◌-◌, ◌^◌, ◌*ℤ◌, FitsSigned, Some, rules, ap, ◌∙◌, lit<}
use Rattle.std.proofs.lemmas.Int.{to_z-of_z}
use mir.Syntax.{w64, w128}
use Rattle.station_curve.specs.declared.year_sums.Sums.{Sums}
use Rattle.station_curve.proofs.Products.{cast_small, abs_within}
use Rattle.rate_bound.specs.Rates.{plain_level_rate, blended_level_rate, book_sums}
use Rattle.rate_bound.proofs.RateCases.{level_rate-at}
use Rattle.rate_bound.specs.declared.version.Version.TheVariants.{First, Second}
use Rattle.year_blend.specs.declared.parts.Stretch.TheVariants.{Within, Across}
use Rattle.station_curve.specs.Levels.{blended}
use Rattle.rate_bound.proofs.Naming.{needed_sums}
use Rattle.rate_bound.proofs.mark.MarkCurveCurve.rate.Goals as goal

pub returns-in-Within : goal.returns-in-Within
returns-in-Within c =
    let curve = c.args.self.now in
    let minute = to_z-of_z w64 c.args.a c.ranges.a in
    let times = cast_small w64 curve.times (10 ^ 8)
    (abs_within curve.times 1 (10 ^ 8) curve.scale.times_least curve.scale.times_most) (lit< tt) in
    let rate = cast_small w128 c.plain_level_rate.result (10 ^ 27) c.plain_level_rate.ensures.size (lit< tt) in
    let fits : FitsSigned w128 c.scaled.result = search rules in
    ap Some (to_z-of_z w128 c.scaled.result fits ∙ rw (times, rate) at c.scaled.ensures.value
    ∙ ap (λ r. curve.times *ℤ r) (c.plain_level_rate.ensures.value ∙ ap plain_level_rate (c.sums.ensures.value ∙ needed_sums curve.station.now c.in-Within.year c.in-Within.ensures.years)))
    ∙ level_rate-at curve.version curve.times curve.station.now.book curve.station.now.station c.args.a c.args.n (Within c.in-Within.year)
    (rw minute at c.in-Within.ensures.value)

pub returns-in-First : goal.returns-in-First
returns-in-First c =
    let curve = c.args.self.now in
    let minute = to_z-of_z w64 c.args.a c.ranges.a in
    rw c.in-First.is (level_rate-at First curve.times curve.station.now.book curve.station.now.station c.args.a c.args.n (Across c.in-Across.year)
    (rw minute at c.in-Across.ensures.value))

pub returns-in-Second : goal.returns-in-Second
returns-in-Second c =
    let curve = c.args.self.now in
    let b = curve.station.now.book in
    let s = curve.station.now.station in
    let earlier = c.sums-in-Second.ensures.value ∙ needed_sums curve.station.now (c.in-Across.year - 1) c.in-Across.ensures.years.1 in
    let later = c.sums-in-Second-2.ensures.value ∙ needed_sums curve.station.now c.in-Across.year c.in-Across.ensures.years.2 in
    let year = c.in-Across.year in
    let minute = to_z-of_z w64 c.args.a c.ranges.a in
    let times = cast_small w64 curve.times (10 ^ 8)
    (abs_within curve.times 1 (10 ^ 8) curve.scale.times_least curve.scale.times_most) (lit< tt) in
    let rate = cast_small w128 c.blended_level_rate.result (10 ^ 27) c.blended_level_rate.ensures.size (lit< tt) in
    let fits : FitsSigned w128 c.scaled-in-Second.result = search rules in
    let blended : c.blended_level_rate.result ≡ blended_level_rate (book_sums b s (year - 1)) (book_sums b s year) =
    c.blended_level_rate.ensures.value ∙ ap (λ (s : Sums). blended_level_rate s c.sums-in-Second-2.result) earlier
    ∙ ap (blended_level_rate (book_sums b s (year - 1))) later in
    rw c.in-Second.is (ap Some (to_z-of_z w128 c.scaled-in-Second.result fits ∙ rw (times, rate) at c.scaled-in-Second.ensures.value
    ∙ ap (λ r. curve.times *ℤ r) blended)
    ∙ level_rate-at Second curve.times b s c.args.a c.args.n (Across year) (rw minute at c.in-Across.ensures.value))
