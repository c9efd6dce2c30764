use Rattle.std.proofs.Common.{◌≡◌, ℕ, ◌-◌, ◌/◌, ◌<◌, ◌≤◌, min, ◌∙◌, arith}
use Rattle.station_curve.proofs.Ready.{are_years, stored}
use Rattle.station_curve.proofs.curve.StationCurve.likely_year.Goals as goal

pub index-requires : goal.index-requires
index-requires c = (are_years c.self.inside c.self.invariant).some

pub overflow_sub-len : goal.overflow_sub-len
overflow_sub-len c = rw c.len.ensures (are_years c.self.inside c.self.invariant).some

below : (ended count least : ℕ) → least ≡ min ended (count - 1) → 1 ≤ count → least < count
below ended count least is some = omega arith

pub overflow_cast-result : goal.overflow_cast-result
overflow_cast-result c =
    let years = rw (← c.len.ensures) at (are_years c.self.inside c.self.invariant) in
    let least = below (c.abs_diff-ended.result / 525949) c.len.result c.min.result c.min.ensures years.some in
    omega (arith, least, years.few)

pub returns : goal.returns
returns c =
    let years = rw (← c.len.ensures) at (are_years c.self.inside c.self.invariant) in
    rw (← (c.len.ensures ∙ stored c.self.inside c.args.self.now c.self.invariant c.self.view_is))
    (below (c.abs_diff-ended.result / 525949) c.len.result c.min.result c.min.ensures years.some)
