use Rattle.std.proofs.Common.{w32, FitsSigned, rules}
use Rattle.std.proofs.lemmas.Int.{to_z-of_z}
use Rattle.event_list.proofs.WideningLemmas.{least-high}
use Rattle.event_list.proofs.widening.least_add.Goals as goal

pub returns-in-Some-clause-exact : goal.returns-in-Some-clause-exact
returns-in-Some-clause-exact c =
    let high : FitsSigned w32 c.args.basis.now.high.add = search rules in
    let low : FitsSigned w32 c.args.basis.now.low.add = search rules in
    let first : FitsSigned w32 c.min-least.result = search rules in
    let flood : FitsSigned w32 c.in-Some.slack.flood_add = search rules in
    let second : FitsSigned w32 c.min.result = search rules in
    let ebb : FitsSigned w32 c.in-Some.slack.ebb_add = search rules in
    let third : FitsSigned w32 c.min-in-Some.result = search rules in
    let a = simp to_z-of_z at c.min-least.ensures.value in
    let b = simp to_z-of_z at c.min.ensures.value in
    let d = simp to_z-of_z at c.min-in-Some.ensures.value in
    rw (c.in-Some.is, to_z-of_z w32 c.min-in-Some.result third, d, b, a)

pub returns-in-Some-clause-high : goal.returns-in-Some-clause-high
returns-in-Some-clause-high c = rw (returns-in-Some-clause-exact c) (least-high c.args.basis.now)

pub returns-in-None-clause-exact : goal.returns-in-None-clause-exact
returns-in-None-clause-exact c =
    let high : FitsSigned w32 c.args.basis.now.high.add = search rules in
    let low : FitsSigned w32 c.args.basis.now.low.add = search rules in
    let all : FitsSigned w32 c.min-least.result = search rules in
    let a = simp to_z-of_z at c.min-least.ensures.value in
    rw (c.in-None.is, to_z-of_z w32 c.min-least.result all, a)

pub returns-in-None-clause-high : goal.returns-in-None-clause-high
returns-in-None-clause-high c = rw (returns-in-None-clause-exact c) (least-high c.args.basis.now)
