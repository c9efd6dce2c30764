use Rattle.std.proofs.Common.{◌≡◌, ℕ, ◌+◌, ◌≤◌, ℤ, w64, FitsSigned, rules, sym, refl, ◌∙◌, arith}
use Rattle.std.proofs.lemmas.Int.{to_z-of_z}
use mir.Syntax.{w128}
use Rattle.highest_water.proofs.VerdictLemmas.{verdict-highest}
use Rattle.curve_law.proofs.SpanLemmas.{as-between, counted-whole, within-span}
use Rattle.highest_water.specs.declared.verdict.PeakVerdict.TheVariants.{WrongLength, Outside, Accepted}
use Rattle.highest_water.proofs.SpanLemmas.{wanted-fits, wrong-length, span-end}
use Rattle.highest_water.proofs.JudgingLemmas.{verdict-outside, verdict-inside}
use Rattle.highest_water.proofs.checking.check_peak.Goals as goal

later : (count n : ℕ) → count ≤ count + n + 1
later count n = omega arith

wrong_not_accepted : (covered wanted : ℤ) → WrongLength covered wanted ≡ Accepted → ⊥
wrong_not_accepted covered wanted h = cc

outside_not_accepted : Outside ≡ Accepted → ⊥
outside_not_accepted h = cc

pub overflow_sub-wanted : goal.overflow_sub-wanted
overflow_sub-wanted g c =
    wanted-fits (g.C.Curve.state c.args.curve.now).curve_model.curve_spec c.args.begin c.args.end
    (as-between (g.C.Curve.state c.args.curve.now).curve_model.curve_spec c.args.begin c.args.end (g.met.C.Curve.lawful c.args.curve.now) c.requires.forward c.requires.first c.requires.last)

pub returns-then-covered-wanted-clause-verdict : goal.returns-then-covered-wanted-clause-verdict
returns-then-covered-wanted-clause-verdict g c =
    let between = as-between (g.C.Curve.state c.args.curve.now).curve_model.curve_spec c.args.begin c.args.end
    (g.met.C.Curve.lawful c.args.curve.now) c.requires.forward c.requires.first c.requires.last in
    wrong-length _ _ _ _ c.args.peak.now between (rw c.as_slice.ensures at c.covered_by-covered.ensures) c.if-covered-wanted.true

pub returns-then-covered-wanted-clause-highest : goal.returns-then-covered-wanted-clause-highest
returns-then-covered-wanted-clause-highest g c = λ accepted. absurd (wrong_not_accepted _ _ accepted)

pub returns-then-covered-wanted-clause-count : goal.returns-then-covered-wanted-clause-count
returns-then-covered-wanted-clause-count g c = later _ _

pub is_inside-requires : goal.is_inside-requires
is_inside-requires g c =
    rw (to_z-of_z w64 c.args.begin c.ranges.begin, to_z-of_z w64 c.args.end c.ranges.end) c.requires.forward

pub returns-then-not-is_inside-clause-highest : goal.returns-then-not-is_inside-clause-highest
returns-then-not-is_inside-clause-highest g c = λ accepted. absurd (outside_not_accepted accepted)

pub returns-then-not-is_inside-clause-count : goal.returns-then-not-is_inside-clause-count
returns-then-not-is_inside-clause-count g c = later _ _

pub returns-then-not-is_inside-clause-verdict : goal.returns-then-not-is_inside-clause-verdict
returns-then-not-is_inside-clause-verdict g c =
    let between = as-between (g.C.Curve.state c.args.curve.now).curve_model.curve_spec c.args.begin c.args.end
    (g.met.C.Curve.lawful c.args.curve.now) c.requires.forward c.requires.first c.requires.last in
    let whole = counted-whole _ _ _ _ _ between (rw c.as_slice.ensures at c.covered_by-covered.ensures) c.if-covered-wanted.false in
    let at : FitsSigned w64 c.args.peak.now.at = search rules in
    let begin = to_z-of_z w64 c.args.begin c.ranges.begin in
    let end = to_z-of_z w64 c.args.end c.ranges.end in
    let inside = rw (to_z-of_z w64 _ at, begin, end) at c.is_inside.ensures in
    verdict-outside (g.C.Curve.state c.args.curve.now).curve_model.curve_spec c.args.begin _ c.args.peak.now whole
    (sym inside ∙ c.if-not-is_inside.true)

pub first_finding-requires-clause-size : goal.first_finding-requires-clause-size
first_finding-requires-clause-size g c =
    let value : FitsSigned w128 c.args.peak.now.value = search rules in
    rw (to_z-of_z w128 _ value) c.requires.size

pub first_finding-requires-clause-count_bound : goal.first_finding-requires-clause-count_bound
first_finding-requires-clause-count_bound g c = rw c.as_slice-2.ensures c.requires.count_bound

pub first_finding-requires-clause-count : goal.first_finding-requires-clause-count
first_finding-requires-clause-count g c = rw c.as_slice-2.ensures c.requires.count

pub first_finding-requires-clause-span : goal.first_finding-requires-clause-span
first_finding-requires-clause-span g c =
    let between = as-between (g.C.Curve.state c.args.curve.now).curve_model.curve_spec c.args.begin c.args.end
    (g.met.C.Curve.lawful c.args.curve.now) c.requires.forward c.requires.first c.requires.last in
    let whole = counted-whole _ _ _ _ _ between (rw c.as_slice.ensures at c.covered_by-covered.ensures) c.if-covered-wanted.false in
    rw (to_z-of_z w64 c.args.begin c.ranges.begin, c.as_slice-2.ensures) (within-span _ _ _ _ between whole)

pub returns-clause-verdict : goal.returns-clause-verdict
returns-clause-verdict g c =
    let between = as-between (g.C.Curve.state c.args.curve.now).curve_model.curve_spec c.args.begin c.args.end
    (g.met.C.Curve.lawful c.args.curve.now) c.requires.forward c.requires.first c.requires.last in
    let whole = counted-whole _ _ _ _ _ between (rw c.as_slice.ensures at c.covered_by-covered.ensures) c.if-covered-wanted.false in
    let at : FitsSigned w64 c.args.peak.now.at = search rules in
    let begin = to_z-of_z w64 c.args.begin c.ranges.begin in
    let end = to_z-of_z w64 c.args.end c.ranges.end in
    let value : FitsSigned w128 c.args.peak.now.value = search rules in
    let inside = rw (to_z-of_z w64 _ at, begin, end) at c.is_inside.ensures in
    let found = rw (to_z-of_z w64 _ at, to_z-of_z w128 _ value, begin, c.as_slice-2.ensures) at c.first_finding.ensures.verdict in
    found ∙ verdict-inside (g.C.Curve.state c.args.curve.now).curve_model.curve_spec c.args.begin _ c.args.peak.now whole
    (sym inside ∙ c.if-not-is_inside.false)

pub returns-clause-highest : goal.returns-clause-highest
returns-clause-highest g c = λ accepted.
    let between = as-between (g.C.Curve.state c.args.curve.now).curve_model.curve_spec c.args.begin c.args.end
    (g.met.C.Curve.lawful c.args.curve.now) c.requires.forward c.requires.first c.requires.last in
    rw (span-end c.args.begin c.args.end c.requires.forward) at
    (verdict-highest _ _ _ c.args.peak.now between.lawful (within-span _ _ _ _ between refl) (sym (returns-clause-verdict g c) ∙ accepted))

pub returns-clause-count : goal.returns-clause-count
returns-clause-count g c = rw c.as_slice-2.ensures at c.first_finding.ensures.count

pub returns-clause-unchanged : goal.returns-clause-unchanged
returns-clause-unchanged g c = c.first_finding.ensures.unchanged
