use Rattle.std.proofs.Common.{w64, sym, refl, ◌∙◌}
use Rattle.std.proofs.lemmas.Int.{to_z-of_z}
use Rattle.curve_law.proofs.VerdictLemmas.{verdict-exact}
use Rattle.curve_law.proofs.SpanLemmas.{as-between, counted-whole, within-span}
use Rattle.cert_checker.proofs.SpanLemmas.{wrong-length, verdict-whole}
use Rattle.cert_checker.proofs.checking.check_track.Goals as goal

pub returns-then-covered-wanted-clause-verdict : goal.returns-then-covered-wanted-clause-verdict
returns-then-covered-wanted-clause-verdict g c =
    let between = as-between (g.C.Curve.state c.args.curve.now).curve_model.curve_spec c.args.begin c.args.end
    (g.met.C.Curve.lawful c.args.curve.now) c.requires.forward c.requires.first c.requires.last in
    wrong-length _ _ _ _ c.args.cells.now between (rw c.as_slice.ensures at c.covered_by-covered.ensures) c.if-covered-wanted.true

pub first_finding-requires-clause-span : goal.first_finding-requires-clause-span
first_finding-requires-clause-span g c =
    let between = as-between (g.C.Curve.state c.args.curve.now).curve_model.curve_spec c.args.begin c.args.end
    (g.met.C.Curve.lawful c.args.curve.now) c.requires.forward c.requires.first c.requires.last in
    let whole = counted-whole _ _ _ _ _ between (rw c.as_slice.ensures at c.covered_by-covered.ensures) c.if-covered-wanted.false in
    rw (to_z-of_z w64 c.args.begin c.ranges.begin, c.as_slice-2.ensures) (within-span _ _ _ _ between whole)

pub returns-clause-verdict : goal.returns-clause-verdict
returns-clause-verdict g c =
    let between = as-between (g.C.Curve.state c.args.curve.now).curve_model.curve_spec c.args.begin c.args.end
    (g.met.C.Curve.lawful c.args.curve.now) c.requires.forward c.requires.first c.requires.last in
    let whole = counted-whole _ _ _ _ _ between (rw c.as_slice.ensures at c.covered_by-covered.ensures) c.if-covered-wanted.false in
    rw (to_z-of_z w64 c.args.begin c.ranges.begin, c.as_slice-2.ensures) at c.first_finding.ensures.verdict ∙ verdict-whole _ _ _ _ whole

pub returns-clause-exact : goal.returns-clause-exact
returns-clause-exact g c = λ accepted.
    let between = as-between (g.C.Curve.state c.args.curve.now).curve_model.curve_spec c.args.begin c.args.end
    (g.met.C.Curve.lawful c.args.curve.now) c.requires.forward c.requires.first c.requires.last in
    verdict-exact _ _ _ _ between.lawful (within-span _ _ _ _ between refl) (sym (returns-clause-verdict g c) ∙ accepted)
