-- Cells that have the minutes of a span, or don't.
use Rattle.std.proofs.Common.{◌≡◌, ◌≢◌, ◌-◌, ◌^◌, ◌==◌, min, w64, to_z, of_z, FitsSigned, ℤ, pos, ◌+ℤ◌, ◌-ℤ◌, ◌≤ℤ◌, unsigned_abs, false, refl, sym, ap, arith, ◌∙◌}
use Rattle.std.proofs.lemmas.Bool.{ne_eqb}
use Rattle.std.proofs.lemmas.Int.{ints}
use Rattle.curve_law.specs.CurveSpec.{CurveSpec}
use Rattle.curve_law.proofs.SpanLemmas.{IsBetween, all-of, minutes-few, ends-are, wanted-is, covered-is}
use Rattle.highest_water.specs.declared.peak.Peak.{Peak}
use Rattle.highest_water.specs.declared.verdict.PeakVerdict.TheVariants.{WrongLength}
use Rattle.highest_water.specs.Covers.{all_minutes}
use Rattle.highest_water.specs.Verdicts.{peak_verdict}

-- the number of minutes fits 64 bits
pub wanted-fits : (c : CurveSpec) (begin end : ℤ) → IsBetween c begin end
    → FitsSigned w64 (to_z w64 (of_z w64 end) -ℤ to_z w64 (of_z w64 begin))
wanted-fits c begin end between =
    let few = minutes-few c begin end between in
    let forward = between.forward in
    rw (ends-are c begin end between) (omega (arith, ints))

-- cells of another length
pub wrong-length : (c : CurveSpec) (begin end covered : ℤ) (peak : Peak) → IsBetween c begin end
    → covered ≡ pos (min (all_minutes peak.cells) (2 ^ 63 - 1)) → of_z w64 covered
    ≢ of_z w64 (to_z w64 (of_z w64 end) -ℤ to_z w64 (of_z w64 begin)) → WrongLength (to_z w64 (of_z w64 covered))
    (to_z w64 (of_z w64 (to_z w64 (of_z w64 end) -ℤ to_z w64 (of_z w64 begin))))
    ≡ peak_verdict c begin (unsigned_abs (end -ℤ begin)) peak
unfolding peak_verdict
wrong-length c begin end covered peak between is other =
    let few = minutes-few c begin end between in
    let forward = between.forward in
    let wanted : end -ℤ begin ≡ pos (unsigned_abs (end -ℤ begin)) = omega (arith, ints) in
    let short : (all_minutes peak.cells == unsigned_abs (end -ℤ begin)) ≡ false =
    ne_eqb _ _ (λ all.
    other (ap (of_z w64) (is ∙ all-of (all_minutes peak.cells) begin end all forward few ∙ sym (ends-are c begin end between)))) in
    rw (short, covered-is covered (all_minutes peak.cells) is, ends-are c begin end between, wanted-is c begin end between, is, ← wanted)
    refl

pub span-end : (begin end : ℤ) → begin ≤ℤ end → begin +ℤ pos (unsigned_abs (end -ℤ begin)) ≡ end
span-end begin end forward = omega (arith, ints)
