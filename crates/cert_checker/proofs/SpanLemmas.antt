-- Cells that have the minutes of a span, or don't.
use Rattle.std.proofs.Common.{◌≡◌, ◌≢◌, ℕ, ◌-◌, ◌^◌, ◌==◌, min, w64, to_z, of_z, ℤ, pos, ◌-ℤ◌, unsigned_abs, true, false, List, refl, sym, ap, arith, ◌∙◌}
use Rattle.std.proofs.lemmas.Bool.{ne_eqb}
use Rattle.std.proofs.lemmas.Bool.Decides.{Decides-eqb}
use Rattle.std.proofs.lemmas.Int.{ints}
use Rattle.curve_law.specs.declared.cell.Cell.{Cell}
use Rattle.curve_law.specs.declared.verdict.Verdict.TheVariants.{WrongLength}
use Rattle.curve_law.specs.CurveSpec.{CurveSpec}
use Rattle.curve_law.specs.Cells.{all_minutes}
use Rattle.curve_law.specs.Verdicts.{cells_verdict, verdict}
use Rattle.curve_law.proofs.SpanLemmas.{IsBetween, all-of, minutes-few, ends-are, wanted-is, covered-is}

-- cells of another length
pub wrong-length : (c : CurveSpec) (begin end covered : ℤ) (cells : List Cell) → IsBetween c begin end
    → covered ≡ pos (min (all_minutes cells) (2 ^ 63 - 1)) → of_z w64 covered
    ≢ of_z w64 (to_z w64 (of_z w64 end) -ℤ to_z w64 (of_z w64 begin)) → WrongLength (to_z w64 (of_z w64 covered))
    (to_z w64 (of_z w64 (to_z w64 (of_z w64 end) -ℤ to_z w64 (of_z w64 begin))))
    ≡ verdict c begin (unsigned_abs (end -ℤ begin)) cells
unfolding verdict
wrong-length c begin end covered cells between is other =
    let few = minutes-few c begin end between in
    let forward = between.forward in
    let wanted : end -ℤ begin ≡ pos (unsigned_abs (end -ℤ begin)) = omega (arith, ints) in
    let short : (all_minutes cells == unsigned_abs (end -ℤ begin)) ≡ false =
    ne_eqb _ _
    (λ all. other (ap (of_z w64) (is ∙ all-of (all_minutes cells) begin end all forward few ∙ sym (ends-are c begin end between)))) in
    rw (short, covered-is covered (all_minutes cells) is, ends-are c begin end between, wanted-is c begin end between, is, ← wanted) refl

pub verdict-whole : (c : CurveSpec) (a : ℤ) (n : ℕ) (cells : List Cell) → all_minutes cells ≡ n
    → cells_verdict c a 1 cells ≡ verdict c a n cells
unfolding verdict
verdict-whole c a n cells whole =
    let all : (all_minutes cells == n) ≡ true = (Decides-eqb (all_minutes cells) n).1 whole in
    rw all refl
