use Rattle.std.proofs.Common.{◌≡◌, pos, neg_ℤ, ◌-ℤ◌, ◌≤ℤ◌, ◌<ℤ◌, ap, ◌∙◌, arith}
use Rattle.std.specs.Prelude.{unsigned_abs}
use Rattle.std.proofs.lemmas.Int.{ints, to_z-of_z}
use mir.Syntax.{w128}
use mir.Val.{to_z, of_z}
use Rattle.decimal_text.specs.Rounding.{half_up}
use Rattle.decimal_text.proofs.RoundingLemmas.{rounded-negative, rounded-other}
use Rattle.decimal_text.proofs.rounding.rounded.Goals as goal

pub returns-then-value-lt0-clause-exact : goal.returns-then-value-lt0-clause-exact
returns-then-value-lt0-clause-exact c =
    let value = c.args.value in
    let r = c.rounded_size-size.result in
    let same = to_z-of_z w128 value c.ranges.value in
    let size : r ≡ half_up (unsigned_abs value) c.args.unit =
    c.rounded_size-size.ensures.exact ∙ ap (λ n. half_up n c.args.unit) (rw same at c.unsigned_abs.ensures.value) in
    let cast : to_z w128 (of_z w128 (pos 0 -ℤ to_z w128 r)) ≡ neg_ℤ (pos r) = omega (arith, ints, c.rounded_size-size.ensures.small) in
    let negative : value <ℤ pos 0 = omega (arith, ints) in
    cast ∙ ap (λ n. neg_ℤ (pos n)) size ∙ rounded-negative value c.args.unit negative

pub returns-else-value-lt0-clause-exact : goal.returns-else-value-lt0-clause-exact
returns-else-value-lt0-clause-exact c =
    let value = c.args.value in
    let r = c.rounded_size-size.result in
    let same = to_z-of_z w128 value c.ranges.value in
    let size : r ≡ half_up (unsigned_abs value) c.args.unit =
    c.rounded_size-size.ensures.exact ∙ ap (λ n. half_up n c.args.unit) (rw same at c.unsigned_abs.ensures.value) in
    let cast : to_z w128 r ≡ pos r = omega (arith, ints, c.rounded_size-size.ensures.small) in
    let other : pos 0 ≤ℤ value = omega (arith, ints) in
    cast ∙ ap (λ n. pos n) size ∙ rounded-other value c.args.unit other
