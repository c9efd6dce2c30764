use Rattle.std.proofs.Common.{◌≡◌, length, arith}
use Rattle.std.proofs.lemmas.Bool.{eqb-true, eqb-false}
use Rattle.decimal_text.proofs.ReadingLemmas.{after_point_none, after_point_some, after_point_else}
use Rattle.decimal_text.proofs.reading.after_point.Goals as goal

pub returns-then-is_empty : goal.returns-then-is_empty
returns-then-is_empty c = after_point_none c.args.rest.now (eqb-true _ _ cc)

pub returns-then-first-eq46 : goal.returns-then-first-eq46
returns-then-first-eq46 c =
    let some : length c.args.rest.now ≡ 0 → ⊥ = eqb-false _ _ cc in
    rw c.split_at.ensures.back
    (after_point_some c.args.rest.now (omega (arith, some)) (rw c.split_at.ensures.front at c.if-first-eq46.true))

pub returns-else-first-eq46 : goal.returns-else-first-eq46
returns-else-first-eq46 c =
    let some : length c.args.rest.now ≡ 0 → ⊥ = eqb-false _ _ cc in
    after_point_else c.args.rest.now (omega (arith, some)) (rw c.split_at.ensures.front at c.if-first-eq46.false)
