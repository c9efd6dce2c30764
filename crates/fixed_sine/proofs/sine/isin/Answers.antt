use Rattle.std.proofs.Common.{w64}
use Rattle.std.proofs.lemmas.Int.{to_z-of_z}
use Rattle.fixed_sine.proofs.CircleLemmas.{isin_of-first_sign, isin_of-second_sign}
use Rattle.fixed_sine.proofs.sine.isin.Goals as goal

pub returns-then-place-lt-HALF-clause-value : goal.returns-then-place-lt-HALF-clause-value
returns-then-place-lt-HALF-clause-value c =
    let place = to_z-of_z w64 c.args.p c.ranges.p in
    isin_of-first_sign _ c.half.result (rw place at c.if-place-lt-HALF.true) c.half.ensures.size (rw place at c.half.ensures.value)

pub returns-else-place-lt-HALF-clause-value : goal.returns-else-place-lt-HALF-clause-value
returns-else-place-lt-HALF-clause-value c =
    let place = to_z-of_z w64 c.args.p c.ranges.p in
    isin_of-second_sign _ c.half-else-place-lt-HALF.result (rw place at c.if-place-lt-HALF.false)
    c.half-else-place-lt-HALF.ensures.size (rw place at c.half-else-place-lt-HALF.ensures.value)
