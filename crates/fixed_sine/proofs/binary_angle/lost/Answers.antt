use Rattle.std.proofs.Common.{◌≡◌, ◌*◌, ◌≤◌, ◌∙◌, lit<, w32, w64, pos, ◌*ℤ◌, unsigned_abs, arith}
use Rattle.std.specs.Int.{int_shr}
use Rattle.std.proofs.lemmas.Int.{to_z-of_z}
use Rattle.fixed_sine.proofs.ProductLemmas.{abs_times, cast_small, shifted-size, times, times_fits}
use Rattle.fixed_sine.proofs.binary_angle.lost.Goals as goal
use Rattle.fixed_sine.proofs.binary_angle.lost.Goals.{After-from}

bend : (c : After-from) → c.from.result ≡ c.args.bend
bend c = c.from.ensures ∙ to_z-of_z w32 c.args.bend c.ranges.bend

small : (c : After-from) → unsigned_abs (int_shr (pos c.args.r *ℤ c.args.bend) 8) ≤ 4700000000000000
small c =
    let size = abs_times (pos c.args.r) c.args.bend 600000000 2000000000 (omega (arith, c.requires.part)) c.requires.bend in
    shifted-size (pos c.args.r *ℤ c.args.bend) 8 4700000000000000 (lit< tt) (omega (arith, size))

pub overflow_mul-result : goal.overflow_mul-result
overflow_mul-result c =
    rw (bend c) (times_fits w64 (pos c.args.r) c.args.bend 600000000 2000000000 (omega (arith, c.requires.part))
    c.requires.bend (lit< tt) (lit< tt) (lit< tt))

pub returns-clause-value : goal.returns-clause-value
returns-clause-value c =
    rw (
      bend c,
      times w64 (pos c.args.r) c.args.bend 600000000 2000000000 (omega (arith, c.requires.part))
          c.requires.bend (lit< tt) (lit< tt) (lit< tt),
    )
    (cast_small w64 _ 4700000000000000 (small c) (lit< tt))

pub returns-clause-size : goal.returns-clause-size
returns-clause-size c = rw (returns-clause-value c) (small c)
