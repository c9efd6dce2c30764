use Rattle.std.proofs.Common.{ℕ, ◌<◌, pos, ◌≤ℤ◌, get_or}
use Rattle.station_curve.proofs.year_limits.greatest_of.Given as goal

abbrev pub invariant-loop-factor : goal.invariant-loop-factor
invariant-loop-factor l = record {
  value : (place : ℕ) → place < l.factor-index → get_or l.factors place (pos 0) ≤ℤ l.greatest;
  least : pos 0 ≤ℤ l.greatest;
  most : l.greatest ≤ℤ pos 10000000;
}
