use Rattle.std.proofs.Common.{◌≡◌, ◌*◌, ◌^◌, pos, ◌≤ℤ◌}
use Rattle.station_curve.specs.Curves.{sums_for}
use Rattle.slope_agreement.specs.Agreements.{year_agreement, greatest}
use Rattle.slope_agreement.proofs.station_gaps.agreement.Given as goal

abbrev pub invariant-loop-year : goal.invariant-loop-year
invariant-loop-year l = record {
  value : l.most ≡ greatest (λ year. year_agreement (sums_for l.station year)) l.year;
  least : pos 0 ≤ℤ l.most;
  most : l.most ≤ℤ pos (5 * 10 ^ 34);
}
