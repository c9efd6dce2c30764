use Rattle.slope_agreement.proofs.TableChecks.{begin_gap, begin_gap_bound, end_gap, end_gap_bound}
use Rattle.slope_agreement.proofs.laws.table_checks.Goals as goal

pub returns-clause-begins : goal.returns-clause-begins
unfolding begin_gap
returns-clause-begins c = begin_gap_bound

pub returns-clause-ends : goal.returns-clause-ends
unfolding end_gap
returns-clause-ends c = end_gap_bound
