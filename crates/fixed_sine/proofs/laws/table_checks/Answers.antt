use Rattle.fixed_sine.proofs.TableLemmas.{rise_bound, square_gap, square_gap_bound}
use Rattle.fixed_sine.proofs.laws.table_checks.Goals as goal

pub returns-clause-gains : goal.returns-clause-gains
returns-clause-gains c = rise_bound

pub returns-clause-squares : goal.returns-clause-squares
unfolding square_gap
returns-clause-squares c = square_gap_bound
