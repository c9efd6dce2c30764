use Rattle.std.proofs.Common.{lit<, refl}
use Rattle.std.proofs.lemmas.Fmt.{decimal_digit}
use Rattle.report_sheets.specs.Tallies.{tally_of}
use Rattle.report_sheets.proofs.worked.worked_tallies.Goals as goal

pub returns-clause-tides : goal.returns-clause-tides
unfolding tally_of
returns-clause-tides c = rw (decimal_digit 2 (lit< tt))

pub returns-clause-currents : goal.returns-clause-currents
unfolding tally_of
returns-clause-currents c = rw (decimal_digit 1 (lit< tt))

pub returns-clause-none : goal.returns-clause-none
unfolding tally_of
returns-clause-none c = refl
