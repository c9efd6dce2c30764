use Rattle.std.proofs.Common.{rules}
use Rattle.station_span.proofs.HeldLemmas.{all_looked, first_looked}
use Rattle.station_span.proofs.levels.check_level.Goals as goal

pub returns-then-equal-clause-first : goal.returns-then-equal-clause-first
returns-then-equal-clause-first c = λ is. first_looked c.args.found_station.now is

pub returns-then-equal-clause-all : goal.returns-then-equal-clause-all
returns-then-equal-clause-all c = λ is. all_looked c.args.found_station.now is (search rules)

pub returns-else-equal-clause-first : goal.returns-else-equal-clause-first
returns-else-equal-clause-first c = λ is. first_looked c.args.found_station.now is
