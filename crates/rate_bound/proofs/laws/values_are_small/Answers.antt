use Rattle.rate_bound.proofs.SizeLemmas.{turn_small, mark_below, station_turn_small, station_mark_small}
use Rattle.rate_bound.proofs.laws.values_are_small.Goals as goal

pub returns-clause-turn : goal.returns-clause-turn
returns-clause-turn c = turn_small

pub returns-clause-mark : goal.returns-clause-mark
returns-clause-mark c = mark_below

pub returns-clause-station_turn : goal.returns-clause-station_turn
returns-clause-station_turn c = station_turn_small

pub returns-clause-station_mark : goal.returns-clause-station_mark
returns-clause-station_mark c = station_mark_small
