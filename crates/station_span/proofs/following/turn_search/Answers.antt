use Rattle.std.proofs.Common.{◌∙◌, ap, rules}
use Rattle.curve_law.specs.declared.tracks.Tracks.{Tracks}
use Rattle.station_span.proofs.HeldLemmas.{tracks_for}
use Rattle.station_span.proofs.following.turn_search.Goals as goal

pub returns-clause-remaining : goal.returns-clause-remaining
returns-clause-remaining c = (search rules) ∙ ap (λ (t : Tracks). t.turn) (tracks_for c.args.found_station.now c.requires)
