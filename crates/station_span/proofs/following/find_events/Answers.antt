use Rattle.std.proofs.Common.{◌∙◌}
use Rattle.station_span.proofs.HeldLemmas.{site_list}
use Rattle.station_span.proofs.following.find_events.Goals as goal

pub returns : goal.returns
returns c =
    site_list c.args.found_station.now _ c.requires c.args.found_station.now.unit c.in_ok-events.ensures
    (c.cells.ensures.value ∙ c.in_ok-merged.ensures.cells ∙ c.merge_of-merge.ensures.all)
