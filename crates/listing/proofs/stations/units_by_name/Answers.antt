use Rattle.std.proofs.Common.{◌≡◌, ◌+◌, arith, rules, get_or, take, if◌then◌else◌, Some, None}
use Rattle.std.specs.Option.{option_or}
use Rattle.std.specs.Str.{bytes_eq}
use Rattle.std.proofs.lemmas.Map.Text.{text_keys}
use Rattle.listing.proofs.UnitLemmas.{unit_in_more}
use Rattle.listing.specs.StationLists.{unit_in}
use Rattle.listing.proofs.stations.units_by_name.Goals as goal

pub loop-station-preserved : goal.loop-station-preserved
loop-station-preserved c = λ name.
    let item : get_or c.args.stations.now c.loop-station.station-index c.station-item.result ≡ c.station-item.result = search rules in
    let more : unit_in (take (c.loop-station.station-index + 1) c.args.stations.now) name
    ≡ option_or (unit_in (take c.loop-station.station-index c.args.stations.now) name)
    (if bytes_eq name c.station-item.result.name then Some c.station-item.result.units else None) = rw item
    at (unit_in_more c.args.stations.now c.loop-station.station-index c.station-item.result name c.loop-station-test.true) in
    rw more (rw (← c.loop-station.invariant name) (grind (arith, text_keys)))
