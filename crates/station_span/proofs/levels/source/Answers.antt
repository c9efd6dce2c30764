use Rattle.std.proofs.Common.{w64, rules, FitsSigned, arith}
use Rattle.std.proofs.lemmas.Int.{ints, to_z-of_z}
use Rattle.station_span.proofs.HeldLemmas.{looked_inside, looked_zone}
use Rattle.station_span.proofs.levels.source.Goals as goal

pub earlier-requires-clause-minute : goal.earlier-requires-clause-minute
earlier-requires-clause-minute c =
    let fits : FitsSigned w64 c.args.minute = search rules in
    let in_years = looked_zone c.args.found_station.now c.args.minute c.requires in
    simp to_z-of_z (omega (arith, ints))

pub returns-clause-inside : goal.returns-clause-inside
returns-clause-inside c = looked_inside c.args.found_station.now c.args.minute c.requires
