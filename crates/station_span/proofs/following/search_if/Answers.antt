use Rattle.std.proofs.Common.{FitsSigned, w64, rules}
use Rattle.std.proofs.lemmas.Int.{to_z-of_z}
use Rattle.station_span.proofs.following.search_if.Goals as goal

pub new-requires-clause-forward : goal.new-requires-clause-forward
new-requires-clause-forward g c =
    let begin : FitsSigned w64 c.args.span.now.begin = search rules in
    let end : FitsSigned w64 c.args.span.now.end = search rules in
    simp to_z-of_z (c.requires _ c.in-Some.is).forward
