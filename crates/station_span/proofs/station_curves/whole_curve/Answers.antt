use Rattle.std.proofs.Common.{rules}
use Rattle.station_span.proofs.FoundLemmas.{whole_alone}
use Rattle.station_span.proofs.station_curves.whole_curve.Goals as goal

pub returns-in-Ok-clause-predicts : goal.returns-in-Ok-clause-predicts
returns-in-Ok-clause-predicts c = whole_alone c.args.book.now c.args.station.now _ (search rules)
