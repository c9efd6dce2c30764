use Rattle.std.proofs.Common.{rules}
use Rattle.station_span.proofs.FoundLemmas.{curve_alone}
use Rattle.station_span.proofs.station_curves.curve_over.Goals as goal

pub returns-in-Ok-clause-predicts : goal.returns-in-Ok-clause-predicts
returns-in-Ok-clause-predicts c =
    curve_alone c.args.book.now c.args.station.now c.args.span.now.begin c.args.span.now.end _ (search rules)
