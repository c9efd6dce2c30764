use Rattle.std.proofs.Common.{pos, arith, lit<}
use mir.Syntax.{w32}
use Rattle.station_curve.proofs.Products.{abs_within, plus}
use Rattle.station_curve.proofs.constants.calendar_year.Goals as goal

pub returns-clause-value : goal.returns-clause-value
returns-clause-value c =
    let first = c.get.ensures.valid.first_year in
    rw c.get.ensures.exact (plus w32 c.args.book.now.first_year (pos c.args.year) 8800 500
    (abs_within c.args.book.now.first_year 2 8800 first.least first.most) (omega (arith, c.requires, c.get.ensures.valid.few_years)) (lit< tt))
