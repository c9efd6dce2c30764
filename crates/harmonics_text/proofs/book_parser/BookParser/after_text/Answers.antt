use Rattle.harmonics_text.proofs.Values.{angles_end_read, factors_end_read, station_read, follows_in_place}
use Rattle.harmonics_text.specs.Workings.BookParsing.{after_text}
use Rattle.harmonics_text.proofs.book_parser.BookParser.after_text.Goals as goal

pub returns-in-AnglesEnd : goal.returns-in-AnglesEnd
returns-in-AnglesEnd c =
    rw c.and.ensures (angles_end_read c.args.self c.in-AnglesEnd.heading c.in-AnglesEnd.angles c.args.text.now
    c.check_end.result c.in-AnglesEnd.is c.check_end.ensures)

pub returns-in-FactorsEnd : goal.returns-in-FactorsEnd
returns-in-FactorsEnd c =
    rw (c.and-in-FactorsEnd.ensures, c.new_book-book.ensures) (factors_end_read c.args.self c.in-FactorsEnd.heading
    c.in-FactorsEnd.angles c.in-FactorsEnd.factors c.args.text.now c.check_end-in-FactorsEnd.result c.in-FactorsEnd.is
    c.check_end-in-FactorsEnd.ensures)

pub returns-in-Stations : goal.returns-in-Stations
returns-in-Stations c =
    rw c.and-in-Stations.ensures (follows_in_place _ c.add_station_line-read.result (after_text c.args.self c.args.text.now)
    (station_read c.args.self c.in-Stations.book c.add_station_line-read.new.book c.in-Stations.begun
    c.add_station_line-read.new.begun c.args.text.now c.add_station_line-read.result c.in-Stations.is
    c.add_station_line-read.ensures))
