use Rattle.std.proofs.Common.{◌≡◌, sym, ◌∙◌}
use Rattle.std.proofs.lemmas.Bool.{ltb-true}
use Rattle.harmonics_text.proofs.Values.{station_read, angles_read, factors_read}
use Rattle.harmonics_text.proofs.book_parser.BookParser.add_text.Goals.{in-Angles+else-has_more, in_default-self}
use Rattle.harmonics_text.proofs.book_parser.BookParser.add_text.Goals as goal

pub returns-in-Stations : goal.returns-in-Stations
returns-in-Stations c =
    station_read c.args.self.now c.in-Stations.book c.add_station_line.new.book c.in-Stations.begun
    c.add_station_line.new.begun c.args.text.now c.add_station_line.result c.in-Stations.is c.add_station_line.ensures

pub returns-then-has_more : goal.returns-then-has_more
returns-then-has_more c =
    angles_read c.args.self.now c.in-Angles.heading c.in-Angles.table c.add_table_line.new.table
    c.args.text.now c.add_table_line.result c.in-Angles.is
    (ltb-true _ _ (sym c.has_more.ensures ∙ c.if-has_more.true)) c.add_table_line.ensures

pub returns-then-has_more-2 : goal.returns-then-has_more-2
returns-then-has_more-2 c =
    let kept : c.match-self-2.self ≡ c.args.self.now =
    elim c.match-self-2.branch [ in-Angles+else-has_more w ↦ (cc) | in_default-self w ↦ (cc) ] in
    factors_read c.args.self.now c.in-Factors.heading c.in-Factors.field-1 c.in-Factors.table
    c.add_table_line-then-has_more-2.new.table c.args.text.now c.add_table_line-then-has_more-2.result
    (sym kept ∙ c.in-Factors.is) (ltb-true _ _ (sym c.has_more-in-Factors.ensures ∙ c.if-has_more-2.true))
    c.add_table_line-then-has_more-2.ensures
