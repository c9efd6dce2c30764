use Rattle.station_curve.proofs.Answering.{at_station}
use Rattle.std.proofs.lemmas.Int.{to_z-of_z}
use mir.Syntax.{w64}
use Rattle.station_curve.proofs.curve.StationCurve.over.Goals as goal

pub of_station-requires : goal.of_station-requires
of_station-requires c =
    let is = rw c.as_slice.ensures at c.index-as_slice-station.is in
    rw (c.new.ensures, is, to_z-of_z w64 c.args.first c.ranges.first, to_z-of_z w64 c.args.last c.ranges.last) record {
      book = c.requires.book;
      station = c.requires.book.stations c.args.station c.index-as_slice-station.result c.requires.station;
      first = c.requires.first;
      last = c.requires.last;
      forward = c.requires.forward;
    }

pub returns : goal.returns
returns c =
    let is = rw c.as_slice.ensures at c.index-as_slice-station.is in
    at_station _ c.args.book.now.stations c.args.station c.index-as_slice-station.result c.requires.station is
    (rw (c.new.ensures, to_z-of_z w64 c.args.first c.ranges.first, to_z-of_z w64 c.args.last c.ranges.last) at c.of_station.ensures)
