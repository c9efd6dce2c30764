use Rattle.station_curve.proofs.Answering.{at_station}
use Rattle.station_curve.proofs.Ranges.{all_in_domain}
use Rattle.station_curve.specs.Curves.{curve_of}
use Rattle.station_curve.proofs.WithinLimits.{times_of}
use Rattle.station_curve.proofs.curve.StationCurve.new.Goals as goal

pub of_station-requires : goal.of_station-requires
of_station-requires c =
    let is = rw c.as_slice.ensures at c.index-as_slice-station.is in
    let all = all_in_domain c.args.book.now (times_of c.args.book.now c.requires.book) in
    rw (c.all_minutes.ensures.first, c.all_minutes.ensures.last, c.new-book.ensures, is) record {
      book = c.requires.book;
      station = c.requires.book.stations c.args.station c.index-as_slice-station.result c.requires.station;
      first = record { least = all.least; most = all.forward };
      last = record { least = all.forward; most = all.most };
      forward = all.forward;
    }

pub returns : goal.returns
unfolding curve_of
returns c =
    let is = rw c.as_slice.ensures at c.index-as_slice-station.is in
    at_station _ c.args.book.now.stations c.args.station c.index-as_slice-station.result c.requires.station is
    (rw (c.all_minutes.ensures.first, c.all_minutes.ensures.last, c.new-book.ensures) at c.of_station.ensures)
