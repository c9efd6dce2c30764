use Rattle.std.proofs.Common.{◌≡◌, ap, length, arith}
use Rattle.harmonics_text.proofs.Values.{pair_within}
use Rattle.harmonics_text.proofs.station_lines.add_station_line.Goals.{in-Constants+else-len-as_slice, in_default}
use Rattle.harmonics_text.proofs.station_lines.add_station_line.Goals as goal

pub returns-then-len-as_slice : goal.returns-then-len-as_slice
returns-then-len-as_slice c =
    pair_within c.args.book.now c.args.begun.now c.in-Constants.station c.add_pair.new.station
    c.args.text.now c.add_pair.result c.in-Constants.is
    (omega (arith, ap length c.as_slice.ensures)) c.add_pair.ensures.one c.add_pair.ensures.exact

pub returns : goal.returns
returns c =
    let kept : c.match-begun.begun ≡ c.args.begun.now =
    elim c.match-begun.branch [ in-Constants+else-len-as_slice w ↦ (cc) | in_default w ↦ (cc) ] in
    rw (← kept) c.move_on.ensures
