use Rattle.std.proofs.Common.{refl}
use Rattle.tide_answer.proofs.predict.listing_answer.Goals as goal

pub events_text-requires-clause-listed : goal.events_text-requires-clause-listed
events_text-requires-clause-listed c = c.in_ok-listed.ensures.lines

pub returns : goal.returns
returns c =
    let list = c.in_ok-listed.ensures in
    rw (c.in_ok-text.ensures, list.units, list.events, list.cells, c.zone.ensures.exact) refl
