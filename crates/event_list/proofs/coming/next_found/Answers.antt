use Rattle.event_list.proofs.ComingLemmas.{no-search-finds, search-finds}
use Rattle.event_list.proofs.coming.next_found.Goals as goal

pub returns-in-Some : goal.returns-in-Some
returns-in-Some g c = rw c.in-Some.is (search-finds c.in-Some.search c.next.new.self c.next.result c.next.ensures.found)

pub returns-in-None : goal.returns-in-None
returns-in-None g c = rw c.in-None.is (no-search-finds g.row.C.Denot)
