use Rattle.std.proofs.Common.{◌≡◌, ◌∙◌, ◌++◌, take, ap}
use Rattle.tide_server.proofs.ConnectionLemmas.{first_of_room}
use Rattle.tide_server.proofs.request.Request.read_more.Given.{Over}
use Rattle.tide_server.proofs.request.Request.read_more.Goals as goal

-- the bytes that were read follow the earlier ones
read_behind : (g : Over) (c : goal.After-unwrap g)
    → c.extend_from_slice.new.self.items ≡ c.args.self.now ++ take c.in_ok-count.count c.read.new.buffer
read_behind g c =
    rw (← c.self.view_is)
    ((rw c.unwrap.ensures at c.extend_from_slice.ensures.items)
    ∙ ap (λ bytes. c.self.inside.bytes.items ++ bytes)
    (first_of_room c.read.new.buffer _ c.deref.result.now c.self.inside.piece.len c.in_ok-count.count c.deref.ensures.value
    (c.read.auto.buffer ∙ c.deref_mut.ensures.len) (rw c.deref_mut.ensures.len at c.in_ok-count.ensures.within)))

pub returns-clause-after : goal.returns-clause-after
returns-clause-after g c = (c.read.new.buffer, c.in_ok-count.ensures.after, read_behind g c)
