-- The requests of a door in memory, and its connections (this project).
use Rattle.std.specs.Prelude.{◌≡◌, ℕ, Bool, true, IsTrue, List, [], ◌∷◌, length, map, drop, None}
use Rattle.std.proofs.Common.{sym, ◌∙◌}
use mathlib.Core.Logic.{∥∥₁_elim}
use Rattle.std.proofs.Props.{props}
use Rattle.tide_edge.specs.Doors.{Connection, Connections, DoorState, connections_of, replies_of, unread_of}
use Rattle.tide_edge.specs.DoorLaws.{AreOfRequests, IsOfRequest, IsOfRequests}
use Rattle.tide_edge.specs.Memory.{HeldDoor, door_state}

-- Each connection of a door in memory belongs to one of its requests, in order. The pending requests,
-- the unread pieces (`coming`) of the connection accepted last, and the replies are what the requests
-- and the connections say; and the connections have a last one, or there are none.
pub record IsTied (requests pending : List (List (List ℕ))) (all : Connections) (coming replies : List (List ℕ)) : Type 0 where
  pub of : AreOfRequests true requests (connections_of all)
  pub waits : pending ≡ drop (length (connections_of all)) requests
  pub left : coming ≡ unread_of requests (connections_of all)
  pub sent : replies ≡ map (λ c. c.sent) (connections_of all)
  pub none : all.latest ≡ None → all.earlier ≡ []

-- The requests of a door in memory belong to its connections in order (`IsTied`), and no request is
-- pending once `next` has returned false.
abbrev pub IsTiedDoor : HeldDoor → Type 0
IsTiedDoor contents =
    IsTied contents.requests contents.pending contents.connections contents.coming contents.replies × (IsTrue contents.listener_state.is_over → contents.pending ≡ [])

lawful_of : (contents : HeldDoor) → IsTiedDoor contents → IsOfRequests (door_state contents)
lawful_of contents (t, over) = record { connections = t.of; over = λ is. sym t.waits ∙ over is }

-- ---- The law has at most one proof

of_prop : (keeps_pieces : Bool) (request : List (List ℕ)) (c : Connection) → IsProp (IsOfRequest keeps_pieces request c)
of_prop keeps_pieces request c = hlevel props

are_prop : (keeps_pieces : Bool) (requests : List (List (List ℕ))) (all : List Connection)
    → IsProp (AreOfRequests keeps_pieces requests all)
unfolding AreOfRequests
are_prop keeps_pieces requests [] = hlevel props
are_prop keeps_pieces [] (c ∷ more) = hlevel props
are_prop keeps_pieces (request ∷ requests) (c ∷ more) =
    hlevel (props, of_prop keeps_pieces request c, are_prop keeps_pieces requests more)

one_law : (d : DoorState) → IsProp (IsOfRequests d)
one_law d = hlevel (props, are_prop d.door_contents.keeps_pieces d.door_contents.requests (connections_of d.connections))

pub lawful_by : (contents : HeldDoor) → ∥ IsTiedDoor contents ∥₁ → IsOfRequests (door_state contents)
lawful_by contents tied = ∥∥₁_elim tied (one_law (door_state contents)) (lawful_of contents)

-- The replies that a door in memory holds are the bytes that its connections sent.
pub replies_are_sent : (contents : HeldDoor) → ∥ IsTiedDoor contents ∥₁ → contents.replies ≡ replies_of (door_state contents)
replies_are_sent contents tied = ∥∥₁_elim tied (hlevel props) (λ t. t.0.sent)
