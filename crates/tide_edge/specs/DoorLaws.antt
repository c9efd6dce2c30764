-- If a door's requests are observable (its state has all of them), the bytes read over each
-- connection are bytes of its request (this project).
use Rattle.std.specs.Prelude.{◌≡◌, ◌≤◌, ◌-◌, ℕ, Bool, IsTrue, List, [], ◌∷◌, length, take}
use Rattle.std.specs.List.{concat}
use Rattle.tide_edge.specs.Doors.{Connection, DoorState, connections_of, first_or_empty, left_after, waiting_of}

-- The bytes received over the connection `c` are a prefix of `request`, given as the pieces (parts)
-- in which it arrives, and all of it if the end was found. If `keeps_pieces`, the last read
-- returned bytes of one piece only: of the first piece that was unread before it.
pub record IsOfRequest (keeps_pieces : Bool) (request : List (List ℕ)) (c : Connection) : Type 0 where
  pub prefix : c.came ≡ take (length c.came) (concat request)
  pub whole : IsTrue c.is_ended → c.came ≡ concat request
  pub piece : IsTrue keeps_pieces → c.last ≤ length (first_or_empty (left_after (length c.came - c.last) request))

-- `AreOfRequests keeps_pieces requests connections`: each connection received bytes of the request
-- at the same index (`IsOfRequest`). There may be more requests than connections.
unfoldable pub AreOfRequests : Bool → List (List (List ℕ)) → List Connection → Type 0
AreOfRequests keeps_pieces requests [] = Unit {0}
AreOfRequests keeps_pieces [] (c ∷ more) = ⊥
AreOfRequests keeps_pieces (request ∷ requests) (c ∷ more) =
    IsOfRequest keeps_pieces request c × AreOfRequests keeps_pieces requests more

-- Each connection of the door received bytes of the request at the same index, and no request is
-- pending (without a connection) once `next` has returned false.
pub record IsOfRequests (d : DoorState) : Type 0 where
  pub connections : AreOfRequests d.door_contents.keeps_pieces d.door_contents.requests (connections_of d.connections)
  pub over : IsTrue d.listener_state.is_over → waiting_of d ≡ []

-- The law of doors: if the requests are observable (the state has all of them), each connection
-- received bytes of the request at the same index (`IsOfRequests`).
abbrev pub IsLawful : DoorState → Type 0
IsLawful d = IsTrue d.door_contents.is_observable → IsOfRequests d
