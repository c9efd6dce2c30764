-- A door, its connections, and the bytes read and written over each (this project).
use Rattle.std.specs.Prelude.{
  ◌≡◌,
  ℕ,
  ◌-◌,
  ◌==◌,
  nat_lt,
  Bool,
  true,
  false,
  ◌||◌,
  if◌then◌else◌,
  List,
  [],
  ◌∷◌,
  ◌++◌,
  length,
  map,
  take,
  drop,
  Option,
  Some,
  None,
  Result,
  Ok,
  Err,
  is_ok,
  is_err,
}
use Rattle.tide_edge.specs.declared.failed.Failed.{Failed}
use Rattle.std.specs.Option.{option_map}
use Rattle.tide_edge.specs.Faults.{counted, faults_after}
use Rattle.tide_edge.specs.FileStates.{as_list}

-- The part of a door's state that contracts know for every door. `port`: the port passed to
-- `listen`, None before this call; `listens`: the call succeeded; `accepted`: the number of
-- connections accepted, which saturates at the greatest `u64`; `is_open`: a connection is open;
-- `is_over`: `next` has returned false, so that there are no more connections.
pub record ListenerState : Type 0 where
  pub port : Option ℕ
  pub listens : Bool
  pub accepted : ℕ
  pub is_open : Bool
  pub is_over : Bool

-- The listener's port, flags and count of connections before `listen` is called.
abbrev pub not_listening : ListenerState
not_listening = record { port = None; listens = false; accepted = 0; is_open = false; is_over = false }

-- The listener's port, flags and count of connections after `listen` with this port; the Bool is
-- true if the call succeeded. No connection was accepted yet.
abbrev pub listen_requested : ℕ → Bool → ListenerState
listen_requested port listens = record not_listening { port = Some port; listens = listens }

-- The listener's port, flags and count of connections after `next` with this result: another
-- connection is counted, and it is open; or there are no more connections; or the call failed and
-- nothing changed.
abbrev pub after_next : Result Bool Failed → ListenerState → ListenerState
after_next (Ok true) d = record d { accepted = counted d.accepted; is_open = true }
after_next (Ok false) d = record d { is_over = true }
after_next (Err failed) d = d

-- The listener's port, flags and count of connections after `close`: no connection is open.
abbrev pub closed : ListenerState → ListenerState
closed d = record d { is_open = false }

-- The first of the lists, or the empty list if there is none.
abbrev pub first_or_empty : {A : Type 0} → List (List A) → List A
first_or_empty [] = []
first_or_empty (first ∷ more) = first

-- The pieces without the first `count` bytes of all of them. A piece of which all bytes are taken
-- away is dropped.
abbrev pub left_after : ℕ → List (List ℕ) → List (List ℕ)
left_after count [] = []
left_after count (piece ∷ more) =
    if count == 0 || nat_lt count (length piece) then drop count piece ∷ more else left_after (count - length piece) more

-- The replies with `bytes` appended to the last one; no replies if there are none.
abbrev pub append_to_last : List (List ℕ) → List ℕ → List (List ℕ)
append_to_last [] bytes = []
append_to_last (reply ∷ []) bytes = (reply ++ bytes) ∷ []
append_to_last (reply ∷ next ∷ more) bytes = reply ∷ append_to_last (next ∷ more) bytes

-- ---- the bytes read and written over each connection

-- One connection. `came`: the bytes received; `last`: how many of them the last read returned, 0 if
-- it failed or there was none; `is_ended`: a read has returned 0, the end of the request; `sent`:
-- the bytes of the reply that were accepted; `read_failed` and `write_failed`: a read or a write
-- has failed.
pub record Connection : Type 0 where
  pub came : List ℕ
  pub last : ℕ
  pub is_ended : Bool
  pub sent : List ℕ
  pub read_failed : Bool
  pub write_failed : Bool

-- All connections of a door, in the order in which they were accepted. `earlier`: all but the last;
-- `latest`: the last, or None if there is none.
pub record Connections : Type 0 where
  pub earlier : List Connection
  pub latest : Option Connection

-- No connection was accepted.
abbrev pub no_connections : Connections
no_connections = record { earlier = []; latest = None }

-- All connections of a door as one list, in the order in which they were accepted.
abbrev pub connections_of : Connections → List Connection
connections_of c = c.earlier ++ as_list c.latest

-- A door before `listen` is called: it has no port, and it has accepted no connection.
abbrev pub IsUntouched : ListenerState → Connections → Type 0
IsUntouched listener_state connections = (listener_state ≡ not_listening) × (connections ≡ no_connections)

-- A connection that was just accepted: no byte was read or written yet.
abbrev pub just_taken : Connection
just_taken = record { came = []; last = 0; is_ended = false; sent = []; read_failed = false; write_failed = false }

-- The connections after `next` with this result: another one if it returned true, else the same.
abbrev pub connections_after_next : Result Bool Failed → Connections → Connections
connections_after_next (Ok true) c = record { earlier = connections_of c; latest = Some just_taken }
connections_after_next (Ok false) c = c
connections_after_next (Err failed) c = c

-- The connection after a read with this result: the first bytes of `buffer`, as many as the count
-- says, were received, and a count of 0 is the end of the request; or the read failed.
abbrev pub connection_after_read : Result ℕ Failed → List ℕ → Connection → Connection
connection_after_read (Ok count) buffer c = record c {
  came = c.came ++ take count buffer;
  last = count;
  is_ended = (count == 0) || c.is_ended;
}
connection_after_read (Err failed) buffer c = record c { last = 0; read_failed = true }

-- The connection after a write of `piece` with this result: the first bytes of `piece`, as many as
-- the count says, were accepted; or the write failed.
abbrev pub connection_after_write : Result ℕ Failed → List ℕ → Connection → Connection
connection_after_write (Ok count) piece c = record c { sent = c.sent ++ take count piece }
connection_after_write (Err failed) piece c = record c { write_failed = true }

-- The connections of a door with the function `change` applied to the last one.
abbrev pub change_latest : (Connection → Connection) → Connections → Connections
change_latest change c = record c { latest = option_map change c.latest }

-- ---- the whole state

-- The part of a door's state that no call changes. `is_observable`: the state has all requests that
-- will arrive, as for a door in memory; false for a TCP port of the machine. `keeps_pieces`: a `read`
-- returns bytes of one piece only. `requests`: all requests, each as the nonempty pieces in which it
-- arrives. The last two mean something only if `is_observable`.
pub record DoorContents : Type 0 where
  pub is_observable : Bool
  pub keeps_pieces : Bool
  pub requests : List (List (List ℕ))

-- The state of a door. `door_contents`: the part that no call changes. `listener_state`: the port, the
-- flags and the count of connections. `connections`: the bytes read and written over each. `faults`
-- counts the failures of `listen` and `next`, `line_faults` of `read` and `write`, up to the greatest
-- `u64`.
pub record DoorState : Type 0 where
  pub door_contents : DoorContents
  pub listener_state : ListenerState
  pub connections : Connections
  pub faults : ℕ
  pub line_faults : ℕ

-- The requests without a connection: all but the first n, if n connections were accepted. They mean
-- something only if the state has all requests (`is_observable`).
abbrev pub waiting_of : DoorState → List (List (List ℕ))
waiting_of d = drop (length (connections_of d.connections)) d.door_contents.requests

-- The replies: for each connection, in order, the bytes of its reply that were accepted.
abbrev pub replies_of : DoorState → List (List ℕ)
replies_of d = map (λ c. c.sent) (connections_of d.connections)

-- The unread pieces of the connection that was accepted last, from all requests (each in pieces)
-- and all connections, in order; no pieces if there is no connection, or no request for it.
unfoldable pub unread_of : List (List (List ℕ)) → List Connection → List (List ℕ)
unread_of requests [] = []
unread_of [] (c ∷ more) = []
unread_of (request ∷ requests) (c ∷ []) = left_after (length c.came) request
unread_of (request ∷ requests) (c ∷ next ∷ more) = unread_of requests (next ∷ more)

-- The state of a door after `listen` on `port` with this result: the listener has this port, and it
-- listens if the call succeeded. A failure is counted.
abbrev pub door_after_listen : {T : Type 0} → Result T Failed → ℕ → DoorState → DoorState
door_after_listen result port s = record s {
  listener_state = listen_requested port (is_ok result);
  faults = faults_after (is_err result) s.faults;
}

-- The state of a door after `next` with this result: one more connection was accepted and is open
-- (true); there are no more connections (false); or the call failed, and the failure is counted.
abbrev pub door_after_next : Result Bool Failed → DoorState → DoorState
door_after_next result s = record s {
  listener_state = after_next result s.listener_state;
  connections = connections_after_next result s.connections;
  faults = faults_after (is_err result) s.faults;
}

-- The state of a door after `read` with this result; `buffer` is the caller's buffer after the
-- call. The bytes that were read, the first of `buffer`, are appended to the received bytes of the
-- latest connection; a count of 0 is recorded as the end of its request. A failure is recorded and
-- counted.
abbrev pub door_after_read : Result ℕ Failed → List ℕ → DoorState → DoorState
door_after_read result buffer s = record s {
  connections = change_latest (connection_after_read result buffer) s.connections;
  line_faults = faults_after (is_err result) s.line_faults;
}

-- The state of a door after `write` of `piece` with this result: the bytes that were accepted, the
-- first of `piece`, are appended to the reply of the latest connection. A failure is recorded and
-- counted.
abbrev pub door_after_write : Result ℕ Failed → List ℕ → DoorState → DoorState
door_after_write result piece s = record s {
  connections = change_latest (connection_after_write result piece) s.connections;
  line_faults = faults_after (is_err result) s.line_faults;
}

-- The state of a door after `close`: no connection is open, and nothing else has changed.
abbrev pub door_after_close : DoorState → DoorState
door_after_close s = record s { listener_state = closed s.listener_state }
