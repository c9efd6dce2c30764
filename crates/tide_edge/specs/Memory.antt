-- The objects in memory: their contents, the results of their calls, and the states after the calls
-- (this project).
use Rattle.std.specs.Prelude.{
  ℕ,
  ℤ,
  ◌+◌,
  ◌-◌,
  ◌==◌,
  nat_lt,
  min,
  Bool,
  true,
  false,
  not,
  ◌||◌,
  if◌then◌else◌,
  List,
  [],
  ◌∷◌,
  ◌++◌,
  length,
  take,
  drop,
  find,
  fold,
  Option,
  None,
  is_none,
  Result,
  Ok,
  Err,
  is_err,
}
use Rattle.std.specs.List.{list_all}
use Rattle.std.specs.Option.{option_map}
use Rattle.std.specs.Str.{bytes_eq}
use Rattle.tide_edge.specs.declared.files.named_file.NamedFile.{NamedFile}
use Rattle.tide_edge.specs.declared.failed.Failed.{Failed}
use Rattle.tide_edge.specs.FaultSchedule.{HeldCalls, answer, is_to_fail, after_call, calls_after, schedule_of}
use Rattle.tide_edge.specs.Clocks.{ClockState, held_readings}
use Rattle.tide_edge.specs.Doors.{
  ListenerState,
  DoorState,
  Connections,
  listen_requested,
  after_next,
  closed,
  append_to_last,
  first_or_empty,
  left_after,
  change_latest,
  connections_after_next,
  connection_after_read,
  connection_after_write,
  no_connections,
  not_listening,
}
use Rattle.tide_edge.specs.Faults.{counted, faults_after}
use Rattle.tide_edge.specs.FileStates.{FilesState, files_after_open, files_after_read, no_openings}
use Rattle.tide_edge.specs.SinkStates.{SinkState}

-- A call on files in memory: `Open name`, or `Read more`: a `read` with a buffer of `more + 1`
-- bytes, since a buffer isn't empty.
pub data FileCall : Type 0 where
  Open : List ℕ → FileCall
  Read : ℕ → FileCall

-- Files in memory. `files`: each file with its name; `fails`: the numbers of the calls that are to
-- fail, counted from 1; `history`: all calls until now, in order.
pub record HeldFiles : Type 0 where
  pub files : List NamedFile
  pub fails : List ℕ
  pub history : List FileCall

-- The contents of the first of these files that is called `name`, or None if there isn't one.
abbrev pub folder_of : List NamedFile → List ℕ → Option (List ℕ)
folder_of files name = option_map (λ file. file.bytes) (find (λ file. bytes_eq file.name name) files)

-- Files in memory after some calls: the state that the trait `Files` has, and the calls counted.
pub record FilesNow : Type 0 where
  pub state : FilesState
  pub fault_schedule : HeldCalls

-- Files in memory before any call. Contracts know their contents (`is_observable`); the files are
-- steady (opening and reading an existing file never fails) if no call is to fail.
abbrev pub before_calls : HeldFiles → FilesNow
before_calls contents = record {
  state = record {
    file_contents = record { is_observable = true; folder = folder_of contents.files; is_steady = length contents.fails == 0 };
    unread_bytes = [];
    open_log = no_openings;
    faults = 0;
  };
  fault_schedule = record { fails = contents.fails; made = 0; faults = 0 };
}

-- The bytes of the file that the next `open` of `name` opens, or None if the call is to fail or
-- there is no such file.
abbrev pub found : FilesNow → List ℕ → Option (List ℕ)
found now name = (if is_to_fail now.fault_schedule then None else now.state.file_contents.folder name)

-- The result of the next `open` of `name`: it fails if the call is to fail, or if there is no such
-- file.
abbrev pub open_result : FilesNow → List ℕ → Result (Unit {0}) Failed
open_result now name = answer (is_none (found now name)) record {}

-- The result of the next `read` with a buffer of length `buffer_length`: the number of bytes
-- copied, which is this length or the number of unread bytes if that is smaller; or a failure if
-- the call is to fail.
abbrev pub read_result : FilesNow → ℕ → Result ℕ Failed
read_result now buffer_length = answer (is_to_fail now.fault_schedule) (min buffer_length (length now.state.unread_bytes))

-- Files in memory after one more call.
abbrev pub after_file_call : FilesNow → FileCall → FilesNow
after_file_call now (Open name) = record {
  state = files_after_open (open_result now name) name now.state;
  fault_schedule = after_call (is_err (open_result now name)) now.fault_schedule;
}
after_file_call now (Read more) = record {
  state = files_after_read (read_result now (more + 1)) now.state.unread_bytes now.state;
  fault_schedule = after_call (is_to_fail now.fault_schedule) now.fault_schedule;
}

-- Files in memory after all calls of their history.
abbrev pub files_now : HeldFiles → FilesNow
files_now contents = fold after_file_call (before_calls contents) contents.history

-- The state of files in memory after all calls until now, in the terms of the trait `Files`: the
-- contents, the unread bytes, the calls of `open` with the bytes read after each, and the number of
-- failures.
abbrev pub files_state : HeldFiles → FilesState
files_state contents = (files_now contents).state

-- A sink in memory. `accepted`: the bytes accepted; `most`: the most bytes that one call accepts;
-- `capacity`: the most bytes that all calls together accept; `fault_schedule`: the calls counted,
-- and the numbers of the calls that are to fail.
pub record HeldSink : Type 0 where
  pub accepted : List ℕ
  pub most : ℕ
  pub capacity : ℕ
  pub fault_schedule : HeldCalls

-- The state of a sink in memory, as the trait `Sink` has it: the accepted bytes, and the number of
-- failures.
abbrev pub sink_state : HeldSink → SinkState
sink_state contents = record { accepted = contents.accepted; faults = contents.fault_schedule.faults }

-- True if the next `write` fails: the call is to fail, or the capacity is used up.
abbrev pub is_refused : HeldSink → Bool
is_refused contents = is_to_fail contents.fault_schedule || (length contents.accepted == contents.capacity)

-- The number of bytes that the next `write` accepts of a piece of length `piece`, limited by `most`
-- and by the capacity that is left; 0 if the call fails.
abbrev pub write_count : HeldSink → ℕ → ℕ
write_count contents piece =
    (if is_refused contents then 0 else min piece (min contents.most (contents.capacity - length contents.accepted)))

-- The sink in memory after `write` of `piece`.
abbrev pub after_write : HeldSink → List ℕ → HeldSink
after_write contents piece = record {
  accepted = contents.accepted ++ take (write_count contents (length piece)) piece;
  most = contents.most;
  capacity = contents.capacity;
  fault_schedule = after_call (is_refused contents) contents.fault_schedule;
}

-- A door in memory. `requests`: all requests in their pieces; `listener_state`: the port, the flags
-- and the count of connections; `connections`: the bytes read and written over each; `pending`: the
-- requests without a connection; `coming`: the unread pieces of the latest connection; `replies`:
-- one for each connection; `capacity`: the number of bytes that they can still grow by;
-- `fault_schedule`: the calls, not counting `close`, and the failures of `listen` and `next`;
-- `line_faults`: of `read` and `write`.
pub record HeldDoor : Type 0 where
  pub requests : List (List (List ℕ))
  pub listener_state : ListenerState
  pub connections : Connections
  pub pending : List (List (List ℕ))
  pub coming : List (List ℕ)
  pub replies : List (List ℕ)
  pub capacity : ℕ
  pub fault_schedule : HeldCalls
  pub line_faults : ℕ

-- A door in memory before all calls, at which these requests in their pieces are pending. All
-- replies have at most `capacity` bytes; the calls with a number in `fails`, counted from 1, are to
-- fail.
abbrev pub held_door : List (List (List ℕ)) → ℕ → List ℕ → HeldDoor
held_door requests capacity fails = record {
  requests = requests;
  listener_state = not_listening;
  connections = no_connections;
  pending = requests;
  coming = [];
  replies = [];
  capacity = capacity;
  fault_schedule = schedule_of fails;
  line_faults = 0;
}

-- True if no piece is empty.
abbrev pub are_pieces : List (List ℕ) → Bool
are_pieces pieces = list_all (λ piece. nat_lt 0 (length piece)) pieces

-- The state of a door in memory, as the trait `Door` has it. It has all requests (`is_observable`),
-- and each `read` returns bytes of one piece only (`keeps_pieces`).
abbrev pub door_state : HeldDoor → DoorState
door_state contents = record {
  door_contents = record { is_observable = true; keeps_pieces = true; requests = contents.requests };
  listener_state = contents.listener_state;
  connections = contents.connections;
  faults = contents.fault_schedule.faults;
  line_faults = contents.line_faults;
}

-- The result of the next call of `next` of a door in memory: true if a request is pending, or a
-- failure if the call is to fail.
abbrev pub comes : HeldDoor → Result Bool Failed
comes contents = answer (is_to_fail contents.fault_schedule) (nat_lt 0 (length contents.pending))

-- True if a call of `next` with this result accepted a connection.
abbrev pub is_taken : Result Bool Failed → Bool
is_taken (Ok comes) = comes
is_taken (Err failed) = false

-- The door in memory after `listen` on `port`.
abbrev pub after_listen : HeldDoor → ℕ → HeldDoor
after_listen contents port = record contents {
  listener_state = listen_requested port (not (is_to_fail contents.fault_schedule));
  fault_schedule = after_call (is_to_fail contents.fault_schedule) contents.fault_schedule;
}

-- The door in memory after `next`: if the call returned true, the first pending request is unread,
-- and its reply is empty.
abbrev pub after_taking : HeldDoor → HeldDoor
after_taking contents = record contents {
  listener_state = after_next (comes contents) contents.listener_state;
  connections = connections_after_next (comes contents) contents.connections;
  pending = (if is_taken (comes contents) then drop 1 contents.pending else contents.pending);
  coming = (if is_taken (comes contents) then first_or_empty contents.pending else contents.coming);
  replies = (if is_taken (comes contents) then contents.replies ++ [] ∷ [] else contents.replies);
  fault_schedule = after_call (is_to_fail contents.fault_schedule) contents.fault_schedule;
}

-- The calls after a call of `read` or `write`: it is counted, but its failure isn't, since the
-- failures of these two have their own count.
abbrev pub after_line_call : HeldCalls → HeldCalls
after_line_call fault_schedule = record { fails = fault_schedule.fails; made = counted fault_schedule.made; faults = fault_schedule.faults }

-- The number of bytes that the next `read` copies of the first unread piece to a buffer of length
-- `buffer_length`: this length, or the length of the piece if that is smaller; 0 if the call is to
-- fail.
abbrev pub line_count : HeldDoor → ℕ → ℕ
line_count contents buffer_length = (if is_to_fail contents.fault_schedule then 0 else min buffer_length (length (first_or_empty contents.coming)))

-- The result of the next `read` of a door in memory with a buffer of length `buffer_length`: the
-- number of bytes copied, or a failure if the call is to fail.
abbrev pub line_read : HeldDoor → ℕ → Result ℕ Failed
line_read contents buffer_length = answer (is_to_fail contents.fault_schedule) (line_count contents buffer_length)

-- The door in memory after `read` with a buffer of length `buffer_length`; `filled` is the buffer
-- after the call.
abbrev pub after_line_read : HeldDoor → ℕ → List ℕ → HeldDoor
after_line_read contents buffer_length filled = record contents {
  connections = change_latest (connection_after_read (line_read contents buffer_length) filled) contents.connections;
  coming = (if is_to_fail contents.fault_schedule then contents.coming else left_after (line_count contents buffer_length) contents.coming);
  fault_schedule = after_line_call contents.fault_schedule;
  line_faults = faults_after (is_to_fail contents.fault_schedule) contents.line_faults;
}

-- True if the next `write` to a door in memory fails: the call is to fail, or the capacity is used
-- up.
abbrev pub is_shut : HeldDoor → Bool
is_shut contents = is_to_fail contents.fault_schedule || (contents.capacity == 0)

-- The number of bytes that the next `write` to a door in memory accepts of a piece of length
-- `piece`, limited by the capacity that is left; 0 if the call fails.
abbrev pub reply_count : HeldDoor → ℕ → ℕ
reply_count contents piece = (if is_shut contents then 0 else min piece contents.capacity)

-- The result of the next `write` of `piece` to a door in memory: the number of bytes accepted, or a
-- failure.
abbrev pub line_write : HeldDoor → List ℕ → Result ℕ Failed
line_write contents piece = answer (is_shut contents) (reply_count contents (length piece))

-- The door in memory after `write` of `piece`: the accepted bytes are appended to the latest reply.
abbrev pub after_line_write : HeldDoor → List ℕ → HeldDoor
after_line_write contents piece = record contents {
  connections = change_latest (connection_after_write (line_write contents piece) piece) contents.connections;
  replies = (if is_shut contents then contents.replies else append_to_last contents.replies (take (reply_count contents (length piece)) piece));
  capacity = contents.capacity - reply_count contents (length piece);
  fault_schedule = after_line_call contents.fault_schedule;
  line_faults = faults_after (is_shut contents) contents.line_faults;
}

-- The door in memory after `close`: no connection is open.
abbrev pub after_close : HeldDoor → HeldDoor
after_close contents = record contents { listener_state = closed contents.listener_state }

-- A clock in memory that always shows the same minute (since 1970-01-01T00:00Z). `fails`: the numbers
-- of the readings that are to fail, counted from 1; `readings`: the number of readings until now.
pub record HeldClock : Type 0 where
  pub minute : ℤ
  pub fails : List ℕ
  pub readings : ℕ

-- True if the reading of the clock in memory with this number, counted from 0, is to fail.
abbrev pub is_reading_to_fail : HeldClock → ℕ → Bool
is_reading_to_fail contents number = is_to_fail (calls_after contents.fails number)

-- The state of a clock in memory, as the trait `Clock` has it: it has the minute of each reading
-- (`is_observable`), which is always the same.
abbrev pub clock_state : HeldClock → ClockState
clock_state contents = record {
  is_observable = true;
  minute_at = λ number. contents.minute;
  fails_at = is_reading_to_fail contents;
  readings = held_readings (λ number. contents.minute) (is_reading_to_fail contents) contents.readings;
  faults = (calls_after contents.fails contents.readings).faults;
}
