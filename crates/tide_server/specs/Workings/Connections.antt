-- The bytes that are read and sent over a connection.
use Rattle.std.specs.Prelude.{◌≡◌, ◌<◌, ◌⊎◌, ℕ, ℤ, Bool, true, false, List, [], ◌++◌, length, take, Option, Some, None, Ok}
use Rattle.tide_edge.specs.Clocks.{ClockState, clock_after}
use Rattle.tide_edge.specs.Doors.{Connection, DoorState, change_latest}
use Rattle.tide_edge.specs.Faults.{faults_after}
use Rattle.tide_server.specs.declared.served_data.ServedData.{ServedData}
use Rattle.tide_server.specs.Conversations.{IsReadEnough, IsServed, IsLeft, is_cut}
use Rattle.http_rows.specs.Responses.{fixed_of, unavailable_of}
use Rattle.tide_server.specs.Replies.{reply_of}
use Rattle.http_rows.specs.Rows.{ReplyRow}
use Rattle.tide_server.specs.Serving.{clock_failed}

-- the port `d` with `c` as its last connection; the count of failed reads and writes is one more if `c`
-- was cut short
abbrev pub with_latest : Connection → DoorState → DoorState
with_latest c d = record d {
  connections = record d.connections { latest = Some c };
  line_faults = faults_after (is_cut c) d.line_faults;
}

-- ---- Reading

-- a connection over which these bytes were read, `last` of them by the last read, and nothing was sent;
-- `failed` says whether a read failed, and `ended` whether the end was found
abbrev pub read_as : Bool → List ℕ → ℕ → Bool → Connection
read_as failed bytes last ended =
    record { came = bytes; last = last; is_ended = ended; sent = []; read_failed = failed; write_failed = false }

-- the bytes `request` were read over the open connection, and no further than needed; `failed` says
-- whether a read failed
pub record HasRead (failed : Bool) (request : List ℕ) (before after : DoorState) : Type 0 where
  pub count : ℕ
  pub is_ended : Bool
  pub door : after ≡ with_latest (read_as failed request count is_ended) before
  pub enough : IsReadEnough (read_as failed request count is_ended)

-- ---- Sending

-- the connection after these bytes were sent over it; the Bool says whether a write failed
abbrev pub sending : List ℕ → Bool → Connection → Connection
sending text false connection = record connection { sent = connection.sent ++ text }
sending text true connection = record connection { sent = connection.sent ++ text; write_failed = true }

-- the port after these bytes were sent over its open connection; `failed` says whether a write failed
abbrev pub sent : List ℕ → Bool → DoorState → DoorState
sent text failed d = record d {
  connections = change_latest (sending text failed) d.connections;
  line_faults = faults_after failed d.line_faults;
}

-- the whole text was sent over the open connection; or, if the Bool, whether a write failed, is true,
-- only its first bytes, fewer than all
abbrev pub SentBy : Bool → List ℕ → DoorState → DoorState → Type 0
SentBy false text before after = after ≡ sent text false before
SentBy true text before after = (count : ℕ) × (count < length text) × (after ≡ sent (take count text) true before)

-- `text` is the reply for a row of the table of HTTP statuses, or, unless this reply has a fixed text,
-- the reply 503, because memory ran out
abbrev pub Replies : ServedData → ℤ → ReplyRow → List ℕ → Type 0
Replies served_data minute row text =
    (text ≡ reply_of served_data.book served_data.table minute row) ⊎ ((fixed_of row ≡ None) × (text ≡ unavailable_of row))

-- The reply for a row of the table of HTTP statuses was sent, for the minute that the clock returned;
-- or, if the Bool, whether the clock failed, is true, nothing was sent.
abbrev pub RowSent : Bool → ServedData → ReplyRow → DoorState → DoorState → ClockState → ClockState → Type 0
RowSent false served_data row door door_after clock clock_now =
    (text : List ℕ) × (failed : Bool) × (minute : ℤ) × Replies served_data minute row text
    × SentBy failed text door door_after × (clock_now ≡ clock_after (Ok minute) clock)
RowSent true served_data row door door_after clock clock_now = (door_after ≡ door) × (clock_now ≡ clock_failed clock)

-- ---- The whole connection

-- the state of the clock after it returned a minute, or after it wasn't read (None)
abbrev pub clock_given : Option ℤ → ClockState → ClockState
clock_given None clock = clock
clock_given (Some minute) clock = clock_after (Ok minute) clock

-- the minute that the clock returned, if any, is `next`
abbrev pub IsNextMinute : Option ℤ → ℤ → Type 0
IsNextMinute None next = Unit {0}
IsNextMinute (Some minute) next = minute ≡ next

-- the connection was answered for a minute of the clock; or, if the Bool, whether the clock failed, is
-- true, nothing was sent over it
abbrev pub HasEnded : Bool → ServedData → Connection → ClockState → ClockState → Type 0
HasEnded false served_data c clock after =
    (minute : Option ℤ) × (after ≡ clock_given minute clock) × IsServed served_data c minute
HasEnded true served_data c clock after = (after ≡ clock_failed clock) × IsLeft c

-- The port is in the state that `ends` gives for a connection, which was answered, or, if `failed`, got
-- no reply because the clock failed.
pub record Went (failed : Bool) (served_data : ServedData) (ends : Connection → DoorState) (after : DoorState)
    (clock clock_now : ClockState)
    : Type 0 where
  pub connection : Connection
  pub door : after ≡ ends connection
  pub ended : HasEnded failed served_data connection clock clock_now
