-- The connections of a server: the bytes that were read over each, the reply to them, and the minute of
-- the reply (this project).
use Rattle.std.specs.Prelude.{
  ◌≡◌,
  ◌⊎◌,
  ◌≤◌,
  ◌+◌,
  ◌-◌,
  ◌&&◌,
  ◌||◌,
  not,
  ℕ,
  ℤ,
  Bool,
  true,
  false,
  IsTrue,
  if◌then◌else◌,
  List,
  [],
  ◌∷◌,
  ◌++◌,
  length,
  take,
  count_by,
  Option,
  Some,
  None,
  is_some,
  Ok,
}
use Rattle.tide_edge.specs.Clocks.{ClockState, clock_after, next_minute}
use Rattle.tide_edge.specs.Doors.{Connection, connections_of}
use Rattle.tide_edge.specs.FileStates.{as_list}
use Rattle.tide_edge.specs.declared.files.piece.TheConstants.{PIECE}
use Rattle.tide_server.specs.declared.served_data.ServedData.{ServedData}
use Rattle.tide_server.specs.Serving.{Answers, Exchange, IsEnough, RoseBy, clock_failed, has_byte}

-- ---- One connection

-- The connection was read until its bytes determined the reply, its end was found, or a read failed, and
-- no further: the bytes before the last read didn't determine the reply. The last read returned at most
-- 65,536 bytes.
pub record IsReadEnough (c : Connection) : Type 0 where
  pub waits : ¬ (IsEnough (take (length c.came - c.last) c.came))
  pub one : c.last ≤ PIECE
  pub until : (c.is_ended ≡ true) ⊎ ((c.read_failed ≡ true) ⊎ IsEnough c.came)

-- Bool: whether the clock is read for a connection: at least one byte was received over it, and no read
-- failed
abbrev pub reads_clock : Connection → Bool
reads_clock c = not c.read_failed && has_byte c.came

-- the bytes `sent` are a whole answer; or, if the Bool, whether a write failed, is true, they are an
-- answer without one or more of its last bytes
abbrev pub IsSent : Bool → (List ℕ → Type 0) → List ℕ → Type 0
IsSent false answers sent = answers sent
IsSent true answers sent = (rest : List ℕ) × ¬ (rest ≡ []) × answers (sent ++ rest)

-- Bool: whether a read or a write of a connection has failed
abbrev pub is_cut : Connection → Bool
is_cut c = c.read_failed || c.write_failed

-- nothing was sent over the connection, and no write failed
pub record IsUnanswered (c : Connection) : Type 0 where
  pub sent : c.sent ≡ []
  pub unfailed : c.write_failed ≡ false

-- the connection was answered at the minute that the clock returned for it; if the clock wasn't read
-- (None), nothing was sent
abbrev pub IsAnswered : ServedData → Connection → Option ℤ → Type 0
IsAnswered served_data c None = IsUnanswered c
IsAnswered served_data c (Some minute) = IsSent c.write_failed (Answers served_data minute c.came) c.sent

-- the connection was read until its reply was determined, its end was found or a read failed, and
-- it was answered at the minute that the clock returned; None if the clock wasn't read
pub record IsServed (served_data : ServedData) (c : Connection) (minute : Option ℤ) : Type 0 where
  pub read : IsReadEnough c
  pub asked : is_some minute ≡ reads_clock c
  pub answered : IsAnswered served_data c minute

-- nothing was sent over the connection, since the clock, which had to be read for it, failed
pub record IsLeft (c : Connection) : Type 0 where
  pub read : IsReadEnough c
  pub asked : reads_clock c ≡ true
  pub unanswered : IsUnanswered c

-- ---- One after the other

-- the connections were served in this order, and `minutes` are the minutes that the clock returned for
-- those for which it was read
unfoldable pub AreServed : ServedData → List Connection → List ℤ → Type 0
AreServed served_data [] minutes = minutes ≡ []
AreServed served_data (c ∷ more) minutes =
    (minute : Option ℤ) × (later : List ℤ) × (minutes ≡ as_list minute ++ later) × IsServed served_data c minute
    × AreServed served_data more later

-- if there is a connection, nothing was sent over it, since the clock failed for it
abbrev pub IsLast : Option Connection → Type 0
IsLast None = Unit {0}
IsLast (Some c) = IsLeft c

-- the state of the clock after it returned these minutes
unfoldable pub after_minutes : List ℤ → ClockState → ClockState
after_minutes [] clock = clock
after_minutes (minute ∷ more) clock = after_minutes more (clock_after (Ok minute) clock)

-- the list has the minutes that the clock returns next, in their order
unfoldable pub AreNext : ClockState → List ℤ → Type 0
AreNext clock [] = Unit {0}
AreNext clock (minute ∷ more) = (minute ≡ next_minute clock) × AreNext (clock_after (Ok minute) clock) more

-- if the clock is observable, these are the minutes that it returned next
abbrev pub ReturnsNext : ClockState → List ℤ → Type 0
ReturnsNext clock minutes = IsTrue clock.is_observable → AreNext clock minutes

-- The connections `over` were served in turn; then `left`, if any, was accepted, but the clock failed
-- for it and nothing was sent. The clock was read for nothing else. The count of failed reads and writes
-- grew by the number of connections that were cut short.
pub record HasServed (served_data : ServedData) (has_failed : Bool) (before after : Exchange) : Type 0 where
  pub over : List Connection
  pub left : Option Connection
  pub minutes : List ℤ
  pub connections : connections_of after.door.connections ≡ connections_of before.door.connections ++ over ++ as_list left
  pub counted : after.door.listener_state.accepted ≡ length over + length (as_list left)
  pub cut : RoseBy (count_by is_cut over) before.door.line_faults after.door.line_faults
  pub clock : after.clock
      ≡ (if is_some left then clock_failed (after_minutes minutes before.clock) else after_minutes minutes before.clock)
  pub served : AreServed served_data over minutes
  pub last : IsLast left
  pub ends : IsTrue (is_some left) → IsTrue has_failed
