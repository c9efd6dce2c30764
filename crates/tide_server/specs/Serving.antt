-- The connections that were served, and their replies (this project).
use Rattle.std.specs.Prelude.{
  ◌≡◌,
  ◌⊎◌,
  ◌≤◌,
  ◌+◌,
  ◌-◌,
  ◌^◌,
  ℕ,
  ℤ,
  Bool,
  true,
  false,
  IsTrue,
  if◌then◌else◌,
  List,
  [],
  ◌∷◌,
  ◌++◌,
  length,
  map,
  take,
  All,
  count_by,
  None,
  Ok,
}
use Rattle.std.specs.List.{concat}
use Rattle.tide_edge.specs.Clocks.{ClockState, clock_after, next_minute}
use Rattle.tide_edge.specs.Doors.{ListenerState, DoorState, connections_of, first_or_empty, left_after, replies_of, unread_of, waiting_of}
use Rattle.tide_edge.specs.Faults.{counted}
use Rattle.tide_server.specs.declared.served_data.ServedData.{ServedData}
use Rattle.tide_server.specs.Replies.{IsReply}
use Rattle.http_rows.specs.Responses.{fixed_of, unavailable_of}
use Rattle.http_rows.specs.Rows.{ReplyRow, IsRow, is_settled}

-- ---- One connection

-- `reply` is the HTTP reply with status 503, which replaces the reply to `request` if memory runs out; a
-- reply with a fixed text is never replaced
abbrev pub IsUnavailable : List ℕ → List ℕ → Type 0
IsUnavailable request reply = (row : ReplyRow) × IsRow request row × (fixed_of row ≡ None) × (reply ≡ unavailable_of row)

-- `reply` answers the bytes that were read over a connection: it is empty if there are no bytes, and
-- otherwise it is the reply to them, or the reply 503 because memory ran out
abbrev pub Answers : ServedData → ℤ → List ℕ → List ℕ → Type 0
Answers served_data minute [] reply = reply ≡ []
Answers served_data minute (b ∷ bytes) reply =
    IsReply served_data.book served_data.table minute (b ∷ bytes) reply ⊎ IsUnavailable (b ∷ bytes) reply

-- `reply` answers `bytes`; if the Bool, whether a read or write of the connection failed, is true, it
-- may also be empty or only the beginning of an answer
abbrev pub AnswersUnlessCut : Bool → (List ℕ → List ℕ → Type 0) → List ℕ → List ℕ → Type 0
AnswersUnlessCut false answers bytes reply = answers bytes reply
AnswersUnlessCut true answers bytes reply =
    (reply ≡ []) ⊎ ((whole : List ℕ) × answers bytes whole × (count : ℕ) × (reply ≡ take count whole))

-- Bool: whether a request has at least one byte
abbrev pub has_byte : List ℕ → Bool
has_byte [] = false
has_byte (b ∷ bytes) = true

-- `is_asked`, whether the clock was read for a connection, is true exactly if the connection has a byte;
-- if the first Bool, whether a read or write failed, is true, `is_asked` may be either
abbrev pub AsksUnlessCut : Bool → List ℕ → Bool → Type 0
AsksUnlessCut false bytes is_asked = is_asked ≡ has_byte bytes
AsksUnlessCut true bytes is_asked = Unit {0}

-- a connection: the pieces of the request that the client sent, the reply, whether a read or write
-- failed, and whether the clock was read for it
pub record Conversation : Type 0 where
  pub request : List (List ℕ)
  pub reply : List ℕ
  pub is_cut : Bool
  pub is_asked : Bool

-- a connection was answered at this minute, and the clock was read for it if needed
pub record IsHeld (served_data : ServedData) (minute : ℤ) (c : Conversation) : Type 0 where
  pub answered : AnswersUnlessCut c.is_cut (Answers served_data minute) (concat c.request) c.reply
  pub asked : AsksUnlessCut c.is_cut (concat c.request) c.is_asked

-- ---- One after the other

-- the state of the clock after a connection; the Bool says whether it was read for the connection
abbrev pub clock_with : Bool → ClockState → ClockState
clock_with is_asked clock = if is_asked then clock_after (Ok (next_minute clock)) clock else clock

-- the state of the clock after a reading that failed
abbrev pub clock_failed : ClockState → ClockState
clock_failed clock = record clock { readings = clock.readings ++ None ∷ []; faults = counted clock.faults }

-- the state of the clock after these connections, for each of which it was read once or not at all
unfoldable pub clock_after_all : List Conversation → ClockState → ClockState
clock_after_all [] clock = clock
clock_after_all (c ∷ more) clock = clock_after_all more (clock_with c.is_asked clock)

-- each of the connections was answered, in this order, at the minute that the clock returned next
unfoldable pub AreHeld : ServedData → ClockState → List Conversation → Type 0
AreHeld served_data clock [] = Unit {0}
AreHeld served_data clock (c ∷ more) = IsHeld served_data (next_minute clock) c × AreHeld served_data (clock_with c.is_asked clock) more

-- ---- The bytes that are read

-- the bytes `request`, read so far, determine the request's row of the table of HTTP statuses, that is,
-- how the server replies
abbrev pub IsEnough : List ℕ → Type 0
IsEnough request = (row : ReplyRow) × IsRow request row × IsTrue (is_settled row)

-- `left` are the unread pieces of a request, which was read no further than its reply needs: the bytes
-- before the last read didn't determine the reply, and the last read returned bytes of only one piece
pub record IsReadAsNeeded (request left : List (List ℕ)) : Type 0 where
  pub before : ℕ
  pub all : ℕ
  pub unread_bytes : left ≡ left_after all request
  pub waits : ¬ (IsEnough (take before (concat request)))
  pub one : all ≤ before + length (first_or_empty (left_after before request))

-- the last of the requests was read no further than its reply needs, with `left` as its unread pieces;
-- nothing is said of earlier ones
abbrev pub IsLastReadAsNeeded : List (List (List ℕ)) → List (List ℕ) → Type 0
IsLastReadAsNeeded [] left = Unit {0}
IsLastReadAsNeeded (request ∷ []) left = IsReadAsNeeded request left
IsLastReadAsNeeded (request ∷ next ∷ more) left = IsLastReadAsNeeded (next ∷ more) left

-- ---- All of them

-- the states of a port and a clock
pub record Exchange : Type 0 where
  pub door : DoorState
  pub clock : ClockState

-- the states of a port and a clock as one record
abbrev pub exchange : DoorState → ClockState → Exchange
exchange door clock = record { door = door; clock = clock }

-- a count grew from `before` to `now` by `more`, or `now` is the greatest `u64`, at which the count
-- stops
abbrev pub RoseBy : ℕ → ℕ → ℕ → Type 0
RoseBy more before now = (now ≡ before + more) ⊎ (now ≡ 2 ^ 64 - 1)

-- there are no more connections for the port to accept, or it has accepted 2^64 - 1
abbrev pub IsOver : ListenerState → Type 0
IsOver door = (door.is_over ≡ true) ⊎ (door.accepted ≡ 2 ^ 64 - 1)

-- `left`, the connections without a reply, is empty; if the Bool, whether the port or the clock failed,
-- is true, it may have one
abbrev pub MayLeave : Bool → List (List (List ℕ)) → Type 0
MayLeave false left = left ≡ []
MayLeave true left = length left ≤ 1

-- the state of the clock at the end: it has failed if the list of connections without a reply isn't
-- empty
abbrev pub clock_at_end : List (List (List ℕ)) → ClockState → ClockState
clock_at_end [] clock = clock
clock_at_end (request ∷ more) clock = clock_failed clock

-- The connections `served` were accepted in the order of the pending requests, and each was answered;
-- then `left`, at most one connection, which has a byte and for which the clock failed, got no reply.
-- The clock was read for nothing else. The count of failed reads and writes grew by the number of
-- connections cut short. If a read of the port returns bytes of only one piece that a client sent, the
-- last connection was read no further than its reply needs.
pub record Served (served_data : ServedData) (has_failed : Bool) (before after : Exchange) : Type 0 where
  pub served : List Conversation
  pub left : List (List (List ℕ))
  pub requests : waiting_of before.door ≡ map (λ c. c.request) served ++ left ++ waiting_of after.door
  pub replies : replies_of after.door ≡ replies_of before.door ++ map (λ c. c.reply) served ++ map (λ request. []) left
  pub counted : after.door.listener_state.accepted ≡ length served + length left
  pub held : AreHeld served_data before.clock served
  pub read : IsTrue before.door.door_contents.keeps_pieces
      → IsLastReadAsNeeded (map (λ c. c.request) served ++ left)
      (unread_of after.door.door_contents.requests (connections_of after.door.connections))
  pub cut : RoseBy (count_by (λ c. c.is_cut) served) before.door.line_faults after.door.line_faults
  pub clock : after.clock ≡ clock_at_end left (clock_after_all served before.clock)
  pub last : MayLeave has_failed left
  pub bytes : All (λ request. ¬ (concat request ≡ [])) left
