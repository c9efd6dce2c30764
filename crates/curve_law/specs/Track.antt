-- A track: a value at each minute, with an event after each minute in which the value crosses 0;
-- and the list of the events of a span by looking at each of its minutes (this project).
use Rattle.std.specs.Prelude.{ℕ, zero, suc, ℤ, pos, ◌+ℤ◌, Bool, not, int_lt, if◌then◌else◌, List, [], ◌∷◌, map, filter}
use Rattle.curve_law.specs.declared.kind.Kind.{Kind}
use Rattle.curve_law.specs.declared.event.Event.{Event}

-- a track: `value`, which crosses 0 once for each event; `note`, the level (in millionths of the
-- station's unit) with which an event after each minute is listed; and two kinds of events:
-- `rising` where the value rises from 0 or below to above 0, and `falling` where it falls to 0 or
-- below
pub record Track : Type 0 where
  pub value : ℤ → ℤ
  pub note : ℤ → ℤ
  pub rising : Kind
  pub falling : Kind

-- `side_at t m`: true if the value at minute m is above 0, and false if it is 0 or below
abbrev pub side_at : Track → ℤ → Bool
side_at t m = int_lt (pos 0) (t.value m)

-- `has_event t m`: true if there is an event after minute m: of the values at m and at the next
-- minute, exactly one is above 0
abbrev pub has_event : Track → ℤ → Bool
has_event t m = if side_at t m then not (side_at t (m +ℤ pos 1)) else side_at t (m +ℤ pos 1)

-- the event after minute m, if there is one: of the falling kind if the value at m is above 0,
-- otherwise of the rising kind, with the level of minute m
abbrev pub event_at : Track → ℤ → Event
event_at t m =
    record { minute = m; kind = if side_at t m then t.falling else t.rising; level = t.note m }

-- the n minutes from minute `a` on, as a list: from `a` to `a + n - 1`
unfoldable pub minutes : ℤ → ℕ → List ℤ
minutes a zero = []
minutes a (suc n) = a ∷ minutes (a +ℤ pos 1) n

-- `plain_list t a n`: the events of the track t after the n minutes from minute `a` on, in order of
-- time, found by looking at the value at each of these minutes and at the next
unfoldable pub plain_list : Track → ℤ → ℕ → List Event
plain_list t a n = map (event_at t) (filter (has_event t) (minutes a n))
