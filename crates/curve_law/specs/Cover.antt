-- The cells of a span: each block of minutes is one quiet cell if the bound on the curve's change
-- in a minute excludes an event in it; otherwise it is halved, down to single minutes (this
-- project).
use Rattle.std.specs.Prelude.{ℕ, ℤ, pos, ◌+ℤ◌, ◌*ℤ◌, neg_ℤ, int_lt, int_le, nat_le, Bool, false, ◌&&◌, ◌||◌, if◌then◌else◌, Option, Some, None, List, map}
use Rattle.curve_law.specs.declared.cell.Cell.{Cell}
use Rattle.curve_law.specs.declared.cell.Cell.TheVariants.{Quiet, Still, Turn}
use Rattle.curve_law.specs.declared.quiet.TheConstants.{MOST_MINUTES}
use Rattle.curve_law.specs.Track.{Track, has_event, event_at}
use Rattle.curve_law.specs.CurveSpec.{CurveSpec}
use Rattle.curve_law.specs.Pieces.{Interval, pieces_of_block, pieces_of}

-- `keeps_side rate n v w`: true if the values v and w, at two minutes n minutes apart, are on one
-- side of 0, and a value that changes by at most `rate` in each minute can't cross 0 between them:
-- both are above 0 and v + w exceeds rate * n, or neither is and -(v + w) is at least rate * n;
-- false if the rate is None
unfoldable pub keeps_side : Option ℤ → ℕ → ℤ → ℤ → Bool
keeps_side None n v w = false
keeps_side (Some rate) n v w =
    (int_lt (pos 0) v && int_lt (pos 0) w && int_lt (rate *ℤ pos n) (v +ℤ w))
    || (int_le v (pos 0) && int_le w (pos 0) && int_le (rate *ℤ pos n) (neg_ℤ (v +ℤ w)))

-- `is_quiet c a n`: true if the n minutes from minute `a` on can be one quiet cell (a cell without
-- an event) of the curve c: n is from 2 to 1,024, the curve has a rate (a bound on its change in a
-- minute) for them, and the values at `a` and at `a + n` are on one side of 0, too far from it for
-- the value to cross 0 between them at this rate
unfoldable pub is_quiet : CurveSpec → ℤ → ℕ → Bool
is_quiet c a n =
    nat_le 2 n && nat_le n MOST_MINUTES && keeps_side (c.rate a n) n (c.track.value a) (c.track.value (a +ℤ pos n))

-- the cell of the single minute `a`: if the value crosses 0 after this minute, `Turn` with the kind
-- and the level of this event, otherwise `Still`
unfoldable pub unit_cell : Track → ℤ → Cell
unit_cell t a = if has_event t a then Turn (event_at t a).kind (t.note a) else Still

-- the cell of an interval of minutes: if it has one minute (or none), the cell of its first minute,
-- otherwise a quiet cell of all its minutes
abbrev pub cell_of : CurveSpec → Interval → Cell
cell_of c piece = if nat_le piece.minutes 1 then unit_cell c.track piece.begin else Quiet piece.minutes

-- `split c a n`: the cells of a block of n minutes from minute `a` on: one quiet cell if the block
-- can be one (`is_quiet`: no event is possible in it), the cell of the minute if n is 1, or else
-- the cells of the first half (n / 2 minutes, rounded down) and then those of the rest
unfoldable pub split : CurveSpec → ℤ → ℕ → List Cell
split c a n = map (cell_of c) (pieces_of_block (is_quiet c) a n)

-- `cover c a n`: the cells of the span of n minutes from minute `a` on: the span is cut from its
-- beginning into blocks of 1,024 minutes (the last may be shorter), and each block is halved again
-- and again, until each part can be one quiet cell (`is_quiet`: no event is possible in it) or is a
-- single minute
unfoldable pub cover : CurveSpec → ℤ → ℕ → List Cell
cover c a n = map (cell_of c) (pieces_of (is_quiet c) a n)
