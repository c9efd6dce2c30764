-- The tracks of a certificate of events, the kinds of events that each lists, and the words for
-- both in its text (this project).
use Rattle.std.specs.Prelude.{ℕ, List, codes}
use Rattle.curve_law.specs.declared.kind.Kind.{Kind}
use Rattle.curve_law.specs.declared.kind.Kind.TheVariants.{High, Low, FloodBegins, EbbBegins, MarkRising, MarkFalling}
use Rattle.cert_text.specs.declared.track_name.TrackName.{TrackName}
use Rattle.cert_text.specs.declared.track_name.TrackName.TheVariants.{Turn, Slack, Mark}

-- the word for a track in its heading: `turn` (highs and lows), `slack` (slack waters), or `mark`
-- (crossings of the mark)
unfoldable pub track_word : TrackName → List ℕ
track_word Turn = codes "turn"
track_word Slack = codes "slack"
track_word Mark = codes "mark"

-- the word for a kind of event in a cell's line, such as `low`
unfoldable pub kind_word : Kind → List ℕ
kind_word High = codes "high"
kind_word Low = codes "low"
kind_word FloodBegins = codes "flood"
kind_word EbbBegins = codes "ebb"
kind_word MarkRising = codes "rise"
kind_word MarkFalling = codes "fall"

-- the track that lists events of this kind: highs and lows are turns, floods and ebbs begin at
-- slack waters, and rises and falls cross the mark
abbrev pub track_of : Kind → TrackName
track_of High = Turn
track_of Low = Turn
track_of FloodBegins = Slack
track_of EbbBegins = Slack
track_of MarkRising = Mark
track_of MarkFalling = Mark
