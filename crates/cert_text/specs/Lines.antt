-- The text of a certificate of events: lines of words and whole numbers, each ended by LF (this
-- project). Here a line is without its LF.
use Rattle.std.specs.Prelude.{ℕ, ◌==◌, if◌then◌else◌, ℤ, List, [], ◌∷◌, ◌++◌, map, Option, Some, None, codes, decimal}
use Rattle.std.specs.Fmt.{signed_decimal}
use Rattle.curve_law.specs.declared.cell.Cell.{Cell}
use Rattle.curve_law.specs.declared.cell.Cell.TheVariants as cells
use Rattle.curve_law.specs.declared.kind.Kind.{Kind}
use Rattle.zone_time.specs.Moments.{moment_text}
use Rattle.cert_text.specs.declared.certificate.Certificate.{Certificate}
use Rattle.cert_text.specs.declared.track_name.TrackName.{TrackName}
use Rattle.cert_text.specs.declared.track_name.TrackName.TheVariants.{Turn, Slack, Mark}
use Rattle.cert_text.specs.Tracks.{track_word, kind_word}
pub use Rattle.cert_text.specs.Texts.{ended, joined}

-- ---- the lines

-- the first line of a certificate: `tide certificate 1` if the version is 1, and otherwise
-- `tide certificate 2`
unfoldable pub title_of : ℕ → List ℕ
title_of version = if version == 1 then codes "tide certificate 1" else codes "tide certificate 2"

-- the line with the station's name, such as `station Pier`, without its LF
unfoldable pub station_line_of : List ℕ → List ℕ
station_line_of name = codes "station " ++ name

-- the line with the first minute `m` of the span, counted from 1970-01-01T00:00Z, such as
-- `begin 2000-01-10T00:00Z`, without its LF
unfoldable pub begin_line_of : ℤ → List ℕ
begin_line_of m = codes "begin " ++ moment_text m

-- the line with the end `m` of the span (the minute after its last), counted from
-- 1970-01-01T00:00Z, such as `end 2000-01-11T00:00Z`, without its LF
unfoldable pub end_line_of : ℤ → List ℕ
end_line_of m = codes "end " ++ moment_text m

-- the line with the mark (the level at which crossings are listed), in millionths of the station's
-- unit, such as `mark 1500000`, or `mark none`, without its LF
unfoldable pub mark_line_of : Option ℤ → List ℕ
mark_line_of None = codes "mark none"
mark_line_of (Some mark) = codes "mark " ++ signed_decimal mark

-- the line before a track's cells, such as `track turn`, without its LF
unfoldable pub heading_of : TrackName → List ℕ
heading_of track = codes "track " ++ track_word track

-- the beginning of the line of an event of this kind, up to its level, such as `t low `
abbrev pub prefix_of : Kind → List ℕ
prefix_of kind = codes "t " ++ kind_word kind ++ codes " "

-- the line of a cell, without its LF: `q 1024` if it is quiet for 1,024 minutes, `s` for one minute
-- without an event, or `t low -1000000` for an event and its level, in millionths of the station's
-- unit
unfoldable pub cell_line_of : Cell → List ℕ
cell_line_of (cells.Quiet n) = codes "q " ++ decimal n
cell_line_of cells.Still = codes "s"
cell_line_of (cells.Turn kind level) = prefix_of kind ++ signed_decimal level

-- the last line of a certificate, `done`, without its LF
unfoldable pub last_line : List ℕ
last_line = codes "done"

-- ---- all of them

-- `track_lines_of track cells`: the lines of a track: its heading, and then a line for each cell
abbrev pub track_lines_of : TrackName → List Cell → List (List ℕ)
track_lines_of track cells = heading_of track ∷ map cell_line_of cells

-- `lines_if_there track cells`: the lines of a track that may be absent: its heading and a line for
-- each cell, or no line
abbrev pub lines_if_there : TrackName → Option (List Cell) → List (List ℕ)
lines_if_there track None = []
lines_if_there track (Some cells) = track_lines_of track cells

-- `station_lines_of name begin end`: three lines: of the station `name`, of the first minute of the
-- span and of its end; both count from 1970-01-01T00:00Z
abbrev pub station_lines_of : List ℕ → ℤ → ℤ → List (List ℕ)
station_lines_of name begin end = station_line_of name ∷ begin_line_of begin ∷ end_line_of end ∷ []

-- the first five lines of a certificate: its title, the station, the first minute of the span, the
-- end of the span, and the mark
abbrev pub head_lines_of : Certificate → List (List ℕ)
head_lines_of c =
    title_of c.version ∷ station_line_of c.station ∷ begin_line_of c.begin ∷ end_line_of c.end ∷ mark_line_of c.mark ∷ []

-- `body_lines_of turn slack crossings`: the lines after the first five, made of the cells of the
-- three tracks, of which the last two may be absent, and the last line
abbrev pub body_lines_of : List Cell → Option (List Cell) → Option (List Cell) → List (List ℕ)
body_lines_of turn slack crossings =
    track_lines_of Turn turn ++ (lines_if_there Slack slack ++ (lines_if_there Mark crossings ++ last_line ∷ []))

-- all lines of a certificate, without their LF
abbrev pub lines_of : Certificate → List (List ℕ)
lines_of c = head_lines_of c ++ body_lines_of c.tracks.turn c.tracks.slack c.tracks.mark

-- ---- the text

-- the text of a certificate: all its lines, each with its LF
unfoldable pub certificate_text : Certificate → List ℕ
certificate_text c = joined (lines_of c)
