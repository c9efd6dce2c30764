-- The certificate of events that bytes are the text of, read line by line with parts (readers of
-- some lines); it is proved to follow the grammar (this project).
use Rattle.std.specs.Prelude.{ℕ, ℤ, List, Option, Result, is_some, codes}
use Rattle.curve_law.specs.declared.cell.Cell.{Cell}
use Rattle.curve_law.specs.declared.tracks.Tracks.{Tracks}
use Rattle.cert_text.specs.declared.certificate.Certificate.{Certificate}
use Rattle.cert_text.specs.declared.fault.CertFault.{CertFault}
use Rattle.cert_text.specs.declared.track_name.TrackName.{TrackName}
use Rattle.cert_text.specs.declared.track_name.TrackName.TheVariants.{Turn, Slack, Mark}
use Rattle.cert_text.specs.Lines.{heading_of, last_line}
pub use Rattle.cert_text.specs.ByLine.{is_out_of_memory}
use Rattle.cert_text.specs.ByLine.{Part, ◌>>=◌, returned, line_of, is_word, items_of, part_if, part_after, end_of_text, read_by}
use Rattle.cert_text.specs.Workings.LineReading.{version_of, station_of, moment_after, mark_of, cell_of}

-- `track_part track`: a part (a reader of some lines) for a track: it reads the heading and as many
-- cells of this track as follow, one on each line
abbrev pub track_part : TrackName → Part (List Cell)
track_part track = do
  heading ← line_of (is_word (heading_of track))
  items_of (cell_of track)

-- a part (a reader of some lines) for the end of a certificate: it reads the line `done`, and no
-- byte may follow
abbrev pub last_part : Part (Unit {0})
last_part = do
  last ← line_of (is_word last_line)
  end_of_text

-- `tracks_part mark`: a part (a reader of some lines) for all that follows the first five lines:
-- the tracks of turns and of slacks, of which the second may be absent, the track of the mark's
-- crossings exactly if `mark` isn't None, and the last line
abbrev pub tracks_part : Option ℤ → Part Tracks
tracks_part mark = do
  turn ← track_part Turn
  slack ← part_after (heading_of Slack) (track_part Slack)
  crossings ← part_if (is_some mark) (track_part Mark)
  last ← last_part
  returned (record { turn = turn; slack = slack; mark = crossings })

-- a part (a reader of some lines) for a whole certificate, up to the end of the text
abbrev pub certificate_part : Part Certificate
certificate_part = do
  version ← line_of version_of
  station ← line_of station_of
  begin ← line_of (moment_after (codes "begin "))
  end ← line_of (moment_after (codes "end "))
  mark ← line_of mark_of
  tracks ← tracks_part mark
  returned (record { version = version; station = station; begin = begin; end = end; mark = mark; tracks = tracks })

-- `certificate_of bytes`: the certificate with the text `bytes` or, if there is none, the fault
-- with the number, counted from 1, of the first line such that no certificate begins with the lines
-- up to and including it (one past the last line if the bytes end too early)
unfoldable pub certificate_of : List ℕ → Result Certificate CertFault
certificate_of bytes = read_by certificate_part bytes
