-- The grammar of certificates of events: which lines spell a certificate, and at which line bytes
-- stop following the grammar (this project). A line is without its LF.
use Rattle.std.specs.Prelude.{◌≡◌, ℕ, ◌≤◌, ℤ, ◌⊎◌, List, [], ◌∷◌, ◌++◌, Option, Some, None, Result, codes, decimal}
use Rattle.std.specs.List.{AllZip}
use Rattle.std.specs.Fmt.{signed_decimal}
use Rattle.curve_law.specs.declared.cell.Cell.{Cell}
use Rattle.curve_law.specs.declared.cell.Cell.TheVariants as cells
use Rattle.curve_law.specs.declared.quiet.TheConstants.{MOST_MINUTES}
use Rattle.curve_law.specs.declared.tracks.Tracks.{Tracks}
use Rattle.zone_time.specs.Moments.{IsMoment, moment_text}
use Rattle.cert_text.specs.declared.certificate.Certificate.{Certificate}
use Rattle.cert_text.specs.declared.fault.CertFault.{CertFault}
use Rattle.cert_text.specs.declared.track_name.TrackName.{TrackName}
use Rattle.cert_text.specs.declared.track_name.TrackName.TheVariants.{Turn, Slack, Mark}
use Rattle.cert_text.specs.Tracks.{track_of, track_word, kind_word}
use Rattle.cert_text.specs.Certificates.{IsStationName, IsMark, IsLevel}
use Rattle.cert_text.specs.Texts.{IsTextBy, IsFaultBy, ReadsBy}

-- ---- the lines of a certificate

-- `SpellsVersion version line`: `line` is the first line of a certificate of this version, 1 or 2
abbrev pub SpellsVersion : ℕ → List ℕ → Type 0
SpellsVersion version line = ((version ≡ 1) × (line ≡ codes "tide certificate 1")) ⊎ ((version ≡ 2) × (line ≡ codes "tide certificate 2"))

-- `SpellsStation name line`: `line` is `station ` and then `name`, which is UTF-8 of 1 to 400 bytes
-- without ASCII control bytes
abbrev pub SpellsStation : List ℕ → List ℕ → Type 0
SpellsStation name line = IsStationName name × (line ≡ codes "station " ++ name)

-- `SpellsMoment word m line`: `line` is `word` and then the minute `m` as text, such as
-- `2000-01-10T00:00Z`; `m` counts from 1970-01-01T00:00Z and is in the years 1 to 9999
abbrev pub SpellsMoment : List ℕ → ℤ → List ℕ → Type 0
SpellsMoment word m line = IsMoment m × (line ≡ word ++ moment_text m)

-- `SpellsMark mark line`: `line` is `mark none` if there is no mark, and otherwise `mark ` and the
-- mark, a number of millionths of the station's unit from -10,000,000,000 to 10,000,000,000
abbrev pub SpellsMark : Option ℤ → List ℕ → Type 0
SpellsMark None line = line ≡ codes "mark none"
SpellsMark (Some mark) line = IsMark mark × (line ≡ codes "mark " ++ signed_decimal mark)

-- `SpellsCell track cell line`: `line` is the line of a cell that this track may have: `q ` and 2
-- to 1,024 quiet minutes, `s` for one still minute, or `t `, the kind of an event that the track
-- lists, and its level, of at most 14 digits, in millionths of the station's unit
abbrev pub SpellsCell : TrackName → Cell → List ℕ → Type 0
SpellsCell track (cells.Quiet n) line = (2 ≤ n) × (n ≤ MOST_MINUTES) × (line ≡ codes "q " ++ decimal n)
SpellsCell track cells.Still line = line ≡ codes "s"
SpellsCell track (cells.Turn kind level) line =
    (track_of kind ≡ track) × IsLevel level × (line ≡ codes "t " ++ kind_word kind ++ codes " " ++ signed_decimal level)

-- `SpellsTrack track cells lines`: `lines` are the heading of the track, such as `track turn`, and
-- then a line for each of its cells
abbrev pub SpellsTrack : TrackName → List Cell → List (List ℕ) → Type 0
SpellsTrack track cells [] = ⊥
SpellsTrack track cells (line ∷ lines) = (line ≡ codes "track " ++ track_word track) × AllZip (SpellsCell track) cells lines

-- `SpellsSlack cells lines`: `lines` are the lines of the track of slack waters, or none if the
-- track is absent
abbrev pub SpellsSlack : Option (List Cell) → List (List ℕ) → Type 0
SpellsSlack None lines = lines ≡ []
SpellsSlack (Some cells) lines = SpellsTrack Slack cells lines

-- `SpellsCrossings mark cells lines`: `lines` are the lines of the track of the mark's crossings.
-- The track must be present if there is a mark, and absent if there is none; then there are no
-- lines.
abbrev pub SpellsCrossings : Option ℤ → Option (List Cell) → List (List ℕ) → Type 0
SpellsCrossings None None lines = lines ≡ []
SpellsCrossings (Some mark) (Some cells) lines = SpellsTrack Mark cells lines
SpellsCrossings None (Some cells) lines = ⊥
SpellsCrossings (Some mark) None lines = ⊥

-- `SpellsTracks mark tracks lines`: `lines` are the lines of the tracks in the order turn, slack,
-- mark, and then `done`; the track of the mark's crossings is present exactly if there is a mark
pub record SpellsTracks (mark : Option ℤ) (tracks : Tracks) (lines : List (List ℕ)) : Type 0 where
  pub turn : List (List ℕ)
  pub slack : List (List ℕ)
  pub crossings : List (List ℕ)
  pub turn_spelled : SpellsTrack Turn tracks.turn turn
  pub slack_spelled : SpellsSlack tracks.slack slack
  pub crossings_spelled : SpellsCrossings mark tracks.mark crossings
  pub all : lines ≡ turn ++ (slack ++ (crossings ++ codes "done" ∷ []))

-- `Spells c lines`: the grammar of certificates: `lines`, each without its LF, are in this order
-- the lines of version, station, first minute, end and mark of `c`, those of its tracks, and
-- `done`, and each is the line of a value in its range
abbrev pub Spells : Certificate → List (List ℕ) → Type 0
Spells c (version ∷ station ∷ begin ∷ end ∷ mark ∷ tracks) =
    SpellsVersion c.version version × SpellsStation c.station station
    × SpellsMoment (codes "begin ") c.begin begin × SpellsMoment (codes "end ") c.end end
    × SpellsMark c.mark mark × SpellsTracks c.mark c.tracks tracks
Spells c (version ∷ station ∷ begin ∷ end ∷ []) = ⊥
Spells c (version ∷ station ∷ begin ∷ []) = ⊥
Spells c (version ∷ station ∷ []) = ⊥
Spells c (version ∷ []) = ⊥
Spells c [] = ⊥

-- ---- the text of a certificate, and the line at which bytes stop being one

-- `IsTextOf c bytes`: `bytes` are the text of the certificate `c`: its lines, each with its LF, and
-- nothing more
abbrev pub IsTextOf : Certificate → List ℕ → Type 0
IsTextOf c bytes = IsTextBy Spells c bytes

-- `IsFaultLine bytes line`: `line` is the least number such that `bytes` have fewer than `line`
-- lines ended by LF, or no certificate begins with the first `line` of them. If `bytes` are the
-- text of a certificate, `line` is one past the last line.
abbrev pub IsFaultLine : List ℕ → ℕ → Type 0
IsFaultLine bytes line = IsFaultBy Spells bytes line

-- `Reads bytes result`: the result of reading `bytes` is right: it is the certificate that they are
-- the text of; or they are the text of none, and it is the number of the first line such that no
-- certificate begins with the lines up to it; or it is that memory ran out
abbrev pub Reads : List ℕ → Result Certificate CertFault → Type 0
Reads bytes result = ReadsBy Spells bytes result
