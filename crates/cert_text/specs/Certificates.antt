-- Certificates of events that have a text: the ranges of their fields, and the cells (claims about
-- consecutive minutes) that each track may have (this project).
use Rattle.std.specs.Prelude.{◌≡◌, ◌≢◌, ℕ, ◌+◌, ◌≤◌, ℤ, unsigned_abs, ◌⊎◌, List, [], length, All, IfSome, is_some, unwrap_or}
use Rattle.std.specs.Str.{IsUtf8}
use Rattle.curve_law.specs.declared.cell.Cell.{Cell}
use Rattle.curve_law.specs.declared.cell.Cell.TheVariants as cells
use Rattle.curve_law.specs.declared.quiet.TheConstants.{MOST_MINUTES}
use Rattle.zone_time.specs.Moments.{IsMoment}
use Rattle.cert_text.specs.declared.certificate.Certificate.{Certificate}
use Rattle.cert_text.specs.declared.track_name.TrackName.{TrackName}
use Rattle.cert_text.specs.declared.track_name.TrackName.TheVariants.{Turn, Slack, Mark}
use Rattle.cert_text.specs.Tracks.{track_of}

-- `IsStationName name`: the bytes can be a station's name: UTF-8 of 1 to 400 bytes without ASCII
-- control bytes (below 32, or 127)
pub record IsStationName (name : List ℕ) : Type 0 where
  pub text : IsUtf8 name
  pub some : 1 ≤ length name
  pub short : length name ≤ 400
  pub printed : All (λ b. (32 ≤ b) × (b ≢ 127)) name

-- `IsMark mark`: the level can be a mark (a level at which crossings are listed): it is from
-- -10,000,000,000 to 10,000,000,000 millionths of the station's unit
abbrev pub IsMark : ℤ → Type 0
IsMark mark = unsigned_abs mark ≤ 10000000000

-- `IsLevel level`: the level of an event, in millionths of the station's unit, has at most 14
-- decimal digits
abbrev pub IsLevel : ℤ → Type 0
IsLevel level = unsigned_abs level ≤ 99999999999999

-- `IsCell cell`: the cell has a line in a certificate: quiet (no event) for 2 to 1,024 minutes,
-- still (one minute without an event), or one minute with an event at a level of at most 14 digits
abbrev pub IsCell : Cell → Type 0
IsCell (cells.Quiet n) = (2 ≤ n) × (n ≤ MOST_MINUTES)
IsCell cells.Still = Unit {0}
IsCell (cells.Turn kind level) = IsLevel level

-- `IsCellOf track cell`: the cell may be in this track: it is quiet for 2 to 1,024 minutes, still
-- (one minute without an event), or an event of a kind that the track lists, at a level of at most
-- 14 digits
abbrev pub IsCellOf : TrackName → Cell → Type 0
IsCellOf track (cells.Quiet n) = (2 ≤ n) × (n ≤ MOST_MINUTES)
IsCellOf track cells.Still = Unit {0}
IsCellOf track (cells.Turn kind level) = (track_of kind ≡ track) × IsLevel level

-- `IsCertificate c`: the certificate has a text: its version is 1 or 2; its name is UTF-8 of 1 to
-- 400 bytes without ASCII control bytes; its minutes are in the years 1 to 9999; its mark, if any,
-- is from -10,000,000,000 to 10,000,000,000 millionths of the unit; each cell is quiet for 2 to
-- 1,024 minutes, still, or an event of a kind that its track lists at a level of at most 14 digits;
-- and the track of the mark's crossings is present exactly if there is a mark
pub record IsCertificate (c : Certificate) : Type 0 where
  pub version : (c.version ≡ 1) ⊎ (c.version ≡ 2)
  pub station : IsStationName c.station
  pub begin : IsMoment c.begin
  pub end : IsMoment c.end
  pub mark : IfSome c.mark IsMark
  pub turn : All (IsCellOf Turn) c.tracks.turn
  pub slack : IfSome c.tracks.slack (All (IsCellOf Slack))
  pub crossings : IfSome c.tracks.mark (All (IsCellOf Mark))
  pub marked : is_some c.tracks.mark ≡ is_some c.mark

-- `HasUsualLevel cell`: if the cell is an event, its level is from -11,000 to 11,000 of the
-- station's units: the mean level of a station is at most 10,000 of them in size, and its waves
-- sum to at most 1,000
abbrev pub HasUsualLevel : Cell → Type 0
HasUsualLevel (cells.Quiet n) = Unit {0}
HasUsualLevel cells.Still = Unit {0}
HasUsualLevel (cells.Turn kind level) = unsigned_abs level ≤ 11000000000

-- `HasUsualLevels c`: each event of the certificate has a level from -11,000 to 11,000 of the
-- station's units
pub record HasUsualLevels (c : Certificate) : Type 0 where
  pub turn : All HasUsualLevel c.tracks.turn
  pub slack : IfSome c.tracks.slack (All HasUsualLevel)
  pub crossings : IfSome c.tracks.mark (All HasUsualLevel)

-- the number of cells in all tracks of a certificate together
abbrev pub cell_count : Certificate → ℕ
cell_count c = length c.tracks.turn + length (unwrap_or c.tracks.slack []) + length (unwrap_or c.tracks.mark [])
