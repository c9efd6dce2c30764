-- The properties of a question that was read (this project).
use Rattle.std.specs.Prelude.{◌≤◌, pos, ◌≤ℤ◌, unsigned_abs, IsSome}
use Rattle.std.specs.Option.{ForSome}
use Rattle.zone_time.specs.Moments.{IsMoment}
use Rattle.question.specs.declared.command.Command.{Command}
use Rattle.question.specs.declared.command.Command.TheVariants.{
  Predict,
  Certify,
  Check,
  Heights,
  Calendar,
  Clock,
  Stations,
  Sample,
  Trial,
  Serve,
  Report,
  Highest,
  Peak,
  PeakCheck,
  About,
}
use Rattle.question.specs.declared.origin.Origin.{Origin}
use Rattle.question.specs.declared.origin.Origin.TheVariants.{Line, Query}
use Rattle.question.specs.declared.question.Question.{Question}
use Rattle.question.specs.declared.question.ZoneWord.{ZoneWord}
use Rattle.question.specs.declared.question.ZoneWord.TheVariants.{Utc, Fixed, Named}

-- `IsZoneWord zone`: if the zone is a fixed offset from universal time, the offset is at most 959
-- minutes (15 hours and 59 minutes) either way.
abbrev pub IsZoneWord : ZoneWord → Type 0
IsZoneWord Utc = Unit {0}
IsZoneWord (Fixed minutes) = unsigned_abs minutes ≤ 959
IsZoneWord (Named name) = Unit {0}

-- The question has a station, the first minute of a span, and the end of the span.
pub record HasSpan (q : Question) : Type 0 where
  pub station : IsSome q.station
  pub begin : IsSome q.begin
  pub end : IsSome q.end

-- The question has the values that the command requires, other than the names of files, which only
-- a command line gives.
abbrev pub HasNeeded : Command → Question → Type 0
HasNeeded Predict q = HasSpan q
HasNeeded Certify q = HasSpan q
HasNeeded Check q = Unit {0}
HasNeeded Heights q = HasSpan q
HasNeeded Calendar q = HasSpan q
HasNeeded Clock q = IsSome q.station
HasNeeded Stations q = Unit {0}
HasNeeded Sample q = IsSome q.seed
HasNeeded Trial q = IsSome q.seed
HasNeeded Serve q = Unit {0}
HasNeeded Report q = HasSpan q × IsSome q.sheets
HasNeeded Highest q = HasSpan q
HasNeeded Peak q = HasSpan q
HasNeeded PeakCheck q = Unit {0}
HasNeeded About q = IsSome q.station

-- The question has the names of the files that the command requires in a command line.
abbrev pub HasFiles : Command → Question → Type 0
HasFiles Check q = IsSome q.file × IsSome q.certificate
HasFiles PeakCheck q = IsSome q.file × IsSome q.certificate
HasFiles Sample q = Unit {0}
HasFiles Trial q = Unit {0}
HasFiles _ q = IsSome q.file

-- If the question is from a command line, it has the names of the files that its command requires.
-- A question from a web query can't name files, and always meets this.
abbrev pub NamesFiles : Origin → Question → Type 0
NamesFiles Line q = HasFiles q.command q
NamesFiles Query q = Unit {0}

-- Each of these values that the question has is in the range of its key: the first minute and the
-- end of the span (minutes since 1970-01-01T00:00Z) in the years from 1 to 9999, the mark from
-- -10,000,000,000 to 10,000,000,000 millionths of the station's unit, and the step from 1 to 44,640
-- minutes.
pub record AreInRange (q : Question) : Type 0 where
  pub begin : ForSome q.begin IsMoment
  pub end : ForSome q.end IsMoment
  pub mark : ForSome q.mark (λ millionths. unsigned_abs millionths ≤ 10000000000)
  pub step_first : pos 1 ≤ℤ q.step
  pub step_last : q.step ≤ℤ pos 44640

-- The question has all values that its command requires, other than the names of files. Its values
-- are in the ranges of their keys: span, mark and step (`AreInRange`), a fixed offset of the zone
-- of at most 959 minutes either way, and a port from 1 to 65,535.
pub record IsAsked (q : Question) : Type 0 where
  pub whole : HasNeeded q.command q
  pub ranges : AreInRange q
  pub zone : IsZoneWord q.zone
  pub port_first : 1 ≤ q.port
  pub port_last : q.port ≤ 65535
