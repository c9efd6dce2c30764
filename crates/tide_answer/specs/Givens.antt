-- The ranges of an answer's inputs other than the request and the harmonics file (this project).
use Rattle.std.specs.Prelude.{◌≤◌, negsuc, pos, ◌≤ℤ◌, length}
use Rattle.tide_answer.specs.declared.inputs.Given.{Given}
use Rattle.tide_answer.specs.declared.inputs.GivenView.{GivenView}
use Rattle.zone_time.specs.Zones.{IsZone}
use Rattle.decimal_text.specs.declared.limits.TheConstants.{MOST_BYTES}

-- the inputs of an answer are in their ranges: a zone that has a local time at each minute, a
-- certificate of at most 400,000,000 bytes, and a present minute from -10,000,000,000 to 10,000,000,000
-- since 1970-01-01T00:00Z
pub record IsGiven (inputs : Given) : Type 0 where
  pub zone : IsZone inputs.zone
  pub certificate : length inputs.certificate ≤ MOST_BYTES
  pub earliest : negsuc 9999999999 ≤ℤ inputs.now
  pub latest : inputs.now ≤ℤ pos 10000000000

-- the inputs of an answer (zone, certificate, present minute) from their borrowed form
abbrev pub given_seen : GivenView → Given
given_seen view = record { zone = view.zone.now; certificate = view.certificate.now; now = view.now }
