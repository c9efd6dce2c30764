-- The invariant of a request's files.
use Rattle.std.specs.Prelude.{◌≤◌, length}
use Rattle.harmonics_book.specs.Books.{IsBook}
use Rattle.zone_time.specs.Zones.{IsZone}
use Rattle.named_files.specs.declared.materials.Materials.{Materials}
use Rattle.decimal_text.specs.declared.limits.TheConstants.{MOST_BYTES}

-- the harmonic constants and the zone that were read are valid, and the certificate's text has at most
-- 400,000,000 bytes
pub record AreMaterials (read : Materials) : Type 0 where
  pub book : IsBook read.book
  pub zone : IsZone read.zone
  pub certificate : length read.certificate ≤ MOST_BYTES
