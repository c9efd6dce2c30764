use Rattle.std.proofs.Common.{refl, rules}
use Rattle.named_files.specs.Readings.{zone_named}
use Rattle.named_files.proofs.OpenedLemmas.{reads_contents, reads_fault, reads_none}
use Rattle.named_files.proofs.ReadingLemmas.{zone_inside}
use Rattle.named_files.proofs.reading.read_zone_named.Goals as goal

pub returns-in_err-bytes-in-Named : goal.returns-in_err-bytes-in-Named
unfolding zone_named
returns-in_err-bytes-in-Named g c =
    rw c.in-Named.is (reads_fault c.from_residual.result c.from_residual.ensures.1 c.in_err-bytes-in-Named.ensures)

pub returns-in_ok-bytes-in-Named : goal.returns-in_ok-bytes-in-Named
unfolding zone_named
returns-in_ok-bytes-in-Named g c =
    let read = rw c.as_slice.ensures at c.read_zone.ensures in
    rw (c.in-Named.is, c.zone_from.ensures)
    (reads_contents _ (zone_inside _ c.read_zone.result read.exact read.zone)
    c.in_ok-bytes-in-Named.ensures)

pub returns-in-Utc : goal.returns-in-Utc
unfolding zone_named
returns-in-Utc g c = rw c.in-Utc.is (reads_none (λ folder. refl) tt)

pub returns-in-Fixed : goal.returns-in-Fixed
unfolding zone_named
returns-in-Fixed g c =
    let short = rw c.in-Fixed.is at c.requires in
    rw c.in-Fixed.is (reads_none (λ folder. search rules) (search rules))
