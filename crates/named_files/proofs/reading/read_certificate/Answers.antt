use Rattle.std.proofs.Common.{arith, refl}
use Rattle.named_files.specs.Readings.{certificate_named}
use Rattle.named_files.proofs.OpenedLemmas.{reads_none}
use Rattle.named_files.proofs.reading.read_certificate.Goals as goal

pub returns-in-Some : goal.returns-in-Some
unfolding certificate_named
returns-in-Some g c = rw c.in-Some.is c.read_file.ensures

pub returns-in-None : goal.returns-in-None
unfolding certificate_named
returns-in-None g c = rw (c.in-None.is, c.from_vec.ensures, c.new.ensures.items) (reads_none (λ folder. refl) (omega arith))
