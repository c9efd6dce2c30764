use Rattle.cert_text.specs.ByLine.{place_at}
use Rattle.cert_text.specs.Spelling.{Spells}
use Rattle.cert_text.specs.Readings.{certificate_part, certificate_of}
use Rattle.cert_text.proofs.ByLineLemmas.{returned_by, reads_given}
use Rattle.cert_text.proofs.ReadingLemmas.{reader, valid_given}
use Rattle.cert_text.proofs.reading.read_certificate.Goals as goal

pub returns-clause-exact : goal.returns-clause-exact
unfolding certificate_of
returns-clause-exact c =
    returned_by certificate_part (place_at 0 c.args.bytes.now) _ c.read_lines.result (rw c.new.ensures at c.read_lines.ensures)

pub returns-clause-reads : goal.returns-clause-reads
unfolding certificate_of
returns-clause-reads c = reads_given Spells certificate_part reader c.args.bytes.now c.read_lines.result (returns-clause-exact c)

pub returns-clause-valid : goal.returns-clause-valid
returns-clause-valid c = valid_given c.args.bytes.now c.read_lines.result (returns-clause-reads c)
