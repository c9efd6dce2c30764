use Rattle.cert_text.specs.Lines.{certificate_text}
use Rattle.cert_text.specs.Spelling.{Spells}
use Rattle.cert_text.specs.Readings.{certificate_part, certificate_of}
use Rattle.cert_text.proofs.ByLineLemmas.{reads_bytes, never_memory, text_reads, one_fault_line}
use Rattle.cert_text.proofs.ReadingLemmas.{reader, text_of-itself}
use Rattle.cert_text.proofs.laws.readings_go_by_the_grammar.Goals as goal

pub returns : goal.returns
unfolding certificate_of
returns c = record {
  reads = reads_bytes Spells certificate_part reader;
  never_memory = never_memory Spells certificate_part reader;
  again = λ cert h. text_reads Spells certificate_part reader cert (certificate_text cert) (text_of-itself cert h);
  one_line = one_fault_line Spells;
}
