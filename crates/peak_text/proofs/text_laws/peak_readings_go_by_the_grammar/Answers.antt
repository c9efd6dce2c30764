use Rattle.cert_text.proofs.ByLineLemmas.{one_fault_line}
use Rattle.peak_text.specs.PeakSpelling.{SpellsPeak}
use Rattle.peak_text.proofs.PeakReadingLemmas.{reads-peak_of, never_memory, peak_of-text}
use Rattle.peak_text.proofs.text_laws.peak_readings_go_by_the_grammar.Goals as goal

pub returns : goal.returns
returns c = record {
  reads = reads-peak_of;
  never_memory = never_memory;
  again = peak_of-text;
  one_line = one_fault_line SpellsPeak;
}
