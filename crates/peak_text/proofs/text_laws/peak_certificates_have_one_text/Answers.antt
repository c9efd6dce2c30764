use Rattle.peak_text.proofs.PeakGrammarLemmas.{spells-peak_lines_of, peak_lines_of-spelled}
use Rattle.peak_text.proofs.PeakReadingLemmas.{text_of-itself, text_is, one_reading}
use Rattle.peak_text.proofs.text_laws.peak_certificates_have_one_text.Goals as goal

pub returns : goal.returns
returns c = record {
  lines = spells-peak_lines_of;
  only_lines = peak_lines_of-spelled;
  text = text_of-itself;
  only_text = text_is;
  one_certificate = one_reading;
}
