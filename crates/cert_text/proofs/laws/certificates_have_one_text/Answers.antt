use Rattle.cert_text.specs.Spelling.{Spells}
use Rattle.cert_text.specs.Readings.{certificate_part}
use Rattle.cert_text.proofs.ByLineLemmas.{one_reading}
use Rattle.cert_text.proofs.GrammarLemmas.{spells-lines_of, lines_of-spelled}
use Rattle.cert_text.proofs.ReadingLemmas.{reader, text_of-itself, text_is}
use Rattle.cert_text.proofs.laws.certificates_have_one_text.Goals as goal

pub returns : goal.returns
returns c = record {
  lines = spells-lines_of;
  only_lines = lines_of-spelled;
  text = text_of-itself;
  only_text = text_is;
  one_certificate = one_reading Spells certificate_part reader;
}
