use lib.Utf8.{encode}
use Rattle.std.proofs.Common.{refl}
use Rattle.harmonics_text.specs.Lines.{trimmed}
use Rattle.harmonics_text.specs.Rules.{name_of, station_name_of}
use Rattle.harmonics_text.proofs.laws.worked_lines.Goals as goal

pub returns-clause-latin : goal.returns-clause-latin
unfolding station_name_of name_of trimmed encode
returns-clause-latin c = refl
