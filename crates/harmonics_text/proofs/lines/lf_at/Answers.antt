use Rattle.harmonics_text.specs.Lines.{is_lf}
use Rattle.harmonics_text.proofs.Cutting.{first_is_position}
use Rattle.harmonics_text.proofs.lines.lf_at.Goals as goal

pub returns : goal.returns
returns c = first_is_position is_lf c.args.bytes.now c.memchr.result c.memchr.ensures
