use Rattle.std.proofs.Common.{Ok, Err}
use Rattle.tide_edge.proofs.ReadingLemmas.{own_once}
use Rattle.tide_edge.specs.Whole.{source_of, whole}
use Rattle.tide_edge.proofs.files.reading.read_all.Goals as goal

pub returns-in-Ok-clause-came : goal.returns-in-Ok-clause-came
returns-in-Ok-clause-came g c = rw c.from_vec.ensures c.in-Ok.ensures.came

pub returns-in-Ok-clause-whole : goal.returns-in-Ok-clause-whole
returns-in-Ok-clause-whole g c =
    own_once source_of (whole c.args.limit) c.args.limit c.args.name.now (g.F.Files.state c.args.files.now)
    (g.F.Files.state c.pass_file.new.files) (Ok c.from_vec.result) c.pass_file.ensures.read.file_contents
    (g.met.F.Files.lawful c.pass_file.new.files) (returns-in-Ok-clause-came g c)

pub returns-in-Err-clause-whole : goal.returns-in-Err-clause-whole
returns-in-Err-clause-whole g c =
    own_once source_of (whole c.args.limit) c.args.limit c.args.name.now (g.F.Files.state c.args.files.now)
    (g.F.Files.state c.pass_file.new.files) (Err c.in-Err.fault) c.pass_file.ensures.read.file_contents
    (g.met.F.Files.lawful c.pass_file.new.files) c.in-Err.ensures.came
