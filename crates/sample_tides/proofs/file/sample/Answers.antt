use Rattle.std.proofs.Common.{rules, ◌<◌, ◌^◌}
use Rattle.sample_tides.proofs.LengthLemmas.{file_short}
use Rattle.sample_tides.proofs.file.sample.Goals as goal

pub returns-clause-length_bound : goal.returns-clause-length_bound
returns-clause-length_bound c =
    let fits : c.args.seed < 2 ^ 64 = search rules in
    rw (c.into_bytes.ensures, c.in_ok-append_file.ensures, c.new-writer.ensures) (file_short c.args.seed fits)
