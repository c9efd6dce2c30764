use Rattle.tide_answer.proofs.PeakLemmas.{few_cells}
use Rattle.tide_answer.proofs.peak_check.peak_in.Goals as goal

pub returns-in-Ok-clause-count_bound : goal.returns-in-Ok-clause-count_bound
returns-in-Ok-clause-count_bound c =
    few_cells c.in-Ok.cert c.args.bytes.now
    (c.peak_certificates_have_one_text.ensures.only_text c.in-Ok.cert c.args.bytes.now c.in-Ok.ensures.reads).1 c.requires
