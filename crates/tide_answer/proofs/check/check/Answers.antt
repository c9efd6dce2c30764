use Rattle.tide_answer.proofs.CheckLemmas.{few_read, checked_by}
use Rattle.tide_answer.proofs.check.check.Goals as goal

pub judge-requires-clause-count_bound : goal.judge-requires-clause-count_bound
judge-requires-clause-count_bound c =
    few_read c.in_ok-cert.cert c.args.bytes.now
    (c.certificates_have_one_text.ensures.only_text c.in_ok-cert.cert c.args.bytes.now c.in_ok-cert.ensures.reads).1 c.requires.count_bound

pub returns : goal.returns
returns c =
    rw (checked_by c.args.stations.now.book c.args.stations.now.table c.args.bytes.now c.args.zone.now
    c.in_ok-cert.cert c.in_ok-cert.ensures.exact)
    c.judge.ensures
