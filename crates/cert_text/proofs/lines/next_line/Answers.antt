use Rattle.std.proofs.Common.{sym}
use Rattle.cert_text.proofs.TextLemmas.{no_line, some_line}
use Rattle.cert_text.proofs.lines.next_line.Goals as goal

pub returns-in-None-clause-exact : goal.returns-in-None-clause-exact
returns-in-None-clause-exact c = no_line c.args.bytes.now (sym c.in-None.ensures)

pub returns-in-Some-clause-exact : goal.returns-in-Some-clause-exact
returns-in-Some-clause-exact c =
    some_line c.args.bytes.now _ c.split_at.result.1.now _ c.in-Some.end
    (sym c.in-Some.ensures) c.split_at.ensures.front c.split_at.ensures.back c.split_at-in-Some.ensures.back
