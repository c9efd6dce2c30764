use Rattle.http_rows.specs.Workings.Views.{asking_seen}
use Rattle.tide_server.proofs.QueryLemmas.{question_at, read_names_no_file}
use Rattle.tide_server.proofs.http_reply.read_question.Goals as goal

pub returns-clause-exact : goal.returns-clause-exact
returns-clause-exact c =
    rw (question_at (asking_seen c.args.asking.now) c.command_of-command.result c.command_of-command.ensures)
    (rw c.in_ok-items.ensures at c.read_items-read.ensures.exact)

pub returns-clause-no_file : goal.returns-clause-no_file
returns-clause-no_file c =
    read_names_no_file c.command_of-command.result c.in_ok-items.items c.read_items-read.result c.read_items-read.ensures.exact
