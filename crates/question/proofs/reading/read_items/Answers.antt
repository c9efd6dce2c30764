use Rattle.question.proofs.AskedLemmas.{question_with-asked, question_with-named}
use Rattle.question.proofs.reading.read_items.Goals as goal

pub returns-clause-asked : goal.returns-clause-asked
returns-clause-asked c =
    question_with-asked c.args.origin c.args.command c.args.items.now c.in_ok-question.question c.in_ok-question.ensures

pub returns-clause-named : goal.returns-clause-named
returns-clause-named c =
    question_with-named c.args.origin c.args.command c.args.items.now c.in_ok-question.question c.in_ok-question.ensures
