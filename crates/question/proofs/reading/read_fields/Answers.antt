use Rattle.question.proofs.reading.read_fields.Goals as goal

pub fill-read-requires : goal.fill-read-requires
fill-read-requires c = c.bare_question-question.ensures c.args.origin
