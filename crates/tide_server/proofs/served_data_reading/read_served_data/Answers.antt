use Rattle.tide_server.proofs.OpeningLemmas.{meets_unnamed}
use Rattle.tide_server.proofs.ServedDataLemmas.{shown_named, shown_nameless, shown_unasked}
use Rattle.tide_server.proofs.served_data_reading.read_served_data.Goals as goal

pub returns-in_err-question-clause-shown : goal.returns-in_err-question-clause-shown
returns-in_err-question-clause-shown g c =
    shown_unasked c.args.words.now
    (g.F.Files.state c.args.files.now).open_log
    _ c.from_residual.result c.from_residual.ensures.1 c.in_err-question.ensures

pub returns-in-Some-clause-shown : goal.returns-in-Some-clause-shown
returns-in-Some-clause-shown g c =
    shown_named c.args.words.now c.in_ok-question.question c.in-Some.name
    (g.F.Files.state c.args.files.now).open_log
    (g.F.Files.state c.read_named-read.new.files).open_log
    c.read_named-read.result c.in_ok-question.ensures c.in-Some.is c.read_named-read.ensures.shown

pub returns-in-None-clause-shown : goal.returns-in-None-clause-shown
returns-in-None-clause-shown g c =
    shown_nameless c.args.words.now c.in_ok-question.question
    (g.F.Files.state c.args.files.now).open_log
    _ c.in_ok-question.ensures (λ firm folders. meets_unnamed folders c.in_ok-question.question c.in-None.is)
