use Rattle.std.proofs.Common.{refl}
use Rattle.named_files.specs.RunFaults.{reading_failed}
use Rattle.named_files.proofs.ReadingLemmas.{failed_at}
use Rattle.tide_desk.specs.Outcomes.{sources}
use Rattle.tide_desk.proofs.AnsweringLemmas.{last_named, last_unopened, names_file, shown_alone, shown_named, shown_unasked, shown_unopened, went_by_words, went_nowhere}
use Rattle.std.proofs.lemmas.Result.{err_from_is_err_and}
use Rattle.tide_desk.proofs.SettledLemmas.{nameless_unread, unasked_unsettled}
use Rattle.tide_desk.proofs.answering.answer_words.Goals as goal

pub returns-in_err-question-clause-shown : goal.returns-in_err-question-clause-shown
returns-in_err-question-clause-shown g c = λ given agrees.
    shown_unopened _ _ _
    (g.F.Files.state c.args.files.now).open_log
    (g.F.Files.state c.args.files.now).open_log
    c.from_residual.result refl
    (λ firm folders. shown_unasked _ given c.args.words.now _ c.from_residual.result firm folders c.from_residual.ensures.1
    c.in_err-question.ensures.exact)

pub returns-in_err-question-clause-reads : goal.returns-in_err-question-clause-reads
returns-in_err-question-clause-reads g c =
    rw (failed_at c.from_residual.result _ c.from_residual.ensures.1)
    (went_nowhere _ _ (g.F.Files.state c.args.files.now) (g.K.Clock.state c.args.clock.now))

pub returns-in_err-question-clause-untouched : goal.returns-in_err-question-clause-untouched
returns-in_err-question-clause-untouched g c = (λ nameless. refl, λ unasked. refl)

pub returns-in_err-question-clause-last : goal.returns-in_err-question-clause-last
returns-in_err-question-clause-last g c =
    last_unopened _ _ _ _ (g.F.Files.state c.args.files.now) (g.K.Clock.state c.args.clock.now) c.from_residual.result refl
    (λ folders has asks settled. let p = err_from_is_err_and c.from_residual.result c.from_residual.ensures.1 in
    unasked_unsettled _ _ c.in_err-question.ensures.exact asks (rw (p.1, p.2) at settled))

pub returns-in-Some-clause-shown : goal.returns-in-Some-clause-shown
returns-in-Some-clause-shown g c = λ given agrees.
    shown_named _ given c.args.words.now c.in_ok-question.question c.in-Some.name
    (g.F.Files.state c.args.files.now).open_log
    (g.F.Files.state c.answer_over-answered.new.files).open_log
    c.answer_over-answered.result c.in_ok-question.ensures.exact c.in-Some.is (rw c.new-valid.ensures at c.answer_over-answered.ensures.shown given agrees)

pub returns-in-Some-clause-reads : goal.returns-in-Some-clause-reads
returns-in-Some-clause-reads g c =
    went_by_words (reading_failed c.answer_over-answered.result) _ c.in_ok-question.question c.in-Some.name
    (sources (g.F.Files.state c.args.files.now) (g.K.Clock.state c.args.clock.now))
    (sources (g.F.Files.state c.answer_over-answered.new.files) (g.K.Clock.state c.answer_over-answered.new.clock))
    c.in_ok-question.ensures.exact c.in-Some.is (rw c.new-valid.ensures at c.answer_over-answered.ensures.reads)

pub returns-in-Some-clause-untouched : goal.returns-in-Some-clause-untouched
returns-in-Some-clause-untouched g c = (
  λ nameless. absurd (nameless (names_file _ c.in_ok-question.question c.in-Some.name c.in_ok-question.ensures.exact c.in-Some.is)),
  rw c.in_ok-question.ensures.exact (rw c.new-valid.ensures at c.answer_over-answered.ensures.clock_unread),
)

pub returns-in-Some-clause-last : goal.returns-in-Some-clause-last
returns-in-Some-clause-last g c =
    last_named _ c.in_ok-question.question c.in-Some.name _
    (sources (g.F.Files.state c.args.files.now) (g.K.Clock.state c.args.clock.now))
    (sources (g.F.Files.state c.answer_over-answered.new.files) (g.K.Clock.state c.answer_over-answered.new.clock))
    c.answer_over-answered.result c.in_ok-question.ensures.exact c.in-Some.is
    (rw c.new-valid.ensures at c.answer_over-answered.ensures.last)

pub returns-in-None-clause-shown : goal.returns-in-None-clause-shown
returns-in-None-clause-shown g c = λ given agrees.
    shown_unopened _ _ _
    (g.F.Files.state c.args.files.now).open_log
    (g.F.Files.state c.args.files.now).open_log
    c.answer_without-answered.result refl
    (λ firm folders. shown_alone _ given c.args.words.now c.in_ok-question.question c.answer_without-answered.result firm folders
    c.in_ok-question.ensures.exact c.in-None.is
    (rw c.new-valid.ensures at c.answer_without-answered.ensures.exact))

pub returns-in-None-clause-reads : goal.returns-in-None-clause-reads
returns-in-None-clause-reads g c =
    rw c.answer_without-answered.ensures.read
    (went_nowhere _ _ (g.F.Files.state c.args.files.now) (g.K.Clock.state c.args.clock.now))

pub returns-in-None-clause-untouched : goal.returns-in-None-clause-untouched
returns-in-None-clause-untouched g c = (λ nameless. refl, λ unasked. refl)

pub returns-in-None-clause-last : goal.returns-in-None-clause-last
returns-in-None-clause-last g c =
    last_unopened _ _ _ _ (g.F.Files.state c.args.files.now) (g.K.Clock.state c.args.clock.now) c.answer_without-answered.result refl
    (λ folders has asks settled.
    nameless_unread folders _ c.in_ok-question.question c.in_ok-question.ensures.exact c.in-None.is has)
