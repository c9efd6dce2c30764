use Rattle.std.proofs.Common.{◌≡◌, true, false, Err, refl, rules, w64, FitsSigned}
use Rattle.named_files.specs.declared.run_fault.RunFault.TheVariants.{Unread}
use Rattle.std.specs.Bool.{IsTrue}
use Rattle.std.specs.Prelude.{pos}
use Rattle.std.proofs.lemmas.Int.{to_z-of_z}
use Rattle.named_files.specs.Readings.{files_allowed}
use Rattle.named_files.proofs.ReadingLemmas.{failed_at, meets_inside}
use Rattle.tide_desk.specs.Answers.{reads_clock}
use Rattle.tide_desk.specs.Outcomes.{sources}
use Rattle.tide_desk.proofs.AnsweringLemmas.{last_read, last_unread, shown_read, shown_unread, went_asking, went_reading}
use Rattle.tide_desk.proofs.ReplyLemmas.{refused_meets}
use Rattle.tide_desk.proofs.SettledLemmas.{never}
use Rattle.tide_desk.proofs.answering.answer_over.Goals as goal

pub returns-in_err-read-clause-shown : goal.returns-in_err-read-clause-shown
returns-in_err-read-clause-shown g c = λ given agrees.
    shown_unread _ given c.args.question.now c.args.name.now
    (g.F.Files.state c.args.files.now).open_log
    (g.F.Files.state c.read_files.new.files).open_log
    _ c.from_residual.result c.from_residual.ensures.1 c.in_err-read.ensures.opened

pub returns-in_err-read-clause-reads : goal.returns-in_err-read-clause-reads
returns-in_err-read-clause-reads g c =
    rw (failed_at c.from_residual.result _ c.from_residual.ensures.1)
    (went_reading (IsTrue (reads_clock c.args.question.now.command)) (files_allowed c.args.question.now) _
    (g.F.Files.state c.args.files.now) (g.F.Files.state c.read_files.new.files)
    (g.K.Clock.state c.args.clock.now) c.in_err-read.ensures.read)

pub returns-in_err-read-clause-last : goal.returns-in_err-read-clause-last
returns-in_err-read-clause-last g c =
    last_unread c.args.question.now c.args.name.now _ _ (g.F.Files.state c.args.files.now) (g.F.Files.state c.read_files.new.files)
    (g.K.Clock.state c.args.clock.now) _ c.from_residual.result refl c.from_residual.ensures.1 c.in_err-read.ensures.opened

pub returns-in-Err-clause-shown : goal.returns-in-Err-clause-shown
returns-in-Err-clause-shown g c = λ given agrees.
    let missing = rw c.in-Err.ensures.unread at c.in-Err.ensures.given given agrees in
    rw c.in-Err.ensures.unread
    (shown_read _ given c.args.question.now c.args.name.now
    (g.F.Files.state c.args.files.now).open_log
    (g.F.Files.state c.read_files.new.files).open_log
    c.in_ok-read.read (Err Unread) refl (λ firm. rw missing (λ f. refl)) c.in_ok-read.ensures.opened)

pub returns-in-Err-clause-reads : goal.returns-in-Err-clause-reads
returns-in-Err-clause-reads g c =
    rw c.in-Err.ensures.unread
    (went_asking (reads_clock c.args.question.now.command) true (pos 0) (files_allowed c.args.question.now)
    (g.F.Files.state c.args.files.now) (g.F.Files.state c.read_files.new.files)
    (g.K.Clock.state c.args.clock.now) (g.K.Clock.state c.read_minute.new.clock)
    (λ is. c.in-Err.ensures.asked) c.in_ok-read.ensures.read c.in-Err.ensures.time)

pub returns-in-Err-clause-last : goal.returns-in-Err-clause-last
returns-in-Err-clause-last g c =
    rw c.in-Err.ensures.unread
    (last_read c.args.question.now c.args.name.now _ _
    (sources (g.F.Files.state c.args.files.now) (g.K.Clock.state c.args.clock.now))
    (sources (g.F.Files.state c.read_files.new.files) (g.K.Clock.state c.read_minute.new.clock))
    c.in_ok-read.read (Err Unread) c.in_ok-read.ensures.opened
    (λ asks settled. never settled))

pub returns-in-Ok-clause-shown : goal.returns-in-Ok-clause-shown
returns-in-Ok-clause-shown g c = λ given agrees.
    let fits : FitsSigned w64 c.in-Ok.now = search rules in
    let exact = refused_meets _ _ _ _ (simp to_z-of_z at c.body_with-replied.ensures.exact) c.refused_over.ensures.exact in
    shown_read _ given c.args.question.now c.args.name.now
    (g.F.Files.state c.args.files.now).open_log
    (g.F.Files.state c.read_files.new.files).open_log
    c.in_ok-read.read c.refused_over.result c.refused_over.ensures.of_no_file
    (λ firm. rw (c.in-Ok.ensures.given given agrees) (meets_inside (IsTrue firm) _ c.refused_over.result exact)) c.in_ok-read.ensures.opened

pub returns-in-Ok-clause-reads : goal.returns-in-Ok-clause-reads
returns-in-Ok-clause-reads g c =
    rw c.refused_over.ensures.read
    (went_asking (reads_clock c.args.question.now.command) false c.in-Ok.now (files_allowed c.args.question.now)
    (g.F.Files.state c.args.files.now) (g.F.Files.state c.read_files.new.files)
    (g.K.Clock.state c.args.clock.now) (g.K.Clock.state c.read_minute.new.clock)
    (λ is. let untrue : false ≡ true = is in cc) c.in_ok-read.ensures.read c.in-Ok.ensures.time)

pub returns-in-Ok-clause-last : goal.returns-in-Ok-clause-last
returns-in-Ok-clause-last g c =
    last_read c.args.question.now c.args.name.now _ _
    (sources (g.F.Files.state c.args.files.now) (g.K.Clock.state c.args.clock.now))
    (sources (g.F.Files.state c.read_files.new.files) (g.K.Clock.state c.read_minute.new.clock))
    c.in_ok-read.read c.refused_over.result c.in_ok-read.ensures.opened
    (λ asks settled. (c.in-Ok.now, rw asks at c.in-Ok.ensures.time))
