use Rattle.std.proofs.Common.{Ok, Err, sym}
use Rattle.tide_desk.specs.Outcomes.{outputs, sources}
use Rattle.tide_desk.proofs.OwnLemmas.{own_answer, own_last, own_once}
use Rattle.tide_desk.proofs.ShownLemmas.{first_agrees, shown_answered, shown_refused}
use Rattle.tide_edge.proofs.WritingLemmas.{put_none}
use Rattle.tide_desk.proofs.OutcomeLemmas.{ends_own, reported_silent, untouched}
use Rattle.tide_desk.proofs.SettledLemmas.{settled_reported}
use Rattle.tide_desk.proofs.desk.run.Goals as goal

pub returns-in-Ok : goal.returns-in-Ok
returns-in-Ok g c =
    let before = sources (g.F.Files.state c.args.files.now) (g.K.Clock.state c.args.clock.now) in
    let after = sources (g.F.Files.state c.answer_words.new.files) (g.K.Clock.state c.answer_words.new.clock) in
    let law = g.met.F.Files.lawful c.answer_words.new.files in
    let file_contents = c.in-Ok.ensures.reads.read.file_contents in
    record {
      shown = shown_answered _ c.args.words.now before after c.in-Ok.reply c.write_reply-status.result
          (outputs (g.O.Sink.state c.args.out.now) (g.E.Sink.state c.args.err.now))
          (outputs (g.O.Sink.state c.write_reply-status.new.out) (g.E.Sink.state c.write_reply-status.new.err))
          (c.in-Ok.ensures.shown _ (first_agrees _)) (λ expected is. rw is c.write_reply-status.ensures.ends);
      own_files = λ t k either.
          rw (own_answer _ c.args.words.now before after (Ok c.in-Ok.reply) _ law file_contents c.in-Ok.ensures.shown c.in-Ok.ensures.last t
          _ _ c.in-Ok.ensures.reads (g.met.K.Clock.lawful c.answer_words.new.clock) k)
          c.write_reply-status.ensures.ends;
      reads = rw c.write_reply-status.ensures.read c.in-Ok.ensures.reads;
      unwritten = c.write_reply-status.ensures.unwritten;
      unprinted = c.write_reply-status.ensures.unprinted;
      unopened = c.in-Ok.ensures.untouched.0;
      unread = c.in-Ok.ensures.untouched.1;
      read_last = λ t no.
          own_last _ c.args.words.now before after (Ok c.in-Ok.reply) _ law file_contents c.in-Ok.ensures.shown c.in-Ok.ensures.last t no;
      read_once = λ t asks has settled.
          own_once _ c.args.words.now before after (Ok c.in-Ok.reply) _ law file_contents c.in-Ok.ensures.shown c.in-Ok.ensures.last t asks has tt;
    }

pub returns-in-Err : goal.returns-in-Err
returns-in-Err g c =
    let quiet = sym (put_none (g.O.Sink.state c.args.out.now)) in
    let unwritten = outputs (g.O.Sink.state c.args.out.now) (g.E.Sink.state c.args.err.now) in
    let written = outputs (g.O.Sink.state c.args.out.now) (g.E.Sink.state c.report.new.err) in
    let before = sources (g.F.Files.state c.args.files.now) (g.K.Clock.state c.args.clock.now) in
    let after = sources (g.F.Files.state c.answer_words.new.files) (g.K.Clock.state c.answer_words.new.clock) in
    let law = g.met.F.Files.lawful c.answer_words.new.files in
    let file_contents = c.in-Err.ensures.reads.read.file_contents in
    record {
      shown = shown_refused _ c.args.words.now before after
          c.in-Err.none c.report.result unwritten written (c.in-Err.ensures.shown _ (first_agrees _)) quiet c.report.ensures.reported;
      own_files = λ t k either.
          ends_own _ _ c.in-Err.none c.report.result unwritten written
          (own_answer _ c.args.words.now before after (Err c.in-Err.none) _ law file_contents c.in-Err.ensures.shown c.in-Err.ensures.last t
          _ _ c.in-Err.ensures.reads (g.met.K.Clock.lawful c.answer_words.new.clock) k)
          either quiet c.report.ensures.reported;
      reads = rw c.report.ensures.read c.in-Err.ensures.reads;
      unwritten = untouched c.report.result c.args.out.now;
      unprinted = reported_silent c.in-Err.none c.report.result _ _ c.args.err.now c.report.new.err c.report.ensures.reported;
      unopened = c.in-Err.ensures.untouched.0;
      unread = c.in-Err.ensures.untouched.1;
      read_last = λ t no.
          own_last _ c.args.words.now before after (Err c.in-Err.none) _ law file_contents c.in-Err.ensures.shown c.in-Err.ensures.last t no;
      read_once = λ t asks has settled.
          own_once _ c.args.words.now before after (Err c.in-Err.none) _ law file_contents c.in-Err.ensures.shown c.in-Err.ensures.last t asks has
          (settled_reported c.in-Err.none c.report.result _ _ c.report.ensures.reported settled);
    }
