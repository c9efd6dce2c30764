use Rattle.std.proofs.Common.{◌∙◌, inl, inr, Ok, Err, false, refl, sym, true}
use Rattle.std.specs.Bool.{IsTrue}
use Rattle.named_files.specs.RunFaults.{is_unread}
use Rattle.tide_edge.proofs.ReadingLemmas.{read_none}
use Rattle.tide_server.specs.Openings.{files_asked, server_states, service_of}
use Rattle.tide_server.specs.Workings.Ends.{unread}
use Rattle.tide_server.proofs.OpeningLemmas.{files_failed, full_not_done, has_port, never_done, not_another, refused_another, refused_for, refused_full, words_not_done}
use Rattle.tide_server.proofs.ServedDataLemmas.{own_data, shown_another, shown_ready, shown_refused}
use Rattle.tide_server.proofs.ServiceLemmas.{ended_by, has_listened}
use Rattle.tide_server.proofs.service.serve.Goals as goal

pub returns-then-names_another : goal.returns-then-names_another
returns-then-names_another g c =
    let another = sym c.names_another.ensures ∙ c.if-names_another.true in
    let before = server_states (g.F.Files.state c.args.files.now) (g.D.Door.state c.args.door.now) (g.E.Sink.state c.args.err.now)
    (g.K.Clock.state c.args.clock.now) in
    let after = server_states (g.F.Files.state c.args.files.now) (g.D.Door.state c.args.door.now) (g.E.Sink.state c.refuse.new.err)
    (g.K.Clock.state c.args.clock.now) in
    let same = c.refuse.ensures.same in
    let line = c.refuse.ensures.line in record {
      shown = shown_another c.args.words.now c.refuse.result before after refl
          (refused_another (IsTrue true) _ c.args.words.now c.refuse.result before after line.0 another same refl refl line.1);
      own_files = λ t. inl (refused_another _ _ c.args.words.now c.refuse.result before after line.0 another same refl refl line.1);
      another = λ is. (same, line.0, line.1);
      done = λ is. absurd (words_not_done _ same is);
      fault = rw same (files_failed false before after refl c.requires refl refl);
      reads = (false, read_none (files_asked (service_of c.args.words.now)) (g.F.Files.state c.args.files.now));
      reads_first = λ asked. refl;
      unopened = λ is. refl;
      unlistened = λ is. refl;
      unread = λ is. refl;
      closed = λ asked. absurd (asked c.requires);
    }

pub returns-in-Err : goal.returns-in-Err
returns-in-Err g c =
    let before = server_states (g.F.Files.state c.args.files.now) (g.D.Door.state c.args.door.now) (g.E.Sink.state c.args.err.now)
    (g.K.Clock.state c.args.clock.now) in
    let after = server_states (g.F.Files.state c.read_served_data.new.files) (g.D.Door.state c.args.door.now)
    (g.E.Sink.state c.report.new.err) (g.K.Clock.state c.args.clock.now) in
    let reported = c.report.ensures.reported in record {
      shown = shown_refused c.args.words.now c.in-Err.none c.report.result before after c.in-Err.ensures.shown refl refl reported;
      own_files = λ t. inl (refused_for _ _ c.in-Err.none c.report.result before after
          (own_data c.args.words.now before.files after.files (Err c.in-Err.none) c.in-Err.ensures.shown c.in-Err.ensures.read.file_contents
          (g.met.F.Files.lawful c.read_served_data.new.files) t) refl refl reported);
      another = λ is. absurd (not_another _ _ c.names_another.ensures c.if-names_another.false is);
      done = λ is. absurd (never_done c.in-Err.none c.report.result _ _ reported is);
      fault = rw c.report.ensures.read (files_failed (is_unread c.in-Err.none) before after c.in-Err.ensures.read.faults c.requires refl refl);
      reads = (is_unread c.in-Err.none, c.in-Err.ensures.read);
      reads_first = λ asked. absurd (asked c.requires);
      unopened = c.in-Err.ensures.unopened;
      unlistened = λ is. refl;
      unread = λ is. refl;
      closed = λ asked. absurd (asked c.requires);
    }

pub returns-in-Err-new : goal.returns-in-Err-new
returns-in-Err-new g c =
    let before = server_states (g.F.Files.state c.args.files.now) (g.D.Door.state c.args.door.now) (g.E.Sink.state c.args.err.now)
    (g.K.Clock.state c.args.clock.now) in
    let after = server_states (g.F.Files.state c.read_served_data.new.files) (g.D.Door.state c.args.door.now)
    (g.E.Sink.state c.refuse-in-Err-new.new.err) (g.K.Clock.state c.args.clock.now) in
    let same = c.refuse-in-Err-new.ensures.same in
    let line = c.refuse-in-Err-new.ensures.line in record {
      shown = shown_ready c.args.words.now _ c.refuse-in-Err-new.result before after c.in-Ok.ensures.shown
          (λ expected is. inl (refused_full (IsTrue true) expected c.refuse-in-Err-new.result before after line.0 same refl refl line.1));
      own_files = λ t. inl (refused_full _ _ c.refuse-in-Err-new.result before after line.0 same refl refl line.1);
      another = λ is. absurd (not_another _ _ c.names_another.ensures c.if-names_another.false is);
      done = λ is. absurd (full_not_done _ same is);
      fault = rw same (files_failed false before after c.in-Ok.ensures.read.faults c.requires refl refl);
      reads = (false, c.in-Ok.ensures.read);
      reads_first = λ asked. absurd (asked c.requires);
      unopened = c.in-Ok.ensures.unopened;
      unlistened = λ is. refl;
      unread = λ is. refl;
      closed = λ asked. absurd (asked c.requires);
    }

pub returns-in-Ok-new : goal.returns-in-Ok-new
returns-in-Ok-new g c =
    let files = g.F.Files.state c.args.files.now in
    let left = g.F.Files.state c.read_served_data.new.files in
    let before = server_states files (g.D.Door.state c.args.door.now) (g.E.Sink.state c.args.err.now) (g.K.Clock.state c.args.clock.now) in
    let after = server_states left (g.D.Door.state c.serve_data-status.new.door)
    (g.E.Sink.state c.serve_data-status.new.err) (g.K.Clock.state c.serve_data-status.new.clock) in
    let ended = c.serve_data-status.ensures.ended in
    let listened = has_listened _ c.serve_data-status.result
    (unread (g.D.Door.state c.args.door.now) (g.E.Sink.state c.args.err.now) (g.K.Clock.state c.args.clock.now))
    (unread (g.D.Door.state c.serve_data-status.new.door) (g.E.Sink.state c.serve_data-status.new.err)
    (g.K.Clock.state c.serve_data-status.new.clock)) files left ended (g.met.D.Door.lawful c.serve_data-status.new.door)
    (g.met.K.Clock.lawful c.serve_data-status.new.clock) in record {
      shown = shown_ready c.args.words.now _ c.serve_data-status.result before after c.in-Ok.ensures.shown
          (λ expected is. inr (_, is, listened));
      own_files = λ t. inr (
        _,
        own_data c.args.words.now files left (Ok _) c.in-Ok.ensures.shown c.in-Ok.ensures.read.file_contents
            (g.met.F.Files.lawful c.read_served_data.new.files) t,
        listened,
      );
      another = λ is. absurd (not_another _ _ c.names_another.ensures c.if-names_another.false is);
      done = ended.done;
      fault = ended_by _ c.serve_data-status.result
          (unread (g.D.Door.state c.args.door.now) (g.E.Sink.state c.args.err.now) (g.K.Clock.state c.args.clock.now))
          (unread (g.D.Door.state c.serve_data-status.new.door) (g.E.Sink.state c.serve_data-status.new.err)
          (g.K.Clock.state c.serve_data-status.new.clock)) files left ended c.in-Ok.ensures.read.faults;
      reads = (false, c.in-Ok.ensures.read);
      reads_first = λ is. c.in-Ok.ensures.read.faults;
      unopened = c.in-Ok.ensures.unopened;
      unlistened = λ none. absurd (has_port _ _ ended.port none);
      unread = λ took. elim took [ inl none ↦ absurd (has_port _ _ ended.port none) | inr none ↦ c.serve_data-status.ensures.clock_unread none ];
      closed = λ is. ended.closed;
    }
