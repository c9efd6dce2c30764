use Rattle.std.proofs.Common.{◌≡◌, ◌<◌, ◌-◌, ◌^◌, ◌∙◌, Ok, false, true, ap, arith, refl, rules, sym}
use Rattle.std.proofs.lemmas.Result.{err_from_is_err_and}
use Rattle.tide_edge.specs.Doors.{after_next, closed}
use Rattle.tide_server.specs.Serving.{exchange}
use Rattle.tide_server.specs.Workings.Steps.{serving}
use Rattle.tide_server.proofs.StepLemmas.{all_serves, failed_serves, kept_on, next_serving, none_kept, none_passed, over_serves, passed_on}
use Rattle.tide_server.proofs.connections.serve_all.Goals as goal

pub loop-accepted-init : goal.loop-accepted-init
loop-accepted-init g c =
    let before = exchange (g.D.Door.state c.args.door.now) (g.K.Clock.state c.args.clock.now) in record {
      listener_state = c.requires.listens;
      kept = none_kept before;
      passed = none_passed c.args.served_data.now false before before refl refl refl (ap (λ d. d.accepted) c.requires.listens);
      unasked = λ none. refl;
    }

pub returns-in_err-serve_next-clause-serves : goal.returns-in_err-serve_next-clause-serves
returns-in_err-serve_next-clause-serves g c =
    let p = err_from_is_err_and c.from_residual.result c.from_residual.ensures.1 in
    rw (p.1, p.2)
    (failed_serves c.args.served_data.now c.in_err-serve_next.field-0.0 c.loop-accepted._accepted
    (exchange (g.D.Door.state c.args.door.now) (g.K.Clock.state c.args.clock.now))
    (exchange (g.D.Door.state c.loop-accepted.door) (g.K.Clock.state c.loop-accepted.clock))
    (exchange (g.D.Door.state c.serve_next.new.door) (g.K.Clock.state c.serve_next.new.clock))
    c.loop-accepted-test.true c.loop-accepted.invariant.listener_state c.loop-accepted.invariant.kept c.loop-accepted.invariant.passed
    c.in_err-serve_next.ensures.steps)

pub returns-then-not-branch-clause-serves : goal.returns-then-not-branch-clause-serves
returns-then-not-branch-clause-serves g c =
    over_serves c.args.served_data.now c.loop-accepted._accepted
    (exchange (g.D.Door.state c.args.door.now) (g.K.Clock.state c.args.clock.now))
    (exchange (g.D.Door.state c.loop-accepted.door) (g.K.Clock.state c.loop-accepted.clock))
    (exchange (g.D.Door.state c.serve_next.new.door) (g.K.Clock.state c.serve_next.new.clock))
    c.loop-accepted.invariant.listener_state c.loop-accepted.invariant.kept c.loop-accepted.invariant.passed
    (rw c.if-not-branch.true at c.in_ok-serve_next.ensures.steps)

pub returns-then-not-branch-clause-clock_unread : goal.returns-then-not-branch-clause-clock_unread
returns-then-not-branch-clause-clock_unread g c =
    let step = rw c.if-not-branch.true at c.in_ok-serve_next.ensures.steps in
    λ none. c.in_ok-serve_next.ensures.clock_unread none
    ∙ c.loop-accepted.invariant.unasked
    (sym (ap (λ d. d.listener_state.accepted) step.0 ∙ ap (λ d. d.accepted) c.loop-accepted.invariant.listener_state) ∙ none)

pub returns-clause-serves : goal.returns-clause-serves
returns-clause-serves g c =
    let last : c.loop-accepted._accepted ≡ 2 ^ 64 - 1 = omega arith in
    all_serves c.args.served_data.now
    (exchange (g.D.Door.state c.args.door.now) (g.K.Clock.state c.args.clock.now))
    (exchange (g.D.Door.state c.loop-accepted.door) (g.K.Clock.state c.loop-accepted.clock))
    (c.loop-accepted.invariant.listener_state ∙ ap (serving c.args.served_data.now.port) last)
    c.loop-accepted.invariant.kept c.loop-accepted.invariant.passed

pub loop-accepted-preserved : goal.loop-accepted-preserved
loop-accepted-preserved g c =
    let comes : c.in_ok-serve_next.field-0 ≡ true = search rules in
    let step = rw comes at c.in_ok-serve_next.ensures.steps in
    let before = exchange (g.D.Door.state c.args.door.now) (g.K.Clock.state c.args.clock.now) in
    let now = exchange (g.D.Door.state c.loop-accepted.door) (g.K.Clock.state c.loop-accepted.clock) in
    let after = exchange (g.D.Door.state c.serve_next.new.door) (g.K.Clock.state c.serve_next.new.clock) in
    let next : (g.D.Door.state c.serve_next.new.door).listener_state ≡ closed (after_next (Ok true) (g.D.Door.state c.loop-accepted.door).listener_state) =
    ap (λ d. d.listener_state) step.door in
    let listener_state = rw c.loop-accepted.invariant.listener_state at next in
    let accepted : (g.D.Door.state c.loop-accepted.door).listener_state.accepted ≡ c.loop-accepted._accepted =
    ap (λ d. d.accepted) c.loop-accepted.invariant.listener_state in
    let few : (g.D.Door.state c.loop-accepted.door).listener_state.accepted < 2 ^ 64 - 1 = rw accepted c.loop-accepted-test.true in record {
      listener_state =
          next_serving c.args.served_data.now.port c.loop-accepted._accepted (g.D.Door.state c.serve_next.new.door).listener_state
          c.loop-accepted-test.true listener_state;
      kept = kept_on c.args.served_data.now before now after c.loop-accepted.invariant.kept step;
      passed = passed_on c.args.served_data.now before now after c.loop-accepted.invariant.passed few step;
      unasked = λ none. absurd (omega (arith, none));
    }
