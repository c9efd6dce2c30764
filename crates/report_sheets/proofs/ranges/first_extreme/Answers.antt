use Rattle.std.proofs.Common.{◌∙◌, sym, ap, take, filter, arith}
use Rattle.std.proofs.lemmas.List.{take_all}
use Rattle.report_sheets.specs.Ranges.{is_of, extreme_of}
use Rattle.report_sheets.proofs.RangeLemmas.{best_more, best_same, best_is}
use Rattle.report_sheets.proofs.ranges.first_extreme.Goals.{then-is_of, else-is_of}
use Rattle.report_sheets.proofs.ranges.first_extreme.Goals as goal

pub loop-event-preserved : goal.loop-event-preserved
loop-event-preserved c =
    elim c.if-is_of.branch [
      | then-is_of w ↦ best_more c.args.extreme c.args.events.now c.loop-event.event-index c.loop-event.best
          c.if-is_of.best _ c.loop-event-test.true c.loop-event.invariant
          (sym c.is_of.ensures ∙ w.if-is_of.true) (w.best-is ∙ w.better.ensures)
      | else-is_of w ↦ best_same c.args.extreme c.args.events.now c.loop-event.event-index c.loop-event.best
          c.if-is_of.best _ c.loop-event-test.true c.loop-event.invariant
          (sym c.is_of.ensures ∙ w.if-is_of.false) w.best-is
    ]

pub returns : goal.returns
returns c =
    best_is c.args.extreme (filter (λ event. is_of c.args.extreme event.kind)
    (take c.loop-event.event-index c.args.events.now)) c.loop-event.best c.loop-event.invariant
    ∙ ap (extreme_of c.args.extreme) (take_all c.loop-event.event-index c.args.events.now (omega arith))
