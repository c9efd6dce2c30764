use Rattle.std.proofs.Common.{ap}
use Rattle.tide_edge.proofs.ReadingLemmas.{opened_long, opened_once, opened_within, unopened_once, unopened_short, unopened_within}
use Rattle.tide_edge.proofs.files.reading.pass_file.Goals as goal

pub pass_rest-requires-clause-fresh : goal.pass_rest-requires-clause-fresh
pass_rest-requires-clause-fresh g c = (c.args.name.now, ap (λ s. s.open_log.latest) c.in-Ok.ensures.after)

pub returns-in-Ok-clause-came : goal.returns-in-Ok-clause-came
returns-in-Ok-clause-came g c =
    opened_once (record {}) c.args.limit c.args.name.now _ (g.F.Files.state c.args.files.now) _ c.pass_rest.result
    (rw c.in-Ok.ensures.after at c.pass_rest.ensures.came)

pub returns-in-Ok-clause-read : goal.returns-in-Ok-clause-read
returns-in-Ok-clause-read g c =
    opened_within (record {}) c.args.limit c.args.name.now _ (g.F.Files.state c.args.files.now) _ c.pass_rest.result
    (rw c.in-Ok.ensures.after at c.pass_rest.ensures.came)

pub returns-in-Ok-clause-too_long : goal.returns-in-Ok-clause-too_long
returns-in-Ok-clause-too_long g c =
    opened_long (record {}) c.args.limit c.args.name.now _ (g.F.Files.state c.args.files.now) _ c.pass_rest.result
    (rw c.in-Ok.ensures.after at c.pass_rest.ensures.came)

pub returns-clause-came : goal.returns-clause-came
returns-clause-came g c =
    rw c.in-Err.ensures.after (unopened_once c.in-Err.field-0 c.args.limit c.args.name.now (g.F.Files.state c.args.files.now))

pub returns-clause-read : goal.returns-clause-read
returns-clause-read g c =
    rw c.in-Err.ensures.after (unopened_within c.in-Err.field-0 c.args.limit c.args.name.now (g.F.Files.state c.args.files.now))

pub returns-clause-too_long : goal.returns-clause-too_long
returns-clause-too_long g c = (
  λ is. absurd cc,
  λ has. absurd (unopened_short c.in-Err.field-0 c.args.limit c.args.name.now (g.F.Files.state c.args.files.now)
      (rw c.in-Err.ensures.after at has)),
)
