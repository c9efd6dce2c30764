use Rattle.std.proofs.Common.{◌∙◌, sym, arith}
use Rattle.harmonics_text.proofs.Keeping.{line_on, line_ends, line_fails}
use Rattle.harmonics_text.proofs.progress.add_lines.Goals as goal

pub overflow_add-number : goal.overflow_add-number
overflow_add-number c = omega (arith, c.lines.invariant.few, c.in-Ok.ensures.shorter)

pub lines-smaller : goal.lines-smaller
lines-smaller c = omega (arith, c.in-Ok.ensures.shorter, c.in-Some.ensures.shorter)

pub lines-preserved : goal.lines-preserved
lines-preserved c = record {
  valid = c.in-Ok.ensures.read.valid;
  one = c.in-Some.ensures.exact.1;
  few = omega (arith, c.lines.invariant.few, c.in-Ok.ensures.shorter, c.in-Some.ensures.shorter);
  shorter = omega (arith, c.lines.invariant.shorter, c.in-Ok.ensures.shorter, c.in-Some.ensures.shorter);
  so_far =
      line_on c.add_lines.new.self _ c.in-Ok.remaining.now c.in-Some.next.now c.in-Some.after.now _
      c.in-Some.ensures.exact (sym (c.in-Ok.ensures.read.same c.lines.number) ∙ c.lines.invariant.so_far);
}

pub returns-in-Err-clause-exact : goal.returns-in-Err-clause-exact
returns-in-Err-clause-exact c =
    rw c.at_line.ensures (line_fails c.lines.parser c.lines.number c.lines.line.now c.lines.rest.now _ c.in-Err.fault
    c.lines.invariant.one c.in-Err.ensures.read c.lines.invariant.so_far)

pub returns-in-None-clause-exact : goal.returns-in-None-clause-exact
returns-in-None-clause-exact c =
    line_ends c.add_lines.new.self _ c.in-Ok.remaining.now _ c.in-None.ensures.exact
    (sym (c.in-Ok.ensures.read.same c.lines.number) ∙ c.lines.invariant.so_far)

pub returns-in-None-clause-shorter : goal.returns-in-None-clause-shorter
returns-in-None-clause-shorter c = omega (arith, c.lines.invariant.shorter, c.in-Ok.ensures.shorter)
