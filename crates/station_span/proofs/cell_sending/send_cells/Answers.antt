use Rattle.std.proofs.Common.{◌≡◌, suc, List, [], ◌++◌, length, map, Ok, Err, refl, ap, arith}
use Rattle.std.proofs.lemmas.List.Elements.{All-head, All-tail}
use Rattle.std.proofs.lemmas.Result.{err_from_is_err_and}
use Rattle.cert_text.specs.Certificates.{IsCell}
use Rattle.cert_text.specs.Lines.{cell_line_of, ended, joined}
use Rattle.curve_law.specs.declared.cell.Cell.{Cell}
use Rattle.tide_edge.specs.Sending.{gone_for, held_after}
use Rattle.tide_edge.proofs.SendLemmas.{buffer_done, buffer_length, buffer_step, sends_cut, sends_then, sends_none}
use Rattle.station_span.proofs.cell_sending.send_cells.Goals as goal

pub loop-found-init : goal.loop-found-init
loop-found-init g c =
    let empty = c.new-buffer.ensures in
    let none : length c.new-buffer.result.text.bytes ≡ 0 = ap length empty in
    record {
      sends = ([], rw empty refl, sends_none (g.S.Sink.state c.args.out.now) c.args.sent.bytes);
      few = omega (arith, none);
      count = omega arith;
      cells = c.requires.cells;
    }

pub put_cell-requires-clause-cell : goal.put_cell-requires-clause-cell
put_cell-requires-clause-cell g c =
    All-head IsCell c.in-Some.found.cell c.next.new.self.remaining (rw c.in-Some.ensures.found.1 at c.loop-found.invariant.cells)

pub put_cell-requires-clause-count_bound : goal.put_cell-requires-clause-count_bound
put_cell-requires-clause-count_bound g c =
    let few = c.loop-found.invariant.few in
    let all = c.requires.count_bound in
    omega (arith, few, all)

pub overflow_add-cells : goal.overflow_add-cells
overflow_add-cells g c =
    let count = c.loop-found.invariant.count in
    let all = c.requires.count in
    let remaining : length c.loop-found.search.remaining ≡ suc (length c.next.new.self.remaining) = ap length c.in-Some.ensures.found.1 in
    omega (arith, count, all, remaining)

pub loop-found-preserved : goal.loop-found-preserved
loop-found-preserved g c =
    let so_far = c.loop-found.invariant in
    let is = c.in-Some.ensures.found.1 in
    let text = so_far.sends.0 in
    let held = c.loop-found.buffer.text.bytes in
    let piece = ended (cell_line_of c.in-Some.found.cell) in
    let now = c.put_cell.new.buffer.text.bytes in
    let put = c.in_ok-bytes.ensures.holds in
    let count = so_far.count in
    let bytes = c.in_ok-bytes.ensures.sends.0 in
    let short = c.put_cell.ensures.length_bound in
    let few = so_far.few in
    let long = buffer_length held piece now put in
    let remaining : length c.loop-found.search.remaining ≡ suc (length c.next.new.self.remaining) = ap length is in
    record {
      sends = (
        text ++ gone_for held piece,
        buffer_step (λ (cells : List Cell). joined (map cell_line_of cells)) c.loop-found.search.remaining
            c.next.new.self.remaining c.in-Some.found.cell _ text held piece now is refl put so_far.sends.1,
        sends_then (g.S.Sink.state c.args.out.now) (g.S.Sink.state c.loop-found.out) (g.S.Sink.state c.put_cell.new.out)
            c.args.sent.bytes c.loop-found.bytes text (gone_for held piece) (Ok c.in_ok-bytes.bytes) so_far.sends.2
            c.in_ok-bytes.ensures.sends,
      );
      few = omega (arith, bytes, short, few, long, remaining);
      count = omega (arith, count, remaining);
      cells = All-tail IsCell c.in-Some.found.cell c.next.new.self.remaining (rw is at so_far.cells);
    }

pub returns-in_err-bytes-clause-sends : goal.returns-in_err-bytes-clause-sends
returns-in_err-bytes-clause-sends g c =
    let p = err_from_is_err_and c.from_residual.result c.from_residual.ensures.1 in
    let so_far = c.loop-found.invariant in
    let text = so_far.sends.0 in
    let held = c.loop-found.buffer.text.bytes in
    let piece = ended (cell_line_of c.in-Some.found.cell) in
    let now = held_after held piece in
    let rest = joined (map cell_line_of c.next.new.self.remaining) in
    let whole = buffer_step (λ (cells : List Cell). joined (map cell_line_of cells)) c.loop-found.search.remaining
    c.next.new.self.remaining c.in-Some.found.cell _ text held piece now c.in-Some.ensures.found.1 refl refl so_far.sends.1 in
    rw (p.1, p.2, ← whole) (sends_cut (g.S.Sink.state c.args.out.now) (g.S.Sink.state c.put_cell.new.out) c.args.sent.bytes
    (text ++ gone_for held piece) (now ++ rest) _
    (sends_then (g.S.Sink.state c.args.out.now) (g.S.Sink.state c.loop-found.out) (g.S.Sink.state c.put_cell.new.out)
    c.args.sent.bytes c.loop-found.bytes text (gone_for held piece) (Err _) so_far.sends.2 c.in_err-bytes.ensures.sends))

pub end-requires : goal.end-requires
end-requires g c =
    let few = c.loop-found.invariant.few in
    let all = c.requires.count_bound in
    omega (arith, few, all)

pub returns-in_err-bytes-2-clause-sends : goal.returns-in_err-bytes-2-clause-sends
returns-in_err-bytes-2-clause-sends g c =
    let p = err_from_is_err_and c.from_residual-in_err-bytes-2.result c.from_residual-in_err-bytes-2.ensures.1 in
    let so_far = c.loop-found.invariant in
    let text = so_far.sends.0 in
    let held = c.loop-found.buffer.text.bytes in
    let whole = buffer_done (λ (cells : List Cell). joined (map cell_line_of cells)) c.loop-found.search.remaining _ text
    held c.in_default.ensures.found.0 refl so_far.sends.1 in
    rw (p.1, p.2, ← whole) (sends_then (g.S.Sink.state c.args.out.now) (g.S.Sink.state c.loop-found.out) (g.S.Sink.state c.end.new.out)
    c.args.sent.bytes c.loop-found.bytes text held (Err _) so_far.sends.2 c.in_err-bytes-2.ensures)

pub returns-clause-sends : goal.returns-clause-sends
returns-clause-sends g c =
    let so_far = c.loop-found.invariant in
    let text = so_far.sends.0 in
    let held = c.loop-found.buffer.text.bytes in
    let none = c.in_default.ensures.found.0 in
    let count = so_far.count in
    let remaining : length c.loop-found.search.remaining ≡ 0 = ap length none in
    let whole = buffer_done (λ (cells : List Cell). joined (map cell_line_of cells)) c.loop-found.search.remaining _ text
    held none refl so_far.sends.1 in (
      rw (← whole) (sends_then (g.S.Sink.state c.args.out.now) (g.S.Sink.state c.loop-found.out) (g.S.Sink.state c.end.new.out)
          c.args.sent.bytes c.loop-found.bytes text held (Ok c.in_ok-bytes-2.bytes) so_far.sends.2 c.in_ok-bytes-2.ensures),
      omega (arith, count, remaining),
    )

pub returns-clause-length_bound : goal.returns-clause-length_bound
returns-clause-length_bound g c =
    let bytes = c.in_ok-bytes-2.ensures.0 in
    let few = c.loop-found.invariant.few in
    omega (arith, bytes, few)
