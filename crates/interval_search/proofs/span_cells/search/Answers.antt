use Rattle.std.proofs.Common.{w64, length, ap, arith}
use Rattle.std.proofs.lemmas.Int.{to_z-of_z}
use Rattle.curve_law.proofs.StateLemmas.{curve_model-after, count-after}
use Rattle.interval_search.specs.declared.front.Front.{Front}
use Rattle.interval_search.proofs.CellLemmas.{first-cells, asked-most}
use Rattle.interval_search.proofs.span_cells.search.Goals as goal

pub loop-found-init : goal.loop-found-init
loop-found-init g c =
    let curve_model = (g.C.Curve.state c.args.curve.now).curve_model in
    let begun = c.front_at-front.ensures in
    let cells = first-cells curve_model.curve_spec c.front_at-front.result curve_model.approximate _ _ begun.front in
    let none = ap (λ (front : Front). length front.pending) begun.front in
    record {
      unchanged = curve_model-after _ _ begun.after;
      search_invariant = begun.search_invariant;
      cells = rw c.new-cells.ensures.items cells;
      most = omega (arith, ap length cells, none, count-after _ _ begun.after);
    }

pub returns-in_err-push-clause-count : goal.returns-in_err-push-clause-count
returns-in_err-push-clause-count g c =
    let curve_model = (g.C.Curve.state c.args.curve.now).curve_model in
    let next = c.next_found.ensures in
    let most = rw (next.unchanged, c.loop-found.invariant.unchanged) at next.most in
    let search_invariant = rw (c.loop-found.invariant.unchanged) at next.search_invariant in
    let begin = to_z-of_z w64 c.args.begin c.ranges.begin in
    let end = to_z-of_z w64 c.args.end c.ranges.end in
    rw (begin, end)
    at (asked-most curve_model.curve_spec curve_model.approximate (g.C.Curve.state c.next_found.new.curve) c.next_found.new.front _ _
    search_invariant most c.loop-found.invariant.most)

pub returns-clause-count : goal.returns-clause-count
returns-clause-count g c =
    let curve_model = (g.C.Curve.state c.args.curve.now).curve_model in
    let next = c.next_found.ensures in
    let most = rw (next.unchanged, c.loop-found.invariant.unchanged) at next.most in
    let search_invariant = rw (c.loop-found.invariant.unchanged) at next.search_invariant in
    let begin = to_z-of_z w64 c.args.begin c.ranges.begin in
    let end = to_z-of_z w64 c.args.end c.ranges.end in
    rw (begin, end)
    at (asked-most curve_model.curve_spec curve_model.approximate (g.C.Curve.state c.next_found.new.curve) c.next_found.new.front _ _
    search_invariant most c.loop-found.invariant.most)
