use Rattle.std.proofs.Common.{length, w64, FitsSigned, rules, arith, sym, ap, ◌∙◌}
use Rattle.std.proofs.lemmas.Int.{ints, to_z-of_z}
use Rattle.curve_law.proofs.StateLemmas.{curve_model-after, count-after}
use Rattle.interval_search.proofs.AheadLemmas.{piece-parts, piece-few, nearest-piece, pending-few, asked-few, middle-ahead, middle-search_invariant, middle-fewer}
use Rattle.interval_search.proofs.front.nearest_piece.Goals as goal

pub piece_between-piece-requires-clause-some : goal.piece_between-piece-requires-clause-some
piece_between-piece-requires-clause-some g c = (piece-parts _ _ _ _ _ c.loop-at.invariant.search_invariant.pieces).0

pub piece_between-piece-requires-clause-count_bound : goal.piece_between-piece-requires-clause-count_bound
piece_between-piece-requires-clause-count_bound g c = piece-few _ _ _ _ _ c.loop-at.invariant.search_invariant.pieces

pub stays_whole-requires : goal.stays_whole-requires
stays_whole-requires g c =
    let invariant = c.loop-at.invariant in
    let piece = nearest-piece _ _ _ _ _ _ _ invariant.search_invariant c.piece_between-piece.ensures in
    rw invariant.unchanged (rw invariant.unchanged at piece)

pub returns-then-stays_whole-clause-search_invariant : goal.returns-then-stays_whole-clause-search_invariant
returns-then-stays_whole-clause-search_invariant g c =
    rw c.piece_between-piece.ensures (rw (to_z-of_z w64 c.args.end c.ranges.end) at c.loop-at.invariant.search_invariant)

pub returns-then-stays_whole-clause-whole : goal.returns-then-stays_whole-clause-whole
returns-then-stays_whole-clause-whole g c =
    rw c.loop-at.invariant.unchanged at (sym c.stays_whole.ensures ∙ c.if-stays_whole.true)

pub returns-then-stays_whole-clause-pieces : goal.returns-then-stays_whole-clause-pieces
returns-then-stays_whole-clause-pieces g c = rw c.piece_between-piece.ensures (rw (to_z-of_z w64 c.args.end c.ranges.end) at c.loop-at.invariant.pieces)

pub push-requires : goal.push-requires
push-requires g c = pending-few _ _ _ _ _ _ c.loop-at.invariant.search_invariant

pub halfway-requires : goal.halfway-requires
halfway-requires g c =
    let lawful = g.met.C.Curve.lawful c.loop-at.curve in
    let piece = nearest-piece _ _ _ _ _ _ _ c.loop-at.invariant.search_invariant c.piece_between-piece.ensures in
    omega (arith, ints, lawful.early, lawful.late, piece.first, piece.last)

pub evaluate-next_end-requires-clause-minute : goal.evaluate-next_end-requires-clause-minute
evaluate-next_end-requires-clause-minute g c =
    let piece = nearest-piece _ _ _ _ _ _ _ c.loop-at.invariant.search_invariant c.piece_between-piece.ensures in
    let half : FitsSigned w64 c.halfway.result = search rules in
    let middle = c.halfway.ensures in
    rw (to_z-of_z w64 c.halfway.result half) (record {
      first = omega (arith, ints, piece.first, middle);
      last = omega (arith, ints, piece.last, middle);
    })

pub evaluate-next_end-requires-clause-count_bound : goal.evaluate-next_end-requires-clause-count_bound
evaluate-next_end-requires-clause-count_bound g c = asked-few _ _ _ _ _ _ c.loop-at.invariant.search_invariant

pub loop-at-smaller : goal.loop-at-smaller
loop-at-smaller g c =
    let curve_model = (g.C.Curve.state c.args.curve.now).curve_model in
    let invariant = c.loop-at.invariant in
    let piece = c.piece_between-piece.ensures in
    let half : FitsSigned w64 c.halfway.result = search rules in
    let middle = rw piece at c.halfway.ensures in
    let point = rw invariant.unchanged at (simp to_z-of_z at c.evaluate-next_end.ensures.point) in
    let halve = rw (piece, invariant.unchanged) at (sym c.stays_whole.ensures ∙ c.if-stays_whole.false) in
    middle-fewer (g.R.PieceRule.whole c.args.rule.now curve_model.curve_spec) (g.R.PieceRule.values curve_model) c.args.at
    c.evaluate-next_end.result c.loop-at.next_end c.halfway.result
    (piece-parts _ _ _ _ _ invariant.search_invariant.pieces).0 halve middle point

pub loop-at-preserved : goal.loop-at-preserved
loop-at-preserved g c =
    let curve_model = (g.C.Curve.state c.args.curve.now).curve_model in
    let test = g.R.PieceRule.whole c.args.rule.now curve_model.curve_spec in
    let values = g.R.PieceRule.values curve_model in
    let state = g.C.Curve.state c.loop-at.curve in
    let invariant = c.loop-at.invariant in
    let piece = c.piece_between-piece.ensures in
    let half : FitsSigned w64 c.halfway.result = search rules in
    let middle = rw piece at c.halfway.ensures in
    let point = rw invariant.unchanged at (simp to_z-of_z at c.evaluate-next_end.ensures.point) in
    let halve = rw (piece, invariant.unchanged) at (sym c.stays_whole.ensures ∙ c.if-stays_whole.false) in
    let search_invariant = middle-search_invariant test values state _ c.args.at c.evaluate-next_end.result
    c.loop-at.next_end c.loop-at.pending c.halfway.result invariant.search_invariant halve middle point in
    let ahead = middle-ahead test values _ c.args.at.minute c.evaluate-next_end.result c.loop-at.next_end
    c.loop-at.pending c.halfway.result (piece-parts _ _ _ _ _ invariant.search_invariant.pieces).0 halve middle point in
    record {
      unchanged = curve_model-after _ _ c.evaluate-next_end.ensures.after ∙ invariant.unchanged;
      search_invariant = rw (c.push.ensures, c.evaluate-next_end.ensures.after) search_invariant;
      pieces = rw (c.push.ensures) (ahead ∙ invariant.pieces);
      counted = omega (arith, ap length c.push.ensures, count-after _ _ c.evaluate-next_end.ensures.after);
    }
