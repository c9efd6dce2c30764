use Rattle.std.proofs.Common.{◌≡◌, w64, to_z, of_z, FitsSigned, rules, refl, sym, ap, ◌∙◌}
use Rattle.std.proofs.lemmas.Int.{to_z-of_z}
use Rattle.interval_search.specs.declared.piece.Piece.{Piece}
use Rattle.interval_search.proofs.AheadLemmas.{before-end, done-pending, done-pieces, nearest-piece, given-ahead, given-search_invariant}
use Rattle.interval_search.proofs.front.next_piece.Goals as goal

pub returns-then-at-end-clause-found : goal.returns-then-at-end-clause-found
returns-then-at-end-clause-found g c =
    let front = c.args.front.now in
    let curve_model = (g.C.Curve.state c.args.curve.now).curve_model in
    let at : FitsSigned w64 c.args.front.now.at.minute = search rules in
    let end : FitsSigned w64 c.args.front.now.end = search rules in
    let same : c.args.front.now.at.minute ≡ c.args.front.now.end =
    sym (to_z-of_z w64 _ at) ∙ ap (to_z w64) c.if-at-end.true ∙ to_z-of_z w64 _ end in (
      refl {a = c.args.front.now},
      same,
      done-pending (g.R.PieceRule.values curve_model) front.end front.at.minute front.pending c.requires.pieces same,
      done-pieces (g.R.PieceRule.whole c.args.rule.now curve_model.curve_spec) (g.R.PieceRule.values curve_model) front.end
          front.at.minute front.pending c.requires.pieces same,
    )

pub nearest_end-next_end-requires-clause-onward : goal.nearest_end-next_end-requires-clause-onward
nearest_end-next_end-requires-clause-onward g c =
    let end : FitsSigned w64 c.args.front.now.end = search rules in
    let onward = before-end (g.R.PieceRule.values (g.C.Curve.state c.args.curve.now).curve_model) c.args.front.now.end
    c.args.front.now.at.minute c.args.front.now.pending c.requires.pieces (λ e. c.if-at-end.false (ap (of_z w64) e)) in
    rw (to_z-of_z w64 c.args.front.now.end end) onward

pub nearest_piece-piece-requires : goal.nearest_piece-piece-requires
nearest_piece-piece-requires g c = record {
  search_invariant = rw c.nearest_end-next_end.ensures.unchanged c.nearest_end-next_end.ensures.search_invariant;
}

pub returns-clause-search_invariant : goal.returns-clause-search_invariant
returns-clause-search_invariant g c =
    let end : FitsSigned w64 c.args.front.now.end = search rules in
    let search_invariant = rw c.nearest_end-next_end.ensures.unchanged
    at (simp to_z-of_z at c.nearest_piece-piece.ensures.search_invariant) in
    given-search_invariant _ (g.C.Curve.state c.nearest_piece-piece.new.curve) c.args.front.now.end
    c.args.front.now.at _ _ search_invariant

pub returns-clause-piece : goal.returns-clause-piece
returns-clause-piece g c =
    let end : FitsSigned w64 c.args.front.now.end = search rules in
    let curve_model = c.nearest_piece-piece.ensures.unchanged ∙ c.nearest_end-next_end.ensures.unchanged in
    let search_invariant = rw c.nearest_end-next_end.ensures.unchanged
    at (simp to_z-of_z at c.nearest_piece-piece.ensures.search_invariant) in
    rw curve_model at (nearest-piece _ (g.C.Curve.state c.nearest_piece-piece.new.curve) c.args.front.now.end
    c.args.front.now.at _ _ c.nearest_piece-piece.result search_invariant c.nearest_piece-piece.ensures.piece)

pub returns-clause-found : goal.returns-clause-found
returns-clause-found g c =
    let end : FitsSigned w64 c.args.front.now.end = search rules in
    let curve_model = (g.C.Curve.state c.args.curve.now).curve_model in
    let test = g.R.PieceRule.whole c.args.rule.now curve_model.curve_spec in
    let search_invariant = rw c.nearest_end-next_end.ensures.unchanged
    at (simp to_z-of_z at c.nearest_piece-piece.ensures.search_invariant) in
    let whole = rw c.nearest_end-next_end.ensures.unchanged at c.nearest_piece-piece.ensures.whole in
    let begun = simp to_z-of_z at (c.nearest_end-next_end.ensures.pieces test) in
    let halved = simp (to_z-of_z, c.nearest_end-next_end.ensures.unchanged) at c.nearest_piece-piece.ensures.pieces in
    let given = given-ahead test (g.R.PieceRule.values curve_model) c.args.front.now.end c.args.front.now.at
    c.nearest_piece-piece.result c.nearest_piece-piece.new.pending search_invariant.pieces
    c.nearest_piece-piece.ensures.piece whole in
    record {
      begin = ap (λ (p : Piece). p.begin) c.nearest_piece-piece.ensures.piece;
      end = refl;
      whole = whole;
      ahead = sym begun ∙ sym halved ∙ given;
    }
