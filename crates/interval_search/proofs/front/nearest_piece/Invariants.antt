use Rattle.std.proofs.Common.{◌≡◌, ◌+◌, ◌∷◌, length}
use Rattle.interval_search.specs.Workings.Ahead.{minutes_to, pieces_after, SearchInvariant}
use Rattle.interval_search.proofs.front.nearest_piece.Given as goal

-- the piece is halved, and the rest of the state is unchanged
abbrev pub invariant-loop-at : goal.invariant-loop-at
invariant-loop-at g l =
    let curve_model = (g.C.Curve.state l.fn.curve).curve_model in
    let test = g.R.PieceRule.whole l.rule curve_model.curve_spec in
    record {
      unchanged : (g.C.Curve.state l.curve).curve_model ≡ curve_model;
      search_invariant : SearchInvariant (g.R.PieceRule.values curve_model) (g.C.Curve.state l.curve) l.end l.at (l.next_end ∷ l.pending);
      pieces : pieces_after test l.end l.at.minute (l.next_end ∷ l.pending)
          ≡ pieces_after test l.end l.at.minute (l.fn.next_end ∷ l.fn.pending);
      counted : (g.C.Curve.state l.curve).count + length l.fn.pending ≡ (g.C.Curve.state l.fn.curve).count + length l.pending;
    }

abbrev pub decreases-loop-at : goal.decreases-loop-at
decreases-loop-at g l = minutes_to l.at.minute l.next_end.minute
