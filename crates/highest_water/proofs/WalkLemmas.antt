-- The cells that a walk has still to reach are the cells of the pieces ahead.
use Rattle.std.proofs.Common.{◌≡◌, ℕ, ◌+◌, ◌≤◌, ◌<◌, ℤ, pos, ◌+ℤ◌, ◌≤ℤ◌, true, nat_le, List, [], ◌∷◌, ◌++◌, length, length-append, append_assoc, map, None, refl, sym, ap, arith, ◌∙◌}
use Rattle.std.proofs.lemmas.Int.{ints}
use Rattle.std.proofs.lemmas.List.{length-map, append-nil}
use Rattle.curve_law.specs.declared.point.Point.{Point}
use Rattle.curve_law.specs.CurveSpec.{CurveSpec}
use Rattle.curve_law.specs.Pieces.{interval, stays_whole}
use Rattle.curve_law.specs.CurveStates.{CurveState}
use Rattle.curve_law.proofs.CoverLemmas.{by_test}
use Rattle.interval_search.specs.declared.front.Front.{Front}
use Rattle.interval_search.specs.declared.piece.Piece.{Piece}
use Rattle.interval_search.specs.Workings.Ahead as Ahead
use Rattle.interval_search.specs.Workings.Ahead.{minutes_to, interval_of, IsPiece, pieces_after, IsFront, IsNext}
use Rattle.interval_search.proofs.AheadLemmas.{pieces-end, points-few}
use Rattle.highest_water.specs.declared.peak_cell.PeakCell.{PeakCell}
use Rattle.highest_water.specs.Covers.{minutes_of, is_under, cell_of, peak_cover}
use Rattle.highest_water.specs.Workings.Walk.{cells_ahead, IsRight}
use Rattle.highest_water.proofs.AcceptedLemmas.{cell-minutes}

-- ---- the cells ahead of a walk

pub first-cells : (c : CurveSpec) (front : Front) (values : ℤ → ℤ) (begin end : ℤ)
    → front ≡ record { at = record { minute = begin; value = values begin }; pending = []; end = end } → (h : Point)
    → cells_ahead c h front ≡ peak_cover c h.minute h.value begin (minutes_to begin end)
unfolding cells_ahead pieces_after peak_cover
first-cells c front values begin end is h = rw is refl

pub done-cells : (c : CurveSpec) (h : Point) (old new : Front)
    → Ahead.StepsTo (is_under c h.minute h.value) old None new → cells_ahead c h old ≡ []
unfolding cells_ahead
done-cells c h old new done = ap (map cell_of) done.3

found-cells : (c : CurveSpec) (h : Point) (old new : Front) (piece : Piece)
    → IsNext (is_under c h.minute h.value) old piece new
    → cells_ahead c h old ≡ cell_of (interval_of piece) ∷ cells_ahead c h new
unfolding cells_ahead
found-cells c h old new piece next = ap (map cell_of) next.ahead

-- a cell that isn't halved is one minute or is under
whole-right : (c : CurveSpec) (h : Point) (a : ℤ) (n : ℕ) → stays_whole (is_under c h.minute h.value) a n ≡ true
    → IsRight c h a (cell_of (interval a n))
whole-right c h a n whole = by_test (nat_le n 1)
    (λ one. rw one tt)
    (λ more. let under : is_under c h.minute h.value a n ≡ true = rw more at whole in rw more under)

pub found-steps : (c : CurveSpec) (h : Point) (values : ℤ → ℤ) (s : CurveState) (old new : Front) (piece : Piece)
    (cell : PeakCell) → IsPiece c values piece → IsNext (is_under c h.minute h.value) old piece new
    → IsFront values s new → new.end ≡ old.end → cell ≡ cell_of (interval_of piece) → (piece.begin ≡ old.at)
    × (cells_ahead c h old ≡ cell ∷ cells_ahead c h new) × (new.at.minute ≡ old.at.minute +ℤ pos (minutes_of cell))
    × IsRight c h old.at.minute cell × (new.at.minute ≤ℤ old.end)
found-steps c h values s old new piece cell is next search_invariant until same =
    let begin = ap (λ (p : Point). p.minute) next.begin in
    let end = ap (λ (p : Point). p.minute) next.end in
    let minutes = cell-minutes (interval_of piece) is.some in
    let there = is.end in
    let right = whole-right c h piece.begin.minute piece.minutes next.whole in
    let last = pieces-end values new.end new.at.minute new.pending search_invariant.pieces in
    rw same (next.begin, found-cells c h old new piece next, omega (arith, ints), rw (← begin) right, rw (← until) last)

-- each pending point ends a piece
pub pending-bound : (c : CurveSpec) (h : Point) (values : ℤ → ℤ) (s : CurveState) (front : Front) → IsFront values s front
    → length front.pending ≤ length (cells_ahead c h front)
unfolding cells_ahead
pending-bound c h values s front search_invariant = simp length-map
    (points-few (is_under c h.minute h.value) values front.end front.at.minute front.pending search_invariant.pieces)

-- ---- the number of evaluations while cells are made

pub counted-more : (xs ahead rest all : List PeakCell) (cell : PeakCell) (start count more w v : ℕ) → xs ++ ahead ≡ all
    → ahead ≡ cell ∷ rest → v ≤ length rest → more + w ≡ count + v + 1 → count ≤ start + length xs + w + 1
    → more ≤ start + length all + 1
counted-more xs ahead rest all cell start count more w v whole next few step so_far =
    omega (arith, length-append xs ahead, ap length whole, ap length next)

pub first-counted : (count start a b : ℕ) → count ≡ start + 1 → count ≤ start + a + b + 1
first-counted count start a b one = omega arith

-- one more cell is pushed
pub cell-fewer : (ahead rest : List PeakCell) (cell : PeakCell) → ahead ≡ cell ∷ rest → length rest < length ahead
cell-fewer ahead rest cell next = omega (arith, ap length next)

pub cell-pushed : (xs ys ahead rest all : List PeakCell) (cell : PeakCell) → xs ++ ahead ≡ all → ahead ≡ cell ∷ rest
    → ys ≡ xs ++ cell ∷ [] → ys ++ rest ≡ all
cell-pushed xs ys ahead rest all cell whole next pushed = rw (pushed, append_assoc) (rw next at whole)

pub cell-counted : (xs ys : List PeakCell) (cell : PeakCell) (start count more w v : ℕ) → ys ≡ xs ++ cell ∷ []
    → more + w ≡ count + v + 1 → count ≤ start + length xs + w + 1 → more ≤ start + length ys + v + 1
cell-counted xs ys cell start count more w v pushed step so_far =
    omega (arith, ap length pushed, length-append xs (cell ∷ []))

pub cells-all : (xs ahead all : List PeakCell) → xs ++ ahead ≡ all → ahead ≡ [] → xs ≡ all
cells-all xs ahead all whole done = sym (append-nil xs) ∙ (rw done at whole)

pub counted-all : (xs ahead all : List PeakCell) (ps : List Point) (start count : ℕ) → xs ++ ahead ≡ all → ahead ≡ []
    → ps ≡ [] → count ≤ start + length xs + length ps + 1 → count ≤ start + length all + 1
counted-all xs ahead all ps start count whole done none so_far =
    omega (arith, length-append xs ahead, ap length whole, ap length done, ap length none)
