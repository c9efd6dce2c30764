-- The verdict on one cell, and on the cells after it.
use Rattle.std.proofs.Common.{◌≡◌, ◌≢◌, ◌⊎◌, inl, inr, ℕ, ◌+◌, ◌<◌, ◌≤◌, ℤ, pos, ◌+ℤ◌, List, ◌∷◌, get_or, drop, length, refl, sym, add-one, drop-cons, arith}
use Rattle.std.proofs.lemmas.Int.{ints, to_z-of_z}
use Rattle.std.proofs.lemmas.List.{drop_all}
use Rattle.curve_law.specs.declared.cell.Cell.{Cell}
use Rattle.curve_law.specs.declared.cell.Cell.TheVariants.{Quiet, Still, Turn}
use Rattle.curve_law.specs.declared.kind.Kind.{Kind}
use Rattle.curve_law.specs.declared.verdict.Verdict.{Verdict}
use Rattle.curve_law.specs.declared.verdict.Verdict.TheVariants.{Accepted, WrongLength, NotQuiet, WrongStep, WrongLevel}
use Rattle.curve_law.specs.Track.{has_event}
use Rattle.curve_law.specs.CurveSpec.{CurveSpec, IsSpan}
use Rattle.curve_law.specs.Cells.{minutes_of, all_minutes}
use Rattle.curve_law.specs.Cover.{is_quiet, unit_cell}
use Rattle.curve_law.specs.Verdicts.{cell_verdict, or_next, cells_verdict}
use Rattle.curve_law.proofs.CoverLemmas.{by_test}
use Rattle.cert_checker.specs.Workings.Findings.{quiet_finding, unit_finding}

-- ---- one cell

pub quiet_finding-is_quiet : (c : CurveSpec) (a : ℤ) (number n : ℕ)
    → quiet_finding number (is_quiet c a n) ≡ cell_verdict c a number (Quiet n)
unfolding cell_verdict
quiet_finding-is_quiet c a number n = refl

unit_finding-still : (c : CurveSpec) (a : ℤ) (number : ℕ) → unit_finding number Still (unit_cell c.track a) ≡ cell_verdict c a number Still
unfolding unit_cell cell_verdict
unit_finding-still c a number = by_test (has_event c.track a) (λ happens. rw happens refl) (λ still. rw still refl)

unit_finding-turn : (c : CurveSpec) (a : ℤ) (number : ℕ) (kind : Kind) (level : ℤ)
    → unit_finding number (Turn kind level) (unit_cell c.track a) ≡ cell_verdict c a number (Turn kind level)
unfolding unit_cell cell_verdict
unit_finding-turn c a number kind level = by_test (has_event c.track a) (λ happens. rw happens refl) (λ still. rw still refl)

pub unit_finding-unit : (c : CurveSpec) (a : ℤ) (number : ℕ) (cell : Cell)
    → (cell ≡ Still) ⊎ ((kind : Kind) × (level : ℤ) × (cell ≡ Turn kind level))
    → unit_finding number cell (unit_cell c.track a) ≡ cell_verdict c a number cell
unit_finding-unit c a number cell (inl still) = rw still (unit_finding-still c a number)
unit_finding-unit c a number cell (inr (kind, level, turn)) = rw turn (unit_finding-turn c a number kind level)

pub ruleset findings = (to_z-of_z, quiet_finding-is_quiet, unit_finding-unit)

-- ---- the first of the cells left, and the others

cells-left : (cells : List Cell) (i : ℕ) (d : Cell) → i < length cells → drop i cells ≡ get_or cells i d ∷ drop (i + 1) cells
cells-left cells i d some = rw (add-one, drop-cons cells i d) refl

pub first-span : (c : CurveSpec) (a : ℤ) (cells : List Cell) (i : ℕ) (d : Cell) → i < length cells
    → IsSpan c a (all_minutes (drop i cells)) → IsSpan c a (minutes_of (get_or cells i d))
unfolding all_minutes
first-span c a cells i d some span =
    let first = span.first in
    let last = (rw (cells-left cells i d some) at span).last in
    record { first = first; last = omega (arith, ints) }

pub rest-span : (c : CurveSpec) (a : ℤ) (cells : List Cell) (i : ℕ) (d : Cell) → i < length cells
    → IsSpan c a (all_minutes (drop i cells))
    → IsSpan c (a +ℤ pos (minutes_of (get_or cells i d))) (all_minutes (drop (i + 1) cells))
unfolding all_minutes
rest-span c a cells i d some span =
    let first = span.first in
    let last = (rw (cells-left cells i d some) at span).last in
    record { first = omega (arith, ints); last = omega (arith, ints) }

wrong-first : (v w : Verdict) → v ≢ Accepted → or_next v w ≡ v
wrong-first Accepted w wrong = absurd (wrong refl)
wrong-first (WrongLength covered wanted) w wrong = refl
wrong-first (NotQuiet cell) w wrong = refl
wrong-first (WrongStep cell) w wrong = refl
wrong-first (WrongLevel cell written computed) w wrong = refl

-- the first fault is that of this cell, or of a cell after it, or there is none
pub first-found : (c : CurveSpec) (a : ℤ) (number : ℕ) (cells : List Cell) (i : ℕ) (d : Cell) (all found : Verdict)
    → i < length cells → all ≡ cells_verdict c a number (drop i cells)
    → found ≡ cell_verdict c a number (get_or cells i d) → found ≢ Accepted → found ≡ all
unfolding cells_verdict
first-found c a number cells i d all found some left is wrong =
    rw (left, cells-left cells i d some, ← is) (sym (wrong-first found _ wrong))

pub rest-found : (c : CurveSpec) (a : ℤ) (number : ℕ) (cells : List Cell) (i : ℕ) (d : Cell) (all : Verdict)
    → i < length cells → all ≡ cells_verdict c a number (drop i cells)
    → Accepted ≡ cell_verdict c a number (get_or cells i d)
    → all ≡ cells_verdict c (a +ℤ pos (minutes_of (get_or cells i d))) (number + 1) (drop (i + 1) cells)
unfolding cells_verdict
rest-found c a number cells i d all some left right =
    rw (left, cells-left cells i d some, ← right, ← add-one number) refl

pub none-found : (c : CurveSpec) (a : ℤ) (number i : ℕ) (cells : List Cell) (all : Verdict) → length cells ≤ i
    → all ≡ cells_verdict c a number (drop i cells) → Accepted ≡ all
unfolding cells_verdict
none-found c a number i cells all none left = rw (left, drop_all i cells none) refl
