-- Cells that the check accepts, and the events in them.
use Rattle.std.proofs.Common.{◌≡◌, ℕ, zero, suc, ◌==◌, ℤ, pos, ◌+ℤ◌, Bool, true, false, cond, List, [], ◌∷◌, refl, sym, ap, ◌∙◌, arith}
use Rattle.std.specs.Ordering.{int_eq}
use Rattle.std.proofs.lemmas.Bool.Decides.{nat_tests, Decides-int_eq, Decides-eqb}
use Rattle.std.proofs.lemmas.Int.{ints}
use Rattle.curve_law.specs.declared.cell.Cell.{Cell}
use Rattle.curve_law.specs.declared.cell.Cell.TheVariants.{Quiet, Still, Turn}
use Rattle.curve_law.specs.declared.kind.Kind.{Kind}
use Rattle.curve_law.specs.declared.kind.Kind.TheVariants.{High, Low, FloodBegins, EbbBegins, MarkRising, MarkFalling}
use Rattle.curve_law.specs.declared.verdict.Verdict.{Verdict}
use Rattle.curve_law.specs.declared.verdict.Verdict.TheVariants.{Accepted, WrongLength, NotQuiet, WrongStep, WrongLevel}
use Rattle.curve_law.specs.Track.{has_event, event_at, plain_list}
use Rattle.curve_law.specs.CurveSpec.{CurveSpec, IsSpan, IsLawful}
use Rattle.curve_law.specs.Cells.{minutes_of, all_minutes, event_in, cell_events}
use Rattle.curve_law.specs.Cover.{is_quiet}
use Rattle.curve_law.specs.Verdicts.{rank_of_kind, same_kind, step_verdict, cell_verdict, or_next, cells_verdict, verdict}
use Rattle.curve_law.proofs.TrackLemmas.{plain_list-zero, plain_list-one, plain_list-add, plain_list-none}
use Rattle.curve_law.proofs.QuietLemmas.{quiet-no_event}

abbrev kind_at : ℕ → Kind
kind_at zero = High
kind_at (suc zero) = Low
kind_at (suc (suc zero)) = FloodBegins
kind_at (suc (suc (suc zero))) = EbbBegins
kind_at (suc (suc (suc (suc zero)))) = MarkRising
kind_at (suc (suc (suc (suc (suc place))))) = MarkFalling

kind_at-place : (k : Kind) → kind_at (rank_of_kind k) ≡ k
kind_at-place High = refl
kind_at-place Low = refl
kind_at-place FloodBegins = refl
kind_at-place EbbBegins = refl
kind_at-place MarkRising = refl
kind_at-place MarkFalling = refl

-- kinds that the test `same_kind` doesn't distinguish are equal
pub one_kind : (k l : Kind) → same_kind k l ≡ true → k ≡ l
one_kind k l same =
    sym (kind_at-place k) ∙ ap kind_at ((Decides-eqb (rank_of_kind k) (rank_of_kind l)).0 same) ∙ kind_at-place l

pub same_kind-refl : (k : Kind) → same_kind k k ≡ true
same_kind-refl k = grind (arith, nat_tests)

both_accepted : (v w : Verdict) → or_next v w ≡ Accepted → (v ≡ Accepted) × (w ≡ Accepted)
both_accepted Accepted w h = (refl, h)
both_accepted (WrongLength covered wanted) w h = cc
both_accepted (NotQuiet cell) w h = cc
both_accepted (WrongStep cell) w h = cc
both_accepted (WrongLevel cell written computed) w h = cc

-- if a choice between acceptance and a fault is acceptance, its test is true
pub accepted_true : {V : Type 0} (b : Bool) (ok v : V) → (v ≡ ok → ⊥) → cond b ok v ≡ ok → b ≡ true
accepted_true true ok v unlike h = refl
accepted_true false ok v unlike h = absurd (unlike h)

-- if a choice between a fault and acceptance is acceptance, its test is false
pub accepted_false : {V : Type 0} (b : Bool) (ok v : V) → (v ≡ ok → ⊥) → cond b v ok ≡ ok → b ≡ false
accepted_false true ok v unlike h = absurd (unlike h)
accepted_false false ok v unlike h = refl

-- if a choice between a verdict and a fault is acceptance, its test is true and the verdict accepts
pub tested : {V : Type 0} (b : Bool) (ok v w : V) → (w ≡ ok → ⊥) → cond b v w ≡ ok → (b ≡ true) × (v ≡ ok)
tested true ok v w unlike h = (refl, h)
tested false ok v w unlike h = absurd (unlike h)

-- if a cell is accepted, its event is the list of the events of its minutes
accepted-event : (c : CurveSpec) (a : ℤ) (number : ℕ) (cell : Cell) → IsLawful c → IsSpan c a (minutes_of cell)
    → cell_verdict c a number cell ≡ Accepted → event_in a cell ≡ plain_list c.track a (minutes_of cell)
unfolding cell_verdict
accepted-event c a number (Quiet n) lawful span ok =
    let quiet = accepted_true (is_quiet c a n) Accepted (NotQuiet number) (λ e. cc) ok in
    sym (plain_list-none c.track a n (quiet-no_event c a n lawful span quiet))
accepted-event c a number Still lawful span ok =
    let still = accepted_false (has_event c.track a) Accepted (WrongStep number) (λ e. cc) ok in
    rw (plain_list-one c.track a, still) refl
accepted-event c a number (Turn kind level) lawful span ok =
    let happens = tested (has_event c.track a) Accepted (step_verdict c a number kind level) (WrongStep number) (λ e. cc) ok in
    let alike = tested (same_kind kind (event_at c.track a).kind) Accepted _ (WrongStep number) (λ e. cc) happens.1 in
    let written = accepted_true (int_eq level (c.track.note a)) Accepted (WrongLevel number level (c.track.note a)) (λ e. cc) alike.1 in
    let k = one_kind kind (event_at c.track a).kind alike.0 in
    let l = (Decides-int_eq level (c.track.note a)).0 written in
    rw (plain_list-one c.track a, happens.0, k, l) refl

accepted-cell_events : (c : CurveSpec) (a : ℤ) (number : ℕ) (cells : List Cell) → IsLawful c
    → IsSpan c a (all_minutes cells) → cells_verdict c a number cells ≡ Accepted
    → cell_events a cells ≡ plain_list c.track a (all_minutes cells)
unfolding cells_verdict cell_events all_minutes
accepted-cell_events c a number [] lawful span ok = sym (plain_list-zero c.track a)
accepted-cell_events c a number (cell ∷ cells) lawful span ok =
    let parts = both_accepted (cell_verdict c a number cell) (cells_verdict c (a +ℤ pos (minutes_of cell)) (suc number) cells) ok in
    let first = span.first in
    let last = span.last in
    let here = accepted-event c a number cell lawful (record { first = first; last = omega (arith, ints) }) parts.0 in
    let rest = accepted-cell_events c (a +ℤ pos (minutes_of cell)) (suc number) cells lawful
    (record { first = omega (arith, ints); last = omega (arith, ints) }) parts.1 in
    rw (here, rest) (sym (plain_list-add c.track a (minutes_of cell) (all_minutes cells)))

-- if the cells of a span are accepted, their events are exactly the events of the span
pub verdict-exact : (c : CurveSpec) (a : ℤ) (n : ℕ) (cells : List Cell) → IsLawful c → IsSpan c a n
    → verdict c a n cells ≡ Accepted → cell_events a cells ≡ plain_list c.track a n
unfolding verdict
verdict-exact c a n cells lawful span ok =
    let whole = tested (all_minutes cells == n) Accepted _ _ (λ e. cc) ok in
    let all : all_minutes cells ≡ n = (Decides-eqb (all_minutes cells) n).0 whole.0 in
    let exact = accepted-cell_events c a 1 cells lawful (rw all span) whole.1 in rw (← all) exact
