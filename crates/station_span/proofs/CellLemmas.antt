-- The cells of a track's curve can be in the track, and have usual levels.
use Rattle.std.proofs.Common.{◌≡◌, ℕ, suc, ◌≤◌, ◌==◌, ℤ, pos, ◌+ℤ◌, Bool, true, false, ◌&&◌, cond, nat_le, List, [], ◌∷◌, length, All, refl, ap, ◌∙◌, arith}
use Rattle.std.specs.Prelude.{unsigned_abs}
use Rattle.std.specs.Ordering.{int_eq}
use Rattle.std.proofs.lemmas.Bool.Decides.{nat_tests, Decides-int_eq, Decides-eqb}
use Rattle.std.proofs.lemmas.Int.{ints}
use Rattle.std.proofs.lemmas.List.Elements.{All-nil, All-cons}
use Rattle.cert_text.specs.declared.track_name.TrackName.{TrackName}
use Rattle.cert_text.specs.Tracks.{track_of}
use Rattle.cert_text.specs.Certificates.{IsCellOf, HasUsualLevel}
use Rattle.curve_law.specs.declared.cell.Cell.{Cell}
use Rattle.curve_law.specs.declared.cell.Cell.TheVariants.{Quiet, Still, Turn}
use Rattle.curve_law.specs.declared.kind.Kind.{Kind}
use Rattle.curve_law.specs.declared.verdict.Verdict.{Verdict}
use Rattle.curve_law.specs.declared.verdict.Verdict.TheVariants.{Accepted, WrongLength, NotQuiet, WrongStep, WrongLevel}
use Rattle.curve_law.specs.Cells.{minutes_of, all_minutes}
use Rattle.curve_law.specs.declared.quiet.TheConstants.{MOST_MINUTES}
use Rattle.curve_law.specs.Cover.{is_quiet}
use Rattle.curve_law.specs.CurveSpec.{CurveSpec, IsMinute, IsSpan}
use Rattle.curve_law.specs.Track.{side_at, has_event, event_at}
use Rattle.curve_law.specs.Verdicts.{same_kind, cell_verdict, or_next, cells_verdict, verdict}
use Rattle.curve_law.proofs.VerdictLemmas.{one_kind}
use Rattle.event_list.specs.declared.span.Span.{Span}
use Rattle.event_list.specs.Events.{span_minutes}

-- the facts of an accepted cell
both_true : (a b : Bool) → (a && b) ≡ true → (a ≡ true) × (b ≡ true)
both_true true true h = (refl, refl)
both_true true false h = (refl, h)
both_true false b h = (h, absurd cc)

both_accepted : (v w : Verdict) → or_next v w ≡ Accepted → (v ≡ Accepted) × (w ≡ Accepted)
both_accepted Accepted w h = (refl, h)
both_accepted (WrongLength covered wanted) w h = cc
both_accepted (NotQuiet cell) w h = cc
both_accepted (WrongStep cell) w h = cc
both_accepted (WrongLevel cell written computed) w h = cc

pub accepted_if : (b : Bool) (v w : Verdict) → (w ≡ Accepted → ⊥) → cond b v w ≡ Accepted → (b ≡ true) × (v ≡ Accepted)
accepted_if true v w unlike h = (refl, h)
accepted_if false v w unlike h = absurd (unlike h)

-- the levels of a curve's events, and their track
pub record IsOf (track : TrackName) (c : CurveSpec) : Type 0 where
  pub rising : track_of c.track.rising ≡ track
  pub falling : track_of c.track.falling ≡ track
  pub small : (m : ℤ) → IsMinute c m → unsigned_abs (c.track.note m) ≤ 11000000000

event_track : (track : TrackName) (c : CurveSpec) (above : Bool) → IsOf track c → track_of (cond above c.track.falling c.track.rising) ≡ track
event_track track c true is = is.falling
event_track track c false is = is.rising

quiet_length : (c : CurveSpec) (a : ℤ) (n : ℕ) → is_quiet c a n ≡ true → (2 ≤ n) × (n ≤ MOST_MINUTES)
unfolding is_quiet
quiet_length c a n quiet =
    let both = both_true _ _ quiet in
    let length = both_true (nat_le 2 n) (nat_le n MOST_MINUTES) both.0 in
    let least = length.0 in
    let most = length.1 in
    (grind (arith, nat_tests), grind (arith, nat_tests))

-- an event that is accepted is the curve's
accepted_event : (c : CurveSpec) (a : ℤ) (number : ℕ) (kind : Kind) (level : ℤ)
    → cell_verdict c a number (Turn kind level) ≡ Accepted
    → (kind ≡ (event_at c.track a).kind) × (level ≡ c.track.note a)
unfolding cell_verdict
accepted_event c a number kind level ok =
    let event = accepted_if (has_event c.track a) _ (WrongStep number) (λ e. cc) ok in
    let alike = accepted_if (same_kind kind (event_at c.track a).kind) _ (WrongStep number) (λ e. cc) event.1 in
    let written = accepted_if (int_eq level (c.track.note a)) _ (WrongLevel number level (c.track.note a)) (λ e. cc) alike.1 in
    (one_kind kind (event_at c.track a).kind alike.0, (Decides-int_eq level (c.track.note a)).0 written.0)

accepted_cell : (track : TrackName) (c : CurveSpec) (a : ℤ) (number : ℕ) (cell : Cell) → IsOf track c → IsMinute c a
    → cell_verdict c a number cell ≡ Accepted → IsCellOf track cell
unfolding cell_verdict
accepted_cell track c a number (Quiet n) is at ok = quiet_length c a n (accepted_if (is_quiet c a n) _ (NotQuiet number) (λ e. cc) ok).0
accepted_cell track c a number Still is at ok = tt
accepted_cell track c a number (Turn kind level) is at ok =
    let event = accepted_event c a number kind level ok in
    let small = is.small a at in
    (ap track_of event.0 ∙ event_track track c (side_at c.track a) is, rw event.1 (omega (arith, small)))

usual_cell : (track : TrackName) (c : CurveSpec) (a : ℤ) (number : ℕ) (cell : Cell) → IsOf track c → IsMinute c a
    → cell_verdict c a number cell ≡ Accepted → HasUsualLevel cell
usual_cell track c a number (Quiet n) is at ok = tt
usual_cell track c a number Still is at ok = tt
usual_cell track c a number (Turn kind level) is at ok = rw (accepted_event c a number kind level ok).1 (is.small a at)

-- a fact of each accepted cell, if it holds of one
abbrev IfAccepted : CurveSpec → (Cell → Type 0) → Type 0
IfAccepted c P = (a : ℤ) (number : ℕ) (cell : Cell) → IsMinute c a → cell_verdict c a number cell ≡ Accepted → P cell

accepted_cells : (P : Cell → Type 0) (c : CurveSpec) (a : ℤ) (number : ℕ) (cells : List Cell) → IfAccepted c P
    → IsSpan c a (all_minutes cells) → cells_verdict c a number cells ≡ Accepted → All P cells
unfolding cells_verdict all_minutes
accepted_cells P c a number [] each span ok = All-nil P
accepted_cells P c a number (cell ∷ cells) each span ok =
    let parts = both_accepted (cell_verdict c a number cell) (cells_verdict c (a +ℤ pos (minutes_of cell)) (suc number) cells) ok in
    let first = span.first in
    let last = span.last in
    All-cons P cell cells
    (each a number cell (record { first = first; last = omega (arith, ints) }) parts.0)
    (accepted_cells P c (a +ℤ pos (minutes_of cell)) (suc number) cells each
    (record { first = omega (arith, ints); last = omega (arith, ints) }) parts.1)

accepted_all : (P : Cell → Type 0) (c : CurveSpec) (s : Span) (cells : List Cell) → IfAccepted c P
    → IsSpan c s.begin (span_minutes s) → verdict c s.begin (span_minutes s) cells ≡ Accepted → All P cells
unfolding verdict
accepted_all P c s cells each span ok =
    let whole = accepted_if (all_minutes cells == span_minutes s) _ _ (λ e. cc) ok in
    let all : all_minutes cells ≡ span_minutes s = (Decides-eqb (all_minutes cells) (span_minutes s)).0 whole.0 in
    accepted_cells P c s.begin 1 cells each (rw all span) whole.1

pub accepted_track : (track : TrackName) (c : CurveSpec) (s : Span) (cells : List Cell) → IsOf track c
    → IsSpan c s.begin (span_minutes s) → verdict c s.begin (span_minutes s) cells ≡ Accepted
    → All (IsCellOf track) cells
accepted_track track c s cells is span ok =
    accepted_all (IsCellOf track) c s cells (λ a number cell at right. accepted_cell track c a number cell is at right) span ok

pub usual_track : (track : TrackName) (c : CurveSpec) (s : Span) (cells : List Cell) → IsOf track c
    → IsSpan c s.begin (span_minutes s) → verdict c s.begin (span_minutes s) cells ≡ Accepted → All HasUsualLevel cells
usual_track track c s cells is span ok =
    accepted_all HasUsualLevel c s cells (λ a number cell at right. usual_cell track c a number cell is at right) span ok

-- ---- no more cells than minutes

accepted_least : (c : CurveSpec) (a : ℤ) (number : ℕ) (cell : Cell) → cell_verdict c a number cell ≡ Accepted → 1 ≤ minutes_of cell
unfolding cell_verdict
accepted_least c a number (Quiet n) ok =
    let least = (quiet_length c a n (accepted_if (is_quiet c a n) _ (NotQuiet number) (λ e. cc) ok).0).0 in omega (arith, least)
accepted_least c a number Still ok = omega arith
accepted_least c a number (Turn kind level) ok = omega arith

few_cells : (c : CurveSpec) (a : ℤ) (number : ℕ) (cells : List Cell) → cells_verdict c a number cells ≡ Accepted
    → length cells ≤ all_minutes cells
unfolding cells_verdict all_minutes
few_cells c a number [] ok = omega arith
few_cells c a number (cell ∷ cells) ok =
    let parts = both_accepted (cell_verdict c a number cell) (cells_verdict c (a +ℤ pos (minutes_of cell)) (suc number) cells) ok in
    let one = accepted_least c a number cell parts.0 in
    let more = few_cells c (a +ℤ pos (minutes_of cell)) (suc number) cells parts.1 in
    omega (arith, one, more)

pub few_track : (c : CurveSpec) (s : Span) (cells : List Cell) → verdict c s.begin (span_minutes s) cells ≡ Accepted
    → length cells ≤ span_minutes s
unfolding verdict
few_track c s cells ok =
    let whole = accepted_if (all_minutes cells == span_minutes s) _ _ (λ e. cc) ok in
    let all : all_minutes cells ≡ span_minutes s = (Decides-eqb (all_minutes cells) (span_minutes s)).0 whole.0 in
    rw (← all) (few_cells c s.begin 1 cells whole.1)
