-- Consequences of tracks without a fault, and the faults by curves at other minutes.
use Rattle.std.proofs.Common.{◌≡◌, ℕ, ◌≤◌, ◌==◌, ℤ, Bool, true, false, List, Option, Some, None, is_some, option_map, refl, ap, ◌∙◌, arith}
use Rattle.std.specs.Option.{ForSome, option_or}
use Rattle.std.proofs.lemmas.Bool.Decides.{Decides-eqb}
use Rattle.cert_text.specs.declared.track_name.TrackName.{TrackName}
use Rattle.cert_text.specs.declared.track_name.TrackName.TheVariants.{Turn, Slack, Mark}
use Rattle.curve_law.specs.declared.cell.Cell.{Cell}
use Rattle.curve_law.specs.declared.tracks.Tracks.{Tracks}
use Rattle.curve_law.specs.declared.verdict.Verdict.{Verdict}
use Rattle.curve_law.specs.declared.verdict.Verdict.TheVariants.{Accepted, WrongLength, NotQuiet, WrongStep, WrongLevel}
use Rattle.curve_law.specs.Cells.{all_minutes}
use Rattle.curve_law.specs.CurveSpec.{CurveSpec, at_minutes}
use Rattle.curve_law.specs.Verdicts.{verdict}
use Rattle.curve_law.proofs.AgreeLemmas.{verdict-same}
use Rattle.event_list.specs.declared.span.Span.{Span}
use Rattle.event_list.specs.Events.{Followed, IsAccepted, AreAccepted, AreShort, span_minutes}
use Rattle.station_span.specs.declared.rejection.Rejection.{Rejection}
use Rattle.station_span.specs.Rejections.{slack_fault, fault_from, track_fault, rejection_of}
use Rattle.station_span.proofs.CellLemmas.{accepted_if}

-- ---- no fault

none_of : (a b : Option Rejection) → option_or a b ≡ None → (a ≡ None) × (b ≡ None)
none_of None b h = (refl, h)
none_of (Some x) b h = absurd cc

fault_none : (track : TrackName) (v : Verdict) → fault_from track v ≡ None → v ≡ Accepted
fault_none track Accepted h = refl
fault_none track (WrongLength covered wanted) h = absurd cc
fault_none track (NotQuiet cell) h = absurd cc
fault_none track (WrongStep cell) h = absurd cc
fault_none track (WrongLevel cell written computed) h = absurd cc

slack_same : (asked there : Bool) → slack_fault asked there ≡ None → asked ≡ there
slack_same true true h = refl
slack_same true false h = absurd cc
slack_same false true h = absurd cc
slack_same false false h = refl

if_accepted : (s : Span) (track : TrackName) (curve : Option CurveSpec) (cells : Option (List Cell))
    → is_some curve ≡ is_some cells → track_fault s track curve cells ≡ None → IsAccepted s curve cells
if_accepted s track None None same none = tt
if_accepted s track None (Some cells) same none = absurd cc
if_accepted s track (Some c) None same none = absurd cc
if_accepted s track (Some c) (Some cells) same none = fault_none track (verdict c s.begin (span_minutes s) cells) none

pub all_accepted : (f : Followed) (s : Span) (t : Tracks) → is_some f.mark ≡ is_some t.mark → rejection_of f s t ≡ None → AreAccepted f s t
unfolding rejection_of
all_accepted f s t marked none =
    let mark = none_of _ _ none in
    let slack = none_of _ _ mark.0 in
    let turn = none_of _ _ slack.0 in
    record {
      turn = fault_none Turn (verdict f.turn s.begin (span_minutes s) t.turn) turn.1;
      slack = if_accepted s Slack f.slack t.slack (slack_same _ _ turn.0) slack.1;
      mark = if_accepted s Mark f.mark t.mark marked mark.1;
    }

-- ---- accepted tracks are short

verdict_minutes : (c : CurveSpec) (a : ℤ) (n : ℕ) (cells : List Cell) → verdict c a n cells ≡ Accepted → all_minutes cells ≡ n
unfolding verdict
verdict_minutes c a n cells ok = (Decides-eqb (all_minutes cells) n).0 (accepted_if (all_minutes cells == n) _ _ (λ e. cc) ok).0

short_if : (s : Span) (curve : Option CurveSpec) (cells : Option (List Cell)) → span_minutes s ≤ 6000000
    → IsAccepted s curve cells → ForSome cells (λ cells. all_minutes cells ≤ 6000000)
short_if s None (Some cells) few ok x e = absurd ok
short_if s (Some c) (Some cells) few ok x e =
    let same : cells ≡ x = cc in
    let all = verdict_minutes c s.begin (span_minutes s) cells ok in
    rw (← same) (omega (arith, all, few))
short_if s None None few ok x e = absurd cc
short_if s (Some c) None few ok x e = absurd cc

pub tracks_short : (f : Followed) (s : Span) (t : Tracks) → span_minutes s ≤ 6000000 → AreAccepted f s t → AreShort t
tracks_short f s t few ok =
    let all = verdict_minutes f.turn s.begin (span_minutes s) t.turn ok.turn in
    record {
      turn = omega (arith, all, few);
      slack = short_if s f.slack t.slack few ok.slack;
      mark = short_if s f.mark t.mark few ok.mark;
    }

-- ---- curves at other minutes

some_same : (p : CurveSpec → CurveSpec) (o : Option CurveSpec) → is_some (option_map p o) ≡ is_some o
some_same p None = refl
some_same p (Some c) = refl

fault_same : (first last : ℤ) (s : Span) (track : TrackName) (o : Option CurveSpec) (cells : Option (List Cell))
    → track_fault s track (option_map (at_minutes first last) o) cells ≡ track_fault s track o cells
fault_same first last s track None cells = refl
fault_same first last s track (Some c) None = refl
fault_same first last s track (Some c) (Some cells) = ap (fault_from track) (verdict-same c first last s.begin (span_minutes s) cells)

pub rejection_same : (first last : ℤ) (f : Followed) (s : Span) (t : Tracks) → rejection_of (record {
  turn = at_minutes first last f.turn;
  slack = option_map (at_minutes first last) f.slack;
  mark = option_map (at_minutes first last) f.mark;
}) s t ≡ rejection_of f s t
unfolding rejection_of
rejection_same first last f s t =
    let fault : Bool → Option Rejection → Option Rejection → Option Rejection → Option Rejection =
    λ asks turn slack mark. option_or (option_or (option_or (slack_fault asks (is_some t.slack)) turn) slack) mark in
    let turn = track_fault s Turn (Some (at_minutes first last f.turn)) (Some t.turn) in
    let turn' = track_fault s Turn (Some f.turn) (Some t.turn) in
    let slack = track_fault s Slack (option_map (at_minutes first last) f.slack) t.slack in
    let slack' = track_fault s Slack f.slack t.slack in
    let mark = track_fault s Mark (option_map (at_minutes first last) f.mark) t.mark in
    ap (λ asks. fault asks turn slack mark) (some_same (at_minutes first last) f.slack)
    ∙ ap (λ x. fault (is_some f.slack) x slack mark) (fault_same first last s Turn (Some f.turn) (Some t.turn))
    ∙ ap (λ x. fault (is_some f.slack) turn' x mark) (fault_same first last s Slack f.slack t.slack)
    ∙ ap (λ x. fault (is_some f.slack) turn' slack' x) (fault_same first last s Mark f.mark t.mark)
