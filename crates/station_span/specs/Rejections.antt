-- The faults of a certificate's tracks, and the line that reports one (this project).
use Rattle.std.specs.Prelude.{ℕ, ◌<◌, ◌^◌, Bool, true, false, List, ◌++◌, length, codes, decimal, Option, Some, None, is_some}
use Rattle.std.specs.Option.{option_or, ForSome}
use Rattle.std.specs.Fmt.{signed_decimal}
use Rattle.cert_text.specs.declared.track_name.TrackName.{TrackName}
use Rattle.cert_text.specs.declared.track_name.TrackName.TheVariants.{Turn, Slack, Mark}
use Rattle.cert_text.specs.Tracks.{track_word}
use Rattle.curve_law.specs.declared.cell.Cell.{Cell}
use Rattle.curve_law.specs.declared.tracks.Tracks.{Tracks}
use Rattle.curve_law.specs.declared.verdict.Verdict.{Verdict}
use Rattle.curve_law.specs.declared.verdict.Verdict.TheVariants.{Accepted, WrongLength, NotQuiet, WrongStep, WrongLevel}
use Rattle.curve_law.specs.CurveSpec.{CurveSpec}
use Rattle.curve_law.specs.Verdicts.{verdict}
use Rattle.event_list.specs.declared.span.Span.{Span}
use Rattle.event_list.specs.Events.{Followed, span_minutes}
use Rattle.station_span.specs.declared.rejection.Rejection.{Rejection}
use Rattle.station_span.specs.declared.rejection.Rejection.TheVariants.{SlackWanted, SlackNotWanted, Track}

-- ---- the line

-- the text `: cell N` for the number of a cell, counted from 1
abbrev pub cell_text : ℕ → List ℕ
cell_text cell = codes ": cell " ++ decimal cell

-- the end of the line that rejects a track: what the verdict says about the track's cells
unfoldable pub finding_text : Verdict → List ℕ
finding_text Accepted = codes ": accepted\n"
finding_text (WrongLength covered wanted) =
    (codes ": cells cover " ++ signed_decimal covered) ++ (codes " of " ++ signed_decimal wanted ++ codes " minutes\n")
finding_text (NotQuiet cell) = cell_text cell ++ codes " is not quiet\n"
finding_text (WrongStep cell) = cell_text cell ++ codes " has the wrong step\n"
finding_text (WrongLevel cell written computed) =
    cell_text cell ++ (codes " has level " ++ signed_decimal written) ++ (codes ", computed " ++ signed_decimal computed ++ codes "\n")

-- the line, with its LF, that says why a certificate is rejected
unfoldable pub rejection_line : Rejection → List ℕ
rejection_line SlackWanted = codes "Rejected: slack track wanted\n"
rejection_line SlackNotWanted = codes "Rejected: slack track not wanted\n"
rejection_line (Track track finding) = codes "Rejected: track " ++ track_word track ++ finding_text finding

-- ---- the first fault

-- the fault of the slack track, or None: the first Bool says whether the track is required, the second
-- whether the certificate has it
abbrev pub slack_fault : Bool → Bool → Option Rejection
slack_fault true false = Some SlackWanted
slack_fault false true = Some SlackNotWanted
slack_fault true true = None
slack_fault false false = None

-- the fault of a track for the verdict on its cells, or None if the verdict accepts them
abbrev pub fault_from : TrackName → Verdict → Option Rejection
fault_from track Accepted = None
fault_from track finding = Some (Track track finding)

-- the fault of a track over the minutes of `span`, or None if its cells cover the span and agree
-- with the curve, or if there is no curve or no list of cells
abbrev pub track_fault : Span → TrackName → Option CurveSpec → Option (List Cell) → Option Rejection
track_fault span track (Some curve) (Some cells) = fault_from track (verdict curve span.begin (span_minutes span) cells)
track_fault span track _ _ = None

-- the first fault of `tracks`, a certificate's cells for each curve, over the minutes of `span`, or
-- None if they are right: first, the track of slack waters is present exactly if its curve is;
-- then, in turn, the cells of each track cover the span and agree with its curve
unfoldable pub rejection_of : Followed → Span → Tracks → Option Rejection
rejection_of curves span tracks =
    option_or (option_or (option_or
    (slack_fault (is_some curves.slack) (is_some tracks.slack))
    (track_fault span Turn (Some curves.turn) (Some tracks.turn)))
    (track_fault span Slack curves.slack tracks.slack))
    (track_fault span Mark curves.mark tracks.mark)

-- each track of a certificate has fewer than 2^32 cells
pub record HasFewCells (tracks : Tracks) : Type 0 where
  pub turn : length tracks.turn < 2 ^ 32
  pub slack : ForSome tracks.slack (λ cells. length cells < 2 ^ 32)
  pub mark : ForSome tracks.mark (λ cells. length cells < 2 ^ 32)
