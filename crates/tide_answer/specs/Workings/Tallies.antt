-- Bounds of a trial's counts.
use Rattle.std.specs.Prelude.{ℕ, ◌≤◌}
use Rattle.tide_answer.specs.declared.tally.Tally.{Tally}

-- each count of the trial is at most `most`
pub record IsUpTo (most : ℕ) (tally : Tally) : Type 0 where
  pub minutes : tally.minutes ≤ most
  pub events : tally.events ≤ most
  pub cells : tally.cells ≤ most
  pub quiet : tally.quiet ≤ most
  pub accepted : tally.accepted ≤ most
