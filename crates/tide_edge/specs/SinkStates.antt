-- The bytes that a sink has accepted, and what calls and the writing of whole texts change (this
-- project).
use Rattle.std.specs.Prelude.{◌≡◌, ℕ, ◌<◌, Bool, true, false, List, ◌++◌, length, take, Result, Ok, Err}
use Rattle.tide_edge.specs.declared.failed.Failed.{Failed}
use Rattle.tide_edge.specs.Faults.{counted}

-- The state of a sink. `accepted`: all bytes that its calls reported as accepted; `faults`: the
-- number of failed calls, which saturates at the greatest `u64`.
pub record SinkState : Type 0 where
  pub accepted : List ℕ
  pub faults : ℕ

-- The sink after `bytes` were accepted: they are appended to the accepted ones.
abbrev pub put : List ℕ → SinkState → SinkState
put bytes s = record s { accepted = s.accepted ++ bytes }

-- The sink after a failed call, which is counted; no byte was accepted.
abbrev pub sink_failed : SinkState → SinkState
sink_failed s = record s { faults = counted s.faults }

-- The sink after `write` of `piece` with this result: its first bytes, as many as the count says,
-- were accepted; or the failure is counted.
abbrev pub sink_after_write : Result ℕ Failed → List ℕ → SinkState → SinkState
sink_after_write (Ok count) piece s = put (take count piece) s
sink_after_write (Err failed) piece s = sink_failed s

-- `Wrote before after failed text`: the sink `after` is the sink `before` after a text was written.
-- If `failed` is false, all of the text was accepted. If it is true, a proper prefix of it was
-- accepted, then one write failed, and nothing was written after that.
abbrev pub Wrote : SinkState → SinkState → Bool → List ℕ → Type 0
Wrote before after false text = after ≡ put text before
Wrote before after true text = (count : ℕ) × (count < length text) × (after ≡ sink_failed (put (take count text) before))

-- `WroteBoth before after first second`: the sink `after` is the sink `before` after two texts were
-- written one after the other (`Wrote`). Each was accepted wholly or in part; the second was
-- written whether or not the first failed.
abbrev pub WroteBoth : SinkState → SinkState → List ℕ → List ℕ → Type 0
WroteBoth before after first second =
    (between : SinkState) × (failed also_failed : Bool) × Wrote before between failed first × Wrote between after also_failed second
