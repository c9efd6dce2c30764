-- The line that reports a reason (this project).
use Rattle.std.specs.Prelude.{◌≡◌, ◌⊎◌, ℕ, Bool, false, List, codes}
use Rattle.tide_edge.specs.SinkStates.{SinkState, Wrote}
use Rattle.tide_fault.specs.declared.status.Status.{Status}
use Rattle.tide_fault.specs.declared.status.Status.TheVariants.{NoMemory}
use Rattle.named_files.specs.declared.run_fault.RunFault.{RunFault}
use Rattle.named_files.specs.RunFaults.{status_of, line_of, is_unread}

-- the line was written, or a write failed and only its first bytes were written
abbrev pub WroteLine : SinkState → SinkState → List ℕ → Type 0
WroteLine before after line = (failed : Bool) × Wrote before after failed line

-- the status is `own` and `line` was written; or the status is NoMemory and the line `no memory` was
-- written
abbrev pub ReportsFault : Status → List ℕ → Status → SinkState → SinkState → Type 0
ReportsFault own line status before after =
    ((status ≡ own) × WroteLine before after line) ⊎ ((status ≡ NoMemory) × WroteLine before after (codes "no memory\n"))

-- the status and the written line are the ones for `none`, the reason why there is no answer; or both
-- say that memory ran out, which is possible unless a file or the clock couldn't be read
abbrev pub Reports : RunFault → Status → SinkState → SinkState → Type 0
Reports none status before after =
    ((status ≡ status_of none) × WroteLine before after (line_of none))
    ⊎ ((status ≡ NoMemory) × (is_unread none ≡ false) × WroteLine before after (codes "no memory\n"))
