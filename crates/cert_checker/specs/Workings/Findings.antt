-- The verdict on a cell, as the code computes it. No public clause cites this.
use Rattle.std.specs.Prelude.{ℕ, ℤ, Bool, if◌then◌else◌}
use Rattle.std.specs.Ordering.{int_eq}
use Rattle.curve_law.specs.declared.cell.Cell.{Cell}
use Rattle.curve_law.specs.declared.cell.Cell.TheVariants.{Quiet, Still, Turn}
use Rattle.curve_law.specs.declared.kind.Kind.{Kind}
use Rattle.curve_law.specs.declared.verdict.Verdict.{Verdict}
use Rattle.curve_law.specs.declared.verdict.Verdict.TheVariants.{Accepted, NotQuiet, WrongStep, WrongLevel}
use Rattle.curve_law.specs.Verdicts.{same_kind}

-- the verdict on the cell with this number, which claims to be quiet; the Bool says whether it is
abbrev pub quiet_finding : ℕ → Bool → Verdict
quiet_finding number is_quiet = if is_quiet then Accepted else NotQuiet number

-- the verdict on an event's level in the cell with this number: claimed (`written`) and the track's
-- (`computed`)
abbrev pub level_finding : ℕ → ℤ → ℤ → Verdict
level_finding number written computed =
    if int_eq written computed then Accepted else WrongLevel number written computed

-- the verdict on an event's kind and level in the cell with this number: claimed (`kind`,
-- `written`) and the track's (`right_kind`, `computed`)
abbrev pub turn_finding : ℕ → Kind → ℤ → Kind → ℤ → Verdict
turn_finding number kind written right_kind computed =
    if same_kind kind right_kind then level_finding number written computed else WrongStep number

-- the verdict on the cell with this number if it is a cell of one minute; the last argument is the
-- correct cell of this minute
abbrev pub unit_finding : ℕ → Cell → Cell → Verdict
unit_finding number Still Still = Accepted
unit_finding number Still (Quiet n) = WrongStep number
unit_finding number Still (Turn kind level) = WrongStep number
unit_finding number (Quiet n) right = WrongStep number
unit_finding number (Turn kind level) Still = WrongStep number
unit_finding number (Turn kind level) (Quiet n) = WrongStep number
unit_finding number (Turn kind written) (Turn right_kind computed) = turn_finding number kind written right_kind computed
