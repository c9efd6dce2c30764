use Rattle.std.proofs.Common.{◌≡◌, ◌≤◌, length}
use Rattle.ical_sheet.specs.Folding.{ends_at, greatest, prefix_length}
use Rattle.ical_sheet.proofs.folding.prefix_length.Given as goal

abbrev pub invariant-loop-end : goal.invariant-loop-end
invariant-loop-end l = record {
  within : l.end ≤ length l.text;
  found : prefix_length l.most l.text ≡ greatest (ends_at l.text) l.end;
}

abbrev pub decreases-loop-end : goal.decreases-loop-end
decreases-loop-end l = l.end
