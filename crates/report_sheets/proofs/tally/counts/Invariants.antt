use Rattle.std.proofs.Common.{◌≡◌, ℕ, ◌<◌, length, take, slice_index}
use Rattle.report_sheets.specs.Tallies.{count_at}
use Rattle.report_sheets.proofs.tally.counts.Given as goal

abbrev pub invariant-loop-event : goal.invariant-loop-event
invariant-loop-event l = record {
  ten : length l.counts ≡ 10;
  counted : (index : ℕ) → index < 10 → slice_index l.counts index ≡ count_at l.units (take l.event-index l.events) index;
}
