use Rattle.std.proofs.Common.{◌≡◌, ◌++◌, take, slice_index}
use Rattle.std.specs.List.{flat_map}
use Rattle.report_sheets.specs.Tallies.{count_line, names, word_index}
use Rattle.report_sheets.proofs.tally.push_counts.Given as goal

abbrev pub invariant-loop-word : goal.invariant-loop-word
invariant-loop-word l =
    l.text.items ≡ l.fn.text.items ++ flat_map (λ word. count_line (slice_index l.counts (word_index word)) word) (take l.word-index names)
