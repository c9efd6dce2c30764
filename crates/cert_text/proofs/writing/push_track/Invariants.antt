use Rattle.std.proofs.Common.{◌≡◌, ◌++◌, take}
use Rattle.cert_text.specs.Lines.{joined, track_lines_of}
use Rattle.cert_text.proofs.writing.push_track.Given as goal

abbrev pub invariant-loop-cell : goal.invariant-loop-cell
invariant-loop-cell l = l.out.items ≡ l.fn.out.items ++ joined (track_lines_of l.fn.track (take l.cell-index l.cells))
