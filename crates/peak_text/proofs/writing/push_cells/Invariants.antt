use Rattle.std.proofs.Common.{◌≡◌, ◌++◌, map, take}
use Rattle.cert_text.specs.Texts.{joined}
use Rattle.peak_text.specs.PeakTexts.{peak_cell_line_of}
use Rattle.peak_text.proofs.writing.push_cells.Given as goal

abbrev pub invariant-loop-cell : goal.invariant-loop-cell
invariant-loop-cell l = l.out.items ≡ l.fn.out.items ++ joined (map peak_cell_line_of (take l.cell-index l.cells))
