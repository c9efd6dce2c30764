-- The lines of a certificate of a highest water spell it, and no other lines do.
use Rattle.std.proofs.Common.{◌≡◌, ℕ, List, [], ◌∷◌, refl, ap, ◌∙◌}
use Rattle.std.specs.List.{AllByRecursion}
use Rattle.std.proofs.lemmas.List.Elements.{recursion_from_All, All-from_recursion}
use Rattle.cert_text.specs.Lines.{station_line_of, begin_line_of, end_line_of, last_line}
use Rattle.peak_text.specs.declared.certificate.PeakCertificate.{PeakCertificate}
use Rattle.highest_water.specs.declared.peak_cell.PeakCell.{PeakCell}
use Rattle.highest_water.specs.declared.peak_cell.PeakCell.TheVariants.{Under, Single}
use Rattle.peak_text.specs.PeakTexts.{IsPeakCell, IsPeakCertificate, peak_title, at_line_of, value_line_of, peak_cell_line_of, cell_lines_of, peak_lines_of}
use Rattle.peak_text.specs.PeakSpelling.{SpellsPeakCell, SpellsPeakCells, SpellsPeak}

-- ---- a certificate's lines spell it

cell_spelled : (c : PeakCell) → IsPeakCell c → SpellsPeakCell c (peak_cell_line_of c)
unfolding peak_cell_line_of
cell_spelled (Under n) h = (h.0, h.1, refl)
cell_spelled Single h = refl

cells_spelled : (cs : List PeakCell) → AllByRecursion IsPeakCell cs → SpellsPeakCells cs (cell_lines_of cs)
unfolding last_line
cells_spelled [] h = (refl, refl)
cells_spelled (c ∷ cs) h = (cell_spelled c h.0, cells_spelled cs h.1)

pub spells-peak_lines_of : (c : PeakCertificate) → IsPeakCertificate c → SpellsPeak c (peak_lines_of c)
unfolding peak_title station_line_of begin_line_of end_line_of at_line_of value_line_of
spells-peak_lines_of c h = (
  refl,
  (h.station, refl),
  (h.begin, refl),
  (h.end, refl),
  (h.at, refl),
  (h.value, refl),
  cells_spelled c.peak.cells (recursion_from_All IsPeakCell c.peak.cells h.cells),
)

-- ---- and no others

cell_is : (c : PeakCell) (line : List ℕ) → SpellsPeakCell c line → IsPeakCell c × (line ≡ peak_cell_line_of c)
unfolding peak_cell_line_of
cell_is (Under n) line h = ((h.0, h.1), h.2)
cell_is Single line h = (tt, h)

cells_are : (cs : List PeakCell) (lines : List (List ℕ)) → SpellsPeakCells cs lines
    → AllByRecursion IsPeakCell cs × (lines ≡ cell_lines_of cs)
unfolding last_line
cells_are [] [] h = absurd h
cells_are (c ∷ cs) [] h = absurd h
cells_are [] (l ∷ ls) h = (tt, ap (λ x. x ∷ ls) h.0 ∙ ap (λ xs. last_line ∷ xs) h.1)
cells_are (c ∷ cs) (l ∷ ls) h =
    let one = cell_is c l h.0 in let more = cells_are cs ls h.1 in
    ((one.0, more.0), ap (λ x. x ∷ ls) one.1 ∙ ap (λ xs. peak_cell_line_of c ∷ xs) more.1)

pub peak_lines_of-spelled : (c : PeakCertificate) (lines : List (List ℕ)) → SpellsPeak c lines
    → IsPeakCertificate c × (lines ≡ peak_lines_of c)
unfolding peak_title station_line_of begin_line_of end_line_of at_line_of value_line_of
peak_lines_of-spelled c [] h = absurd h
peak_lines_of-spelled c (t ∷ []) h = absurd h
peak_lines_of-spelled c (t ∷ s ∷ []) h = absurd h
peak_lines_of-spelled c (t ∷ s ∷ b ∷ []) h = absurd h
peak_lines_of-spelled c (t ∷ s ∷ b ∷ e ∷ []) h = absurd h
peak_lines_of-spelled c (t ∷ s ∷ b ∷ e ∷ a ∷ []) h = absurd h
peak_lines_of-spelled c (t ∷ s ∷ b ∷ e ∷ a ∷ v ∷ ls) h =
    let cells = cells_are c.peak.cells ls h.6 in (
      record {
        station = h.1.0;
        begin = h.2.0;
        end = h.3.0;
        at = h.4.0;
        value = h.5.0;
        cells = All-from_recursion IsPeakCell c.peak.cells cells.0;
      },
      rw (h.0, h.1.1, h.2.1, h.3.1, h.4.1, h.5.1, cells.1) refl,
    )
