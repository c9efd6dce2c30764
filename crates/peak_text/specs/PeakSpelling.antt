-- The grammar of certificates of a highest water: which lines spell a certificate, and at which
-- line bytes stop following the grammar (this project). A line is without its LF.
use Rattle.std.specs.Prelude.{◌≡◌, ℕ, ◌≤◌, ℤ, List, [], ◌∷◌, ◌++◌, Result, Ok, Err, codes, decimal}
use Rattle.std.specs.Fmt.{signed_decimal}
use Rattle.cert_text.specs.Spelling.{SpellsStation, SpellsMoment}
use Rattle.cert_text.specs.Texts.{IsTextBy, IsFaultBy, RefusedBy}
use Rattle.curve_law.specs.declared.quiet.TheConstants.{MOST_MINUTES}
use Rattle.peak_text.specs.declared.certificate.PeakCertificate.{PeakCertificate}
use Rattle.peak_text.specs.declared.fault.PeakFault.{PeakFault}
use Rattle.peak_text.specs.declared.fault.PeakFault.TheVariants.{NoMemory, NotACertificate}
use Rattle.highest_water.specs.declared.peak_cell.PeakCell.{PeakCell}
use Rattle.highest_water.specs.declared.peak_cell.PeakCell.TheVariants.{Under, Single}
use Rattle.peak_text.specs.PeakTexts.{IsPeakValue}

-- ---- the lines of a certificate

-- `SpellsValue value line`: `line` is `value ` and the value of a highest water, a whole number
-- below 10^37 in size. Its unit is 10^-21 of the reference station's unit, times 4,147,200,000 (the
-- total weight of a blend).
abbrev pub SpellsValue : ℤ → List ℕ → Type 0
SpellsValue value line = IsPeakValue value × (line ≡ codes "value " ++ signed_decimal value)

-- `SpellsPeakCell cell line`: `line` is `u ` and a number of minutes from 2 to 1,024, for a cell
-- that is under the highest water, or `m`, for a cell of one minute
abbrev pub SpellsPeakCell : PeakCell → List ℕ → Type 0
SpellsPeakCell (Under n) line = (2 ≤ n) × (n ≤ MOST_MINUTES) × (line ≡ codes "u " ++ decimal n)
SpellsPeakCell Single line = line ≡ codes "m"

-- `SpellsPeakCells cells lines`: `lines` are a line for each cell and then the last line, `done`
abbrev pub SpellsPeakCells : List PeakCell → List (List ℕ) → Type 0
SpellsPeakCells cells [] = ⊥
SpellsPeakCells [] (line ∷ lines) = (line ≡ codes "done") × (lines ≡ [])
SpellsPeakCells (cell ∷ cells) (line ∷ lines) = SpellsPeakCell cell line × SpellsPeakCells cells lines

-- `SpellsPeak c lines`: the grammar of certificates of a highest water: `lines`, each without its
-- LF, are in this order the lines of title, station, first minute and end of the span, minute and
-- value of the highest water, cells, and `done`, and each is the line of a value in its range
abbrev pub SpellsPeak : PeakCertificate → List (List ℕ) → Type 0
SpellsPeak c (title ∷ station ∷ begin ∷ end ∷ at ∷ value ∷ cells) =
    (title ≡ codes "peak certificate 1") × SpellsStation c.station station
    × SpellsMoment (codes "begin ") c.begin begin × SpellsMoment (codes "end ") c.end end
    × SpellsMoment (codes "at ") c.peak.at at × SpellsValue c.peak.value value × SpellsPeakCells c.peak.cells cells
SpellsPeak c (title ∷ station ∷ begin ∷ end ∷ at ∷ []) = ⊥
SpellsPeak c (title ∷ station ∷ begin ∷ end ∷ []) = ⊥
SpellsPeak c (title ∷ station ∷ begin ∷ []) = ⊥
SpellsPeak c (title ∷ station ∷ []) = ⊥
SpellsPeak c (title ∷ []) = ⊥
SpellsPeak c [] = ⊥

-- ---- the text of a certificate, and the line at which bytes stop being one

-- `IsPeakTextOf c bytes`: `bytes` are the text of the certificate `c` of a highest water: its
-- lines, each with its LF, and nothing more
abbrev pub IsPeakTextOf : PeakCertificate → List ℕ → Type 0
IsPeakTextOf c bytes = IsTextBy SpellsPeak c bytes

-- `IsPeakFaultLine bytes line`: `line` is the least number such that `bytes` have fewer than `line`
-- lines ended by LF, or no certificate of a highest water begins with the first `line` of them. If
-- `bytes` are the text of one, `line` is one past the last line.
abbrev pub IsPeakFaultLine : List ℕ → ℕ → Type 0
IsPeakFaultLine bytes line = IsFaultBy SpellsPeak bytes line

-- ---- the result of reading

-- `RefusesPeak bytes fault`: the fault of reading `bytes` is right: if it names a line, `bytes` are
-- the text of no certificate of a highest water, and this is the first line such that none begins
-- with the lines up to it; the fault that memory ran out is always right
abbrev pub RefusesPeak : List ℕ → PeakFault → Type 0
RefusesPeak bytes NoMemory = Unit {0}
RefusesPeak bytes (NotACertificate line) = RefusedBy SpellsPeak bytes line

-- `ReadsPeak bytes result`: the result of reading `bytes` is right: the certificate of a highest
-- water that they are the text of; or, if there is none, the first line such that no certificate
-- begins with the lines up to it; or that memory ran out
abbrev pub ReadsPeak : List ℕ → Result PeakCertificate PeakFault → Type 0
ReadsPeak bytes (Ok c) = IsPeakTextOf c bytes
ReadsPeak bytes (Err fault) = RefusesPeak bytes fault
