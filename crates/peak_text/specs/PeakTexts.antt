-- The text of a certificate of a highest water: lines of words and whole numbers, each ended by LF
-- (this project).
use Rattle.std.specs.Prelude.{ℕ, ◌<◌, ◌≤◌, ◌^◌, ℤ, unsigned_abs, List, [], ◌∷◌, ◌++◌, map, All, codes, decimal}
use Rattle.std.specs.Fmt.{signed_decimal}
use Rattle.zone_time.specs.Moments.{IsMoment, moment_text}
use Rattle.cert_text.specs.Certificates.{IsStationName}
use Rattle.cert_text.specs.Lines.{station_lines_of, last_line}
use Rattle.cert_text.specs.Texts.{joined}
use Rattle.curve_law.specs.declared.quiet.TheConstants.{MOST_MINUTES}
use Rattle.peak_text.specs.declared.certificate.PeakCertificate.{PeakCertificate}
use Rattle.highest_water.specs.declared.peak_cell.PeakCell.{PeakCell}
use Rattle.highest_water.specs.declared.peak_cell.PeakCell.TheVariants.{Under, Single}

-- ---- the ranges of a certificate's parts

-- `IsPeakValue value`: the value of a highest water is below 10^37 in size; its unit is 10^-21 of
-- the reference station's unit, times 4,147,200,000 (the total weight of a blend)
abbrev pub IsPeakValue : ℤ → Type 0
IsPeakValue value = unsigned_abs value < 10 ^ 37

-- `IsPeakCell cell`: the cell has a line in a certificate: if it is under the highest water
-- (consecutive minutes with no higher value), it has 2 to 1,024 minutes; a cell of one minute
-- always has a line
abbrev pub IsPeakCell : PeakCell → Type 0
IsPeakCell (Under n) = (2 ≤ n) × (n ≤ MOST_MINUTES)
IsPeakCell Single = Unit {0}

-- `IsPeakCertificate c`: the certificate of a highest water has a text: its name is UTF-8 of 1 to
-- 400 bytes without ASCII control bytes, its minutes are in the years 1 to 9999, its value is below
-- 10^37 in size, and each cell under the highest water has 2 to 1,024 minutes
pub record IsPeakCertificate (c : PeakCertificate) : Type 0 where
  pub station : IsStationName c.station
  pub begin : IsMoment c.begin
  pub end : IsMoment c.end
  pub at : IsMoment c.peak.at
  pub value : IsPeakValue c.peak.value
  pub cells : All IsPeakCell c.peak.cells

-- ---- the lines

-- the first line of a certificate of a highest water, `peak certificate 1`, without its LF
unfoldable pub peak_title : List ℕ
peak_title = codes "peak certificate 1"

-- the line with the minute `m` of the highest water, counted from 1970-01-01T00:00Z, such as
-- `at 2000-01-10T00:00Z`, without its LF
unfoldable pub at_line_of : ℤ → List ℕ
at_line_of m = codes "at " ++ moment_text m

-- the line with the highest water's value, such as `value -12`, without its LF; its unit is 10^-21
-- of the reference station's unit, times 4,147,200,000 (the total weight of a blend)
unfoldable pub value_line_of : ℤ → List ℕ
value_line_of value = codes "value " ++ signed_decimal value

-- the line of a cell, without its LF: `u 1024` if it is under the highest water for 1,024 minutes,
-- `m` if it is one minute
unfoldable pub peak_cell_line_of : PeakCell → List ℕ
peak_cell_line_of (Under n) = codes "u " ++ decimal n
peak_cell_line_of Single = codes "m"

-- a line for each cell, and then the last line, `done`, without their LF
abbrev pub cell_lines_of : List PeakCell → List (List ℕ)
cell_lines_of cells = map peak_cell_line_of cells ++ last_line ∷ []

-- the first six lines of a certificate, without their LF: the title, the station, the first minute
-- and the end of the span, and the minute and the value of the highest water
abbrev pub peak_head_lines_of : PeakCertificate → List (List ℕ)
peak_head_lines_of c =
    peak_title ∷ (station_lines_of c.station c.begin c.end ++ at_line_of c.peak.at ∷ value_line_of c.peak.value ∷ [])

-- all lines of a certificate of a highest water, without their LF
abbrev pub peak_lines_of : PeakCertificate → List (List ℕ)
peak_lines_of c = peak_head_lines_of c ++ cell_lines_of c.peak.cells

-- ---- the text

-- the text of a certificate of a highest water: all its lines, each with its LF
unfoldable pub peak_text : PeakCertificate → List ℕ
peak_text c = joined (peak_lines_of c)
