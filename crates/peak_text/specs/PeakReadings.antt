-- The certificate of a highest water that bytes are the text of, read line by line with parts
-- (readers of some lines); it is proved to follow the grammar (this project).
use Rattle.std.specs.Prelude.{ℕ, List, Result, Ok, Err, Bool, true, false, codes}
use Rattle.cert_text.specs.declared.fault.CertFault.{CertFault as ReadingFault}
use Rattle.cert_text.specs.declared.fault.CertFault.TheVariants as reading
use Rattle.cert_text.specs.ByLine.{Part, ◌>>=◌, returned, line_of, is_word, items_of, read_by}
use Rattle.cert_text.specs.Readings.{last_part}
use Rattle.cert_text.specs.Workings.LineReading.{station_of, moment_after}
use Rattle.highest_water.specs.declared.peak_cell.PeakCell.{PeakCell}
use Rattle.peak_text.specs.declared.certificate.PeakCertificate.{PeakCertificate}
use Rattle.peak_text.specs.declared.fault.PeakFault.{PeakFault}
use Rattle.peak_text.specs.declared.fault.PeakFault.TheVariants.{NoMemory, NotACertificate}
use Rattle.peak_text.specs.PeakTexts.{peak_title}
use Rattle.peak_text.specs.Workings.PeakLineReading.{value_of, cell_of}

-- a part (a reader of some lines) for the cells, one on each line, and the last line, `done`, after
-- which no byte may follow
abbrev pub cells_part : Part (List PeakCell)
cells_part = do
  cells ← items_of cell_of
  last ← last_part
  returned cells

-- a part (a reader of some lines) for a whole certificate of a highest water, up to the end of the
-- text
abbrev pub peak_part : Part PeakCertificate
peak_part = do
  title ← line_of (is_word peak_title)
  station ← line_of station_of
  begin ← line_of (moment_after (codes "begin "))
  end ← line_of (moment_after (codes "end "))
  at ← line_of (moment_after (codes "at "))
  value ← line_of value_of
  cells ← cells_part
  returned (record {
    station = station;
    begin = begin;
    end = end;
    peak = record { at = at; value = value; cells = cells };
  })

-- the fault of this crate for a fault of reading line by line: that memory ran out, or the same
-- line
abbrev pub fault_of : ReadingFault → PeakFault
fault_of reading.NoMemory = NoMemory
fault_of (reading.NotACertificate line) = NotACertificate line

-- the result of reading line by line, with a fault of this crate in place of its fault
abbrev pub with_fault : {C : Type 0} → Result C ReadingFault → Result C PeakFault
with_fault (Ok decoded) = Ok decoded
with_fault (Err fault) = Err (fault_of fault)

-- `peak_of bytes`: the certificate of a highest water with the text `bytes` or, if there is none,
-- the fault with the number, counted from 1, of the first line such that no such certificate begins
-- with the lines up to and including it (one past the last line if the bytes end too early)
unfoldable pub peak_of : List ℕ → Result PeakCertificate PeakFault
peak_of bytes = with_fault (read_by peak_part bytes)

-- true if the fault is that memory ran out
abbrev pub is_out_of_memory : PeakFault → Bool
is_out_of_memory NoMemory = true
is_out_of_memory (NotACertificate line) = false
