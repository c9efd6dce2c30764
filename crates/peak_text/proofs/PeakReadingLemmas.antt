-- Reading bytes returns the certificate of a highest water that they are the text of, or the first
-- line with which no certificate goes on.
use Rattle.std.proofs.Common.{◌≡◌, ℕ, ◌+◌, List, [], ◌∷◌, ◌++◌, codes, Result, Ok, Err, ℤ, pos, refl, sym, ap, ◌∙◌, subst, lit<}
use Rattle.std.specs.Prelude.{IfOk, IsErrAnd}
use Rattle.std.specs.Fmt.{signed_decimal}
use Rattle.decimal_text.specs.Expected.{EqualsUnlessNoMemory}
use Rattle.cert_text.specs.declared.fault.CertFault.{CertFault as ReadingFault}
use Rattle.cert_text.specs.declared.fault.CertFault.TheVariants as reading
use Rattle.cert_text.specs.Lines.{last_line}
use Rattle.cert_text.specs.Texts.{joined, ReadsBy}
use Rattle.cert_text.specs.ByLine.{Place, Part, ◌>>=◌, returned, line_of, is_word, items_at, read_by, is_out_of_memory as reading_is_out_of_memory}
use Rattle.cert_text.specs.Workings.LineReading.{station_of, moment_after}
use Rattle.cert_text.proofs.PartLemmas.{Lines, at, IsReader, Mean, items_reader, mapped_reader, word_is, word_read}
use Rattle.cert_text.proofs.ByLineLemmas as by_line
use Rattle.cert_text.proofs.ByLineLemmas.{IsReaderOf}
use Rattle.cert_text.proofs.CutLemmas.{AreFree}
use Rattle.cert_text.proofs.LineLemmas.{station_is, station_read, moment_is, moment_read}
use Rattle.cert_text.proofs.ReadingLemmas.{then_reader, moment_reader, station_reader, last_tail, last_reader}
use Rattle.peak_text.specs.declared.certificate.PeakCertificate.{PeakCertificate}
use Rattle.peak_text.specs.declared.fault.PeakFault.{PeakFault}
use Rattle.peak_text.specs.declared.fault.PeakFault.TheVariants.{NoMemory, NotACertificate}
use Rattle.highest_water.specs.declared.peak_cell.PeakCell.{PeakCell}
use Rattle.peak_text.specs.PeakTexts.{IsPeakCertificate, peak_title, peak_lines_of, peak_text}
use Rattle.peak_text.specs.PeakSpelling.{SpellsPeakCells, SpellsPeak, IsPeakTextOf, ReadsPeak}
use Rattle.peak_text.specs.PeakReadings.{cells_part, peak_part, fault_of, with_fault, peak_of, is_out_of_memory}
use Rattle.peak_text.specs.Workings.PeakLineReading.{value_of, cell_of}
use Rattle.peak_text.proofs.PeakLineLemmas.{value_is, value_read, cell_is, cell_read, last_no_cell, lines_free}
use Rattle.peak_text.proofs.PeakGrammarLemmas.{spells-peak_lines_of, peak_lines_of-spelled}

-- ---- cells

cells_spelled : (cells : List PeakCell) (lines : Lines) → Mean cell_of cells lines → SpellsPeakCells cells (lines ++ last_line ∷ [])
unfolding last_line
cells_spelled [] [] all = (refl, refl)
cells_spelled [] (line ∷ lines) all = absurd all
cells_spelled (cell ∷ cells) [] all = absurd all
cells_spelled (cell ∷ cells) (line ∷ lines) all = (cell_is line cell all.0, cells_spelled cells lines all.1)

cells_reader : IsReader SpellsPeakCells cells_part
cells_reader = items_reader SpellsPeakCells cell_of last_tail (λ cells lines all.
    last_reader (λ c more. SpellsPeakCells c (lines ++ more)) cells (cells_spelled cells lines all))

items_taken : (cells : List PeakCell) (lines : Lines) (n : ℕ) → SpellsPeakCells cells lines
    → (m : ℕ) × (items_at cell_of n lines [] ≡ (cells, at m (last_line ∷ []) []))
unfolding last_line
items_taken [] [] n h = absurd h
items_taken (cell ∷ cells) [] n h = absurd h
items_taken [] (line ∷ lines) n h = (n, rw (h.0, h.1, last_no_cell) refl)
items_taken (cell ∷ cells) (line ∷ lines) n h =
    let more = items_taken cells lines (n + 1) h.1 in (more.0, rw (cell_read cell line h.0, more.1) refl)

last_taken : (cells : List PeakCell) (n : ℕ) → last_tail cells (at n (last_line ∷ []) []) ≡ Ok (cells, at (n + 1) [] [])
unfolding last_line
last_taken cells n = refl

cells_taken : (cells : List PeakCell) (lines : Lines) (n : ℕ) → SpellsPeakCells cells lines
    → (left : Place) × (cells_part (at n lines []) ≡ Ok (cells, left))
cells_taken cells lines n h =
    let items = items_taken cells lines n h in
    (at (items.0 + 1) [] [], ap (λ (found : List PeakCell × Place). last_tail found.0 found.1) items.1 ∙ last_taken cells items.0)

-- ---- the whole certificate

abbrev value_tail : List ℕ → ℤ → ℤ → ℤ → ℤ → Part PeakCertificate
value_tail station begin end at value = cells_part >>= λ cells. returned (record {
  station = station;
  begin = begin;
  end = end;
  peak = record { at = at; value = value; cells = cells };
})

abbrev at_tail : List ℕ → ℤ → ℤ → ℤ → Part PeakCertificate
at_tail station begin end at = line_of value_of >>= value_tail station begin end at

abbrev end_tail : List ℕ → ℤ → ℤ → Part PeakCertificate
end_tail station begin end = line_of (moment_after (codes "at ")) >>= at_tail station begin end

abbrev begin_tail : List ℕ → ℤ → Part PeakCertificate
begin_tail station begin = line_of (moment_after (codes "end ")) >>= end_tail station begin

abbrev station_tail : List ℕ → Part PeakCertificate
station_tail station = line_of (moment_after (codes "begin ")) >>= begin_tail station

peak_reader : IsReader SpellsPeak peak_part
unfolding peak_title
peak_reader =
    then_reader SpellsPeak (is_word peak_title) (λ title. line_of station_of >>= station_tail) peak_title tt (word_read peak_title)
    (λ t title t_is.
    station_reader (λ c more. SpellsPeak c (t ∷ more)) station_tail (λ s station s_is.
    moment_reader (λ c more. SpellsPeak c (t ∷ s ∷ more)) (codes "begin ") (begin_tail station) (λ b begin b_is.
    moment_reader (λ c more. SpellsPeak c (t ∷ s ∷ b ∷ more)) (codes "end ") (end_tail station begin) (λ e end e_is.
    moment_reader (λ c more. SpellsPeak c (t ∷ s ∷ b ∷ e ∷ more)) (codes "at ") (at_tail station begin end) (λ a minute a_is.
    then_reader (λ c more. SpellsPeak c (t ∷ s ∷ b ∷ e ∷ a ∷ more)) value_of (value_tail station begin end minute)
    (codes "value " ++ signed_decimal (pos 0)) (pos 0) (value_read (pos 0) (codes "value " ++ signed_decimal (pos 0)) (lit< tt, refl)) (λ v value v_is.
    mapped_reader SpellsPeakCells (λ c more. SpellsPeak c (t ∷ s ∷ b ∷ e ∷ a ∷ v ∷ more)) cells_part
    (λ cells. record { station = station; begin = begin; end = end; peak = record { at = minute; value = value; cells = cells } })
    (λ cells lines h. (
      word_is peak_title t title t_is,
      station_is s station s_is,
      moment_is (codes "begin ") b begin b_is,
      moment_is (codes "end ") e end e_is,
      moment_is (codes "at ") a minute a_is,
      value_is v value v_is,
      h,
    )) cells_reader))))))

peak_taken : (c : PeakCertificate) (lines : Lines) → SpellsPeak c lines → (left : Place) × (peak_part (at 0 lines []) ≡ Ok (c, left))
unfolding peak_title
peak_taken c [] h = absurd h
peak_taken c (t ∷ []) h = absurd h
peak_taken c (t ∷ s ∷ []) h = absurd h
peak_taken c (t ∷ s ∷ b ∷ []) h = absurd h
peak_taken c (t ∷ s ∷ b ∷ e ∷ []) h = absurd h
peak_taken c (t ∷ s ∷ b ∷ e ∷ a ∷ []) h = absurd h
peak_taken c (t ∷ s ∷ b ∷ e ∷ a ∷ v ∷ lines) h =
    let cells = cells_taken c.peak.cells lines 6 h.6 in (
      cells.0,
      rw (
        h.0,
        station_read c.station s h.1,
        moment_read (codes "begin ") c.begin b h.2,
        moment_read (codes "end ") c.end e h.3,
        moment_read (codes "at ") c.peak.at a h.4,
        value_read c.peak.value v h.5,
        cells.1,
      ) refl,
    )

-- if each line of a certificate of a highest water reads as its value, one position after the
-- other, the whole reads as the certificate with these values
pub peak_by : (old o p q r s t new : Place) (station name : List ℕ) (begin end minute value : ℤ) (cells : List PeakCell)
    → line_of (is_word peak_title) old ≡ Ok (tt, o) → line_of station_of o ≡ Ok (name, p)
    → line_of (moment_after (codes "begin ")) p ≡ Ok (begin, q) → line_of (moment_after (codes "end ")) q ≡ Ok (end, r)
    → line_of (moment_after (codes "at ")) r ≡ Ok (minute, s) → line_of value_of s ≡ Ok (value, t)
    → cells_part t ≡ Ok (cells, new) → station ≡ name
    → peak_part old ≡ Ok (
      record {
        station = station;
        begin = begin;
        end = end;
        peak = record { at = minute; value = value; cells = cells };
      },
      new,
    )
peak_by old o p q r s t new station name begin end minute value cells first second third fourth fifth sixth seventh copied =
    rw (first, second, third, fourth, fifth, sixth, seventh, copied) refl

reader : IsReaderOf SpellsPeak peak_part
reader = record {
  reader = peak_reader;
  lines_read = peak_taken;
  free = λ c lines h. let is = peak_lines_of-spelled c lines h in subst AreFree (sym is.1) (lines_free c is.0);
}

-- ---- texts

pub one_reading : (c d : PeakCertificate) (bytes : List ℕ) → IsPeakTextOf c bytes → IsPeakTextOf d bytes → c ≡ d
one_reading = by_line.one_reading SpellsPeak peak_part reader

pub text_of-itself : (c : PeakCertificate) → IsPeakCertificate c → IsPeakTextOf c (peak_text c)
unfolding peak_text
text_of-itself c h = (peak_lines_of c, spells-peak_lines_of c h, refl)

pub text_is : (c : PeakCertificate) (bytes : List ℕ) → IsPeakTextOf c bytes → IsPeakCertificate c × (peak_text c ≡ bytes)
unfolding peak_text
text_is c bytes h =
    let is = peak_lines_of-spelled c h.0 h.1 in
    (is.0, ap (λ (ls : List (List ℕ)). joined ls) (sym is.1) ∙ sym h.2)

-- ---- any bytes

own_reads : (bytes : List ℕ) (result : Result PeakCertificate ReadingFault) → ReadsBy SpellsPeak bytes result
    → ReadsPeak bytes (with_fault result)
own_reads bytes (Ok c) h = h
own_reads bytes (Err reading.NoMemory) h = tt
own_reads bytes (Err (reading.NotACertificate line)) h = h

pub reads-peak_of : (bytes : List ℕ) → ReadsPeak bytes (peak_of bytes)
unfolding peak_of
reads-peak_of bytes = own_reads bytes (read_by peak_part bytes) (by_line.reads_bytes SpellsPeak peak_part reader bytes)

remembers : (result : Result PeakCertificate ReadingFault) → (result ≡ Err reading.NoMemory → ⊥) → with_fault result ≡ Err NoMemory → ⊥
remembers (Ok c) never h = absurd (cc)
remembers (Err reading.NoMemory) never h = never refl
remembers (Err (reading.NotACertificate line)) never h = absurd (cc)

pub never_memory : (bytes : List ℕ) → peak_of bytes ≡ Err NoMemory → ⊥
unfolding peak_of
never_memory bytes h = remembers (read_by peak_part bytes) (by_line.never_memory SpellsPeak peak_part reader bytes) h

pub peak_of-text : (c : PeakCertificate) → IsPeakCertificate c → peak_of (peak_text c) ≡ Ok c
unfolding peak_of
peak_of-text c h = ap with_fault (by_line.text_reads SpellsPeak peak_part reader c (peak_text c) (text_of-itself c h))

-- a certificate that is the result of reading line by line, unless memory ran out, is the result
-- `peak_of`
pub given_whole : (bytes : List ℕ) (c : PeakCertificate)
    → EqualsUnlessNoMemory reading_is_out_of_memory (read_by peak_part bytes) (Ok c)
    → EqualsUnlessNoMemory is_out_of_memory (peak_of bytes) (Ok c)
unfolding peak_of
given_whole bytes c h = ap with_fault h

pub given_fault : (bytes : List ℕ) (fault : ReadingFault)
    → EqualsUnlessNoMemory reading_is_out_of_memory (read_by peak_part bytes) (Err fault)
    → EqualsUnlessNoMemory is_out_of_memory (peak_of bytes) (Err (fault_of fault))
unfolding peak_of
given_fault bytes reading.NoMemory h = tt
given_fault bytes (reading.NotACertificate line) h = ap with_fault h

pub reported_fault : (result : Result PeakCertificate PeakFault) (fault : ReadingFault)
    → IsErrAnd result (λ own. own ≡ fault_of fault) → Err (fault_of fault) ≡ result
reported_fault (Ok c) fault h = absurd h
reported_fault (Err own) fault h = ap Err (sym h)

-- a result that is `peak_of`, unless memory ran out, follows the grammar
pub reads_given : (bytes : List ℕ) (result : Result PeakCertificate PeakFault)
    → EqualsUnlessNoMemory is_out_of_memory (peak_of bytes) result → ReadsPeak bytes result
reads_given bytes (Ok c) h = subst (ReadsPeak bytes) h (reads-peak_of bytes)
reads_given bytes (Err NoMemory) h = tt
reads_given bytes (Err (NotACertificate line)) h = subst (ReadsPeak bytes) h (reads-peak_of bytes)

pub valid_given : (bytes : List ℕ) (result : Result PeakCertificate PeakFault) → ReadsPeak bytes result → IfOk result IsPeakCertificate
valid_given bytes (Ok c) h = (text_is c bytes h).0
valid_given bytes (Err fault) h = tt
