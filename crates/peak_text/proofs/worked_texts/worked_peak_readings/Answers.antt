use lib.Utf8.{encode}
use Rattle.std.proofs.Common.{◌≡◌, ℕ, zero, suc, List, [], ◌∷◌, ◌++◌, codes, refl, sym, ap, ◌∙◌, lit<, lit≤, arith}
use Rattle.std.specs.Prelude.{replicate}
use Rattle.std.specs.Fmt.{digits}
use Rattle.std.specs.List.{AllByRecursion}
use Rattle.std.specs.Str.{chars, is_utf8}
use Rattle.std.proofs.lemmas.Int.{ints}
use Rattle.std.proofs.lemmas.List.Elements.{All-from_recursion}
use Rattle.decimal_text.specs.Digits.{digits_of}
use Rattle.zone_time.specs.Dates.{two_digits, date_text, clock_text, date_of, date_from_year, date_from_month}
use Rattle.zone_time.specs.Moments.{moment_of, moment_text, has_form}
use Rattle.cert_text.specs.Certificates.{IsStationName}
use Rattle.cert_text.specs.Lines.{station_line_of, begin_line_of, end_line_of, last_line}
use Rattle.cert_text.specs.Texts.{joined}
use Rattle.cert_text.specs.Workings.LineReading.{after, size_of, parse_number, station_of, moment_after}
use Rattle.cert_text.proofs.LineLemmas.{plain_name}
use Rattle.highest_water.specs.declared.peak_cell.PeakCell.{PeakCell}
use Rattle.highest_water.specs.declared.peak_cell.PeakCell.TheVariants.{Under, Single}
use Rattle.peak_text.specs.PeakTexts.{IsPeakCell, IsPeakCertificate, peak_title, at_line_of, value_line_of, peak_cell_line_of, peak_text}
use Rattle.peak_text.specs.Workings.PeakLineReading.{value_of, under_of, cell_of}
use Rattle.peak_text.specs.PeakReadings.{peak_of}
use Rattle.peak_text.specs.Worked.{pier, pier_lines}
use Rattle.peak_text.proofs.PeakReadingLemmas.{peak_of-text}
use Rattle.peak_text.proofs.worked_texts.worked_peak_readings.Goals as goal

pier_name : IsStationName (codes "Pier")
pier_name = plain_name (codes "Pier") (lit≤ tt) (lit≤ tt) refl

singles : (n : ℕ) (cs : List PeakCell) → AllByRecursion IsPeakCell cs → AllByRecursion IsPeakCell (replicate n Single ++ cs)
singles zero cs h = h
singles (suc n) cs h = (tt, singles n cs h)

abbrev last_cells : List PeakCell
last_cells = Under 2 ∷ Under 2 ∷ Under 4 ∷ Under 4 ∷ Under 4 ∷ Under 8 ∷ Under 8 ∷ Under 16 ∷ []

unders : AllByRecursion IsPeakCell last_cells
unders = (
  (lit≤ tt, lit≤ tt),
  (
    (lit≤ tt, lit≤ tt),
    ((lit≤ tt, lit≤ tt), ((lit≤ tt, lit≤ tt), ((lit≤ tt, lit≤ tt), ((lit≤ tt, lit≤ tt), ((lit≤ tt, lit≤ tt), ((lit≤ tt, lit≤ tt), tt)))))),
  ),
)

pier_is : IsPeakCertificate pier
pier_is = record {
  station = pier_name;
  begin = record { first = omega (arith, ints); last = omega (arith, ints) };
  end = record { first = omega (arith, ints); last = omega (arith, ints) };
  at = record { first = omega (arith, ints); last = omega (arith, ints) };
  value = lit< tt;
  cells = All-from_recursion IsPeakCell pier.peak.cells (singles 16 last_cells unders);
}

pier_text : peak_text pier ≡ joined pier_lines
unfolding digits two_digits date_text clock_text date_of date_from_year date_from_month moment_text station_line_of
    begin_line_of end_line_of last_line peak_title at_line_of value_line_of peak_cell_line_of peak_text
pier_text = refl

pub returns : goal.returns
unfolding encode chars is_utf8 moment_of has_form last_line peak_title after digits_of size_of parse_number station_of
    moment_after value_of under_of cell_of peak_of
returns c = record {
  pier = sym (ap peak_of pier_text) ∙ peak_of-text pier pier_is;
  changed = refl;
  empty = refl;
  not_done = refl;
  no_lf = refl;
  more = refl;
}
