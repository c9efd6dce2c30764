use lib.Utf8.{encode}
use Rattle.std.proofs.Common.{◌≡◌, codes, inl, refl, sym, ap, ◌∙◌, lit≤, arith}
use Rattle.std.specs.Fmt.{digits}
use Rattle.std.specs.Str.{chars, is_utf8}
use Rattle.std.proofs.lemmas.Int.{ints}
use Rattle.std.proofs.lemmas.List.Elements.{All-from_recursion}
use Rattle.zone_time.specs.Dates.{two_digits, date_text, clock_text, date_of, date_from_year, date_from_month}
use Rattle.zone_time.specs.Moments.{moment_of, moment_text, has_form}
use Rattle.cert_text.specs.declared.track_name.TrackName.TheVariants.{Turn}
use Rattle.cert_text.specs.Certificates.{IsStationName, IsCellOf, IsCertificate}
use Rattle.cert_text.specs.Lines.{title_of, station_line_of, begin_line_of, end_line_of, mark_line_of, heading_of, cell_line_of, last_line, joined, certificate_text}
use Rattle.cert_text.specs.Tracks.{track_word, kind_word}
use Rattle.cert_text.specs.Worked.{pier, pier_lines}
use Rattle.cert_text.proofs.LineLemmas.{plain_name}
use Rattle.cert_text.specs.Spelling.{Spells}
use Rattle.cert_text.specs.Readings.{certificate_part}
use Rattle.cert_text.proofs.ByLineLemmas.{text_reads}
use Rattle.cert_text.proofs.ReadingLemmas.{reader, text_of-itself}
use Rattle.decimal_text.specs.Digits.{digits_of}
use Rattle.cert_text.specs.Workings.LineReading.{after, size_of, parse_number, version_of, station_of, moment_after, mark_of, quiet_of, event_cell_of, cell_of}
use Rattle.cert_text.specs.Readings.{certificate_of}
use Rattle.cert_text.proofs.worked.worked_readings.Goals as goal

pier_name : IsStationName (codes "Pier")
pier_name = plain_name (codes "Pier") (lit≤ tt) (lit≤ tt) refl

pier_is : IsCertificate pier
pier_is = record {
  version = inl refl;
  station = pier_name;
  begin = record { first = omega (arith, ints); last = omega (arith, ints) };
  end = record { first = omega (arith, ints); last = omega (arith, ints) };
  mark = tt;
  turn = All-from_recursion (IsCellOf Turn) pier.tracks.turn (tt, (tt, ((lit≤ tt, lit≤ tt), ((lit≤ tt, lit≤ tt), tt))));
  slack = tt;
  crossings = tt;
  marked = refl;
}

pier_text : certificate_text pier ≡ joined pier_lines
unfolding digits two_digits date_text clock_text date_of date_from_year date_from_month moment_text track_word title_of
    station_line_of begin_line_of end_line_of mark_line_of heading_of cell_line_of last_line certificate_text
pier_text = refl

pub returns : goal.returns
unfolding encode chars is_utf8 moment_of has_form track_word kind_word heading_of last_line after digits_of size_of parse_number
    version_of station_of moment_after mark_of quiet_of event_cell_of cell_of certificate_of
returns c = record {
  pier = sym (ap certificate_of pier_text)
      ∙ text_reads Spells certificate_part reader pier (certificate_text pier) (text_of-itself pier pier_is);
  changed = refl;
  empty = refl;
  not_done = refl;
  no_lf = refl;
  more = refl;
}
