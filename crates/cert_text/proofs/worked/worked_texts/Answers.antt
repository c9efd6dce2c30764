use Rattle.std.proofs.Common.{refl}
use Rattle.std.specs.Fmt.{digits}
use Rattle.zone_time.specs.Dates.{two_digits, date_text, clock_text, date_of, date_from_year, date_from_month}
use Rattle.zone_time.specs.Moments.{moment_text}
use Rattle.cert_text.specs.Tracks.{track_word, kind_word}
use Rattle.cert_text.specs.Lines.{title_of, station_line_of, begin_line_of, end_line_of, mark_line_of, heading_of, cell_line_of, last_line, certificate_text}
use Rattle.cert_text.proofs.worked.worked_texts.Goals as goal

pub returns-clause-pier : goal.returns-clause-pier
unfolding digits two_digits date_text clock_text date_of date_from_year date_from_month moment_text track_word kind_word
    title_of station_line_of begin_line_of end_line_of mark_line_of heading_of cell_line_of last_line certificate_text
returns-clause-pier c = refl

pub returns-clause-narrows : goal.returns-clause-narrows
unfolding digits two_digits date_text clock_text date_of date_from_year date_from_month moment_text track_word kind_word
    title_of station_line_of begin_line_of end_line_of mark_line_of heading_of cell_line_of last_line certificate_text
returns-clause-narrows c = refl
