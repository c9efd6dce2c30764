use Rattle.std.proofs.Common.{refl}
use Rattle.std.specs.Fmt.{digits}
use Rattle.zone_time.specs.Dates.{two_digits, date_text, clock_text, date_of, date_from_year, date_from_month}
use Rattle.zone_time.specs.Moments.{moment_text}
use Rattle.cert_text.specs.Lines.{station_line_of, begin_line_of, end_line_of, last_line}
use Rattle.peak_text.specs.PeakTexts.{peak_title, at_line_of, value_line_of, peak_cell_line_of, peak_text}
use Rattle.peak_text.proofs.worked_texts.worked_peak_texts.Goals as goal

pub returns : goal.returns
unfolding digits two_digits date_text clock_text date_of date_from_year date_from_month moment_text station_line_of
    begin_line_of end_line_of last_line peak_title at_line_of value_line_of peak_cell_line_of peak_text
returns c = record { pier = refl }
