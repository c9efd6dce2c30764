-- The content lines of a worked event.
use Rattle.std.proofs.Common.{◌≡◌, ℕ, List, [], ◌∷◌, ◌++◌, codes, lit<, lit≤, refl, decimal}
use Rattle.std.specs.List.{flat_map}
use Rattle.std.proofs.lemmas.Fmt.{decimal_digit, decimal_step}
use Rattle.decimal_text.specs.Rounding.{rounded_of}
use Rattle.decimal_text.specs.Writing.{last_digits, write_of}
use Rattle.event_text.specs.Lines.{text_of_unit}
use Rattle.event_text.specs.Worked.{low_tide}
use Rattle.harmonics_book.specs.declared.book.Units.TheVariants.{Feet}
use Rattle.hex.specs.Hex.{encode_with}
use Rattle.zone_time.specs.Dates.{date_from_month, date_from_year, date_of, two_digits}
use Rattle.ical_sheet.specs.Calendars.{content_lines, event_lines, stamp_of, summary_line, uid_line}
use Rattle.ical_sheet.specs.Worked.{long_name, pier}

minute : decimal 15791400 ≡ codes "15791400"
minute =
    rw (
      decimal_step 15791400 (lit≤ tt) (lit< tt),
      decimal_step 1579140 (lit≤ tt) (lit< tt),
      decimal_step 157914 (lit≤ tt) (lit< tt),
      decimal_step 15791 (lit≤ tt) (lit< tt),
      decimal_step 1579 (lit≤ tt) (lit< tt),
      decimal_step 157 (lit≤ tt) (lit< tt),
      decimal_step 15 (lit≤ tt) (lit< tt),
      decimal_digit 1 (lit< tt),
    ) refl

uid : uid_line (codes "Pier") low_tide ≡ codes "UID:15791400-1-50696572@tide.invalid"
unfolding uid_line encode_with write_of last_digits
uid = rw minute

summary : summary_line (codes "Pier") Feet low_tide ≡ codes "SUMMARY:Pier Low Tide -1.00 feet"
unfolding summary_line text_of_unit rounded_of write_of last_digits
summary = rw (decimal_digit 1 (lit< tt))

abbrev pub pier_lines : List (List ℕ)
pier_lines =
    codes "BEGIN:VCALENDAR"
    ∷ codes "VERSION:2.0"
    ∷ codes "PRODID:-//Tide desk//Tide predictor//EN"
    ∷ codes "BEGIN:VEVENT"
    ∷ codes "UID:15791400-1-50696572@tide.invalid"
    ∷ codes "DTSTAMP:20000110T030000Z"
    ∷ codes "DTSTART:20000110T060000Z"
    ∷ codes "SUMMARY:Pier Low Tide -1.00 feet"
    ∷ codes "END:VEVENT"
    ∷ codes "END:VCALENDAR"
    ∷ []

pub content_lines-pier : content_lines pier (low_tide ∷ []) ≡ pier_lines
unfolding event_lines stamp_of two_digits date_of date_from_year date_from_month
content_lines-pier = rw (uid, summary) refl

pub long_uid : uid_line long_name low_tide ≡ codes "UID:15791400-1-" ++ flat_map (λ letter. codes "61") long_name ++ codes "@tide.invalid"
unfolding uid_line encode_with write_of last_digits
long_uid = rw minute

pub long_summary : summary_line long_name Feet low_tide ≡ codes "SUMMARY:" ++ long_name ++ codes " Low Tide -1.00 feet"
unfolding summary_line text_of_unit rounded_of write_of last_digits
long_summary = rw (decimal_digit 1 (lit< tt))
