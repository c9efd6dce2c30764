-- The example files, computed.
use lib.Utf8.{encode}
use Rattle.std.proofs.Common.{◌≡◌, [], Ok, Err, refl}
use Rattle.harmonics_text.specs.declared.fault.Why.TheVariants.{CutShort}
use Rattle.harmonics_book.specs.Worked.{pier_book}
use Rattle.harmonics_text.specs.Worked.{pier_lines, file_of}
use Rattle.harmonics_text.specs.Lines.{cut, numbered, is_kept, kept, tokens, trimmed}
use Rattle.harmonics_text.specs.Rules.{in_scale, parse_number, whole_of, from_to, count_of, first_year_of, name_of, new_name_of, constituent_from, constituent_of, named, end_of, same_count_of, values_from, station_name_of, two_digits_of, minutes_of, clock_of, meridian_of, zone_of, local_time_from, local_time_of, units_of, datum_of, pair_from, pair_of}
use Rattle.harmonics_text.specs.Reading.{constituents, values, table, pairs, station, most_stations, stations, book, book_of}
use Rattle.decimal_text.specs.Decimal.{after_point, made_of, decimal_of, scaled, scaled_or_bad, read_of}
use Rattle.decimal_text.specs.Digits.{digits_of}

pub pier_is : book_of (file_of pier_lines) ≡ Ok pier_book
unfolding cut numbered is_kept kept tokens trimmed in_scale parse_number digits_of whole_of from_to count_of first_year_of
    name_of new_name_of constituent_from constituent_of named end_of same_count_of values_from station_name_of
    two_digits_of minutes_of clock_of meridian_of zone_of local_time_from local_time_of units_of datum_of pair_from
    pair_of constituents values table pairs station most_stations stations book book_of after_point made_of decimal_of
    scaled scaled_or_bad read_of encode
pier_is = refl

pub empty_is : book_of [] ≡ Err (record { line = 1; why = CutShort })
unfolding cut numbered is_kept kept tokens trimmed in_scale parse_number digits_of whole_of from_to count_of first_year_of
    name_of new_name_of constituent_from constituent_of named end_of same_count_of values_from station_name_of
    two_digits_of minutes_of clock_of meridian_of zone_of local_time_from local_time_of units_of datum_of pair_from
    pair_of constituents values table pairs station most_stations stations book book_of after_point made_of decimal_of
    scaled scaled_or_bad read_of encode
empty_is = refl
