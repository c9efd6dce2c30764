-- The definitions to unfold to compute this crate's reading of a literal.
use lib.Utf8.{encode}
use Rattle.std.specs.Prelude.{⊤}
use Rattle.std.specs.Str.{chars, is_utf8}
use Rattle.csv.proofs.OnLiterals.{csv_on_literals}
use Rattle.decimal_text.specs.Decimal.{after_point, made_of, decimal_of, scaled, scaled_or_bad, read_of}
use Rattle.station_table.specs.Fields.{text_of, name_in, name_of, value_of, within, clock_of, minutes_of_text, millionths_in, add_of, times_of, plus_of}
use Rattle.station_table.specs.Table.{header_of, slack_of, offsets_of, rows_from, table_in, table_of}

unfoldable pub table_on_literals : ⊤
unfolding csv_on_literals chars is_utf8 encode after_point made_of decimal_of scaled scaled_or_bad read_of text_of
    name_in name_of value_of within clock_of minutes_of_text millionths_in add_of times_of plus_of header_of slack_of
    offsets_of rows_from table_in table_of
table_on_literals = tt
