use Rattle.std.proofs.Common.{◌≡◌, drop, map}
use Rattle.std.specs.Cmp.Lexicographic.{pointwise}
use Rattle.std.specs.Str.{bytes_eq}
use Rattle.csv.specs.Records.{fields_of}
use Rattle.station_table.proofs.header.has_names.Given as goal

abbrev pub invariant-loop-column : goal.invariant-loop-column
invariant-loop-column l =
    pointwise bytes_eq (drop l.column (fields_of l.fields)) (drop l.column (map (λ name. name.now) l.names))
    ≡ pointwise bytes_eq (fields_of l.fields) (map (λ name. name.now) l.names)
