use Rattle.std.proofs.Common.{◌≡◌, ◌++◌, take}
use Rattle.std.specs.List.{flat_map}
use Rattle.listing.specs.Records.{row_fields, row_header, record_of}
use Rattle.listing.specs.Workings.Writers.{IsAtRecord, written}
use Rattle.listing.proofs.records.csv_heights.Given as goal

abbrev pub invariant-loop-row : goal.invariant-loop-row
invariant-loop-row l = record {
  start : IsAtRecord l.records;
  bytes : written l.records ≡ record_of row_header
      ++ flat_map (λ row. record_of (row_fields l.fn.name l.fn.units l.fn.zone row)) (take l.row-index l.row-items);
}
