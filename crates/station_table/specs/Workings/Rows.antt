-- A row with borrowed names, and the station in it.
use Rattle.std.specs.Prelude.{◌≡◌, Result, Ok, Err}
use Rattle.station_table.specs.declared.fault.OffsetWhy.{OffsetWhy}
use Rattle.station_table.specs.declared.offsets.Offsets.{Offsets}
use Rattle.station_table.specs.declared.borrowed_offsets.BorrowedOffsets.{BorrowedOffsets}

-- the same row with names of its own: the bytes of the borrowed names, and the same offsets
abbrev pub offsets_in : BorrowedOffsets → Offsets
offsets_in r = record { name = r.name.now; reference = r.reference.now; high = r.high; low = r.low; slack = r.slack }

-- `Reads view rule result`: true if the function's result agrees with `rule`, the result by
-- definition: both are the same error, or both are values and `view` of the function's value is the
-- value of `rule`
abbrev pub Reads : {A B : Type 0} → (A → B) → Result B OffsetWhy → Result A OffsetWhy → Type 0
Reads view rule (Ok value) = rule ≡ Ok (view value)
Reads view rule (Err why) = rule ≡ Err why
