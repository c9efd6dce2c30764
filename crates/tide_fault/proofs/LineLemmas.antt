-- The parts of a fault's line.
use Rattle.std.proofs.Common.{◌≡◌, ℕ, ◌≤◌, ℤ, pos, negsuc, ◌≤ℤ◌, int_le, Bool, true, false, ◌&&◌, List, [], length, refl, ap, arith}
use Rattle.std.specs.Option.{option_map_or}
use Rattle.std.proofs.lemmas.Int.{ints}
use Rattle.std.proofs.lemmas.Option.{slice_get_past}
use Rattle.station_table.specs.declared.offsets.Offsets.{Offsets}
use Rattle.zone_time.specs.Moments.{IsMoment}
use Rattle.tide_fault.specs.Faults.{is_moment, reference_at}

both-true : (a b : Bool) → (a && b) ≡ true → (a ≡ true) × (b ≡ true)
both-true true true is = (refl, refl)
both-true true false is = cc
both-true false b is = cc

from_test : (a b : ℤ) → int_le a b ≡ true → a ≤ℤ b
from_test a b h = grind (arith, ints)

pub moment_by : (minute : ℤ) → is_moment minute ≡ true → IsMoment minute
moment_by minute is =
    let parts = both-true (int_le (negsuc 1035593279) minute) (int_le minute (pos 4223371679)) is in
    record { first = from_test _ _ parts.0; last = from_test _ _ parts.1 }

pub no_reference : (rows : List Offsets) (index : ℕ) → length rows ≤ index → reference_at rows index ≡ []
no_reference rows index past = ap (λ row. option_map_or (λ offsets. offsets.reference) row []) (slice_get_past rows index past)
