-- The rows of a list of levels.
use Rattle.std.proofs.Common.{◌≡◌, ℕ, [], ◌∷◌, ◌++◌, ◌+◌, ◌*◌, ◌/◌, ◌<◌, ◌≤◌, ℤ, pos, negsuc, ◌+ℤ◌, ◌-ℤ◌, ◌*ℤ◌, ◌≤ℤ◌, unsigned_abs, List, sym, arith}
use Rattle.std.specs.Prelude.{All}
use Rattle.std.proofs.lemmas.Int.{ints}
use Rattle.std.proofs.lemmas.List.Elements.{All-append, All-cons}
use Rattle.std.proofs.lemmas.List.FromFn.{map-range_with_len_more}
use Rattle.std.proofs.Math.Nat.{div-mul-le_self, mul-le-mul_right}
use Rattle.listing.specs.declared.row.Row.{Row}
use Rattle.zone_time.specs.Zones.{InZoneYears}
use Rattle.station_span.specs.declared.found_station.FoundStation.{FoundStation}
use Rattle.station_span.specs.Workings.Finds.{AreEvaluable, IsEvaluable, site_of}
use Rattle.station_span.proofs.HeldLemmas.{looked_zone}
use Rattle.tide_answer.specs.Answers.{row_at, row_count}
use Rattle.tide_answer.specs.Workings.Rows.{AreRows, IsStep}

-- ---- rows

-- a row's minute isn't after the end
pub row_within : (begin end step : ℤ) (index : ℕ) → begin ≤ℤ end → IsStep step → index < row_count begin end step
    → (begin ≤ℤ (begin +ℤ (step *ℤ pos index))) × ((begin +ℤ (step *ℤ pos index)) ≤ℤ end)
row_within begin end (pos step) index forward is below =
    let fits : index ≤ unsigned_abs (end -ℤ begin) / step = omega arith in
    let product : index * step ≤ unsigned_abs (end -ℤ begin) / step * step = mul-le-mul_right step fits in
    let whole = div-mul-le_self (unsigned_abs (end -ℤ begin)) step in
    (omega (arith, ints), omega (arith, ints))
row_within begin end (negsuc step) index forward is below = absurd (let first = is.first in omega (arith, ints))

pub row_level : (found_station : FoundStation) (step : ℤ) (index : ℕ) → AreEvaluable found_station → IsStep step → index
    < row_count found_station.span_request.begin found_station.span_request.end step → IsEvaluable found_station (found_station.span_request.begin +ℤ (step *ℤ pos index))
row_level found_station step index looked is below =
    let within = row_within found_station.span_request.begin found_station.span_request.end step index found_station.valid.span.forward is below in
    looked (found_station.span_request.begin +ℤ (step *ℤ pos index)) within.0 within.1

-- ---- a list that grows

pub row_added : (found_station : FoundStation) (step : ℤ) (count : ℕ) (rows more : List Row) (row : Row) → AreEvaluable found_station
    → IsStep step → count < row_count found_station.span_request.begin found_station.span_request.end step
    → AreRows found_station.curve.book (site_of found_station) found_station.span_request.begin step count rows
    → row ≡ row_at found_station.curve.book (site_of found_station) found_station.span_request.begin step count → more ≡ rows ++ row ∷ []
    → AreRows found_station.curve.book (site_of found_station) found_station.span_request.begin step (count + 1) more
row_added found_station step count rows more row looked is below are next added =
    let here = row_at found_station.curve.book (site_of found_station) found_station.span_request.begin step in
    let next_rows = map-range_with_len_more here 0 count count (omega arith) in
    let minute : InZoneYears (here count).minute =
    looked_zone found_station _ (row_level found_station step count looked is below) in
    let listed = are.listed in
    let alone : All (λ (row : Row). InZoneYears row.minute) (here count ∷ []) =
    All-cons (λ row. InZoneYears row.minute) _ [] minute (λ index default past. absurd (omega (arith, past))) in
    record {
      value = rw (added, are.value, next) (sym next_rows);
      listed = rw (added, next) (All-append (λ row. InZoneYears row.minute) rows _ listed alone);
    }
