-- The rows of a station's levels, one each step.
use Rattle.std.specs.Prelude.{◌≡◌, ℕ, ℤ, pos, ◌≤ℤ◌, List, All, map}
use Rattle.std.specs.List.{range_with_len}
use Rattle.listing.specs.declared.row.Row.{Row}
use Rattle.harmonics_book.specs.declared.book.Book.{Book}
use Rattle.station_span.specs.Sites.{Site}
use Rattle.zone_time.specs.Zones.{InZoneYears}
use Rattle.tide_answer.specs.Answers.{row_at}

-- a step of the command `heights`: from 1 to 44,640 minutes
pub record IsStep (step : ℤ) : Type 0 where
  pub first : pos 1 ≤ℤ step
  pub last : step ≤ℤ pos 44640

-- `rows` are the first `count` rows of a listing of levels, one every `step` minutes from `begin` on;
-- every zone has a local time for each of their minutes
pub record AreRows (book : Book) (site : Site) (begin step : ℤ) (count : ℕ) (rows : List Row) : Type 0 where
  pub value : rows ≡ map (row_at book site begin step) (range_with_len 0 count)
  pub listed : All (λ row. InZoneYears row.minute) rows
