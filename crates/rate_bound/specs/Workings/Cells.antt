-- The years of a stretch. No public clause cites it.
use Rattle.std.specs.Prelude.{◌≡◌, ℕ, ◌-◌, ◌<◌, true}
use Rattle.station_curve.specs.Curves.{Prediction, is_touched}
use Rattle.year_blend.specs.declared.parts.Stretch.{Stretch}
use Rattle.year_blend.specs.declared.parts.Stretch.TheVariants.{Within, Across}

-- the year with this index, counted from 0, is one of the book's years, and at most an hour from
-- the prediction's minutes, so that the prediction has its constants
pub record IsNeeded (c : Prediction) (year : ℕ) : Type 0 where
  pub below : year < c.book.years
  pub touched : is_touched c.book c.first c.last year ≡ true

-- the book has the year of the stretch of minutes, or both years around its new year, and each is
-- at most an hour from the prediction's minutes, so that the prediction has its constants
abbrev pub AreNeeded : Prediction → Stretch → Type 0
AreNeeded c (Within year) = IsNeeded c year
AreNeeded c (Across year) = (0 < year) × IsNeeded c (year - 1) × IsNeeded c year
