-- The fields of a station's curve, and the prediction that is its value in contracts.
use Rattle.std.specs.Prelude.{◌≡◌, pos}
use Rattle.station_curve.specs.declared.curve.StationCurve.TheInside.{Inside}
use Rattle.station_curve.specs.Curves.{Prediction, IsPrediction, prediction_over}
use Rattle.station_curve.specs.Errors.{greatest_amount, greatest_steepness}
use Rattle.station_curve.specs.Workings.Prepared.{AreReady}

-- the prediction that a stored curve stands for: its book, its station, and the minutes for which it
-- was made
abbrev pub prediction_in : Inside → Prediction
prediction_in s = prediction_over s.origin.book s.origin.station s.minutes.first s.minutes.last

-- the invariant of a stored curve: its prediction is valid, and its fields hold the book's first year,
-- the station's mean level, the prepared years, and the greatest sums of any year
pub record IsReady (s : Inside) : Type 0 where
  pub valid : IsPrediction (prediction_in s)
  pub first_year : s.first_year ≡ s.origin.book.first_year
  pub datum : s.datum ≡ s.origin.station.datum
  pub years : AreReady s.origin.book s.origin.station s.minutes.first s.minutes.last s.origin.book.years s.years.items
  pub amount : s.greatest.amount ≡ pos (greatest_amount (prediction_in s))
  pub steepness : s.greatest.steepness ≡ pos (greatest_steepness (prediction_in s))
