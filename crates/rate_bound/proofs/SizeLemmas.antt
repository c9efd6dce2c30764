-- The size of the values of both curves.
use Rattle.std.proofs.Common.{◌≡◌, length, Bool, true, false, Option, Some, None, Ok, Err, ℤ, refl}
use Rattle.std.specs.Prelude.{if◌then◌else◌}
use Rattle.harmonics_book.specs.declared.book.Station.{Station}
use Rattle.harmonics_book.specs.declared.book.Book.{Book}
use Rattle.harmonics_book.specs.Books.{IsBook, IsStation}
use Rattle.station_curve.specs.declared.fault.CurveFault.{CurveFault}
use Rattle.station_curve.specs.declared.fault.CurveFault.TheVariants.{Hydraulic}
use Rattle.station_curve.specs.Curves.{Prediction, IsPrediction, curve_of, curve_over, first_fault, is_hydraulic, prediction_of, unless_fault}
use Rattle.station_curve.specs.Schureman.{predicted_level}
use Rattle.station_curve.proofs.WithinLimits.{limits_of}
use Rattle.station_curve.proofs.Ranges.{level_small, slope_small, in_domain, all_minutes_valid}
use Rattle.rate_bound.specs.declared.version.Version.{Version}
use Rattle.rate_bound.specs.Scale.{IsScale}
use Rattle.rate_bound.specs.Sizes.{slope_limit, mark_limit, IsBelow}
use Rattle.rate_bound.specs.CurveSpecs.{turn_spec, mark_spec, predicted_turn, predicted_mark}
use Rattle.rate_bound.specs.Workings.MarkLaw.{mark_small}

pub turn_small : (version : Version) (c : Prediction) → IsPrediction c → IsBelow slope_limit (turn_spec version c)
turn_small version c valid = λ m at.
    slope_small c.book c.station m valid.limits (in_domain c m valid (record { least = at.first; most = at.last }))

pub mark_below : (version : Version) (c : Prediction) (times plus mark : ℤ) (slack : Bool) → IsPrediction c → IsScale times plus mark
    → IsBelow mark_limit (mark_spec version c times plus mark slack)
mark_below version c times plus mark slack valid scale = λ m at.
    mark_small times plus mark (predicted_level c.book c.station m) scale
    (level_small c.book c.station m valid.limits (in_domain c m valid (record { least = at.first; most = at.last })))

-- a station that has a curve is within the limits in each year
no_fault : (hydraulic : Bool) (whole c : Prediction) (fault : Option CurveFault)
    → (if hydraulic then Err Hydraulic else unless_fault whole fault) ≡ Ok c → fault ≡ None
no_fault true whole c fault is = cc
no_fault false whole c None is = refl
no_fault false whole c (Some fault) is = cc

limits-kept : (b : Book) (s : Station) (c : Prediction) → curve_of b s ≡ Ok c → first_fault b s b.years ≡ None
unfolding curve_of curve_over
limits-kept b s c is = no_fault (is_hydraulic s.units) (prediction_of b s) c (first_fault b s b.years) is

valid_station : (b : Book) (s : Station) (c : Prediction) → IsBook b → IsStation (length b.constituents) s → curve_of b s ≡ Ok c
    → IsPrediction (prediction_of b s)
valid_station b s c book station is = all_minutes_valid b s (limits_of b s book station (limits-kept b s c is))

pub station_turn_small : (version : Version) (b : Book) (s : Station) (c : Prediction) → IsBook b
    → IsStation (length b.constituents) s → curve_of b s ≡ Ok c
    → IsBelow slope_limit (predicted_turn version b s)
station_turn_small version b s c book station is = turn_small version (prediction_of b s) (valid_station b s c book station is)

pub station_mark_small : (version : Version) (b : Book) (s : Station) (c : Prediction) (times plus mark : ℤ) (slack : Bool)
    → IsBook b → IsStation (length b.constituents) s → curve_of b s ≡ Ok c → IsScale times plus mark
    → IsBelow mark_limit (predicted_mark version b s times plus mark slack)
station_mark_small version b s c times plus mark slack book station is scale =
    mark_below version (prediction_of b s) times plus mark slack (valid_station b s c book station is) scale
