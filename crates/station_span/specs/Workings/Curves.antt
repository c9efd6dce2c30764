-- The curves that are followed, at the minutes that are evaluated.
use Rattle.std.specs.Prelude.{ℤ, pos, ◌≤ℤ◌, true, false, Option, option_map}
use Rattle.curve_law.specs.CurveSpec.{CurveSpec, at_minutes}
use Rattle.event_list.specs.declared.span.Span.{Span}
use Rattle.event_list.specs.Events.{Followed}
use Rattle.harmonics_book.specs.declared.book.Book.{Book}
use Rattle.rate_bound.specs.declared.version.Version.{Version}
use Rattle.rate_bound.specs.CurveSpecs.{mark_spec, turn_spec}
use Rattle.station_curve.specs.Curves.{Prediction}
use Rattle.station_table.specs.declared.basis.Basis.{Basis}
use Rattle.station_span.specs.Following.{asks_slack, if_asked, slack_plus, slack_times}
use Rattle.year_blend.specs.Places.{InDomain}

-- the curve `c` restricted to the minutes of the prediction `p`
abbrev pub over : Prediction → CurveSpec → CurveSpec
over p c = at_minutes p.first p.last c

-- the curves `f` restricted to the minutes of the prediction `p`
abbrev pub all_over : Prediction → Followed → Followed
all_over p f = record { turn = over p f.turn; slack = option_map (over p) f.slack; mark = option_map (over p) f.mark }

-- the curve whose changes of sign are the station's slack waters, at the minutes of the prediction
-- `p` of its reference station: the reference's level with the factor and height for slack waters;
-- None if slack waters aren't listed
abbrev pub slack_over : Version → Prediction → Basis → Option CurveSpec
slack_over version p basis =
    if_asked (asks_slack p.station.units basis) (mark_spec version p (slack_times basis) (slack_plus basis) (pos 0) true)

-- the curve whose changes of sign are the crossings of the mark, at the minutes of the prediction
-- `p` of the reference station: the reference's level with the high-water offset's factor and
-- height, less the mark; None if there is no mark
abbrev pub mark_over : Version → Prediction → Basis → Option ℤ → Option CurveSpec
mark_over version p basis mark = option_map (λ level. mark_spec version p basis.high.times basis.high.plus level false) mark

-- the curves whose changes of sign are a station's events, at the minutes of the prediction `p`: `turn`
-- for high and low waters, `slack` for slack waters if they are listed, `mark` for crossings of the mark
-- if there is one
abbrev pub followed_over : Version → Prediction → Basis → Option ℤ → Followed
followed_over version p basis mark =
    record { turn = turn_spec version p; slack = slack_over version p basis; mark = mark_over version p basis mark }

-- the span isn't backward, and the first minute and the end of the span are in the years of the
-- harmonics file or the first minute after them
pub record HasMinutes (book : Book) (span : Span) : Type 0 where
  pub forward : span.begin ≤ℤ span.end
  pub begins : InDomain book.first_year book.years span.begin
  pub ends : InDomain book.first_year book.years span.end
