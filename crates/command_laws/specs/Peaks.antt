-- The outputs of other commands for the span of a highest water: no event and no level is above it (this
-- project).
use Rattle.std.specs.Prelude.{◌≡◌, ℕ, ℤ, pos, negsuc, ◌≤ℤ◌, ◌<ℤ◌, Bool, false, ◌&&◌, is_some, List, All, Some, Ok}
use Rattle.curve_law.specs.declared.event.Event.{Event}
use Rattle.curve_law.specs.declared.kind.Kind.{Kind}
use Rattle.event_text.specs.Words.{is_slack}
use Rattle.harmonics_book.specs.declared.book.Book.{Book}
use Rattle.harmonics_book.specs.declared.book.Units.TheVariants.{Knots}
use Rattle.listing.specs.declared.row.Row.{Row}
use Rattle.listing.specs.Listings.{highest_text_of}
use Rattle.question.specs.declared.command.Command.TheVariants.{Predict, Heights, Highest}
use Rattle.question.specs.declared.question.Question.{Question}
use Rattle.station_curve.specs.Worked.{small_station}
use Rattle.station_span.specs.Following.{events_of}
use Rattle.station_span.specs.Levels.{level_at}
use Rattle.station_span.specs.Peaks.{highest_site}
use Rattle.station_span.specs.Sites.{Site}
use Rattle.station_table.specs.declared.basis.Basis.{Basis}
use Rattle.station_table.specs.declared.offset.Offset.{Offset}
use Rattle.station_table.specs.declared.offsets.Offsets.{Offsets}
use Rattle.station_table.specs.Offsets.{IsTable}
use Rattle.tide_answer.specs.declared.inputs.Given.{Given}
use Rattle.tide_answer.specs.declared.text.Answer.{Answer}
use Rattle.listing.specs.ByLayout.{events_text, heights_text}
use Rattle.tide_answer.specs.Answers.{answered, rows_of}

-- both requests are about the same station and the same span
pub record AskOneSpan (question other : Question) : Type 0 where
  pub station : other.station ≡ question.station
  pub begin : other.begin ≡ question.begin
  pub end : other.end ≡ question.end

-- Bool: whether an event of this kind is a slack water for which the station has separate offsets; it
-- has the level of the reference station, not of the station
abbrev pub has_own_time : Basis → Kind → Bool
has_own_time basis kind = is_slack kind && is_some basis.slack

-- the level of the event is at most `level`, unless the event is a slack water with separate offsets
abbrev pub IsEventBelow : Basis → ℤ → Event → Type 0
IsEventBelow basis level event = has_own_time basis event.kind ≡ false → event.level ≤ℤ level

-- the level of the row is at most `level`, if its minute is before `end`
abbrev pub IsRowBelow : ℤ → ℤ → Row → Type 0
IsRowBelow end level row = row.minute <ℤ end → row.level ≤ℤ level

-- the answer `listing` of `predict` prints `events`, and each of them, except slack waters with separate
-- offsets, has a level of at most `level`
pub record ListsEventsBelow (predict : Question) (there : Given) (name : List ℕ) (site : Site) (level : ℤ)
    (events : List Event) (listing : Answer) : Type 0 where
  pub text : listing.text ≡ events_text predict.layout name site.station.units events there.zone
  pub below : All (IsEventBelow site.basis level) events

-- the answer `listing` of `heights` prints `rows`, and each of them before `end` has a level of at most
-- `level`
pub record ListsRowsBelow (heights : Question) (there : Given) (name : List ℕ) (site : Site) (end level : ℤ)
    (rows : List Row) (listing : Answer) : Type 0 where
  pub text : listing.text ≡ heights_text heights.layout name site.station.units rows there.zone
  pub below : All (IsRowBelow end level) rows

-- `answer` of `highest` prints a minute and its level, and no event of `predict` and no row of `heights`
-- before `end`, for the same station and span, has a greater level; slack waters with separate offsets
-- are excepted
pub record IsAboveAll (book : Book) (table : List Offsets) (highest : Question) (inputs : Given) (answer : Answer) : Type 0 where
  pub name : List ℕ
  pub begin : ℤ
  pub end : ℤ
  pub site : Site
  pub minute : ℤ
  pub named : highest.station ≡ Some name
  pub begins : highest.begin ≡ Some begin
  pub ends : highest.end ≡ Some end
  pub found : highest_site book table name (record { begin = begin; end = end; mark = highest.mark }) ≡ Ok site
  pub text : answer.text ≡ highest_text_of name site.station.units minute (level_at book site minute) inputs.zone
  pub events : (predict : Question) (there : Given) (listing : Answer) →
      predict.command ≡ Predict → AskOneSpan highest predict → answered book table predict there ≡ Ok listing →
      ListsEventsBelow predict there name site (level_at book site minute)
      (events_of book site (record { begin = begin; end = end; mark = predict.mark })) listing
  pub rows : (heights : Question) (there : Given) (listing : Answer) →
      heights.command ≡ Heights → AskOneSpan highest heights → pos 1 ≤ℤ heights.step → answered book table heights there ≡ Ok listing →
      ListsRowsBelow heights there name site end (level_at book site minute) (rows_of book site begin end heights.step) listing

-- no event and no row before the end of the span has a level above the one that `highest` prints; slack
-- waters with separate offsets are excepted
abbrev pub NothingIsHigher : Type 0
NothingIsHigher = (book : Book) (table : List Offsets) (highest : Question) (inputs : Given) (answer : Answer) →
    IsTable table → highest.command ≡ Highest → answered book table highest inputs ≡ Ok answer →
    IsAboveAll book table highest inputs answer

-- ---- a small station

-- an example: a current with levels 10 knots below its reference's, and with separate offsets of 0
-- minutes for slack waters
abbrev pub sill : Site
sill =
    let lower : Offset = record { add = pos 0; times = pos 1000000; plus = negsuc 9999999 } in
    record {
      basis = record { station = 0; row = Some 0; high = lower; low = lower; slack = Some (record { flood_add = pos 0; ebb_add = pos 0 }) };
      station = small_station (pos 1000000) Knots;
    }
