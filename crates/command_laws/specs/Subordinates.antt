-- The events of a subordinate station in two steps: the events of its reference, and then its offsets
-- (this project).
use Rattle.std.specs.Prelude.{
  ◌≡◌,
  ℕ,
  ℤ,
  pos,
  ◌-ℤ◌,
  ◌*ℤ◌,
  ◌≤ℤ◌,
  Bool,
  false,
  not,
  ◌&&◌,
  ◌||◌,
  is_none,
  List,
  filter,
  slice_get,
  Option,
  Some,
  None,
  Ok,
}
use Rattle.std.specs.Ordering.{int_eq}
use Rattle.curve_law.specs.declared.event.Event.{Event}
use Rattle.event_list.specs.Order.{ordered}
use Rattle.event_list.specs.Shifts.{moved_within, widened_of}
use Rattle.event_text.specs.Words.{is_slack}
use Rattle.harmonics_book.specs.declared.book.Book.{Book}
use Rattle.harmonics_book.specs.declared.book.Units.{Units}
use Rattle.harmonics_book.specs.declared.book.Units.TheVariants.{Knots}
use Rattle.question.specs.declared.command.Command.TheVariants.{Predict}
use Rattle.question.specs.declared.question.Question.{Question}
use Rattle.station_curve.specs.Worked.{small_station}
use Rattle.station_span.specs.Following.{asks_slack}
use Rattle.station_span.specs.Sites.{Site, span_limit}
use Rattle.station_table.specs.declared.basis.Basis.{Basis}
use Rattle.station_table.specs.declared.offset.Offset.{Offset}
use Rattle.station_table.specs.declared.offsets.Offsets.{Offsets}
use Rattle.station_table.specs.Bases.{basis_of}
use Rattle.station_table.specs.Offsets.{IsTable}
use Rattle.tide_answer.specs.declared.inputs.Given.{Given}
use Rattle.tide_answer.specs.declared.text.Answer.{Answer}
use Rattle.listing.specs.ByLayout.{events_text}
use Rattle.tide_answer.specs.Answers.{answered, listed}
use Rattle.command_laws.specs.Clock.{turns_in}

-- ---- the two requests

-- `question` is a request to `predict`, from `begin` to `end`, about a subordinate station, which is
-- this row of the table with this basis (reference station and offsets)
pub record AsksSubordinate (book : Book) (table : List Offsets) (row : Offsets) (basis : Basis) (begin end : ℤ)
    (question : Question) : Type 0 where
  pub name : List ℕ
  pub index : ℕ
  pub command : question.command ≡ Predict
  pub named : question.station ≡ Some name
  pub begins : question.begin ≡ Some begin
  pub ends : question.end ≡ Some end
  pub found : basis_of book table name ≡ Ok basis
  pub is_row : basis.row ≡ Some index
  pub at : slice_get table index ≡ Some row

-- `question` is a request to `predict` about the reference station of the table's row, over the span
-- whose events the offsets can move into the span from `begin` to `end`
pub record AsksReference (row : Offsets) (basis : Basis) (begin end : ℤ) (question : Question) : Type 0 where
  pub command : question.command ≡ Predict
  pub named : question.station ≡ Some row.reference
  pub begins : question.begin ≡ Some (widened_of basis begin end).begin
  pub ends : question.end ≡ Some (widened_of basis begin end).end

-- the station's mark (first Option) corresponds to its reference's (second Option): the station's level,
-- which is the reference's times the factor of the high-water offset plus its height, is at the one
-- exactly when the reference's level is at the other; or there is neither mark
abbrev pub MeansOneMark : Basis → Option ℤ → Option ℤ → Type 0
MeansOneMark basis None None = Unit {0}
MeansOneMark basis None (Some there) = ⊥
MeansOneMark basis (Some mark) None = ⊥
MeansOneMark basis (Some mark) (Some there) = there *ℤ basis.high.times ≡ (mark -ℤ basis.high.plus) *ℤ pos 1000000

-- ---- the two lists

-- Bool: whether the station also has this event of its reference: it has any event except slack waters,
-- and those only if its slack waters are listed
abbrev pub has_too : Units → Basis → Event → Bool
has_too units basis event = asks_slack units basis || not (is_slack event.kind)

-- Bool: whether the station's slack waters aren't its reference's: they are listed, have no separate
-- offsets, and the station's level is the reference's plus a height other than 0
abbrev pub has_own_slack : Units → Basis → Bool
has_own_slack units basis = asks_slack units basis && is_none basis.slack && not (int_eq basis.high.plus (pos 0))

-- the events of the reference station (without slack waters if the station's aren't listed), each
-- moved and scaled by the offset of its kind; of these the events from `begin` up to but not
-- including `end`, sorted by minute, then by kind, then by level
abbrev pub second_step : Units → Basis → ℤ → ℤ → List Event → List Event
second_step units basis begin end events = ordered (moved_within basis begin end (filter (has_too units basis) events))

-- the answers to both requests: the station's high and low waters are its reference's, moved and scaled;
-- so are all its events, if both marks correspond (`MeansOneMark`) and the station's slack waters are
-- the reference's (`has_own_slack` is false)
pub record AreTwoSteps (book : Book) (table : List Offsets) (question reference : Question) (inputs there : Given)
    (row : Offsets) (basis : Basis) (begin end : ℤ) (answer first : Answer) : Type 0 where
  pub name : List ℕ
  pub units : Units
  pub events : List Event
  pub of_reference : List Event
  pub named : question.station ≡ Some name
  pub events_are : listed book table question ≡ Ok (record { name = name; units = units; events = events })
  pub first_are : listed book table reference ≡ Ok (record { name = row.reference; units = units; events = of_reference })
  pub text : answer.text ≡ events_text question.layout name units events inputs.zone
  pub first_text : first.text ≡ events_text reference.layout row.reference units of_reference there.zone
  pub turns : turns_in events ≡ ordered (moved_within basis begin end (turns_in of_reference))
  pub all : has_own_slack units basis ≡ false → MeansOneMark basis question.mark reference.mark →
      events ≡ second_step units basis begin end of_reference

-- the high and low waters of a subordinate station are its reference station's, moved and scaled by
-- its offsets; so are all its events, if the marks of the two requests correspond and the station's
-- slack waters, if listed, are the reference's (`AreTwoSteps`)
abbrev pub ListsInTwoSteps : Type 0
ListsInTwoSteps = (book : Book) (table : List Offsets) (question reference : Question) (inputs there : Given) →
    (row : Offsets) (basis : Basis) (begin end : ℤ) (answer first : Answer) →
    IsTable table → AsksSubordinate book table row basis begin end question → AsksReference row basis begin end reference →
    answered book table question inputs ≡ Ok answer → answered book table reference there ≡ Ok first →
    AreTwoSteps book table question reference inputs there row basis begin end answer first

-- the request about the reference station has an answer if the request about the subordinate
-- station has one and the reference's span has at most 5,270,400 minutes
abbrev pub ReferenceIsAnswered : Type 0
ReferenceIsAnswered = (book : Book) (table : List Offsets) (question reference : Question) (inputs there : Given) →
    (row : Offsets) (basis : Basis) (begin end : ℤ) (answer : Answer) →
    AsksSubordinate book table row basis begin end question → AsksReference row basis begin end reference →
    answered book table question inputs ≡ Ok answer →
    ((widened_of basis begin end).end -ℤ (widened_of basis begin end).begin) ≤ℤ span_limit →
    (first : Answer) × (answered book table reference there ≡ Ok first)

-- ---- a small station

-- an example: a current with levels 0.5 knots above its reference's, and without separate offsets for
-- slack waters
abbrev pub stream : Site
stream =
    let higher : Offset = record { add = pos 0; times = pos 1000000; plus = pos 500000 } in
    record {
      basis = record { station = 0; row = Some 0; high = higher; low = higher; slack = None };
      station = small_station (pos 1000000) Knots;
    }
