-- The output of `clock`, and the outputs of `predict` and `heights` for the same minutes (this project).
use Rattle.std.specs.Prelude.{
  ◌≡◌,
  ℕ,
  ℤ,
  pos,
  ◌+ℤ◌,
  ◌≤ℤ◌,
  Bool,
  true,
  false,
  if◌then◌else◌,
  List,
  ◌++◌,
  codes,
  filter,
  slice_get,
  Some,
  None,
  Ok,
}
use Rattle.std.specs.List.{flat_map}
use Rattle.std.specs.Option.{ForSome}
use Rattle.curve_law.specs.declared.event.Event.{Event}
use Rattle.curve_law.specs.declared.kind.Kind.{Kind}
use Rattle.curve_law.specs.declared.kind.Kind.TheVariants.{High, Low}
use Rattle.event_text.specs.Lines.{event_line_in}
use Rattle.harmonics_book.specs.declared.book.Book.{Book}
use Rattle.harmonics_book.specs.declared.book.Units.{Units}
use Rattle.listing.specs.Listings.{direction_of}
use Rattle.question.specs.declared.command.Command.TheVariants.{Clock, Heights, Predict}
use Rattle.question.specs.declared.layout.Layout.TheVariants.{Plain}
use Rattle.question.specs.declared.question.Question.{Question}
use Rattle.station_table.specs.declared.offsets.Offsets.{Offsets}
use Rattle.tide_answer.specs.declared.inputs.Given.{Given}
use Rattle.tide_answer.specs.declared.text.Answer.{Answer}
use Rattle.tide_answer.specs.Answers.{answered, listed, text_alone}

-- ---- the requests

-- `predict` is a request to list, as lines of text, the events of the station of the request `clock`
-- over the 1,440 minutes from `now` on
pub record AsksDay (clock : Question) (now : ℤ) (predict : Question) : Type 0 where
  pub command : predict.command ≡ Predict
  pub station : predict.station ≡ clock.station
  pub begin : predict.begin ≡ Some now
  pub end : predict.end ≡ Some (now +ℤ pos 1440)
  pub no_mark : predict.mark ≡ None
  pub layout : predict.layout ≡ Plain

-- `heights` is a request for the level of the station of the request `clock` at the minute `now` only;
-- the step may be any
pub record AsksLevel (clock : Question) (now : ℤ) (heights : Question) : Type 0 where
  pub command : heights.command ≡ Heights
  pub station : heights.station ≡ clock.station
  pub begin : heights.begin ≡ Some now
  pub end : heights.end ≡ Some now
  pub no_mark : heights.mark ≡ None
  pub step : pos 1 ≤ℤ heights.step
  pub layout : heights.layout ≡ Plain

-- ---- the texts

-- Bool: whether a kind of event is a high or a low water (for a current, a maximum or minimum flood or
-- ebb)
abbrev pub is_turn : Kind → Bool
is_turn High = true
is_turn Low = true
is_turn _ = false

-- the high and low waters among the events (for a current, the maximum and minimum floods and ebbs)
abbrev pub turns_in : List Event → List Event
turns_in events = filter (λ event. is_turn event.kind) events

-- the kind of the next high or low water: High if `rising`, whether the level rises, is true, else Low
abbrev pub next_turn : Bool → Kind
next_turn rising = if rising then High else Low

-- `answer` of `clock` has `line`, which `heights` prints for the level at the present minute, and
-- `lines`, which `predict` prints for the events of the next 1,440 minutes; the first high or low water
-- among these fits the printed direction
pub record IsClock (book : Book) (table : List Offsets) (clock : Question) (inputs : Given) (answer : Answer) : Type 0 where
  pub name : List ℕ
  pub line : List ℕ
  pub lines : List ℕ
  pub rising : Bool
  pub units : Units
  pub events : List Event
  pub text : answer.text ≡ name ++ codes "\n"
      ++ (codes "Now " ++ line ++ codes "  " ++ direction_of rising ++ codes "\n") ++ lines
  pub day : (predict : Question) (there : Given) → AsksDay clock inputs.now predict → there.zone ≡ inputs.zone →
      answered book table predict there ≡ Ok (record answer { text = name ++ codes "\n" ++ lines })
  pub level : (heights : Question) (there : Given) → AsksLevel clock inputs.now heights → there.zone ≡ inputs.zone →
      answered book table heights there ≡ Ok (text_alone (name ++ codes "\n" ++ (line ++ codes "\n")))
  pub events_are : (predict : Question) → AsksDay clock inputs.now predict →
      listed book table predict ≡ Ok (record { name = name; units = units; events = events })
  pub lines_are : lines ≡ flat_map (event_line_in inputs.zone units) events
  pub first_turn : ForSome (slice_get (turns_in events) 0) (λ turn. turn.kind ≡ next_turn rising)

-- each answer of `clock` has the line that `heights` prints for the present minute, and the lines that
-- `predict` prints for the 1,440 minutes from then on
abbrev pub ShowsThePresentAndTheNextDay : Type 0
ShowsThePresentAndTheNextDay = (book : Book) (table : List Offsets) (clock : Question) (inputs : Given) (answer : Answer) →
    clock.command ≡ Clock → answered book table clock inputs ≡ Ok answer → IsClock book table clock inputs answer
