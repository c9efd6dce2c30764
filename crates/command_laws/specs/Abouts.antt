-- The level in the minutes after the turns that `predict` lists, and the bound that `about` prints (this
-- project).
use Rattle.std.specs.Prelude.{◌≡◌, ℕ, ◌*◌, ◌^◌, ℤ, pos, neg_ℤ, ◌+ℤ◌, ◌-ℤ◌, ◌*ℤ◌, ◌≤ℤ◌, List, All, IsSomeAnd, Some, Ok}
use Rattle.curve_law.specs.declared.event.Event.{Event}
use Rattle.curve_law.specs.declared.kind.Kind.{Kind}
use Rattle.curve_law.specs.declared.kind.Kind.TheVariants.{High, Low}
use Rattle.event_list.specs.Shifts.{offset_of}
use Rattle.fixed_sine.specs.Circle.{radian}
use Rattle.harmonics_book.specs.declared.book.Book.{Book}
use Rattle.harmonics_book.specs.declared.book.Station.{Station}
use Rattle.listing.specs.Abouts.{about_text_of}
use Rattle.named_files.specs.Readings.{book_named, table_named}
use Rattle.question.specs.declared.command.Command.TheVariants.{About, Predict}
use Rattle.question.specs.declared.question.Question.{Question}
use Rattle.report_sheets.specs.Sheets.{SheetSpec}
use Rattle.slope_agreement.specs.Agreements.{IsPlainMinute}
use Rattle.station_curve.specs.Schureman.{predicted_level}
use Rattle.station_span.specs.declared.span_request.SpanRequest.{SpanRequest}
use Rattle.station_span.specs.declared.purpose.Purpose.TheVariants.{Events}
use Rattle.station_span.specs.Sites.{Site, site_in}
use Rattle.station_table.specs.declared.offsets.Offsets.{Offsets}
use Rattle.tide_answer.specs.declared.text.Answer.{Answer}
use Rattle.listing.specs.ByLayout.{events_text}
use Rattle.tide_answer.specs.Answers.{text_alone}
use Rattle.tide_answer.specs.Asking.{request_by_question}
use Rattle.tide_desk.specs.Answers.{answer_of}
use Rattle.tide_desk.specs.Laws.{Asks, NameSameFiles}
use Rattle.tide_edge.specs.FileStates.{Folder}
use Rattle.year_blend.specs.Weights.{total_weight}
use Rattle.zone_time.specs.declared.zone.Zone.{Zone}

-- the number that `about` prints for a bound of one of the station's units a minute:
-- 142,570,234,078,617,600,000,000,000,000,000,000
abbrev pub unit_of_bound : ℕ
unit_of_bound = radian * (total_weight * 10 ^ 15)

-- the rise of the level of `station` from minute `m` to `m + 1`, in units of which `unit_of_bound`
-- (about 1.4257 * 10^35) are one of the station's units
abbrev pub rise_in : Book → Station → ℤ → ℤ
rise_in book station m =
    pos radian *ℤ (predicted_level book station (m +ℤ pos 1) -ℤ predicted_level book station m)

-- minutes `m` and `m + 1` are in one year, and neither is less than an hour from a new year between two
-- of the book's years
abbrev pub IsOutsideBlends : Book → ℤ → Type 0
IsOutsideBlends book m = (year : ℕ) × IsPlainMinute book.first_year book.years m year

-- the level rises by at most `bound` from minute `m` to `m + 1`, unless one of them is less than an hour
-- from a new year
abbrev pub RisesAtMost : Book → Station → ℤ → ℤ → Type 0
RisesAtMost book station bound m = IsOutsideBlends book m → rise_in book station m ≤ℤ bound

-- the level falls by at most `bound` from minute `m` to `m + 1`, unless one of them is less than an hour
-- from a new year
abbrev pub FallsAtMost : Book → Station → ℤ → ℤ → Type 0
FallsAtMost book station bound m = IsOutsideBlends book m → neg_ℤ bound ≤ℤ rise_in book station m

-- A high water is between minutes `m` and `m + 1`: from `m` to `m + 1` the level rises or falls by at
-- most `bound`, and from `m + 1` to `m + 2` it rises by at most `bound`.
pub record IsBoundedHigh (book : Book) (station : Station) (bound m : ℤ) : Type 0 where
  pub rises : RisesAtMost book station bound m
  pub rises_later : RisesAtMost book station bound (m +ℤ pos 1)
  pub falls : FallsAtMost book station bound m

-- A low water is between minutes `m` and `m + 1`: from `m` to `m + 1` the level rises or falls by at
-- most `bound`, and from `m + 1` to `m + 2` it falls by at most `bound`.
pub record IsBoundedLow (book : Book) (station : Station) (bound m : ℤ) : Type 0 where
  pub falls : FallsAtMost book station bound m
  pub falls_later : FallsAtMost book station bound (m +ℤ pos 1)
  pub rises : RisesAtMost book station bound m

-- For a high water between minutes `m` and `m + 1`, the level rises or falls by at most `bound`
-- from `m` to `m + 1`, and rises by at most `bound` from `m + 1` to `m + 2`; for a low water it
-- falls by at most `bound` then. For any other kind of event nothing is said.
abbrev pub IsBoundedTurn : Book → Station → ℤ → Kind → ℤ → Type 0
IsBoundedTurn book station bound High m = IsBoundedHigh book station bound m
IsBoundedTurn book station bound Low m = IsBoundedLow book station bound m
IsBoundedTurn book station bound _ m = Unit {0}

-- the level of the reference station changes by at most `bound` a minute after a high or low water;
-- `event` is the station's event, and the reference station's minute is its minute less the offset's
-- minutes
abbrev pub IsBounded : Book → Site → ℤ → Event → Type 0
IsBounded book site bound event =
    IsBoundedTurn book site.station bound event.kind (event.minute -ℤ (offset_of site.basis event.kind).add)

-- the answer `facts` of `about` prints `bound`, the answer `listing` of `predict` prints `events`, both
-- for one station, and around each high and low water of `events` the level changes by at most `bound` a
-- minute
pub record BoundsTurns (folder : Folder) (predict : Question) (facts listing : Answer) : Type 0 where
  pub book : Book
  pub table : List Offsets
  pub zone : Zone
  pub name : List ℕ
  pub span_request : SpanRequest
  pub site : Site
  pub constituents : ℕ
  pub bound : ℤ
  pub events : List Event
  pub file : IsSomeAnd predict.file (λ file. book_named folder file ≡ Ok book)
  pub offsets : table_named folder predict.offsets ≡ Ok table
  pub station : predict.station ≡ Some name
  pub span : request_by_question predict ≡ Some span_request
  pub found : site_in Events book table name span_request ≡ Ok site
  pub printed : facts ≡ text_alone (about_text_of name site.station.name site.station.units constituents bound)
  pub listed : listing.text ≡ events_text predict.layout name site.station.units events zone
  pub each : All (IsBounded book site bound) events

-- for one station and the same files, `about` prints a bound on the change of the level in a minute,
-- which holds at each high and low water that `predict` prints
abbrev pub AboutBoundsTurns : Type 0
AboutBoundsTurns = (sheets : List SheetSpec) (folder : Folder) (minute later : ℤ) (words more : List (List ℕ))
    (about predict : Question) (facts listing : Answer) →
    Asks sheets words About about → answer_of sheets folder minute words ≡ Ok facts →
    Asks sheets more Predict predict → answer_of sheets folder later more ≡ Ok listing →
    NameSameFiles predict about → predict.station ≡ about.station →
    BoundsTurns folder predict facts listing
