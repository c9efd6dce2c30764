-- The events on the sheets of a report, and the events that `predict` lists (this project).
use Rattle.std.specs.Prelude.{◌≡◌, ◌<◌, ◌≤◌, ℕ, ℤ, List, ◌++◌, All, length, map, filter, Ok}
use Rattle.std.specs.List.{flat_map, Contains}
use Rattle.curve_law.specs.declared.event.Event.{Event}
use Rattle.named_files.specs.Readings.{zone_named}
use Rattle.question.specs.declared.command.Command.TheVariants.{Predict, Report}
use Rattle.question.specs.declared.question.Question.{Question}
use Rattle.report_sheets.specs.declared.head.Head.{Head}
use Rattle.report_sheets.specs.Pages.{is_wanted}
use Rattle.report_sheets.specs.Sheets.{SheetSpec}
use Rattle.tide_answer.specs.declared.listed.Listed.{Listed}
use Rattle.tide_answer.specs.declared.text.Answer.{Answer}
use Rattle.listing.specs.ByLayout.{events_text}
use Rattle.tide_desk.specs.Answers.{answer_of, head_of, wanted_by}
use Rattle.tide_desk.specs.Laws.{Asks, NameSameFiles, subject_of}
use Rattle.tide_edge.specs.FileStates.{Folder}
use Rattle.zone_time.specs.declared.zone.Zone.{Zone}

-- a page of a report: its sheet, and the events that it shows
pub record ReportPage : Type 0 where
  pub sheet : SheetSpec
  pub events : List Event

-- the text of a page of a report under its head (station, unit and present minute)
abbrev pub text_of : Head → ReportPage → List ℕ
text_of head page = page.sheet.layout head page.events

-- the page shows all of `events`, or, if there are more than its sheet's limit, the first of them, as
-- many as the limit
pub record IsPage (events : List Event) (page : ReportPage) : Type 0 where
  pub first : (rest : List Event) × (events ≡ page.events ++ rest)
  pub within : length page.events ≤ page.sheet.limit
  pub complete : length page.events < page.sheet.limit → page.events ≡ events

-- `text` is a report: one page for each requested sheet, in the order of `sheets`, whatever the order of
-- the request, and each requested word has its page
pub record IsReport (sheets : List SheetSpec) (wanted : List (List ℕ)) (head : Head) (events : List Event) (text : List ℕ) : Type 0 where
  pub pages : List ReportPage
  pub text_is : text ≡ flat_map (text_of head) pages
  pub requested : map (λ page. page.sheet) pages ≡ filter (is_wanted wanted) sheets
  pub none_missing : All (Contains (map (λ page. page.sheet.word) pages)) wanted
  pub each : All (IsPage events) pages

-- the answer `listing` of `predict` prints a list of events, and the answer `pages` of `report` has
-- pages that show the same list
pub record ShowOneList (sheets : List SheetSpec) (report predict : Question) (now : ℤ) (zone : Zone)
    (pages listing : Answer) : Type 0 where
  pub listed : Listed
  pub all : listing.text ≡ events_text predict.layout listed.name listed.units listed.events zone
  pub shown : IsReport sheets (wanted_by report) (head_of listed now) listed.events pages.text

-- If `report` has an answer at a minute, `predict` has an answer for the same station, span, mark
-- and files at any minute, in any zone that can be read and in any layout; and both show the same
-- list of events (each page of the report as far as its sheet's limit).
abbrev pub ReportsAreComplete : Type 0
ReportsAreComplete = (sheets : List SheetSpec) (folder : Folder) (now later : ℤ) (words more : List (List ℕ))
    (report predict : Question) (pages : Answer) (zone : Zone) →
    Asks sheets words Report report → answer_of sheets folder now words ≡ Ok pages →
    Asks sheets more Predict predict → NameSameFiles predict report → subject_of predict ≡ subject_of report →
    zone_named folder predict.zone ≡ Ok zone →
    (listing : Answer) × (answer_of sheets folder later more ≡ Ok listing) × ShowOneList sheets report predict now zone pages listing
