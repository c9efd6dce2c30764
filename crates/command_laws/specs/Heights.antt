-- The rows that `heights` prints (this project).
use Rattle.std.specs.Prelude.{◌≡◌, ℕ, ℤ, List, IsSomeAnd, Some, Ok, slice_get}
use Rattle.harmonics_book.specs.declared.book.Book.{Book}
use Rattle.listing.specs.declared.row.Row.{Row}
use Rattle.named_files.specs.Readings.{book_named, table_named, zone_named}
use Rattle.question.specs.declared.command.Command.TheVariants.{Heights}
use Rattle.question.specs.declared.question.Question.{Question}
use Rattle.report_sheets.specs.Sheets.{SheetSpec}
use Rattle.station_span.specs.declared.span_request.SpanRequest.{SpanRequest}
use Rattle.station_span.specs.declared.purpose.Purpose.TheVariants.{Levels}
use Rattle.station_span.specs.Levels.{level_at}
use Rattle.station_span.specs.Sites.{Site, site_in}
use Rattle.station_table.specs.declared.offsets.Offsets.{Offsets}
use Rattle.text_laws.specs.Heights.{row_until}
use Rattle.tide_answer.specs.declared.text.Answer.{Answer}
use Rattle.listing.specs.ByLayout.{heights_text}
use Rattle.tide_answer.specs.Answers.{text_alone}
use Rattle.tide_answer.specs.Asking.{request_by_question}
use Rattle.tide_desk.specs.Answers.{answer_of}
use Rattle.tide_desk.specs.Laws.{Asks}
use Rattle.tide_edge.specs.FileStates.{Folder}
use Rattle.zone_time.specs.declared.zone.Zone.{Zone}

-- the row with each index, counted from 0, has the station's level that many steps of `step` minutes
-- after `begin`, up to and including `end`, and there is no other row
abbrev pub AreLevels : Book → Site → ℤ → ℤ → ℤ → List Row → Type 0
AreLevels book site begin end step rows =
    (index : ℕ) → slice_get rows index ≡ row_until (level_at book site) begin end step index

-- `answer` has the levels, one a step, of the station and over the span of the request `question`, with
-- the contents of its files
pub record PrintsLevels (folder : Folder) (question : Question) (answer : Answer) : Type 0 where
  pub book : Book
  pub table : List Offsets
  pub zone : Zone
  pub name : List ℕ
  pub span_request : SpanRequest
  pub site : Site
  pub rows : List Row
  pub file : IsSomeAnd question.file (λ file. book_named folder file ≡ Ok book)
  pub offsets : table_named folder question.offsets ≡ Ok table
  pub shown : zone_named folder question.zone ≡ Ok zone
  pub station : question.station ≡ Some name
  pub span : request_by_question question ≡ Some span_request
  pub found : site_in Levels book table name span_request ≡ Ok site
  pub printed : answer ≡ text_alone (heights_text question.layout name site.station.units rows zone)
  pub levels : AreLevels book site span_request.begin span_request.end question.step rows

-- each answer of the command `heights` has the levels, one a step, of the requested station and span
abbrev pub HeightsAreLevels : Type 0
HeightsAreLevels = (sheets : List SheetSpec) (folder : Folder) (minute : ℤ) (words : List (List ℕ))
    (question : Question) (answer : Answer) →
    Asks sheets words Heights question → answer_of sheets folder minute words ≡ Ok answer →
    PrintsLevels folder question answer
