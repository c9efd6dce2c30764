-- The rows of `heights` are the rows of the law over any level.
use Rattle.std.proofs.Common.{◌≡◌, ℕ, ℤ, pos, ◌≤ℤ◌, List, Ok, refl, ap}
use Rattle.std.specs.Prelude.{slice_get}
use Rattle.harmonics_book.specs.declared.book.Book.{Book}
use Rattle.question.specs.declared.command.Command.TheVariants.{Heights}
use Rattle.question.specs.declared.question.Question.{Question}
use Rattle.station_span.specs.declared.span_request.SpanRequest.{SpanRequest}
use Rattle.station_span.specs.declared.purpose.Purpose.TheVariants.{Levels}
use Rattle.station_span.specs.Levels.{level_at, level_in}
use Rattle.station_span.specs.Sites.{Site, site_in}
use Rattle.decimal_text.proofs.ExpectedLemmas.{then_ok}
use Rattle.station_table.specs.declared.offsets.Offsets.{Offsets}
use Rattle.text_laws.specs.Heights.{row_until, rows_over}
use Rattle.tide_answer.specs.declared.text.Answer.{Answer}
use Rattle.listing.specs.ByLayout.{heights_text}
use Rattle.tide_answer.specs.Answers.{heights, rows_in, rows_of, text_alone}
use Rattle.tide_desk.specs.Answers.{given_with, is_report, minute_for}
use Rattle.tide_desk.proofs.AskedLemmas.{went_over_span}
use Rattle.tide_desk.proofs.CheckingLemmas.{named_read, text_at}
use Rattle.tide_desk.proofs.FileLemmas.{ReadsFiles, was_answered}
use Rattle.zone_time.specs.declared.zone.Zone.{Zone}
use Rattle.question.specs.declared.layout.Layout.{Layout}
use Rattle.command_laws.specs.Heights.{HeightsAreLevels}
use Rattle.command_laws.proofs.RequestLemmas.{was_found, span_named, step_asked}

pub one_list : (book : Book) (site : Site) (begin end step : ℤ)
    → rows_of book site begin end step ≡ rows_over (level_at book site) begin end step
one_list book site begin end step = refl

abbrev pub RowsAreLevels : Type 0
RowsAreLevels = (level : ℤ → ℤ) (begin end step : ℤ) → begin ≤ℤ end → pos 1 ≤ℤ step → (index : ℕ)
    → slice_get (rows_over level begin end step) index ≡ row_until level begin end step index

-- the station that was found, and the text of its rows
record PrintsRows (book : Book) (table : List Offsets) (name : List ℕ) (span_request : SpanRequest) (step : ℤ) (layout : Layout)
    (zone : Zone) (answer : Answer) : Type 0 where
  site : Site
  found : site_in Levels book table name span_request ≡ Ok site
  printed : answer ≡ text_alone (heights_text layout name site.station.units (rows_of book site span_request.begin span_request.end step) zone)

prints_rows : (book : Book) (table : List Offsets) (name : List ℕ) (span_request : SpanRequest) (step : ℤ) (layout : Layout)
    (zone : Zone) (answer : Answer) → heights book table name span_request step layout zone ≡ Ok answer
    → PrintsRows book table name span_request step layout zone answer
unfolding heights
prints_rows book table name span_request step layout zone answer ok =
    let site = then_ok (site_in Levels book table name span_request) _ answer ok in
    let level = then_ok (level_in site.0.basis) _ answer site.2 in
    let few = then_ok (rows_in span_request.begin span_request.end step) _ answer level.2 in
    record { site = site.0; found = site.1; printed = (let last = few.2 in cc) }

heights_read : (question : Question) → question.command ≡ Heights → ReadsFiles question
heights_read question is = record { alone = λ seed. rw is refl; plain = ap is_report is }

pub prints_levels : RowsAreLevels → HeightsAreLevels
prints_levels rows sheets folder minute words question answer asks ok =
    let was = was_answered sheets folder minute words question answer asks.asked (heights_read question asks.is) ok in
    let read = was.read in
    let text = text_at question.command Heights read question
    (given_with read (minute_for question.command minute)) answer asks.is was.text in
    let over = went_over_span question
    (λ name span_request. heights read.book read.table name span_request question.step question.layout read.zone) answer text in
    let span_request = over.1 in
    let prints = prints_rows read.book read.table over.0 span_request question.step question.layout read.zone answer over.3 in
    let found = was_found Levels read.book read.table over.0 span_request prints.site prints.found in
    record {
      book = read.book;
      table = read.table;
      zone = read.zone;
      name = over.0;
      span_request = span_request;
      site = prints.site;
      rows = rows_of read.book prints.site span_request.begin span_request.end question.step;
      file = named_read folder question.file was.name read.book was.file was.files.book;
      offsets = was.files.table;
      shown = was.files.zone;
      station = over.2.station;
      span = span_named question over.0 span_request over.2;
      found = prints.found;
      printed = prints.printed;
      levels = rows (level_at read.book prints.site) span_request.begin span_request.end question.step found.forward
          (step_asked sheets words question asks.asked);
    }
