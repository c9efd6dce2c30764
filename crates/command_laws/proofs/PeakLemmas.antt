-- No output of another command for a span is above its highest water.
use Rattle.std.proofs.Common.{◌≡◌, ℕ, ◌<◌, ℤ, pos, negsuc, ◌+ℤ◌, ◌*ℤ◌, ◌≤ℤ◌, List, map, Some, Ok, refl, sym, ap, ◌∙◌, arith}
use Rattle.std.specs.Prelude.{All, IsTrue}
use Rattle.std.specs.List.{range_with_len}
use Rattle.std.proofs.lemmas.Int.{ints}
use Rattle.std.proofs.lemmas.List.Elements.{All-from_get_or}
use Rattle.std.proofs.lemmas.List.FromFn.{get_or-map-range_with_len, length-map-range_with_len}
use Rattle.harmonics_book.specs.declared.book.Book.{Book}
use Rattle.listing.specs.declared.row.Row.{Row}
use Rattle.question.specs.declared.command.Command.TheVariants.{Predict, Heights, Highest}
use Rattle.question.specs.declared.layout.Layout.{Layout}
use Rattle.question.specs.declared.question.Question.{Question}
use Rattle.station_span.specs.declared.span_request.SpanRequest.{SpanRequest}
use Rattle.station_span.specs.declared.purpose.Purpose.TheVariants.{Events, Levels, Highest as HighestReach}
use Rattle.station_span.specs.Following.{events_of}
use Rattle.station_span.specs.Levels.{level_at, level_in}
use Rattle.station_span.specs.Sites.{Site, site_in}
use Rattle.station_span.proofs.PeakLemmas.{highest_parts}
use Rattle.decimal_text.proofs.ExpectedLemmas.{then_ok}
use Rattle.station_table.specs.declared.offsets.Offsets.{Offsets}
use Rattle.station_table.specs.Bases.{is_equal}
use Rattle.tide_answer.specs.declared.inputs.Given.{Given}
use Rattle.tide_answer.specs.declared.text.Answer.{Answer}
use Rattle.listing.specs.ByLayout.{events_text, heights_text}
use Rattle.tide_answer.specs.Answers.{answered, heights, row_at, row_count, rows_in, rows_of, text_alone, text_over}
use Rattle.zone_time.specs.declared.zone.Zone.{Zone}
use Rattle.tide_answer.specs.PeakLaws.{ReportsTheHighest}
use Rattle.command_laws.specs.Peaks.{AskOneSpan, IsRowBelow, ListsEventsBelow, ListsRowsBelow, NothingIsHigher}
use Rattle.command_laws.proofs.LevelLemmas.{IsMost, events-below}
use Rattle.command_laws.proofs.SiteLemmas.{one_site}
use Rattle.command_laws.proofs.QuestionLemmas.{answers_heights, answers_highest, asks_of, has_span, predicts}

-- ---- the rows of heights

later : (begin step : ℤ) (index : ℕ) → pos 1 ≤ℤ step → begin ≤ℤ (begin +ℤ (step *ℤ pos index))
later begin (pos step) index some = omega (arith, ints)
later begin (negsuc step) index some = absurd (omega (arith, ints))

rows-below : (book : Book) (site : Site) (span_request : SpanRequest) (step level : ℤ) → pos 1 ≤ℤ step → IsMost book site span_request level
    → All (IsRowBelow span_request.end level) (rows_of book site span_request.begin span_request.end step)
rows-below book site span_request step level some most =
    let row : ℕ → Row = row_at book site span_request.begin step in
    let count = row_count span_request.begin span_request.end step in
    All-from_get_or (IsRowBelow span_request.end level) (map row (range_with_len 0 count)) (row 0) (λ index within.
    let below : index < count = omega (arith, length-map-range_with_len row 0 count, within) in
    let is = get_or-map-range_with_len row 0 count index index (row 0) below (omega arith) in
    rw is (λ before. most (span_request.begin +ℤ (step *ℤ pos index)) (later span_request.begin step index some) before))

-- ---- the listing of the span

-- a station that has a highest water, with the span of the request
record HasHighest (book : Book) (table : List Offsets) (question : Question) (name : List ℕ) (span_request : SpanRequest)
    (site : Site) (level : ℤ) : Type 0 where
  pub station : question.station ≡ Some name
  pub begins : question.begin ≡ Some span_request.begin
  pub ends : question.end ≡ Some span_request.end
  pub found : site_in HighestReach book table name span_request ≡ Ok site
  pub equal : IsTrue (is_equal site.basis)
  pub most : IsMost book site span_request level

lists-events : (book : Book) (table : List Offsets) (question predict : Question) (there : Given) (listing : Answer)
    (name : List ℕ) (span_request : SpanRequest) (site : Site) (level : ℤ) → HasHighest book table question name span_request site level
    → predict.command ≡ Predict → AskOneSpan question predict → answered book table predict there ≡ Ok listing
    → ListsEventsBelow predict there name site level
    (events_of book site (record { begin = span_request.begin; end = span_request.end; mark = predict.mark })) listing
lists-events book table question predict there listing name span_request site level has command same ok =
    let over : SpanRequest = record { begin = span_request.begin; end = span_request.end; mark = predict.mark } in
    let was = predicts book table predict there listing name span_request.begin span_request.end command (same.station ∙ has.station)
    (same.begin ∙ has.begins) (same.end ∙ has.ends) ok in
    let one = one_site HighestReach Events book table name span_request over site was.site has.found was.found in
    record {
      text = was.text ∙ ap (λ (s : Site). events_text predict.layout name s.station.units (events_of book s over) there.zone) one;
      below = events-below book site over level has.equal has.most;
    }

-- the levels in a request's list are the levels of the station that its name finds
record WereListed (book : Book) (table : List Offsets) (name : List ℕ) (span_request : SpanRequest) (step : ℤ) (layout : Layout)
    (zone : Zone) (answer : Answer) : Type 0 where
  pub site : Site
  pub found : site_in Levels book table name span_request ≡ Ok site
  pub text : answer.text ≡ heights_text layout name site.station.units (rows_of book site span_request.begin span_request.end step) zone

were_listed : (book : Book) (table : List Offsets) (name : List ℕ) (span_request : SpanRequest) (step : ℤ) (layout : Layout)
    (zone : Zone) (answer : Answer) → heights book table name span_request step layout zone ≡ Ok answer
    → WereListed book table name span_request step layout zone answer
unfolding heights
were_listed book table name span_request step layout zone answer ok =
    let site = then_ok (site_in Levels book table name span_request) _ answer ok in
    let equal = then_ok (level_in site.0.basis) _ answer site.2 in
    let few = then_ok (rows_in span_request.begin span_request.end step) _ answer equal.2 in
    let is :
    text_alone (heights_text layout name site.0.station.units (rows_of book site.0 span_request.begin span_request.end step) zone)
    ≡ answer = (let last = few.2 in cc) in
    record { site = site.0; found = site.1; text = ap (λ (a : Answer). a.text) (sym is) }

lists-rows : (book : Book) (table : List Offsets) (question levels : Question) (there : Given) (listing : Answer)
    (name : List ℕ) (span_request : SpanRequest) (site : Site) (level : ℤ) → HasHighest book table question name span_request site level
    → levels.command ≡ Heights → AskOneSpan question levels → pos 1 ≤ℤ levels.step
    → answered book table levels there ≡ Ok listing → ListsRowsBelow levels there name site span_request.end level
    (rows_of book site span_request.begin span_request.end levels.step) listing
lists-rows book table question levels there listing name span_request site level has command same some ok =
    let over : SpanRequest = record { begin = span_request.begin; end = span_request.end; mark = levels.mark } in
    let was = were_listed book table name over levels.step levels.layout there.zone listing
    (sym (asks_of levels (text_over Heights book table levels there.zone) name span_request.begin span_request.end levels.mark
    (same.station ∙ has.station) (same.begin ∙ has.begins) (same.end ∙ has.ends) refl)
    ∙ sym (answers_heights book table levels there command) ∙ ok) in
    let one = one_site HighestReach Levels book table name span_request over site was.site has.found was.found in
    record {
      text = was.text ∙ ap (λ (s : Site). heights_text levels.layout name s.station.units
          (rows_of book s span_request.begin span_request.end levels.step) there.zone) one;
      below = rows-below book site span_request levels.step level some has.most;
    }

-- ---- the law

pub nothing_higher : ReportsTheHighest → NothingIsHigher
nothing_higher reports book table question inputs answer rows command ok =
    let span = has_span question (text_over Highest book table question inputs.zone) answer
    (sym (answers_highest book table question inputs command) ∙ ok) in
    let name = span.name in
    let span_request : SpanRequest = record { begin = span.begin; end = span.end; mark = question.mark } in
    let reported = reports book table name span_request inputs.zone answer rows span.answered in
    let site = reported.site in
    let minute = reported.at +ℤ site.basis.high.add in
    let level = level_at book site minute in
    let parts = highest_parts book table name span_request site reported.found in
    let has : HasHighest book table question name span_request site level =
    record {
      station = span.station;
      begins = span.begins;
      ends = span.ends;
      found = parts.0;
      equal = parts.1;
      most = reported.water.level;
    } in
    record {
      name = name;
      begin = span.begin;
      end = span.end;
      site = site;
      minute = minute;
      named = span.station;
      begins = span.begins;
      ends = span.ends;
      found = reported.found;
      text = ap (λ (a : Answer). a.text) reported.reported;
      events = λ predict there listing command same ok.
          lists-events book table question predict there listing name span_request site level has command same ok;
      rows = λ levels there listing command same some ok.
          lists-rows book table question levels there listing name span_request site level has command same some ok;
    }
