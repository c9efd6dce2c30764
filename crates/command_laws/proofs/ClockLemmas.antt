-- The answers of `clock`, `predict` and `heights`.
use Rattle.std.proofs.Common.{◌≡◌, ℕ, zero, suc, ℤ, pos, negsuc, ◌+ℤ◌, ◌-ℤ◌, ◌*ℤ◌, ◌≤ℤ◌, int_lt, true, false, List, [], ◌∷◌, ◌++◌, codes, append-nil, Some, None, Ok, refl, sym, ap, ◌∙◌, arith}
use Rattle.std.specs.Prelude.{IsTrue}
use Rattle.std.specs.List.{flat_map}
use Rattle.std.proofs.lemmas.Int.{ints}
use Rattle.event_text.specs.Lines.{event_line_in, height_line_of}
use Rattle.harmonics_book.specs.declared.book.Book.{Book}
use Rattle.harmonics_book.specs.declared.book.Units.{Units}
use Rattle.listing.specs.declared.row.Row.{Row}
use Rattle.listing.specs.Listings.{clock_text_of, plain_events_of, plain_heights_of, row_line_in}
use Rattle.question.specs.declared.command.Command.TheVariants.{Clock, Heights, Predict}
use Rattle.question.specs.declared.layout.Layout.TheVariants.{Plain}
use Rattle.question.specs.declared.question.Question.{Question}
use Rattle.station_span.specs.declared.span_request.SpanRequest.{SpanRequest}
use Rattle.station_span.specs.declared.purpose.Purpose.TheVariants.{Events, Levels}
use Rattle.station_span.specs.Following.{events_of}
use Rattle.station_span.specs.Levels.{is_rising_at, level_at, level_in}
use Rattle.station_span.specs.Sites.{Site, has_minute, lacks_minute, length_in, site_in, span_in}
use Rattle.station_span.proofs.FoundLemmas.{found_by, found_whole}
use Rattle.station_span.proofs.LevelLemmas.{level_equal}
use Rattle.decimal_text.proofs.ExpectedLemmas.{then_ok}
use Rattle.station_table.specs.declared.basis.Basis.{Basis}
use Rattle.station_table.specs.declared.offsets.Offsets.{Offsets}
use Rattle.station_table.specs.Bases.{is_equal}
use Rattle.tide_answer.specs.declared.inputs.Given.{Given}
use Rattle.tide_answer.specs.declared.text.Answer.{Answer}
use Rattle.tide_answer.specs.Answers.{answered, asks_name, heights, named_by, on_clock, predicted, row_count, rows_in, rows_of, text_alone, text_of_events, text_over}
use Rattle.tide_answer.specs.Asking.{request_from_minute}
use Rattle.tide_fault.specs.declared.refusal.Refusal.TheVariants.{NoStation}
use Rattle.zone_time.specs.declared.zone.Zone.{Zone}
use Rattle.zone_time.specs.Zones.{local_in}
use Rattle.command_laws.specs.Clock.{AsksDay, AsksLevel, ShowsThePresentAndTheNextDay}
use Rattle.command_laws.proofs.QuestionLemmas.{answers_heights, answers_predict, asks_of, lists_of}
use Rattle.command_laws.proofs.SiteLemmas.{has_passed, reaches_span, some_of}
use Rattle.command_laws.proofs.TurnLemmas.{adds, first_turn}

-- ---- the level of a single minute

-- a minute of the file's years
minute_between : (book : Book) (begin minute end : ℤ) → has_minute book begin ≡ true → has_minute book end ≡ true
    → begin ≤ℤ minute → minute ≤ℤ end → has_minute book minute ≡ true
minute_between book begin minute end first last from until = grind (arith, ints)

not_backward : (now : ℤ) → int_lt now now ≡ false
not_backward now = grind (arith, ints)

level_span : (book : Book) (basis : Basis) (now : ℤ) → IsTrue (is_equal basis)
    → has_minute book (now -ℤ basis.high.add) ≡ true → span_in Levels book basis now now ≡ Ok tt
unfolding span_in lacks_minute
level_span book basis now equal has = rw (not_backward now, equal, has) refl

level_length : (now : ℤ) → length_in now now ≡ Ok tt
unfolding length_in
level_length now = let none : now -ℤ now ≡ pos 0 = omega (arith, ints) in rw none refl

level_site : (book : Book) (table : List Offsets) (name : List ℕ) (now : ℤ) (site : Site)
    → site_in Events book table name (request_from_minute now) ≡ Ok site → IsTrue (is_equal site.basis)
    → site_in Levels book table name (record { begin = now; end = now; mark = None }) ≡ Ok site
level_site book table name now site ok equal =
    let was = has_passed Events book table name (request_from_minute now) site ok in
    let reaches = reaches_span book site.basis now (now +ℤ pos 1440) was.curve.span in
    let least = (adds site.basis).0 in
    let greatest = (adds site.basis).1 in
    let source = now -ℤ site.basis.high.add in
    let inside = minute_between book _ source _ reaches.begins reaches.ends (omega (arith, ints, greatest)) (omega (arith, ints, least)) in
    let span_request : SpanRequest = record { begin = now; end = now; mark = None } in
    found_by Levels book table name span_request site.basis site.station (rw was.basis refl) was.station
    ∙ found_whole Levels book site span_request was.units was.whole
    (record { unit = was.curve.unit; span = level_span book site.basis now equal inside; curve = was.curve.curve })
    (level_length now) refl

one_row : (now step : ℤ) → pos 1 ≤ℤ step → row_count now now step ≡ 1
one_row now (pos (suc step)) some = let none : now -ℤ now ≡ pos 0 = omega (arith, ints) in rw none (omega arith)
one_row now (pos zero) some = absurd (omega (arith, ints))
one_row now (negsuc step) some = absurd (omega (arith, ints))

few_rows : (now step : ℤ) → pos 1 ≤ℤ step → rows_in now now step ≡ Ok tt
unfolding rows_in
few_rows now step some = rw (one_row now step some) refl

row_alone : (book : Book) (site : Site) (now step : ℤ) → pos 1 ≤ℤ step
    → rows_of book site now now step ≡ record { minute = now; level = level_at book site now } ∷ []
row_alone book site now step some =
    let at : now +ℤ (step *ℤ pos 0) ≡ now = omega (arith, ints) in
    rw (one_row now step some) (ap (λ (m : ℤ). record { minute = m; level = level_at book site m } ∷ []) at)

level_text : (book : Book) (table : List Offsets) (name : List ℕ) (now step : ℤ) (site : Site) (zone : Zone)
    → site_in Events book table name (request_from_minute now) ≡ Ok site → level_in site.basis ≡ Ok tt → pos 1 ≤ℤ step
    → heights book table name (record { begin = now; end = now; mark = None }) step Plain zone
    ≡ Ok (text_alone (plain_heights_of name site.station.units (record { minute = now; level = level_at book site now } ∷ []) zone))
unfolding heights
level_text book table name now step site zone ok level some =
    rw (
      level_site book table name now site ok (level_equal site.basis level),
      level,
      few_rows now step some,
      row_alone book site now step some,
    ) refl

height_text : (name : List ℕ) (units : Units) (row : Row) (zone : Zone) → plain_heights_of name units (row ∷ []) zone
    ≡ name ++ codes "\n" ++ (height_line_of (local_in zone row.minute) row.level units ++ codes "\n")
unfolding plain_heights_of
height_text name units row zone = ap (λ text. name ++ codes "\n" ++ text) (append-nil (row_line_in zone units row))

-- ---- the law

day_text : (book : Book) (table : List Offsets) (name : List ℕ) (now : ℤ) (site : Site) (zone : Zone)
    → site_in Events book table name (request_from_minute now) ≡ Ok site
    → predicted book table name (request_from_minute now) Plain zone
    ≡ Ok (text_of_events book site (request_from_minute now) (name ++ codes "\n"
    ++ flat_map (event_line_in zone site.station.units) (events_of book site (request_from_minute now))))
unfolding predicted plain_events_of
day_text book table name now site zone ok = rw ok refl

answers_clock : (book : Book) (table : List Offsets) (question : Question) (inputs : Given) → question.command ≡ Clock
    → answered book table question inputs ≡ asks_name question (λ name. on_clock book table name inputs.now inputs.zone)
unfolding answered
answers_clock book table question inputs is = rw is refl

abbrev clock_line : Book → Site → ℤ → Zone → List ℕ
clock_line book site now zone = height_line_of (local_in zone now) (level_at book site now) site.station.units

record WasShown (book : Book) (table : List Offsets) (question : Question) (inputs : Given) (answer : Answer) : Type 0 where
  pub name : List ℕ
  pub site : Site
  pub named : question.station ≡ Some name
  pub found : site_in Events book table name (request_from_minute inputs.now) ≡ Ok site
  pub level : level_in site.basis ≡ Ok tt
  pub answer_is : answer ≡ text_of_events book site (request_from_minute inputs.now)
      (clock_text_of name site.station.units inputs.now (level_at book site inputs.now) (is_rising_at book site inputs.now)
      (events_of book site (request_from_minute inputs.now)) inputs.zone)

was_shown : (book : Book) (table : List Offsets) (question : Question) (inputs : Given) (answer : Answer)
    → asks_name question (λ name. on_clock book table name inputs.now inputs.zone) ≡ Ok answer
    → WasShown book table question inputs answer
unfolding asks_name on_clock
was_shown book table question inputs answer ok =
    let name = then_ok (named_by question.station) _ answer ok in
    let site = then_ok (site_in Events book table name.0 (request_from_minute inputs.now)) _ answer name.2 in
    let level = then_ok (level_in site.0.basis) _ answer site.2 in
    record {
      name = name.0;
      site = site.0;
      named = some_of _ NoStation name.0 name.1;
      found = site.1;
      level = level.1;
      answer_is = (let last = level.2 in cc);
    }

day_answer : (book : Book) (table : List Offsets) (clock : Question) (inputs : Given) (answer : Answer)
    (was : WasShown book table clock inputs answer) (predict : Question) (there : Given)
    → AsksDay clock inputs.now predict → there.zone ≡ inputs.zone
    → answered book table predict there ≡ Ok (record answer {
      text = was.name ++ codes "\n" ++ flat_map (event_line_in inputs.zone was.site.station.units)
          (events_of book was.site (request_from_minute inputs.now));
    })
day_answer book table clock inputs answer was predict there asks zone =
    let text = was.name ++ codes "\n" ++ flat_map (event_line_in inputs.zone was.site.station.units)
    (events_of book was.site (request_from_minute inputs.now)) in
    answers_predict book table predict there asks.command
    ∙ asks_of predict (text_over Predict book table predict there.zone) was.name inputs.now (inputs.now +ℤ pos 1440) None
    (asks.station ∙ was.named) asks.begin asks.end asks.no_mark
    ∙ rw (asks.layout, zone) (day_text book table was.name inputs.now was.site inputs.zone was.found)
    ∙ ap (λ (a : Answer). Ok (record a { text = text })) (sym was.answer_is)

level_answer : (book : Book) (table : List Offsets) (clock : Question) (inputs : Given) (answer : Answer)
    (was : WasShown book table clock inputs answer) (levels : Question) (there : Given)
    → AsksLevel clock inputs.now levels → there.zone ≡ inputs.zone → answered book table levels there
    ≡ Ok (text_alone (was.name ++ codes "\n" ++ (clock_line book was.site inputs.now inputs.zone ++ codes "\n")))
level_answer book table clock inputs answer was levels there asks zone =
    let row : Row = record { minute = inputs.now; level = level_at book was.site inputs.now } in
    answers_heights book table levels there asks.command
    ∙ asks_of levels (text_over Heights book table levels there.zone) was.name inputs.now inputs.now None
    (asks.station ∙ was.named) asks.begin asks.end asks.no_mark
    ∙ rw (asks.layout, zone) (level_text book table was.name inputs.now levels.step was.site inputs.zone was.found was.level asks.step)
    ∙ ap (λ text. Ok (text_alone text)) (height_text was.name was.site.station.units row inputs.zone)

pub clock_shows : ShowsThePresentAndTheNextDay
unfolding clock_text_of
clock_shows book table clock inputs answer command ok =
    let was = was_shown book table clock inputs answer (sym (answers_clock book table clock inputs command) ∙ ok) in
    let site = was.site in
    let now = inputs.now in
    let events = events_of book site (request_from_minute now) in
    record {
      name = was.name;
      line = clock_line book site now inputs.zone;
      lines = flat_map (event_line_in inputs.zone site.station.units) events;
      rising = is_rising_at book site now;
      units = site.station.units;
      events = events;
      text = ap (λ (a : Answer). a.text) was.answer_is;
      day = day_answer book table clock inputs answer was;
      level = level_answer book table clock inputs answer was;
      events_are = λ predict asks.
          lists_of book table predict was.name now (now +ℤ pos 1440) None site
          (asks.station ∙ was.named) asks.begin asks.end asks.no_mark was.found;
      lines_are = refl;
      first_turn = first_turn book site (request_from_minute now) (level_equal site.basis was.level) (omega (arith, ints));
    }
