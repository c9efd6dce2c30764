-- The pages of a report show the list of its station's events.
use Rattle.std.proofs.Common.{◌≡◌, ◌<◌, ℕ, zero, suc, ℤ, Bool, true, false, List, [], ◌∷◌, length, map, take, drop, nat_lt, Option, Some, None, Result, Ok, Err, All, refl, sym, subst, ap, ◌∙◌, arith}
use Rattle.std.specs.Prelude.{filter, not, ◌||◌}
use Rattle.std.specs.List.{flat_map, find, list_any, position, position_or_len, slice_index_or, Contains}
use Rattle.std.specs.Str.{bytes_eq}
use Rattle.std.proofs.lemmas.Bool.{ltb-false}
use Rattle.std.proofs.lemmas.List.{length-take, take-append-drop, take_all}
use Rattle.std.proofs.lemmas.List.Elements.{All-nil, All-cons}
use Rattle.std.proofs.lemmas.List.Folds.{find_at, flat_map-map}
use Rattle.std.proofs.lemmas.Option.{slice_get_past}
use Rattle.std.proofs.lemmas.Slice.Eq.{bytes_eq-Decides}
use Rattle.curve_law.specs.declared.event.Event.{Event}
use Rattle.curve_law.proofs.CoverLemmas.{by_test}
use Rattle.harmonics_book.specs.declared.book.Book.{Book}
use Rattle.named_files.specs.declared.materials.Materials.{Materials}
use Rattle.named_files.specs.RunFaults.{refused_over}
use Rattle.named_files.specs.Readings.{book_named, certificate_named, files_in, table_named, zone_named}
use Rattle.question.specs.declared.command.Command.{Command}
use Rattle.question.specs.declared.command.Command.TheVariants.{Predict, Report}
use Rattle.question.specs.declared.layout.Layout.{Layout}
use Rattle.question.specs.declared.question.Question.{Question}
use Rattle.report_sheets.specs.declared.head.Head.{Head}
use Rattle.report_sheets.specs.Pages.{has_sheet, is_wanted, missing_of, page_of, pages_of}
use Rattle.report_sheets.specs.Sheets.{SheetSpec}
use Rattle.station_span.specs.declared.span_request.SpanRequest.{SpanRequest}
use Rattle.station_span.specs.declared.purpose.Purpose.TheVariants.{Events}
use Rattle.station_span.specs.Following.{events_of}
use Rattle.station_span.specs.Sites.{Site, site_in}
use Rattle.decimal_text.proofs.ExpectedLemmas.{then_ok}
use Rattle.station_table.specs.declared.offsets.Offsets.{Offsets}
use Rattle.tide_answer.specs.declared.listed.Listed.{Listed}
use Rattle.tide_answer.specs.declared.text.Answer.{Answer}
use Rattle.listing.specs.ByLayout.{events_text}
use Rattle.tide_answer.specs.Answers.{answered_without_files, listed, named_by, predicted, text_alone, text_by, text_from, text_of_events}
use Rattle.tide_answer.specs.Asking.{request_by_question}
use Rattle.tide_desk.specs.Answers.{answered_over_optional_file, answered_over_file, answered_over_book, given_with, head_of, is_report, found_in, minute_for, reported, wanted_by}
use Rattle.tide_desk.specs.Laws.{NameSameFiles, subject_of}
use Rattle.tide_desk.proofs.AskedLemmas.{NamesSpan, goes_over_span, names_no_certificate}
use Rattle.tide_desk.proofs.CheckingLemmas.{names_subject, subject_named}
use Rattle.tide_desk.proofs.FileLemmas.{WasRead, is_answered, words_answer}
use Rattle.tide_edge.specs.FileStates.{Folder}
use Rattle.tide_fault.specs.declared.refusal.Refusal.{Refusal}
use Rattle.tide_fault.specs.declared.refusal.Refusal.TheVariants.{NoStation}
use Rattle.zone_time.specs.declared.zone.Zone.{Zone}
use Rattle.command_laws.specs.Reports.{IsPage, IsReport, ReportPage, ReportsAreComplete, text_of}
use Rattle.command_laws.proofs.RequestLemmas.{name_ok, names_span, words_ask}

-- ---- the pages

abbrev pub page_on : List Event → SheetSpec → ReportPage
page_on events sheet = record { sheet = sheet; events = take sheet.limit events }

page_is : (events : List Event) (sheet : SheetSpec) → IsPage events (page_on events sheet)
page_is events sheet =
    let few = length-take sheet.limit events in
    record {
      first = (drop sheet.limit events, sym (take-append-drop sheet.limit events));
      within = omega (arith, few);
      complete = λ short. take_all sheet.limit events (omega (arith, few, short));
    }

pages_are : (events : List Event) (sheets : List SheetSpec) → All (IsPage events) (map (page_on events) sheets)
pages_are events [] = All-nil (IsPage events)
pages_are events (sheet ∷ sheets) = All-cons (IsPage events) (page_on events sheet) (map (page_on events) sheets)
    (page_is events sheet) (pages_are events sheets)

sheets_of_pages : (events : List Event) (sheets : List SheetSpec)
    → map (λ (page : ReportPage). page.sheet) (map (page_on events) sheets) ≡ sheets
sheets_of_pages events [] = refl
sheets_of_pages events (sheet ∷ sheets) = ap (λ rest. sheet ∷ rest) (sheets_of_pages events sheets)

text_of_pages : (head : Head) (events : List Event) (wanted : List (List ℕ)) (sheets : List SheetSpec)
    → pages_of sheets wanted head events
    ≡ flat_map (text_of head) (map (page_on events) (filter (is_wanted wanted) sheets))
unfolding pages_of page_of
text_of_pages head events wanted sheets = sym (flat_map-map (text_of head) (page_on events) (filter (is_wanted wanted) sheets))

-- ---- no requested sheet is missing

none_of : (wanted : List (List ℕ)) (missing : Option ℕ) → found_in wanted missing ≡ Ok tt → missing ≡ None
none_of wanted None known = refl
none_of wanted (Some place) known = absurd cc

none_found : {X : Type 0} (p : X → Bool) (xs : List X) → position p xs ≡ None → find p xs ≡ None
none_found p xs none = by_test (nat_lt (position_or_len p xs) (length xs))
    (λ within. absurd (let some = rw within at none in cc))
    (λ past. find_at p xs ∙ slice_get_past xs (position_or_len p xs) (ltb-false (position_or_len p xs) (length xs) past))

all_fail : {X : Type 0} (p : X → Bool) (xs : List X) → find p xs ≡ None → All (λ x. p x ≡ false) xs
all_fail p [] none = All-nil (λ x. p x ≡ false)
all_fail p (x ∷ xs) none = by_test (p x)
    (λ passes. absurd (let some = rw passes at none in cc))
    (λ fails. All-cons (λ y. p y ≡ false) x xs fails (all_fail p xs (rw fails at none)))

abbrev pub sheet_words : List Event → (SheetSpec → Bool) → List SheetSpec → List (List ℕ)
sheet_words events kept sheets = map (λ (page : ReportPage). page.sheet.word) (map (page_on events) (filter kept sheets))

later_word : (x y : List ℕ) (xs : List (List ℕ)) → Contains xs y → Contains (x ∷ xs) y
later_word x y xs there = (suc there.0, omega (arith, there.1), there.2)

word_shown : (events : List Event) (kept : SheetSpec → Bool) (word : List ℕ) (sheets : List SheetSpec)
    → ((sheet : SheetSpec) → bytes_eq word sheet.word ≡ true → kept sheet ≡ true) → has_sheet sheets word ≡ true
    → Contains (sheet_words events kept sheets) word
word_shown events kept word [] keeps has = absurd cc
word_shown events kept word (sheet ∷ sheets) keeps has = by_test (bytes_eq word sheet.word)
    (λ same.
    let is = (bytes_eq-Decides word sheet.word).0 same in
    rw (keeps sheet same) (0, omega arith, sym is))
    (λ other.
    let later : has_sheet sheets word ≡ true = rw other at has in
    by_test (kept sheet)
    (λ keep. rw keep (later_word sheet.word word (sheet_words events kept sheets) (word_shown events kept word sheets keeps later)))
    (λ drops. rw drops (word_shown events kept word sheets keeps later)))

or_right : (a b : Bool) → b ≡ true → (a || b) ≡ true
or_right true b is = refl
or_right false b is = is

or_left : (a b : Bool) → a ≡ true → (a || b) ≡ true
or_left true b is = refl
or_left false b is = absurd cc

any_at : (test : List ℕ → Bool) (words : List (List ℕ)) (k : ℕ) (d : List ℕ) → k < length words
    → test (slice_index_or words k d) ≡ true → list_any test words ≡ true
any_at test [] k d within passes = absurd (omega (arith, within))
any_at test (word ∷ words) zero d within passes = or_left (test word) (list_any test words) passes
any_at test (word ∷ words) (suc k) d within passes =
    or_right (test word) (list_any test words) (any_at test words k d (omega (arith, within)) passes)

not_false : (b : Bool) → not b ≡ false → b ≡ true
not_false true is = refl
not_false false is = absurd cc

words_shown : (events : List Event) (wanted : List (List ℕ)) (sheets : List SheetSpec)
    → found_in wanted (missing_of sheets wanted) ≡ Ok tt
    → All (Contains (sheet_words events (is_wanted wanted) sheets)) wanted
unfolding missing_of
words_shown events wanted sheets known = λ k d within.
    let word = slice_index_or wanted k d in
    let none = none_found (λ w. not (has_sheet sheets w)) wanted (none_of wanted (missing_of sheets wanted) known) in
    let has : has_sheet sheets word ≡ true =
    not_false (has_sheet sheets word) (all_fail (λ w. not (has_sheet sheets w)) wanted none k d within) in
    word_shown events (is_wanted wanted) word sheets (λ sheet same. any_at (λ w. bytes_eq w sheet.word) wanted k d within same) has

report_is : (sheets : List SheetSpec) (wanted : List (List ℕ)) (head : Head) (events : List Event)
    → found_in wanted (missing_of sheets wanted) ≡ Ok tt
    → IsReport sheets wanted head events (pages_of sheets wanted head events)
report_is sheets wanted head events known = record {
  pages = map (page_on events) (filter (is_wanted wanted) sheets);
  text_is = text_of_pages head events wanted sheets;
  requested = sheets_of_pages events (filter (is_wanted wanted) sheets);
  none_missing = words_shown events wanted sheets known;
  each = pages_are events (filter (is_wanted wanted) sheets);
}

-- ---- the parts of a report

unrefused : (table : List Offsets) (result : Result Answer Refusal) (answer : Answer)
    → refused_over table result ≡ Ok answer → result ≡ Ok answer
unrefused table (Ok found) answer ok = cc
unrefused table (Err refusal) answer ok = absurd cc

-- the list of a request
record WasListed (book : Book) (table : List Offsets) (question : Question) (list : Listed) : Type 0 where
  span_request : SpanRequest
  names : NamesSpan question list.name span_request
  site : Site
  found : site_in Events book table list.name span_request ≡ Ok site
  is : list ≡ record { name = list.name; units = site.station.units; events = events_of book site span_request }

was_listed : (book : Book) (table : List Offsets) (question : Question) (list : Listed)
    → listed book table question ≡ Ok list → WasListed book table question list
unfolding listed
was_listed book table question list ok =
    let name = then_ok (named_by question.station) _ list ok in
    let span_request = then_ok (named_by (request_by_question question)) _ list name.2 in
    let site = then_ok (site_in Events book table name.0 span_request.0) _ list span_request.2 in
    let same : record { name = name.0; units = site.0.station.units; events = events_of book site.0 span_request.0 } ≡ list =
    (let last = site.2 in cc) in
    subst (WasListed book table question) same (record {
      span_request = span_request.0;
      names = names_span question name.0 span_request.0 (name_ok question.station name.0 name.1)
          (name_ok (request_by_question question) span_request.0 span_request.1);
      site = site.0;
      found = site.1;
      is = refl;
    })

was_reported :
    (sheets : List SheetSpec) (book : Book) (table : List Offsets) (report : Question) (now : ℤ) (pages : Answer)
    → reported sheets book table report now ≡ Ok pages → (list : Listed) × (listed book table report ≡ Ok list)
    × (pages ≡ text_alone (pages_of sheets (wanted_by report) (head_of list now) list.events))
unfolding reported
was_reported sheets book table report now pages ok =
    let list = then_ok (listed book table report) _ pages ok in
    (list.0, list.1, (let last = list.2 in cc))

record WasReported (sheets : List SheetSpec) (folder : Folder) (now : ℤ) (report : Question) (pages : Answer) : Type 0 where
  file : List ℕ
  named : report.file ≡ Some file
  read : Materials
  book : book_named folder file ≡ Ok read.book
  table : table_named folder report.offsets ≡ Ok read.table
  list : Listed
  listed : WasListed read.book read.table report list
  printed : pages ≡ text_alone (pages_of sheets (wanted_by report) (head_of list now) list.events)

files_read : (folder : Folder) (question : Question) (name : List ℕ) (read : Materials)
    → files_in (λ slot. folder) question name ≡ Ok read
    → (book_named folder name ≡ Ok read.book) × (table_named folder question.offsets ≡ Ok read.table)
unfolding files_in
files_read folder question name read ok =
    let book = then_ok (book_named folder name) _ read ok in
    let table = then_ok (table_named folder question.offsets) _ read book.2 in
    let zone = then_ok (zone_named folder question.zone) _ read table.2 in
    let certificate = then_ok (certificate_named folder question.certificate) _ read zone.2 in
    let same : record { book = book.0; table = table.0; zone = zone.0; certificate = certificate.0 } ≡ read =
    (let last = certificate.2 in cc) in
    subst (λ (r : Materials). (book_named folder name ≡ Ok r.book) × (table_named folder question.offsets ≡ Ok r.table))
    same (book.1, table.1)

report_over : (sheets : List SheetSpec) (folder : Folder) (now : ℤ) (report : Question) (name : List ℕ)
    (pages : Answer) → report.file ≡ Some name → report.command ≡ Report
    → answered_over_file sheets (λ slot. folder) now report name ≡ Ok pages → WasReported sheets folder now report pages
unfolding answered_over_file
report_over sheets folder now report name pages file is ok =
    let read = then_ok (files_in (λ slot. folder) report name) _ pages ok in
    let book = read.0.book in
    let table = read.0.table in
    let P : Command → Type 0 = λ c. refused_over table
    (answered_over_book (is_report c) sheets book table report (given_with read.0 (minute_for c now))) ≡ Ok pages in
    let was = was_reported sheets book table report now pages
    (unrefused table (reported sheets book table report now) pages (subst P is read.2)) in
    let files = files_read folder report name read.0 read.1 in
    record {
      file = name;
      named = file;
      read = read.0;
      book = files.0;
      table = files.1;
      list = was.0;
      listed = was_listed book table report was.0 was.1;
      printed = was.2;
    }

alone : (command : Command) (seed : Option ℕ) → command ≡ Report → text_from command seed ≡ Err NoStation
alone command seed is = rw is refl

report_by : (sheets : List SheetSpec) (folder : Folder) (now : ℤ) (report : Question) (file : Option (List ℕ))
    (pages : Answer) → report.file ≡ file → report.command ≡ Report
    → answered_over_optional_file sheets (λ slot. folder) now report file ≡ Ok pages
    → WasReported sheets folder now report pages
unfolding answered_without_files
report_by sheets folder now report (Some name) pages file is ok = report_over sheets folder now report name pages file is ok
report_by sheets folder now report None pages file is ok = absurd (let none = rw (alone report.command report.seed is) at ok in cc)

-- ---- the listing of the same station

predicted_is : (book : Book) (table : List Offsets) (name : List ℕ) (span_request : SpanRequest) (layout : Layout) (zone : Zone)
    (site : Site) → site_in Events book table name span_request ≡ Ok site → predicted book table name span_request layout zone
    ≡ Ok (text_of_events book site span_request (events_text layout name site.station.units (events_of book site span_request) zone))
unfolding predicted
predicted_is book table name span_request layout zone site found = rw found refl

listing_text : (predict : Question) (read : Materials) (later : ℤ) (name : List ℕ) (span_request : SpanRequest) (site : Site)
    → predict.command ≡ Predict → NamesSpan predict name span_request
    → site_in Events read.book read.table name span_request ≡ Ok site
    → text_by predict.command read.book read.table predict (given_with read (minute_for predict.command later))
    ≡ Ok (text_of_events read.book site span_request
    (events_text predict.layout name site.station.units (events_of read.book site span_request) read.zone))
listing_text predict read later name span_request site is names found =
    let inputs = given_with read (minute_for predict.command later) in
    ap (λ (c : Command). text_by c read.book read.table predict inputs) is
    ∙ goes_over_span predict (λ name span_request. predicted read.book read.table name span_request predict.layout read.zone) name span_request names
    ∙ predicted_is read.book read.table name span_request predict.layout read.zone site found

listing_files : (folder : Folder) (predict report : Question) (file : List ℕ) (read : Materials) (zone : Zone)
    → NameSameFiles predict report → book_named folder file ≡ Ok read.book
    → table_named folder report.offsets ≡ Ok read.table → zone_named folder predict.zone ≡ Ok zone
    → predict.certificate ≡ None → WasRead folder predict file (record read { zone = zone; certificate = [] })
unfolding certificate_named
listing_files folder predict report file read zone files book table shown none = record {
  book = book;
  table = ap (table_named folder) files.offsets ∙ table;
  zone = shown;
  certificate = ap (certificate_named folder) none;
}

pub complete_reports : ReportsAreComplete
complete_reports sheets folder now later words more report predict pages zone asks ok asks_predict files subject shown =
    let was = report_by sheets folder now report report.file pages refl asks.is
    (sym (words_answer sheets folder now words report asks.asked) ∙ ok) in
    let list = was.list in
    let of = was.listed in
    let read : Materials = record was.read { zone = zone; certificate = [] } in
    let names = names_subject predict (subject_of report) list.name of.span_request subject (subject_named report list.name of.span_request of.names) in
    let listing = text_of_events read.book of.site of.span_request
    (events_text predict.layout list.name of.site.station.units (events_of read.book of.site of.span_request) zone) in
    let none = names_no_certificate sheets more predict Predict refl asks_predict.asked asks_predict.is in
    let answered = is_answered sheets folder later predict listing (ap is_report asks_predict.is) (record {
      name = was.file;
      file = files.file ∙ was.named;
      read = read;
      files = listing_files folder predict report was.file was.read zone files was.book was.table shown none;
      text = listing_text predict read later list.name of.span_request of.site asks_predict.is names of.found;
    }) in (
      listing,
      ◌∙◌ {c = Ok listing} (words_answer sheets folder later more predict asks_predict.asked) answered,
      record {
        listed = list;
        all = sym (ap (λ (l : Listed). events_text predict.layout l.name l.units l.events zone) of.is);
        shown = subst (λ (a : Answer). IsReport sheets (wanted_by report) (head_of list now) list.events a.text) (sym was.printed)
            (report_is sheets (wanted_by report) (head_of list now) list.events (words_ask sheets words report asks.asked).known);
      },
    )
