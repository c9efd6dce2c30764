-- The turns of a station keep to the bound of the differences between its slope and its steps.
use Rattle.std.proofs.Common.{◌≡◌, ℕ, zero, suc, ℤ, pos, neg_ℤ, ◌+ℤ◌, ◌-ℤ◌, ◌≤ℤ◌, ◌<ℤ◌, int_lt, unsigned_abs, Bool, true, false, List, [], ◌++◌, length, map, Option, Some, None, Result, Ok, All, slice_get, refl, sym, subst, ap, arith}
use Rattle.std.specs.Prelude.{flat_map, option_to_list, option_map}
use Rattle.std.specs.Option.{ok_or}
use Rattle.std.proofs.lemmas.Int.{ints}
use Rattle.std.proofs.lemmas.List.Elements.{All-nil, All-cons, All-weaker, All-append, All-filter, All-map, All-get_or}
use Rattle.std.proofs.lemmas.Option.{get_or_from_slice_get, slice_get_within}
use Rattle.curve_law.specs.declared.event.Event.{Event}
use Rattle.curve_law.specs.declared.kind.Kind.{Kind}
use Rattle.curve_law.specs.CurveSpec.{CurveSpec}
use Rattle.curve_law.specs.Track.{Track, side_at, has_event, event_at, plain_list}
use Rattle.curve_law.proofs.CoverLemmas.{by_test}
use Rattle.curve_law.proofs.TrackLemmas.{plain_list-zero, plain_list-one, plain_list-suc}
use Rattle.event_list.specs.declared.span.Span.{Span}
use Rattle.event_list.specs.Events.{events_over, span_minutes}
use Rattle.event_list.specs.Shifts.{is_within, moved, moved_within, offset_of, widened_of}
use Rattle.event_list.proofs.EventLemmas.{events_of, events-parts}
use Rattle.event_list.proofs.OrderLemmas.{All-ordered}
use Rattle.harmonics_book.specs.declared.book.Book.{Book}
use Rattle.harmonics_book.specs.declared.book.Station.{Station}
use Rattle.harmonics_book.specs.Books.{IsBook, IsStation}
use Rattle.listing.specs.Abouts.{about_text_of}
use Rattle.named_files.specs.Readings.{book_named, table_named}
use Rattle.question.specs.declared.command.Command.TheVariants.{About, Predict}
use Rattle.question.specs.declared.layout.Layout.{Layout}
use Rattle.question.specs.declared.question.Question.{Question}
use Rattle.rate_bound.specs.declared.version.Version.TheVariants.{Second}
use Rattle.rate_bound.specs.CurveSpecs.{predicted_turn, predicted_mark}
use Rattle.slope_agreement.specs.Agreements.{IsPlainMinute, predicted_agreement, predicted_gap, predicted_gap_before}
use Rattle.station_curve.specs.Curves.{curve_of, first_fault}
use Rattle.station_curve.specs.Schureman.{predicted_slope}
use Rattle.station_span.specs.declared.span_request.SpanRequest.{SpanRequest}
use Rattle.station_span.specs.declared.purpose.Purpose.TheVariants.{Events}
use Rattle.station_span.specs.Following.{asks_slack, events_of as site_events, followed, followed_by, if_asked, slack_plus, slack_times}
use Rattle.station_span.specs.Sites.{Site, basis_from, level_unit, site_in, station_in, curve_from}
use Rattle.decimal_text.proofs.ExpectedLemmas.{then_ok}
use Rattle.station_table.specs.declared.basis.Basis.{Basis}
use Rattle.station_table.specs.declared.offsets.Offsets.{Offsets}
use Rattle.station_table.specs.Bases.{basis_of}
use Rattle.tide_answer.specs.declared.text.Answer.{Answer}
use Rattle.listing.specs.ByLayout.{events_text}
use Rattle.tide_answer.specs.Answers.{asks_name, constituent_count, station_about, named_by, predicted, text_alone, text_of_events}
use Rattle.tide_desk.specs.Answers.{given_with, is_report, minute_for}
use Rattle.tide_desk.proofs.AskedLemmas.{went_over_span}
use Rattle.tide_desk.proofs.CheckingLemmas.{named_read, text_at}
use Rattle.tide_desk.proofs.FileLemmas.{ReadsFiles, named_book, was_answered}
use Rattle.tide_edge.specs.FileStates.{Folder}
use Rattle.tide_fault.specs.declared.refusal.Refusal.{Refusal}
use Rattle.tide_fault.specs.declared.refusal.Refusal.TheVariants.{NoStation}
use Rattle.zone_time.specs.declared.zone.Zone.{Zone}
use Rattle.command_laws.specs.Abouts.{AboutBoundsTurns, FallsAtMost, IsBounded, IsBoundedTurn, RisesAtMost, rise_in}
use Rattle.command_laws.proofs.RequestLemmas.{WasFound, got_ok, name_ok, span_named, was_found}

-- ---- by the difference at a minute

-- at each minute outside new-year blends both differences are within the bound
pub record KeepTo (book : Book) (station : Station) (bound : ℤ) : Type 0 where
  pub here : (m : ℤ) (year : ℕ) → IsPlainMinute book.first_year book.years m year → pos (predicted_gap book station m) ≤ℤ bound
  pub before : (m : ℤ) (year : ℕ) → IsPlainMinute book.first_year book.years m year → pos (predicted_gap_before book station m) ≤ℤ bound

falls_from : (rise slope bound : ℤ) → pos (unsigned_abs (rise -ℤ slope)) ≤ℤ bound → pos 0 <ℤ slope → neg_ℤ bound ≤ℤ rise
falls_from rise slope bound gap above = omega (arith, ints, gap, above)

rises_from : (rise slope bound : ℤ) → pos (unsigned_abs (rise -ℤ slope)) ≤ℤ bound → slope ≤ℤ pos 0 → rise ≤ℤ bound
rises_from rise slope bound gap below = omega (arith, ints, gap, below)

falls : (book : Book) (station : Station) (bound m : ℤ) → KeepTo book station bound
    → pos 0 <ℤ predicted_slope book station m → FallsAtMost book station bound m
falls book station bound m keeps above plain =
    falls_from (rise_in book station m) (predicted_slope book station m) bound (keeps.here m plain.0 plain.1) above

rises : (book : Book) (station : Station) (bound m : ℤ) → KeepTo book station bound
    → predicted_slope book station m ≤ℤ pos 0 → RisesAtMost book station bound m
rises book station bound m keeps below plain =
    rises_from (rise_in book station m) (predicted_slope book station m) bound (keeps.here m plain.0 plain.1) below

-- the fall in a minute, by the slope at the next one
falls_before : (book : Book) (station : Station) (bound m : ℤ) → KeepTo book station bound
    → pos 0 <ℤ predicted_slope book station (m +ℤ pos 1) → FallsAtMost book station bound m
falls_before book station bound m keeps above plain =
    falls_from (rise_in book station m) (predicted_slope book station (m +ℤ pos 1)) bound (keeps.before m plain.0 plain.1) above

rises_before : (book : Book) (station : Station) (bound m : ℤ) → KeepTo book station bound
    → predicted_slope book station (m +ℤ pos 1) ≤ℤ pos 0 → RisesAtMost book station bound m
rises_before book station bound m keeps below plain =
    rises_from (rise_in book station m) (predicted_slope book station (m +ℤ pos 1)) bound (keeps.before m plain.0 plain.1) below

-- ---- the turns of the reference

abbrev pub IsTurn : Book → Station → ℤ → Event → Type 0
IsTurn book station bound event = IsBoundedTurn book station bound event.kind event.minute

above_zero : (value : ℤ) → int_lt (pos 0) value ≡ true → pos 0 <ℤ value
above_zero value is = grind (arith, ints)

not_above : (value : ℤ) → int_lt (pos 0) value ≡ false → value ≤ℤ pos 0
not_above value is = grind (arith, ints)

turn_at : (book : Book) (station : Station) (bound m : ℤ) → KeepTo book station bound
    → has_event (predicted_turn Second book station).track m ≡ true
    → IsTurn book station bound (event_at (predicted_turn Second book station).track m)
turn_at book station bound m keeps turns = by_test (int_lt (pos 0) (predicted_slope book station m))
    (λ above. by_test (int_lt (pos 0) (predicted_slope book station (m +ℤ pos 1)))
    (λ still. absurd (let none = rw (above, still) at turns in cc))
    (λ passed.
    let below = not_above (predicted_slope book station (m +ℤ pos 1)) passed in
    rw above (record {
      rises = rises_before book station bound m keeps below;
      rises_later = rises book station bound (m +ℤ pos 1) keeps below;
      falls = falls book station bound m keeps (above_zero (predicted_slope book station m) above);
    })))
    (λ below. by_test (int_lt (pos 0) (predicted_slope book station (m +ℤ pos 1)))
    (λ passed.
    let above = above_zero (predicted_slope book station (m +ℤ pos 1)) passed in
    rw below (record {
      falls = falls_before book station bound m keeps above;
      falls_later = falls book station bound (m +ℤ pos 1) keeps above;
      rises = rises book station bound m keeps (not_above (predicted_slope book station m) below);
    }))
    (λ still. absurd (let none = rw (below, still) at turns in cc)))

-- ---- every event of a curve, one minute after the other

one_event : (P : Event → Type 0) (c : CurveSpec) (a : ℤ) → (has_event c.track a ≡ true → P (event_at c.track a))
    → All P (plain_list c.track a 1)
one_event P c a holds = by_test (has_event c.track a)
    (λ turns. rw (plain_list-one c.track a, turns) (All-cons P (event_at c.track a) [] (holds turns) (All-nil P)))
    (λ still. rw (plain_list-one c.track a, still) (All-nil P))

each_event : (P : Event → Type 0) (c : CurveSpec) (a : ℤ) (n : ℕ)
    → ((m : ℤ) → has_event c.track m ≡ true → P (event_at c.track m)) → All P (plain_list c.track a n)
each_event P c a zero holds = rw (plain_list-zero c.track a) (All-nil P)
each_event P c a (suc n) holds = rw (plain_list-suc c.track a n)
    (All-append P (plain_list c.track a 1) (plain_list c.track (a +ℤ pos 1) n) (one_event P c a (holds a))
    (each_event P c (a +ℤ pos 1) n holds))

curve_events : (P : Event → Type 0) (s : Span) (c : CurveSpec)
    → ((m : ℤ) → has_event c.track m ≡ true → P (event_at c.track m))
    → All P (flat_map (events_over s) (option_to_list (Some c)))
curve_events P s c holds = All-append P (events_over s c) [] (each_event P c s.begin (span_minutes s) holds) (All-nil P)

-- ---- slacks and marks

kind_either : (P : Kind → Type 0) (t : Track) (m : ℤ) → P t.rising → P t.falling → P (event_at t m).kind
kind_either P t m rising falling = by_test (side_at t m)
    (λ above. rw above falling)
    (λ below. rw below rising)

slack_at : (book : Book) (station : Station) (bound times plus m : ℤ)
    → IsTurn book station bound (event_at (predicted_mark Second book station times plus (pos 0) true).track m)
slack_at book station bound times plus m =
    kind_either (λ kind. IsBoundedTurn book station bound kind m) (predicted_mark Second book station times plus (pos 0) true).track m tt tt

mark_at : (book : Book) (station : Station) (bound times plus mark m : ℤ)
    → IsTurn book station bound (event_at (predicted_mark Second book station times plus mark false).track m)
mark_at book station bound times plus mark m =
    kind_either (λ kind. IsBoundedTurn book station bound kind m) (predicted_mark Second book station times plus mark false).track m tt tt

slack_events : (book : Book) (station : Station) (bound times plus : ℤ) (s : Span) (asks : Bool)
    → All (IsTurn book station bound)
    (flat_map (events_over s) (option_to_list (if_asked asks (predicted_mark Second book station times plus (pos 0) true))))
slack_events book station bound times plus s false = All-nil (IsTurn book station bound)
slack_events book station bound times plus s true =
    curve_events (IsTurn book station bound) s (predicted_mark Second book station times plus (pos 0) true)
    (λ m turns. slack_at book station bound times plus m)

mark_events : (book : Book) (station : Station) (bound times plus : ℤ) (s : Span) (mark : Option ℤ)
    → All (IsTurn book station bound) (flat_map (events_over s)
    (option_to_list (option_map (λ level. predicted_mark Second book station times plus level false) mark)))
mark_events book station bound times plus s None = All-nil (IsTurn book station bound)
mark_events book station bound times plus s (Some level) =
    curve_events (IsTurn book station bound) s (predicted_mark Second book station times plus level false)
    (λ m turns. mark_at book station bound times plus level m)

-- ---- every event of a station

reference_events : (book : Book) (site : Site) (span_request : SpanRequest) (bound : ℤ) (s : Span) → KeepTo book site.station bound
    → All (IsTurn book site.station bound) (events_of s (followed book site span_request))
unfolding followed_by
reference_events book site span_request bound s keeps =
    let P = IsTurn book site.station bound in
    let turn = predicted_turn Second book site.station in
    let f = followed book site span_request in
    All-append P (events_over s turn)
    (flat_map (events_over s) (option_to_list f.slack) ++ flat_map (events_over s) (option_to_list f.mark))
    (each_event P turn s.begin (span_minutes s) (λ m turns. turn_at book site.station bound m keeps turns))
    (All-append P (flat_map (events_over s) (option_to_list f.slack)) (flat_map (events_over s) (option_to_list f.mark))
    (slack_events book site.station bound (slack_times site.basis) (slack_plus site.basis) s (asks_slack site.station.units site.basis))
    (mark_events book site.station bound site.basis.high.times site.basis.high.plus s span_request.mark))

back_again : (minute add : ℤ) → (minute +ℤ add) -ℤ add ≡ minute
back_again minute add = omega (arith, ints)

moved_turn : (book : Book) (site : Site) (bound : ℤ) (e : Event) → IsTurn book site.station bound e
    → IsBounded book site bound (moved site.basis e)
moved_turn book site bound e is = rw (back_again e.minute (offset_of site.basis e.kind).add) is

pub station_turns : (book : Book) (site : Site) (span_request : SpanRequest) (bound : ℤ) → KeepTo book site.station bound
    → All (IsBounded book site bound) (site_events book site span_request)
unfolding site_events
station_turns book site span_request bound keeps =
    let P = IsBounded book site bound in
    let s = widened_of site.basis span_request.begin span_request.end in
    let all = events_of s (followed book site span_request) in
    rw (events-parts (followed book site span_request) site.basis span_request.begin span_request.end)
    (All-ordered P (moved_within site.basis span_request.begin span_request.end all)
    (All-filter (is_within span_request.begin span_request.end) P (map (moved site.basis) all)
    (All-map P (moved site.basis) all
    (All-weaker (IsTurn book site.station bound) (λ e. P (moved site.basis e)) (moved_turn book site bound) all
    (reference_events book site span_request bound s keeps)))))

-- ---- the outputs of the runs

-- the text of `about` for a station
record PrintsBound (book : Book) (table : List Offsets) (name : List ℕ) (answer : Answer) : Type 0 where
  site : Site
  basis : basis_from (basis_of book table name) ≡ Ok site.basis
  station : slice_get book.stations site.basis.station ≡ Some site.station
  printed : answer ≡ text_alone (about_text_of name site.station.name site.station.units
      (constituent_count site.station) (predicted_agreement book site.station))

known_station : (book : Book) (table : List Offsets) (name : List ℕ) (site : Site)
    → station_in book table name ≡ Ok site → (basis_from (basis_of book table name) ≡ Ok site.basis)
    × (slice_get book.stations site.basis.station ≡ Some site.station)
unfolding station_in
known_station book table name site ok =
    let basis = then_ok (basis_from (basis_of book table name)) _ site ok in
    let station = then_ok (ok_or (slice_get book.stations basis.0.station) NoStation) _ site basis.2 in
    let unit = then_ok (level_unit station.0.units) _ site station.2 in
    let tide = then_ok (curve_from (curve_of book station.0)) _ site unit.2 in
    let same : record { basis = basis.0; station = station.0 } ≡ site = (let last = tide.2 in cc) in
    subst (λ (s : Site). (basis_from (basis_of book table name) ≡ Ok s.basis)
    × (slice_get book.stations s.basis.station ≡ Some s.station)) same
    (basis.1, got_ok _ NoStation station.0 station.1)

prints_bound : (book : Book) (table : List Offsets) (name : List ℕ) (answer : Answer)
    → station_about book table name ≡ Ok answer → PrintsBound book table name answer
unfolding station_about
prints_bound book table name answer ok =
    let site = then_ok (station_in book table name) _ answer ok in
    let parts = known_station book table name site.0 site.1 in
    record { site = site.0; basis = parts.0; station = parts.1; printed = (let last = site.2 in cc) }

went_over_name : (question : Question) (next : List ℕ → Result Answer Refusal) (answer : Answer)
    → asks_name question next ≡ Ok answer → (name : List ℕ) × (question.station ≡ Some name) × (next name ≡ Ok answer)
unfolding asks_name
went_over_name question next answer ok =
    let name = then_ok (named_by question.station) _ answer ok in
    (name.0, name_ok question.station name.0 name.1, name.2)

-- the listing of a station that was found
record Lists (book : Book) (table : List Offsets) (name : List ℕ) (span_request : SpanRequest) (layout : Layout) (zone : Zone)
    (listing : Answer) : Type 0 where
  site : Site
  place : site_in Events book table name span_request ≡ Ok site
  found : WasFound book table name span_request site
  listed : listing.text ≡ events_text layout name site.station.units (site_events book site span_request) zone

lists : (book : Book) (table : List Offsets) (name : List ℕ) (span_request : SpanRequest) (layout : Layout) (zone : Zone) (listing : Answer)
    → predicted book table name span_request layout zone ≡ Ok listing → Lists book table name span_request layout zone listing
unfolding predicted
lists book table name span_request layout zone listing ok =
    let site = then_ok (site_in Events book table name span_request) _ listing ok in
    let same : text_of_events book site.0 span_request
    (events_text layout name site.0.station.units (site_events book site.0 span_request) zone) ≡ listing =
    (let last = site.2 in cc) in
    record {
      site = site.0;
      place = site.1;
      found = was_found Events book table name span_request site.0 site.1;
      listed = sym (ap (λ (a : Answer). a.text) same);
    }

-- ---- of one station

each_got : {T : Type 0} (P : T → Type 0) (xs : List T) (index : ℕ) (x : T) → All P xs → slice_get xs index ≡ Some x → P x
each_got P xs index x all got =
    subst P (get_or_from_slice_get xs index x x got) (All-get_or P xs index x (slice_get_within xs index x got) all)

about_reads : (question : Question) → question.command ≡ About → ReadsFiles question
about_reads question is = record { alone = λ seed. rw is refl; plain = ap is_report is }

predict_reads : (question : Question) → question.command ≡ Predict → ReadsFiles question
predict_reads question is = record { alone = λ seed. rw is refl; plain = ap is_report is }

one_book : (folder : Folder) (file other : Option (List ℕ)) (name there : List ℕ) (book same : Book) → file ≡ other
    → file ≡ Some name → other ≡ Some there → book_named folder name ≡ Ok book → book_named folder there ≡ Ok same
    → same ≡ book
one_book folder file other name there book same files is also ok again =
    let names : name ≡ there = cc in
    let both : book_named folder name ≡ book_named folder there = ap (book_named folder) names in
    cc

one_table : (folder : Folder) (file other : Option (List ℕ)) (table same : List Offsets) → file ≡ other
    → table_named folder file ≡ Ok table → table_named folder other ≡ Ok same → same ≡ table
one_table folder file other table same files ok again =
    let both : table_named folder file ≡ table_named folder other = ap (table_named folder) files in
    cc

one_name : (said other : Option (List ℕ)) (name same : List ℕ) → said ≡ other → said ≡ Some name → other ≡ Some same → same ≡ name
one_name said other name same one is also = cc

one_basis : (book : Book) (table : List Offsets) (name : List ℕ) (basis same : Basis)
    → basis_from (basis_of book table name) ≡ Ok basis → basis_from (basis_of book table name) ≡ Ok same → same ≡ basis
one_basis book table name basis same ok again = cc

one_station : (book : Book) (basis same : Basis) (station other : Station) → same ≡ basis
    → slice_get book.stations basis.station ≡ Some station → slice_get book.stations same.station ≡ Some other
    → other ≡ station
one_station book basis same station other one got again =
    let both : slice_get book.stations same.station ≡ slice_get book.stations basis.station =
    ap (λ (b : Basis). slice_get book.stations b.station) one in
    cc

-- the text has the bound of the station of the listing
bound_of : (book : Book) (table : List Offsets) (name : List ℕ) (span_request : SpanRequest) (site : Site) (facts : Answer)
    → WasFound book table name span_request site → PrintsBound book table name facts → facts ≡ text_alone (about_text_of name
    site.station.name site.station.units (constituent_count site.station) (predicted_agreement book site.station))
bound_of book table name span_request site facts found prints =
    let basis = one_basis book table name site.basis prints.site.basis found.basis prints.basis in
    let station = one_station book site.basis prints.site.basis site.station prints.site.station basis found.station prints.station in
    subst (λ (s : Station). facts
    ≡ text_alone (about_text_of name s.name s.units (constituent_count s) (predicted_agreement book s))) station prints.printed

-- a difference keeps to the bound of its station
abbrev pub KeepsToAgreement : (Book → Station → ℤ → ℕ) → Type 0
KeepsToAgreement gap = (b : Book) (s : Station) (m : ℤ) (year : ℕ) → IsBook b → IsStation (length b.constituents) s
    → first_fault b s b.years ≡ None → IsPlainMinute b.first_year b.years m year
    → pos (gap b s m) ≤ℤ predicted_agreement b s

pub bounds_turns : KeepsToAgreement predicted_gap → KeepsToAgreement predicted_gap_before → AboutBoundsTurns
bounds_turns law before sheets folder minute later words more about predict facts listing asks ok asks_predict ok_predict files station =
    let was = was_answered sheets folder minute words about facts asks.asked (about_reads about asks.is) ok in
    let here = was_answered sheets folder later more predict listing asks_predict.asked
    (predict_reads predict asks_predict.is) ok_predict in
    let read = here.read in
    let text = text_at about.command About was.read about (given_with was.read (minute_for about.command minute)) facts asks.is was.text in
    let named = went_over_name about (λ name. station_about was.read.book was.read.table name) facts text in
    let list = text_at predict.command Predict read predict
    (given_with read (minute_for predict.command later)) listing asks_predict.is here.text in
    let over = went_over_span predict (λ name span_request. predicted read.book read.table name span_request predict.layout read.zone) listing list in
    let shown = lists read.book read.table over.0 over.1 predict.layout read.zone listing over.3 in
    let site = shown.site in
    let book = one_book folder predict.file about.file here.name was.name read.book was.read.book files.file here.file
    was.file here.files.book was.files.book in
    let table = one_table folder predict.offsets about.offsets read.table was.read.table files.offsets here.files.table was.files.table in
    let name = one_name predict.station about.station over.0 named.0 station over.2.station named.1 in
    let prints : PrintsBound read.book read.table over.0 facts =
    subst (λ (b : Book). PrintsBound b read.table over.0 facts) book
    (subst (λ (t : List Offsets). PrintsBound was.read.book t over.0 facts) table
    (subst (λ (n : List ℕ). PrintsBound was.read.book was.read.table n facts) name
    (prints_bound was.read.book was.read.table named.0 facts named.2))) in
    let is = named_book folder here.name read.book here.files.book in
    let valid = each_got (IsStation (length read.book.constituents)) read.book.stations site.basis.station site.station
    is.stations shown.found.station in
    record {
      book = read.book;
      table = read.table;
      zone = read.zone;
      name = over.0;
      span_request = over.1;
      site = site;
      constituents = constituent_count site.station;
      bound = predicted_agreement read.book site.station;
      events = site_events read.book site over.1;
      file = named_read folder predict.file here.name read.book here.file here.files.book;
      offsets = here.files.table;
      station = over.2.station;
      span = span_named predict over.0 over.1 over.2;
      found = shown.place;
      printed = bound_of read.book read.table over.0 over.1 site facts shown.found prints;
      listed = shown.listed;
      each = station_turns read.book site over.1 (predicted_agreement read.book site.station) (record {
        here = λ m year plain. law read.book site.station m year is valid shown.found.limits plain;
        before = λ m year plain. before read.book site.station m year is valid shown.found.limits plain;
      });
    }
