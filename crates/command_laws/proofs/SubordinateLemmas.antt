-- The lists of a subordinate station and of its reference.
use Rattle.std.proofs.Common.{◌≡◌, ℕ, ℤ, ◌-ℤ◌, ◌≤ℤ◌, int_lt, true, false, List, Option, Some, None, Ok, refl, sym, ap, subst, ◌∙◌, arith}
use Rattle.std.specs.Prelude.{slice_get}
use Rattle.std.specs.Option.{ok_or}
use Rattle.std.proofs.lemmas.Int.{ints}
use Rattle.event_list.specs.Shifts.{widened_of}
use Rattle.event_list.proofs.PlainLemmas.{plain-span}
use Rattle.harmonics_book.specs.declared.book.Book.{Book}
use Rattle.question.specs.declared.command.Command.TheVariants.{Predict}
use Rattle.question.specs.declared.layout.Layout.{Layout}
use Rattle.question.specs.declared.question.Question.{Question}
use Rattle.station_span.specs.declared.span_request.SpanRequest.{SpanRequest}
use Rattle.station_span.specs.declared.purpose.Purpose.TheVariants.{Events}
use Rattle.station_span.specs.Following.{events_of}
use Rattle.station_span.specs.Sites.{Site, has_span, length_in, mark_in, site_in, span_in, span_limit}
use Rattle.station_span.proofs.FoundLemmas.{found_by, found_whole}
use Rattle.decimal_text.proofs.ExpectedLemmas.{then_ok}
use Rattle.station_span.proofs.SiteLemmas.{site_basis}
use Rattle.station_table.specs.declared.basis.Basis.{Basis}
use Rattle.station_table.specs.declared.finding.FindFault.TheVariants.{NoReference, NoStation}
use Rattle.station_table.specs.declared.offsets.Offsets.{Offsets}
use Rattle.station_table.specs.Bases.{basis_in, basis_of, basis_over, reference_basis, reference_or, row_at, station_at, subordinate_basis}
use Rattle.station_table.specs.Offsets.{IsTable}
use Rattle.tide_answer.specs.declared.inputs.Given.{Given}
use Rattle.tide_answer.specs.declared.text.Answer.{Answer}
use Rattle.listing.specs.ByLayout.{events_text}
use Rattle.tide_answer.specs.Answers.{answered, predicted, text_of_events, text_over}
use Rattle.zone_time.specs.declared.zone.Zone.{Zone}
use Rattle.command_laws.specs.Subordinates.{AreTwoSteps, AsksReference, ListsInTwoSteps, ReferenceIsAnswered}
use Rattle.command_laws.proofs.QuestionLemmas.{WasPredicted, answers_predict, asks_of, predicts}
use Rattle.command_laws.proofs.SiteLemmas.{has_passed, reached_span, reaches_span, same_site, same_some, some_of}
use Rattle.command_laws.proofs.StepLemmas.{all-steps, forward_span, over_span, reference_of, turn-steps}

-- ---- the reference of a row

over_row : (book : Book) (row : ℕ) (offsets : Offsets) (basis : Basis) → basis_over book row offsets ≡ Ok basis
    → (station_at book offsets.reference ≡ Some basis.station) × (basis.row ≡ Some row)
unfolding basis_over
over_row book row offsets basis ok =
    let station = then_ok (ok_or (station_at book offsets.reference) (NoReference row)) _ basis ok in
    let same : subordinate_basis row offsets station.0 ≡ basis = (let last = station.2 in cc) in
    subst (λ (b : Basis). (station_at book offsets.reference ≡ Some b.station) × (b.row ≡ Some row)) same
    (some_of _ (NoReference row) station.0 station.1, refl)

in_row : (book : Book) (table : List Offsets) (name : List ℕ) (basis : Basis) (index : ℕ) (row : Offsets)
    → basis_in book table name ≡ Ok basis → basis.row ≡ Some index → slice_get table index ≡ Some row
    → station_at book row.reference ≡ Some basis.station
unfolding basis_in
in_row book table name basis index row ok is_row at_index =
    let place = then_ok (ok_or (row_at table name) NoStation) _ basis ok in
    let offsets = then_ok (ok_or (slice_get table place.0) NoStation) _ basis place.2 in
    let parts = over_row book place.0 offsets.0 basis offsets.2 in
    let one = same_some basis.row place.0 index parts.1 is_row in
    let read : slice_get table index ≡ Some offsets.0 = ap (slice_get table) (sym one) ∙ some_of _ NoStation offsets.0 offsets.1 in
    let same = same_some (slice_get table index) offsets.0 row read at_index in
    ap (λ (o : Offsets). station_at book o.reference) (sym same) ∙ parts.0

of_row : (book : Book) (table : List Offsets) (name : List ℕ) (basis : Basis) (index : ℕ) (row : Offsets)
    (place : Option ℕ) → reference_or (basis_in book table name) place ≡ Ok basis → basis.row ≡ Some index
    → slice_get table index ≡ Some row → station_at book row.reference ≡ Some basis.station
of_row book table name basis index row (Some station) ok is_row at_index = absurd (
    let same : reference_basis station ≡ basis = cc in
    let none : None ≡ basis.row = ap (λ (b : Basis). b.row) same in
    cc)
of_row book table name basis index row None ok is_row at_index = in_row book table name basis index row ok is_row at_index

reference_at : (book : Book) (table : List Offsets) (name : List ℕ) (basis : Basis) (index : ℕ) (row : Offsets)
    → basis_of book table name ≡ Ok basis → basis.row ≡ Some index → slice_get table index ≡ Some row
    → station_at book row.reference ≡ Some basis.station
unfolding basis_of
reference_at book table name basis index row ok is_row at_index =
    of_row book table name basis index row (station_at book name) ok is_row at_index

of_reference : (book : Book) (table : List Offsets) (name : List ℕ) (station : ℕ) → station_at book name ≡ Some station
    → basis_of book table name ≡ Ok (reference_basis station)
unfolding basis_of
of_reference book table name station is = rw is refl

-- ---- both answers

-- the first request finds the reference itself
finds_reference : (book : Book) (table : List Offsets) (name reference : List ℕ) (span_request there : SpanRequest)
    (site found : Site) → site_in Events book table name span_request ≡ Ok site
    → basis_of book table reference ≡ Ok (reference_basis site.basis.station)
    → site_in Events book table reference there ≡ Ok found → found ≡ reference_of site
finds_reference book table name reference span_request there site found ok is ok_there =
    let here = has_passed Events book table name span_request site ok in
    let first = has_passed Events book table reference there found ok_there in
    let basis : found.basis ≡ reference_basis site.basis.station = (let left = first.basis in cc) in
    let station : found.station ≡ site.station =
    same_some (slice_get book.stations site.basis.station) found.station site.station
    (ap (λ (b : Basis). slice_get book.stations b.station) (sym basis) ∙ first.station) here.station in
    same_site (reference_of site) found basis station

two_steps : (book : Book) (table : List Offsets) (question reference : Question) (inputs there : Given) (row : Offsets)
    (name : List ℕ) (begin end : ℤ) (answer first : Answer) (was : WasPredicted book table question inputs name
    (record { begin = begin; end = end; mark = question.mark }) answer) → IsTable table → question.station ≡ Some name
    → basis_of book table row.reference ≡ Ok (reference_basis was.site.basis.station)
    → AsksReference row was.site.basis begin end reference → answered book table reference there ≡ Ok first
    → AreTwoSteps book table question reference inputs there row was.site.basis begin end answer first
two_steps book table question reference inputs there row name begin end answer first was rows named is asks ok =
    let site = was.site in
    let span_request : SpanRequest = record { begin = begin; end = end; mark = question.mark } in
    let over = over_span (widened_of site.basis begin end) reference.mark in
    let was_first = predicts book table reference there first row.reference over.begin over.end asks.command asks.named
    asks.begins asks.ends ok in
    let one = finds_reference book table name row.reference span_request over site was_first.site was.found is was_first.found in
    let forward = (reaches_span book site.basis begin end (has_passed Events book table name span_request site was.found).curve.span).forward in
    let times = (site_basis Events book table name span_request site rows was.found).high.times.least in
    record {
      name = name;
      units = site.station.units;
      events = events_of book site span_request;
      of_reference = events_of book (reference_of site) over;
      named = named;
      events_are = was.events_are;
      first_are = was_first.events_are ∙ ap (λ (s : Site).
          Ok (record { name = row.reference; units = s.station.units; events = events_of book s over })) one;
      text = was.text;
      first_text = was_first.text ∙ ap (λ (s : Site).
          events_text reference.layout row.reference s.station.units (events_of book s over) there.zone) one;
      turns = turn-steps book site span_request reference.mark forward;
      all = λ shared one. all-steps book site span_request reference.mark forward times shared one;
    }

pub lists_in_two_steps : ListsInTwoSteps
lists_in_two_steps book table question reference inputs there row basis begin end answer first rows asks asks_first ok ok_first =
    let was = predicts book table question inputs answer asks.name begin end asks.command asks.named asks.begins asks.ends ok in
    let passed = has_passed Events book table asks.name (record { begin = begin; end = end; mark = question.mark }) was.site was.found in
    let same : was.site.basis ≡ basis = (let left = passed.basis in let right = asks.found in cc) in
    let at_reference = reference_at book table asks.name basis asks.index row asks.found asks.is_row asks.at in
    let is : basis_of book table row.reference ≡ Ok (reference_basis was.site.basis.station) =
    of_reference book table row.reference was.site.basis.station (at_reference ∙ ap (λ (b : Basis). Some b.station) (sym same)) in
    subst (λ b. AsksReference row b begin end reference
    → AreTwoSteps book table question reference inputs there row b begin end answer first) same
    (λ asks_there. two_steps book table question reference inputs there row asks.name begin end answer first was rows
    asks.named is asks_there ok_first)
    asks_first

-- ---- the first request has an answer

no_mark_fault : (station : ℕ) (mark : Option ℤ) → mark_in (reference_basis station) mark ≡ Ok tt
no_mark_fault station None = refl
no_mark_fault station (Some mark) = refl

short_span : (begin end : ℤ) → (end -ℤ begin) ≤ℤ span_limit → length_in begin end ≡ Ok tt
unfolding length_in
short_span begin end short =
    let test : int_lt span_limit (end -ℤ begin) ≡ false = grind (arith, ints) in rw test refl

reference_span : (book : Book) (basis : Basis) (begin end : ℤ) → span_in Events book basis begin end ≡ Ok tt
    → span_in Events book (reference_basis basis.station) (widened_of basis begin end).begin
    (widened_of basis begin end).end ≡ Ok tt
reference_span book basis begin end ok =
    let s = widened_of basis begin end in
    let reaches = reaches_span book basis begin end ok in
    let has : has_span book s ≡ true = rw (reaches.begins, reaches.ends) refl in
    reached_span book (reference_basis basis.station) s.begin s.end (forward_span basis begin end reaches.forward)
    (ap (has_span book) (plain-span (reference_basis basis.station) s.begin s.end refl) ∙ has)

reference_site : (book : Book) (table : List Offsets) (name reference : List ℕ) (span_request : SpanRequest) (mark : Option ℤ)
    (site : Site) → site_in Events book table name span_request ≡ Ok site
    → basis_of book table reference ≡ Ok (reference_basis site.basis.station)
    → ((widened_of site.basis span_request.begin span_request.end).end -ℤ (widened_of site.basis span_request.begin span_request.end).begin)
    ≤ℤ span_limit → site_in Events book table reference (over_span (widened_of site.basis span_request.begin span_request.end) mark)
    ≡ Ok (reference_of site)
reference_site book table name reference span_request mark site ok is short =
    let here = has_passed Events book table name span_request site ok in
    let s = widened_of site.basis span_request.begin span_request.end in
    let b = reference_basis site.basis.station in
    let over = over_span s mark in
    found_by Events book table reference over b site.station (rw is refl) here.station
    ∙ found_whole Events book (reference_of site) over here.units here.whole (record {
      unit = here.curve.unit;
      span = reference_span book site.basis span_request.begin span_request.end here.curve.span;
      curve = here.curve.curve;
    }) (short_span s.begin s.end short) (no_mark_fault site.basis.station mark)

predicted_by : (book : Book) (table : List Offsets) (name : List ℕ) (span_request : SpanRequest) (layout : Layout) (zone : Zone)
    (site : Site) → site_in Events book table name span_request ≡ Ok site → predicted book table name span_request layout zone
    ≡ Ok (text_of_events book site span_request (events_text layout name site.station.units (events_of book site span_request) zone))
unfolding predicted
predicted_by book table name span_request layout zone site ok = rw ok refl

pub reference_answered : ReferenceIsAnswered
reference_answered book table question reference inputs there row basis begin end answer asks asks_first ok short =
    let was = predicts book table question inputs answer asks.name begin end asks.command asks.named asks.begins asks.ends ok in
    let span_request : SpanRequest = record { begin = begin; end = end; mark = question.mark } in
    let passed = has_passed Events book table asks.name span_request was.site was.found in
    let same : was.site.basis ≡ basis = (let left = passed.basis in let right = asks.found in cc) in
    let at_reference = reference_at book table asks.name basis asks.index row asks.found asks.is_row asks.at in
    let is : basis_of book table row.reference ≡ Ok (reference_basis was.site.basis.station) =
    of_reference book table row.reference was.site.basis.station (at_reference ∙ ap (λ (b : Basis). Some b.station) (sym same)) in
    let site = reference_site book table asks.name row.reference span_request reference.mark was.site was.found is (rw same short) in
    let s = widened_of basis begin end in
    let there_is = rw same at site in (
      _,
      answers_predict book table reference there asks_first.command
          ∙ asks_of reference (text_over Predict book table reference there.zone) row.reference s.begin s.end
          reference.mark asks_first.named asks_first.begins asks_first.ends refl
          ∙ predicted_by book table row.reference (over_span s reference.mark) reference.layout there.zone _ there_is,
    )
