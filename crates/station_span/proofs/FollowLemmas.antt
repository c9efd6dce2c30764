-- The curves that are followed at a station.
use Rattle.std.proofs.Common.{◌≡◌, ◌^◌, ◌<◌, ◌≤◌, ℤ, pos, ◌+ℤ◌, ◌≤ℤ◌, ◌<ℤ◌, unsigned_abs, Bool, true, false, Option, Some, None, option_map, IsTrue, List, All, subst, ap, refl, sym, ◌∙◌, arith}
use Rattle.std.proofs.lemmas.Int.{ints}
use Rattle.std.specs.Option.{ForSome}
use Rattle.curve_law.specs.declared.cell.Cell.{Cell}
use Rattle.curve_law.specs.declared.event.Event.{Event}
use Rattle.curve_law.specs.declared.tracks.Tracks.{Tracks}
use Rattle.curve_law.specs.declared.kind.Kind.TheVariants.{High, Low, MarkRising, MarkFalling}
use Rattle.curve_law.specs.CurveSpec.{CurveSpec, IsLawful}
use Rattle.curve_law.proofs.AgreeLemmas.{cover-same}
use Rattle.event_list.specs.declared.span.Span.{Span}
use Rattle.event_list.specs.Events.{Followed, station_events, cell_count, cells_in, cover_over, AreAccepted, covers_of, merged_of, AllHaveLevels, AreValidOver, IsValidOver, AreNamed, IsNamed, span_minutes}
use Rattle.event_list.specs.Shifts.{HasOffsets, IsMovable, shifted_of, widened_of}
use Rattle.event_list.specs.Events as event
use Rattle.event_list.proofs.EventLemmas.{count-few, covers-accepted, covers-shifted}
use Rattle.event_list.proofs.LevelLemmas.{merged-movable}
use Rattle.event_list.proofs.NameLemmas.{events-lie, events-named}
use Rattle.event_list.proofs.PlainLemmas.{plain-span, plain-merged}
use Rattle.event_text.specs.Words.{has_word}
use Rattle.harmonics_book.specs.declared.book.Book.{Book}
use Rattle.harmonics_book.specs.declared.book.Units.{Units}
use Rattle.harmonics_book.specs.declared.book.Units.TheVariants.{Feet, Meters, Knots, KnotsSquared}
use Rattle.event_text.specs.Lines.{IsListed}
use Rattle.rate_bound.specs.declared.version.Version.{Version}
use Rattle.rate_bound.specs.declared.version.Version.TheVariants.{Second}
use Rattle.rate_bound.specs.CurveSpecs.{turn_spec, mark_spec, predicted_mark}
use Rattle.rate_bound.specs.Scale.{IsScale}
use Rattle.rate_bound.specs.Workings.TurnLaw.{turn_lawful}
use Rattle.rate_bound.specs.Workings.MarkLaw.{mark_lawful}
use Rattle.station_curve.specs.Curves.{IsPrediction, IsWithinLimits, Prediction, prediction_of}
use Rattle.station_curve.proofs.Ranges.{all_minutes_valid}
use Rattle.year_blend.specs.Years.{year_start_of}
use Rattle.station_table.specs.declared.basis.Basis.{Basis}
use Rattle.station_table.specs.declared.offset.Slack.{Slack}
use Rattle.station_table.specs.Bases.{is_plain}
use Rattle.zone_time.specs.Zones.{InZoneYears}
use Rattle.station_span.specs.declared.span_request.SpanRequest.{SpanRequest}
use Rattle.station_span.specs.declared.purpose.Purpose.TheVariants.{Events}
use Rattle.station_span.specs.Following.{asks_slack, slack_times, slack_plus, if_asked, followed, followed_by, events_of, cells_of, tracks_of}
use Rattle.station_span.specs.Sites.{Site}
use Rattle.station_span.specs.Workings.Curves.{HasMinutes, all_over, followed_over, mark_over, over}
use Rattle.station_span.specs.Workings.Spans.{HasLevels, IsBeside, IsFound, IsSpanInRange, site_with}
use Rattle.station_span.proofs.MovableLemmas.{millionths_small}
use Rattle.station_span.proofs.SpanLemmas.{has_offsets, file_minute}
use Rattle.station_curve.specs.Schureman.{predicted_millionths}

for_none : {T : Type 0} (P : T → Type 0) → ForSome None P
for_none P x e = cc

for_some : {T : Type 0} (P : T → Type 0) (v : T) → P v → ForSome (Some v) P
for_some P v holds x e = let same : v ≡ x = cc in subst P same holds

-- ---- the same curves at the minutes of a prediction

asked_over : (p : Prediction) (asks : Bool) (c : CurveSpec) → if_asked asks (over p c) ≡ option_map (over p) (if_asked asks c)
asked_over p true c = refl
asked_over p false c = refl

marked_over : (p : Prediction) (mark : Option ℤ) (f : ℤ → CurveSpec)
    → option_map (λ level. over p (f level)) mark ≡ option_map (over p) (option_map f mark)
marked_over p None f = refl
marked_over p (Some level) f = refl

pub followed_is : (version : Version) (p : Prediction) (basis : Basis) (mark : Option ℤ)
    → followed_over version p basis mark ≡ all_over p (followed_by version p.book (site_with basis p.station) mark)
unfolding followed_by
followed_is version p basis mark =
    let marked = λ (level : ℤ). predicted_mark version p.book p.station basis.high.times basis.high.plus level false in
    let with_slack = λ (o : Option CurveSpec). let f : Followed = record {
      turn = turn_spec version p;
      slack = o;
      mark = mark_over version p basis mark;
    } in f in
    let with_mark = λ (o : Option CurveSpec). let f : Followed = record {
      turn = turn_spec version p;
      slack = option_map (over p) (followed_by version p.book (site_with basis p.station) mark).slack;
      mark = o;
    } in f in
    ap with_slack (asked_over p (asks_slack p.station.units basis)
    (predicted_mark version p.book p.station (slack_times basis) (slack_plus basis) (pos 0) true))
    ∙ ap with_mark (marked_over p mark marked)

cover_if_same : (p : Prediction) (s : Span) (o : Option CurveSpec)
    → option_map (cover_over s) (option_map (over p) o) ≡ option_map (cover_over s) o
cover_if_same p s None = refl
cover_if_same p s (Some c) = ap (λ (cells : List Cell). Some cells) (cover-same c p.first p.last s.begin (span_minutes s))

same_tracks : (turn : List Cell) (slack mark : Option (List Cell)) (u : Tracks) → turn ≡ u.turn → slack ≡ u.slack
    → mark ≡ u.mark → record { turn = turn; slack = slack; mark = mark } ≡ u
same_tracks turn slack mark u t s m = rw (t, s, m) refl

pub covers_same : (version : Version) (p : Prediction) (basis : Basis) (mark : Option ℤ) (s : Span)
    → covers_of (followed_over version p basis mark) s
    ≡ covers_of (followed_by version p.book (site_with basis p.station) mark) s
covers_same version p basis mark s =
    let f = followed_by version p.book (site_with basis p.station) mark in
    ap (λ (g : Followed). covers_of g s) (followed_is version p basis mark)
    ∙ same_tracks _ _ _ (covers_of f s) (cover-same f.turn p.first p.last s.begin (span_minutes s)) (cover_if_same p s f.slack)
    (cover_if_same p s f.mark)

-- ---- the curves are valid over the span

last_minute : (s : Span) → s.begin ≤ℤ s.end → s.begin +ℤ pos (span_minutes s) ≡ s.end
last_minute s forward = omega (arith, ints)

pub mark_scale : (basis : Basis) (level : ℤ) → HasOffsets basis → unsigned_abs level ≤ 10000000000
    → IsScale basis.high.times basis.high.plus level
mark_scale basis level has small =
    let times = has.high.times in
    let plus = has.high.plus in
    record {
      times_least = times.least;
      times_most = omega (arith, ints, times.most);
      plus_least = plus.least;
      plus_most = omega (arith, ints, plus.most);
      mark_least = omega (arith, ints);
      mark_most = omega (arith, ints);
    }

pub usual_scale : IsScale (pos 1000000) (pos 0) (pos 0)
usual_scale = record {
  times_least = omega (arith, ints);
  times_most = omega (arith, ints);
  plus_least = omega (arith, ints);
  plus_most = omega (arith, ints);
  mark_least = omega (arith, ints);
  mark_most = omega (arith, ints);
}

pub slack_scale : (slack : Option Slack) (basis : Basis) → basis.slack ≡ slack → HasOffsets basis
    → IsScale (slack_times basis) (slack_plus basis) (pos 0)
slack_scale (Some slack) basis is has = rw is usual_scale
slack_scale None basis is has = rw is (mark_scale basis (pos 0) has (omega arith))

-- a fact that holds of each curve holds of one that may not be followed
pub for_asked : (P : CurveSpec → Type 0) (asks : Bool) (c : CurveSpec) → P c → ForSome (if_asked asks c) P
for_asked P true c has = for_some P c has
for_asked P false c has = for_none P

pub for_marked : (P : CurveSpec → Type 0) (mark : Option ℤ) (f : ℤ → CurveSpec) → ForSome mark (λ level. P (f level))
    → ForSome (option_map f mark) P
for_marked P (Some level) f has = for_some P (f level) (has level refl)
for_marked P None f has = for_none P

in_valid_over : (book : Book) (s : Span) → HasMinutes book s → (c : CurveSpec) → IsLawful c
    → c.first ≡ year_start_of book.first_year → c.last ≡ year_start_of (book.first_year +ℤ pos book.years) → IsValidOver s c
in_valid_over book s has c lawful first last =
    let end : s.begin +ℤ pos (span_minutes s) ≡ s.end = last_minute s has.forward in
    record { lawful = lawful; span = record { first = rw first has.begins.least; last = rw (end, last) has.ends.most } }

followed_valid_over : (version : Version) (book : Book) (site : Site) (mark : Option ℤ) (s : Span)
    → IsWithinLimits book site.station → HasOffsets site.basis
    → ForSome mark (λ level. unsigned_abs level ≤ 10000000000) → HasMinutes book s
    → AreValidOver (followed_by version book site mark) s
unfolding followed_by
followed_valid_over version book site mark s limits has small minutes =
    let p = prediction_of book site.station in
    let valid = all_minutes_valid book site.station limits in
    let basis = site.basis in
    record {
      turn = in_valid_over book s minutes (turn_spec version p) (turn_lawful version p valid) refl refl;
      slack = for_asked (IsValidOver s) (asks_slack site.station.units basis) _
          (in_valid_over book s minutes (mark_spec version p (slack_times basis) (slack_plus basis) (pos 0) true)
          (mark_lawful version p (slack_times basis) (slack_plus basis) (pos 0) true valid (slack_scale basis.slack basis refl has)) refl refl);
      mark = for_marked (IsValidOver s) mark _ (λ level is.
          in_valid_over book s minutes (mark_spec version p basis.high.times basis.high.plus level false)
          (mark_lawful version p basis.high.times basis.high.plus level false valid (mark_scale basis level has (small level is))) refl refl);
    }

-- ---- the events have words

slack_named : (units : Units) (basis : Basis) (c : CurveSpec) → IsNamed Knots c
    → ForSome (if_asked (asks_slack units basis) c) (IsNamed units)
slack_named Feet basis c named = for_none (IsNamed Feet)
slack_named Meters basis c named = for_none (IsNamed Meters)
slack_named Knots basis c named = for_asked (IsNamed Knots) (asks_slack Knots basis) c named
slack_named KnotsSquared basis c named = for_none (IsNamed KnotsSquared)

-- the kinds of turns and marks have words in each unit of levels
plain_word : (units : Units) → HasLevels units → (has_word units High ≡ true) × (has_word units Low ≡ true)
    × (has_word units MarkRising ≡ true) × (has_word units MarkFalling ≡ true)
plain_word Feet levels = (refl, refl, refl, refl)
plain_word Meters levels = (refl, refl, refl, refl)
plain_word Knots levels = (refl, refl, refl, refl)
plain_word KnotsSquared levels = absurd cc

followed_named : (version : Version) (book : Book) (site : Site) (mark : Option ℤ) → HasLevels site.station.units
    → AreNamed site.station.units (followed_by version book site mark)
unfolding followed_by
followed_named version book site mark levels =
    let units = site.station.units in
    let words = plain_word units levels in
    record {
      turn = record { rising = words.1; falling = words.0 };
      slack = slack_named units site.basis _ (record { rising = refl; falling = refl });
      mark = for_marked (IsNamed units) mark _ (λ level is. record { rising = words.2; falling = words.3 });
    }

-- ---- the events over the minutes that are evaluated

pub found_valid_over : (version : Version) (book : Book) (span_request : SpanRequest) (site : Site) → IsFound Events book span_request site
    → AreValidOver (followed_by version book site span_request.mark) (widened_of site.basis span_request.begin span_request.end)
found_valid_over version book span_request site is =
    followed_valid_over version book site span_request.mark (widened_of site.basis span_request.begin span_request.end) is.limits
    (has_offsets _ site.basis is.valid) is.in_range.mark
    (record { forward = is.span.in_range.forward; begins = is.span.begins; ends = is.span.ends })

-- the levels of the curves
small_notes : (p : Prediction) (c : CurveSpec) → IsPrediction p → c.first ≡ p.first → c.last ≡ p.last
    → c.track.note ≡ predicted_millionths p.book p.station → event.HasLevels c
small_notes p c valid first last note m minute =
    rw note (millionths_small p m valid (record { least = rw first at minute.first; most = rw last at minute.last }))

followed_small : (version : Version) (book : Book) (site : Site) (mark : Option ℤ) → IsWithinLimits book site.station
    → AllHaveLevels (followed_by version book site mark)
unfolding followed_by
followed_small version book site mark limits =
    let p = prediction_of book site.station in
    let valid = all_minutes_valid book site.station limits in
    record {
      turn = small_notes p _ valid refl refl refl;
      slack = for_asked event.HasLevels _ _ (small_notes p _ valid refl refl refl);
      mark = for_marked event.HasLevels mark _ (λ level is. small_notes p _ valid refl refl refl);
    }

-- the events of accepted tracks can be moved
pub site_movable : (version : Version) (book : Book) (span_request : SpanRequest) (site : Site) (tracks : Tracks)
    → IsFound Events book span_request site
    → AreAccepted (followed_by version book site span_request.mark) (widened_of site.basis span_request.begin span_request.end) tracks
    → All IsMovable (merged_of (widened_of site.basis span_request.begin span_request.end).begin tracks)
site_movable version book span_request site tracks is accepted =
    let span : IsSpanInRange (widened_of site.basis span_request.begin span_request.end) = is.span.in_range in
    let begin = span.begin in
    let end = span.end in
    merged-movable (followed_by version book site span_request.mark) (widened_of site.basis span_request.begin span_request.end) tracks
    span.forward (omega (arith, ints)) (omega (arith, ints)) (found_valid_over version book span_request site is)
    (followed_small version book site span_request.mark is.limits) accepted

plain_over : (f : Followed) (b : Basis) (begin end : ℤ) (s : Span) → record { begin = begin; end = end } ≡ s
    → IsTrue (is_plain b) → begin ≤ℤ end → AreValidOver f s → AreAccepted f s (covers_of f s)
    → merged_of s.begin (covers_of f s) ≡ station_events f b begin end
plain_over f b begin end s same plain forward =
    subst (λ (x : Span). AreValidOver f x → AreAccepted f x (covers_of f x)
    → merged_of x.begin (covers_of f x) ≡ station_events f b begin end) same
    (λ valid_over accepted. plain-merged f b begin end
    (covers_of f (record { begin = begin; end = end })) plain forward valid_over accepted)

pub plain_whole : (book : Book) (span_request : SpanRequest) (site : Site) → IsFound Events book span_request site → IsTrue (is_plain site.basis)
    → merged_of (widened_of site.basis span_request.begin span_request.end).begin (tracks_of book site span_request) ≡ events_of book site span_request
unfolding tracks_of events_of
plain_whole book span_request site is plain =
    let f = followed book site span_request in
    let s = widened_of site.basis span_request.begin span_request.end in
    plain_over f site.basis span_request.begin span_request.end s (sym (plain-span site.basis span_request.begin span_request.end plain)) plain
    is.span.forward (found_valid_over Second book span_request site is) (covers-accepted f s)

pub shifted_whole : (book : Book) (span_request : SpanRequest) (site : Site) → IsFound Events book span_request site
    → shifted_of site.basis span_request.begin span_request.end
    (merged_of (widened_of site.basis span_request.begin span_request.end).begin (tracks_of book site span_request)) ≡ events_of book site span_request
unfolding tracks_of events_of
shifted_whole book span_request site is =
    covers-shifted (followed book site span_request) site.basis span_request.begin span_request.end (found_valid_over Second book span_request site is)

pub tracks_movable : (book : Book) (span_request : SpanRequest) (site : Site) → IsFound Events book span_request site
    → All IsMovable (merged_of (widened_of site.basis span_request.begin span_request.end).begin (tracks_of book site span_request))
unfolding tracks_of
tracks_movable book span_request site is =
    site_movable Second book span_request site _ is
    (covers-accepted (followed book site span_request) (widened_of site.basis span_request.begin span_request.end))

pub few_cells : (book : Book) (span_request : SpanRequest) (site : Site) → IsFound Events book span_request site → cells_in (tracks_of book site span_request) < 2 ^ 64
unfolding tracks_of cell_count
few_cells book span_request site is =
    let few = count-few (followed book site span_request) (widened_of site.basis span_request.begin span_request.end) in
    let span : IsSpanInRange (widened_of site.basis span_request.begin span_request.end) = is.span.in_range in
    let forward = span.forward in
    let begin = span.begin in
    let end = span.end in
    omega (arith, ints, few)

pub counted_cells : (book : Book) (span_request : SpanRequest) (site : Site) → cells_in (tracks_of book site span_request) ≡ cells_of book site span_request
unfolding tracks_of cells_of cell_count
counted_cells book span_request site = refl

-- ---- the events have lines

-- a minute of the span has a local time by every clock
pub asked_minute : (book : Book) (span_request : SpanRequest) (site : Site) (m : ℤ) → IsFound Events book span_request site
    → span_request.begin ≤ℤ m → m ≤ℤ span_request.end → InZoneYears m
asked_minute book span_request site m is from until =
    let years = is.limits.times.years in
    let span = widened_of site.basis span_request.begin span_request.end in
    let first = file_minute book.first_year book.years span.begin years is.span.begins in
    let last = file_minute book.first_year book.years span.end years is.span.ends in
    let beside : IsBeside span_request.begin span_request.end span = is.span.beside in
    let least = first.least in
    let most = last.most in
    let before = beside.begins in
    let after = beside.ends in
    record { first = omega (arith, ints); last = omega (arith, ints) }

listed_each : (book : Book) (span_request : SpanRequest) (site : Site) (events : List Event) → IsFound Events book span_request site
    → All (λ e. (span_request.begin ≤ℤ e.minute) × (e.minute <ℤ span_request.end)) events
    → All (λ e. IsTrue (has_word site.station.units e.kind)) events → All (IsListed site.station.units) events
listed_each book span_request site events is lie named k d h =
    let within = lie k d h in
    let from = within.0 in
    let until = within.1 in
    record { minute = asked_minute book span_request site _ is from (omega (arith, ints)); named = named k d h }

pub site_lines : (book : Book) (span_request : SpanRequest) (site : Site) → IsFound Events book span_request site
    → All (IsListed site.station.units) (events_of book site span_request)
unfolding events_of
site_lines book span_request site is =
    let f = followed book site span_request in
    listed_each book span_request site (station_events f site.basis span_request.begin span_request.end) is
    (events-lie f site.basis span_request.begin span_request.end)
    (events-named site.station.units f site.basis span_request.begin span_request.end (followed_named Second book site span_request.mark is.levels))
