-- The events of a subordinate station are its reference's, moved.
use Rattle.std.proofs.Common.{◌≡◌, ℕ, zero, suc, ◌+◌, ◌*◌, ◌≤◌, ℤ, pos, negsuc, ◌+ℤ◌, ◌-ℤ◌, ◌*ℤ◌, ◌≤ℤ◌, int_lt, Bool, true, false, not, ◌||◌, List, [], ◌∷◌, ◌++◌, map, Option, Some, None, append-nil, refl, sym, ap, mul-le-mul_right, ◌∙◌, arith}
use Rattle.std.specs.Prelude.{filter, flat_map, option_map, option_to_list}
use Rattle.std.specs.Ordering.{int_eq}
use Rattle.std.proofs.lemmas.Bool.Decides.{Decides-int_eq}
use Rattle.std.proofs.lemmas.Int.{ints}
use Rattle.std.proofs.lemmas.List.Elements.{filter-append}
use borrow.Author.Differences.{up, down}
use Rattle.curve_law.specs.declared.event.Event.{Event}
use Rattle.curve_law.specs.declared.kind.Kind.{Kind}
use Rattle.curve_law.specs.declared.kind.Kind.TheVariants.{High, Low, FloodBegins, EbbBegins, MarkRising, MarkFalling}
use Rattle.curve_law.specs.CurveSpec.{CurveSpec}
use Rattle.curve_law.specs.Track.{Track, event_at, plain_list, side_at}
use Rattle.curve_law.proofs.CoverLemmas.{by_test}
use Rattle.curve_law.proofs.TrackLemmas.{plain_list-one, plain_list-suc, plain_list-zero}
use Rattle.event_list.specs.declared.span.Span.{Span}
use Rattle.event_list.specs.Events.{Followed, events_over, span_minutes, station_events}
use Rattle.event_list.specs.Order.{ordered}
use Rattle.event_list.specs.Shifts.{is_within, moved, moved_by, moved_within, offset_of, scaled, shifted_of, widened_of}
use Rattle.event_list.proofs.EventLemmas.{events_of as all_events, events-parts}
use Rattle.event_list.proofs.PlainLemmas.{events-inside, plain-span}
use Rattle.event_list.proofs.ScaleLemmas.{scaled-usual}
use Rattle.event_list.proofs.ShiftLemmas.{shifted-ordered}
use Rattle.event_text.specs.Words.{is_slack}
use Rattle.harmonics_book.specs.declared.book.Book.{Book}
use Rattle.harmonics_book.specs.declared.book.Station.{Station}
use Rattle.harmonics_book.specs.declared.book.Units.{Units}
use Rattle.harmonics_book.specs.declared.book.Units.TheVariants.{Feet, Meters, Knots, KnotsSquared}
use Rattle.rate_bound.specs.declared.version.Version.TheVariants.{Second}
use Rattle.rate_bound.specs.CurveSpecs.{over_mark, predicted_mark}
use Rattle.station_curve.specs.Schureman.{predicted_level, predicted_millionths}
use Rattle.station_span.specs.declared.span_request.SpanRequest.{SpanRequest}
use Rattle.station_span.specs.Following.{asks_slack, events_of, followed, followed_by, if_asked, slack_plus, slack_times}
use Rattle.station_span.specs.Sites.{Site}
use Rattle.station_table.specs.declared.basis.Basis.{Basis}
use Rattle.station_table.specs.declared.offset.Slack.{Slack}
use Rattle.station_table.specs.Bases.{reference_basis, usual}
use Rattle.command_laws.specs.Clock.{turns_in}
use Rattle.command_laws.specs.Subordinates.{MeansOneMark, has_own_slack, has_too, second_step}
use Rattle.command_laws.proofs.TurnLemmas.{adds, turn_of, turns_of}
use Rattle.command_laws.proofs.ListLemmas.{filter-all, filter-none, filter-ordered, plain_list-all}

-- ---- a reference's events are its own

usual-offset : (station : ℕ) (kind : Kind) → offset_of (reference_basis station) kind ≡ usual
usual-offset station High = refl
usual-offset station Low = refl
usual-offset station FloodBegins = refl
usual-offset station EbbBegins = refl
usual-offset station MarkRising = refl
usual-offset station MarkFalling = refl

moved-usual : (e : Event) → moved_by usual e ≡ e
moved-usual e =
    let minute : e.minute +ℤ pos 0 ≡ e.minute = omega (arith, ints) in
    ap (λ m. record { minute = m; kind = e.kind; level = scaled usual e.level }) minute
    ∙ ap (λ l. record { minute = e.minute; kind = e.kind; level = l }) (scaled-usual e.level)

map-usual : (station : ℕ) (es : List Event) → map (moved (reference_basis station)) es ≡ es
map-usual station [] = refl
map-usual station (e ∷ es) =
    let here : moved (reference_basis station) e ≡ e = ap (λ o. moved_by o e) (usual-offset station e.kind) ∙ moved-usual e in
    let rest = map-usual station es in
    cc

pub reference-events : (f : Followed) (station : ℕ) (s : Span) → s.begin ≤ℤ s.end
    → station_events f (reference_basis station) s.begin s.end ≡ ordered (all_events s f)
reference-events f station s forward =
    let b = reference_basis station in
    events-parts f b s.begin s.end
    ∙ ap (λ (w : Span). ordered (moved_within b s.begin s.end (all_events w f))) (plain-span b s.begin s.end refl)
    ∙ ap (λ es. ordered (filter (is_within s.begin s.end) es)) (map-usual station (all_events s f))
    ∙ ap ordered (filter-all (is_within s.begin s.end) (all_events s f) (events-inside s f forward))

-- ---- two tracks with the same sides have the same events

abbrev track_by : (ℤ → ℤ) → (ℤ → ℤ) → Kind → Kind → Track
track_by value note rising falling = record { value = value; note = note; rising = rising; falling = falling }

same-list : (v w note : ℤ → ℤ) (rising falling : Kind) → ((m : ℤ) → int_lt (pos 0) (v m) ≡ int_lt (pos 0) (w m))
    → (a : ℤ) (n : ℕ)
    → plain_list (track_by v note rising falling) a n ≡ plain_list (track_by w note rising falling) a n
same-list v w note rising falling same a zero =
    plain_list-zero (track_by v note rising falling) a ∙ sym (plain_list-zero (track_by w note rising falling) a)
same-list v w note rising falling same a (suc n) =
    let t = track_by v note rising falling in
    let u = track_by w note rising falling in
    let one : plain_list t a 1 ≡ plain_list u a 1 = rw (plain_list-one t a, plain_list-one u a, same a, same (a +ℤ pos 1)) refl in
    plain_list-suc t a n ∙ ap (λ es. es ++ plain_list t (a +ℤ pos 1) n) one
    ∙ ap (λ es. plain_list u a 1 ++ es) (same-list v w note rising falling same (a +ℤ pos 1) n) ∙ sym (plain_list-suc u a n)

-- ---- a level that is a multiple of another has its sides

same-sign : (x y : ℤ) (times : ℕ) → 1 ≤ times → y *ℤ pos times ≡ pos 1000000 *ℤ x → int_lt (pos 0) x ≡ int_lt (pos 0) y
same-sign x (pos zero) times some is = let none : x ≡ pos 0 = omega (arith, ints) in rw none refl
same-sign x (pos (suc y)) times some is =
    let more : 1 * times ≤ suc y * times = mul-le-mul_right times (omega arith) in
    let above : pos 1 ≤ℤ x = omega (arith, ints) in grind (arith, ints)
same-sign x (negsuc y) times some is =
    let more : 1 * times ≤ suc y * times = mul-le-mul_right times (omega arith) in
    let below : x ≤ℤ negsuc 0 = omega (arith, ints) in grind (arith, ints)

-- the reference's level over its mark, in parts
over_is : (there level y : ℤ) → y ≡ (pos 1000000 *ℤ level) +ℤ (pos 4147200000000000000000000 *ℤ (pos 0 -ℤ there))
    → up y + 4147200000000000000000000 * up there + 1000000 * down level
    ≡ down y + 4147200000000000000000000 * down there + 1000000 * up level
over_is there level y is = omega (arith, ints, is)

multiple : (times : ℕ) (plus mark there level x y : ℤ)
    → y ≡ (pos 1000000 *ℤ level) +ℤ (pos 4147200000000000000000000 *ℤ (pos 0 -ℤ there))
    → x ≡ (pos times *ℤ level) +ℤ (pos 4147200000000000000000000 *ℤ (plus -ℤ mark))
    → there *ℤ pos times ≡ (mark -ℤ plus) *ℤ pos 1000000 → y *ℤ pos times ≡ pos 1000000 *ℤ x
multiple times plus mark there level x y y_is x_is one =
    omega (arith, ints, ap (λ n. n * times) (over_is there level y y_is), x_is, one)

same-sides : (times plus mark there level : ℤ) → pos 1 ≤ℤ times → there *ℤ times ≡ (mark -ℤ plus) *ℤ pos 1000000
    → int_lt (pos 0) (over_mark times plus mark level) ≡ int_lt (pos 0) (over_mark (pos 1000000) (pos 0) there level)
same-sides (pos times) plus mark there level some is =
    let x = over_mark (pos times) plus mark level in
    let y = over_mark (pos 1000000) (pos 0) there level in
    same-sign x y times (omega (arith, ints)) (multiple times plus mark there level x y refl refl is)
same-sides (negsuc times) plus mark there level some is = absurd (omega (arith, ints))

-- ---- the curves that are followed

abbrev pub reference_of : Site → Site
reference_of site = record { basis = reference_basis site.basis.station; station = site.station }

or-true : (a : Bool) → (a || not false) ≡ true
or-true true = refl
or-true false = refl

had : (units : Units) (basis : Basis) (event : Event) → is_slack event.kind ≡ false → has_too units basis event ≡ true
had units basis event other = rw other (or-true (asks_slack units basis))

-- the events of a track without slacks are events of the station too
had-over : (units : Units) (basis : Basis) (s : Span) (c : CurveSpec) → is_slack c.track.rising ≡ false
    → is_slack c.track.falling ≡ false → filter (has_too units basis) (events_over s c) ≡ events_over s c
had-over units basis s c rising falling =
    filter-all (has_too units basis) (events_over s c)
    (plain_list-all (λ e. has_too units basis e ≡ true) c.track
    (λ m. had units basis (event_at c.track m) (by_test (side_at c.track m) (λ above. rw above falling) (λ below. rw below rising)))
    s.begin (span_minutes s))

abbrev slack_curve : Book → Station → Basis → CurveSpec
slack_curve book station basis = predicted_mark Second book station (slack_times basis) (slack_plus basis) (pos 0) true

abbrev mark_curve : Book → Station → Basis → ℤ → CurveSpec
mark_curve book station basis level = predicted_mark Second book station basis.high.times basis.high.plus level false

-- the slacks of the station are the reference's
record SharesSlack (basis : Basis) : Type 0 where
  pub times : pos 1 ≤ℤ slack_times basis
  pub plus : slack_plus basis ≡ pos 0

shares : (basis : Basis) (slack : Option Slack) → basis.slack ≡ slack → pos 1 ≤ℤ basis.high.times
    → asks_slack Knots basis ≡ true → has_own_slack Knots basis ≡ false → SharesSlack basis
shares basis (Some slack) is some asks own = record { times = rw is (omega (arith, ints)); plus = rw is refl }
shares basis None is some asks own =
    let plus : int_eq basis.high.plus (pos 0) ≡ true = by_test (int_eq basis.high.plus (pos 0)) (λ zero. zero)
    (λ other. absurd (let none = rw (asks, is, other) at own in cc)) in
    record { times = rw is some; plus = rw is ((Decides-int_eq basis.high.plus (pos 0)).0 plus) }

slack-list : (book : Book) (station : Station) (basis : Basis) (place : ℕ) (s : Span) → SharesSlack basis
    → events_over s (slack_curve book station (reference_basis place)) ≡ events_over s (slack_curve book station basis)
slack-list book station basis place s shared =
    let zero = shared.plus in
    let one : pos 0 *ℤ slack_times basis ≡ (pos 0 -ℤ slack_plus basis) *ℤ pos 1000000 = rw zero (omega (arith, ints)) in
    same-list (λ m. over_mark (pos 1000000) (pos 0) (pos 0) (predicted_level book station m))
    (λ m. over_mark (slack_times basis) (slack_plus basis) (pos 0) (predicted_level book station m))
    (predicted_millionths book station) FloodBegins EbbBegins
    (λ m. sym (same-sides (slack_times basis) (slack_plus basis) (pos 0) (pos 0) (predicted_level book station m) shared.times one))
    s.begin (span_minutes s)

abbrev slack_part : Book → Station → Span → Units → Basis → List Event
slack_part book station s units basis =
    flat_map (events_over s) (option_to_list (if_asked (asks_slack units basis) (slack_curve book station basis)))

had-slack : (book : Book) (station : Station) (s : Span) (units : Units) (basis : Basis) (place : ℕ)
    → pos 1 ≤ℤ basis.high.times → has_own_slack units basis ≡ false
    → filter (has_too units basis) (slack_part book station s units (reference_basis place))
    ≡ slack_part book station s units basis
had-slack book station s Feet basis place some own = refl
had-slack book station s Meters basis place some own = refl
had-slack book station s KnotsSquared basis place some own = refl
had-slack book station s Knots basis place some own =
    let c = slack_curve book station basis in
    let d = slack_curve book station (reference_basis place) in
    by_test (asks_slack Knots basis)
    (λ asks.
    let here : slack_part book station s Knots basis ≡ events_over s c ++ [] = rw asks refl in
    let whole : filter (has_too Knots basis) (events_over s d ++ []) ≡ events_over s d ++ [] =
    filter-all (has_too Knots basis) (events_over s d ++ []) (λ k e within. rw asks refl) in
    whole ∙ ap (λ es. es ++ []) (slack-list book station basis place s (shares basis basis.slack refl some asks own)) ∙ sym here)
    (λ unasked.
    let here : slack_part book station s Knots basis ≡ [] = rw unasked refl in
    let each : (m : ℤ) → has_too Knots basis (event_at d.track m) ≡ false =
    λ m. by_test (side_at d.track m) (λ above. rw (unasked, above) refl) (λ below. rw (unasked, below) refl) in
    let none : filter (has_too Knots basis) (events_over s d ++ []) ≡ [] =
    filter-none (has_too Knots basis) (events_over s d ++ [])
    (rw (append-nil (events_over s d)) (plain_list-all (λ e. has_too Knots basis e ≡ false) d.track each s.begin (span_minutes s))) in
    none ∙ sym here)

abbrev mark_part : Book → Station → Span → Basis → Option ℤ → List Event
mark_part book station s basis mark = flat_map (events_over s) (option_to_list (option_map (mark_curve book station basis) mark))

mark-list : (book : Book) (station : Station) (basis : Basis) (place : ℕ) (s : Span) (mark there : ℤ)
    → pos 1 ≤ℤ basis.high.times → MeansOneMark basis (Some mark) (Some there)
    → events_over s (mark_curve book station (reference_basis place) there)
    ≡ events_over s (mark_curve book station basis mark)
mark-list book station basis place s mark there some one =
    same-list (λ m. over_mark (pos 1000000) (pos 0) there (predicted_level book station m))
    (λ m. over_mark basis.high.times basis.high.plus mark (predicted_level book station m))
    (predicted_millionths book station) MarkRising MarkFalling
    (λ m. sym (same-sides basis.high.times basis.high.plus mark there (predicted_level book station m) some one))
    s.begin (span_minutes s)

had-mark : (book : Book) (station : Station) (s : Span) (units : Units) (basis : Basis) (place : ℕ)
    (mark there : Option ℤ) → pos 1 ≤ℤ basis.high.times → MeansOneMark basis mark there
    → filter (has_too units basis) (mark_part book station s (reference_basis place) there)
    ≡ mark_part book station s basis mark
had-mark book station s units basis place None None some one = refl
had-mark book station s units basis place None (Some there) some one = absurd one
had-mark book station s units basis place (Some mark) None some one = absurd one
had-mark book station s units basis place (Some mark) (Some there) some one =
    let d = mark_curve book station (reference_basis place) there in
    filter-append (has_too units basis) (events_over s d) []
    ∙ ap (λ es. es ++ []) (had-over units basis s d refl refl ∙ mark-list book station basis place s mark there some one)

had-all : (book : Book) (site : Site) (s : Span) (mark there : Option ℤ) → pos 1 ≤ℤ site.basis.high.times
    → has_own_slack site.station.units site.basis ≡ false → MeansOneMark site.basis mark there
    → filter (has_too site.station.units site.basis) (all_events s (followed_by Second book (reference_of site) there))
    ≡ all_events s (followed_by Second book site mark)
unfolding followed_by
had-all book site s mark there some own one =
    let b = site.basis in
    let station = site.station in
    let units = station.units in
    let turn = events_over s (turn_of book site) in
    let slack = slack_part book station s units (reference_basis b.station) in
    let marked = mark_part book station s (reference_basis b.station) there in
    let k : Event → Bool = has_too units b in
    let first : filter k turn ≡ turn = had-over units b s (turn_of book site) refl refl in
    let second = had-slack book station s units b b.station some own in
    let third = had-mark book station s units b b.station mark there some one in
    filter-append k turn (slack ++ marked)
    ∙ ap (λ es. es ++ filter k (slack ++ marked)) first
    ∙ ap (λ es. turn ++ es) (filter-append k slack marked)
    ∙ ap (λ es. turn ++ (es ++ filter k marked)) second
    ∙ ap (λ es. turn ++ (slack_part book station s units b ++ es)) third

-- ---- both lists

abbrev pub over_span : Span → Option ℤ → SpanRequest
over_span s mark = record { begin = s.begin; end = s.end; mark = mark }

pub forward_span : (b : Basis) (begin end : ℤ) → begin ≤ℤ end → (widened_of b begin end).begin ≤ℤ (widened_of b begin end).end
forward_span b begin end forward =
    let least = (adds b).0 in
    let greatest = (adds b).1 in omega (arith, ints, least, greatest, forward)

pub all-steps : (book : Book) (site : Site) (span_request : SpanRequest) (there : Option ℤ) → span_request.begin ≤ℤ span_request.end
    → pos 1 ≤ℤ site.basis.high.times → has_own_slack site.station.units site.basis ≡ false
    → MeansOneMark site.basis span_request.mark there
    → events_of book site span_request ≡ second_step site.station.units site.basis span_request.begin span_request.end
    (events_of book (reference_of site) (over_span (widened_of site.basis span_request.begin span_request.end) there))
unfolding events_of shifted_of
all-steps book site span_request there forward some own one =
    let b = site.basis in
    let s = widened_of b span_request.begin span_request.end in
    let k : Event → Bool = has_too site.station.units b in
    let all = all_events s (followed_by Second book (reference_of site) there) in
    let first = reference-events (followed_by Second book (reference_of site) there) b.station s
    (forward_span b span_request.begin span_request.end forward) in
    events-parts (followed book site span_request) b span_request.begin span_request.end
    ∙ ap (λ es. ordered (moved_within b span_request.begin span_request.end es)) (sym (had-all book site s span_request.mark there some own one))
    ∙ sym (shifted-ordered b span_request.begin span_request.end (filter k all))
    ∙ ap (λ es. ordered (moved_within b span_request.begin span_request.end es)) (sym (filter-ordered k all))
    ∙ ap (λ es. ordered (moved_within b span_request.begin span_request.end (filter k es))) (sym first)

reference-turns : (book : Book) (site : Site) (s : Span) (there : Option ℤ) → s.begin ≤ℤ s.end
    → turns_in (events_of book (reference_of site) (over_span s there)) ≡ ordered (events_over s (turn_of book site))
reference-turns book site s there forward =
    let b = reference_basis site.basis.station in
    let turn = turn_of book site in
    let alone : Followed = record { turn = turn; slack = None; mark = None } in
    let w = widened_of b s.begin s.end in
    turns_of book (reference_of site) (over_span s there)
    ∙ ap (λ es. ordered (moved_within b s.begin s.end es)) (sym (append-nil (events_over w turn)))
    ∙ sym (events-parts alone b s.begin s.end)
    ∙ reference-events alone site.basis.station s forward
    ∙ ap ordered (append-nil (events_over s turn))

pub turn-steps : (book : Book) (site : Site) (span_request : SpanRequest) (there : Option ℤ) → span_request.begin ≤ℤ span_request.end
    → turns_in (events_of book site span_request) ≡ ordered (moved_within site.basis span_request.begin span_request.end
    (turns_in (events_of book (reference_of site) (over_span (widened_of site.basis span_request.begin span_request.end) there))))
unfolding shifted_of
turn-steps book site span_request there forward =
    let b = site.basis in
    let s = widened_of b span_request.begin span_request.end in
    turns_of book site span_request
    ∙ sym (shifted-ordered b span_request.begin span_request.end (events_over s (turn_of book site)))
    ∙ ap (λ es. ordered (moved_within b span_request.begin span_request.end es))
    (sym (reference-turns book site s there (forward_span b span_request.begin span_request.end forward)))
