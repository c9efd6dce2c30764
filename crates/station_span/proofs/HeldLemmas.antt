-- The facts of a station that was found, by the definitions.
use Rattle.std.proofs.Common.{◌≡◌, ℤ, pos, ◌-ℤ◌, ◌≤ℤ◌, ◌<ℤ◌, unsigned_abs, IsTrue, List, All, Option, subst, refl, ap, ◌∙◌, arith}
use Rattle.std.proofs.lemmas.Int.{ints}
use Rattle.curve_law.specs.declared.cell.Cell.{Cell}
use Rattle.curve_law.specs.declared.event.Event.{Event}
use Rattle.station_span.specs.declared.following.FoundEvents.{FoundEvents}
use Rattle.event_list.specs.declared.span.Span.{Span}
use Rattle.event_list.specs.Events.{cells_in, covers_of, merged_of}
use Rattle.event_text.specs.Lines.{IsListed}
use Rattle.event_list.specs.Shifts.{IsMovable, shifted_of, widened_of}
use Rattle.rate_bound.specs.declared.version.Version.TheVariants.{Second}
use Rattle.station_curve.specs.Curves.{IsPredicted, Prediction}
use Rattle.station_table.specs.Bases.{is_equal, is_plain}
use Rattle.station_span.specs.declared.found_station.FoundStation.{FoundStation}
use Rattle.station_span.specs.declared.purpose.Purpose.{Purpose}
use Rattle.station_span.specs.declared.purpose.Purpose.TheVariants.{Events, Levels, Highest}
use Rattle.station_span.specs.Following.{cells_of, events_of, tracks_of}
use Rattle.station_span.specs.Peaks.{first_source, highest_of, highest_verdict, level_curve, minute_count}
use Rattle.station_span.specs.Sites.{reached}
use Rattle.station_span.specs.Workings.Curves.{followed_over, over}
use Rattle.station_span.specs.Workings.Finds.{AreEvaluable, AreReferences, HasPeak, IsEvaluable, IsSiteList, followed_at, site_of}
use Rattle.station_span.specs.Workings.Peaks.{IsSourceIn}
use Rattle.station_span.specs.Workings.Spans.{IsFound}
use Rattle.station_span.proofs.FollowLemmas.{asked_minute, counted_cells, covers_same, plain_whole, shifted_whole, site_lines, tracks_movable}
use Rattle.station_span.proofs.LevelLemmas.{within_adds, zone_minute}
use Rattle.station_span.proofs.PeakLemmas.{some_minute}
use Rattle.curve_law.specs.CurveSpec.{CurveSpec}
use Rattle.highest_water.specs.declared.peak.Peak.{Peak}
use Rattle.highest_water.specs.Covers.{peak_of}
use Rattle.highest_water.specs.Verdicts.{peak_verdict}
use Rattle.highest_water.proofs.AgreeLemmas.{peak_of-same, verdict-same}
use Rattle.year_blend.specs.Places.{InDomain}
use Rattle.zone_time.specs.Zones.{InZoneYears}

-- ---- events

-- a station that was found for a purpose
pub found_for : (f : FoundStation) (purpose : Purpose) → f.purpose ≡ purpose → IsFound purpose f.curve.book f.span_request (site_of f)
found_for f purpose is = subst (λ r. IsFound r f.curve.book f.span_request (site_of f)) is f.valid

pub span_for : (f : FoundStation) (purpose : Purpose) → f.purpose ≡ purpose → f.span ≡ reached purpose f.basis f.span_request.begin f.span_request.end
span_for f purpose is = f.looked ∙ ap (λ r. reached r f.basis f.span_request.begin f.span_request.end) is

-- the tracks of the station are the cells of its curves
pub tracks_for : (f : FoundStation) → f.purpose ≡ Events
    → covers_of (followed_over Second f.curve f.basis f.span_request.mark) f.span ≡ tracks_of f.curve.book (site_of f) f.span_request
unfolding tracks_of
tracks_for f is =
    covers_same Second f.curve f.basis f.span_request.mark f.span
    ∙ ap (λ s. covers_of (followed_at Second f) s) (span_for f Events is)

pub cells_for : (f : FoundStation) → cells_in (tracks_of f.curve.book (site_of f) f.span_request) ≡ cells_of f.curve.book (site_of f) f.span_request
cells_for f = counted_cells f.curve.book f.span_request (site_of f)

merged_for : (f : FoundStation) (events : List Event) → f.purpose ≡ Events → AreReferences f events
    → events ≡ merged_of (widened_of f.basis f.span_request.begin f.span_request.end).begin (tracks_of f.curve.book (site_of f) f.span_request)
merged_for f events is references =
    references ∙ ap (λ (s : Span). merged_of s.begin (tracks_of f.curve.book (site_of f) f.span_request)) (span_for f Events is)

pub can_move : (f : FoundStation) (events : List Event) → f.purpose ≡ Events → AreReferences f events → All IsMovable events
can_move f events is references =
    rw (merged_for f events is references) (tracks_movable f.curve.book f.span_request (site_of f) (found_for f Events is))

pub shifted_for : (f : FoundStation) (events : List Event) → f.purpose ≡ Events → AreReferences f events
    → shifted_of f.basis f.span_request.begin f.span_request.end events ≡ events_of f.curve.book (site_of f) f.span_request
shifted_for f events is references =
    ap (shifted_of f.basis f.span_request.begin f.span_request.end) (merged_for f events is references)
    ∙ shifted_whole f.curve.book f.span_request (site_of f) (found_for f Events is)

pub plain_for : (f : FoundStation) (events : List Event) → f.purpose ≡ Events → AreReferences f events
    → IsTrue (is_plain f.basis) → events ≡ events_of f.curve.book (site_of f) f.span_request
plain_for f events is references plain =
    merged_for f events is references ∙ plain_whole f.curve.book f.span_request (site_of f) (found_for f Events is) plain

-- the cells of its searches are the station's tracks
pub tracks_are : (f : FoundStation) (turn : List Cell) (slack mark : Option (List Cell)) → turn
    ≡ (tracks_of f.curve.book (site_of f) f.span_request).turn → slack ≡ (tracks_of f.curve.book (site_of f) f.span_request).slack
    → mark ≡ (tracks_of f.curve.book (site_of f) f.span_request).mark
    → record { turn = turn; slack = slack; mark = mark } ≡ tracks_of f.curve.book (site_of f) f.span_request
tracks_are f turn slack mark t s m = rw (t, s, m) refl

pub site_list : (f : FoundStation) (listed : FoundEvents) → f.purpose ≡ Events → listed.units ≡ f.curve.station.units
    → listed.events ≡ events_of f.curve.book (site_of f) f.span_request
    → listed.cells ≡ cells_of f.curve.book (site_of f) f.span_request → IsSiteList f.curve.book f.span_request (site_of f) listed
site_list f listed is units events cells =
    let found_station = found_for f Events is in
    let forward = found_station.span.forward in
    record {
      units = units;
      levels = rw units found_station.levels;
      events = events;
      cells = cells;
      lines = rw (units, events) (site_lines f.curve.book f.span_request (site_of f) found_station);
      forward = forward;
      begins = asked_minute f.curve.book f.span_request (site_of f) f.span_request.begin found_station (omega (arith, ints)) forward;
      ends = asked_minute f.curve.book f.span_request (site_of f) f.span_request.end found_station forward (omega (arith, ints));
    }

pub event_lines : (f : FoundStation) → f.purpose ≡ Events
    → All (IsListed f.curve.station.units) (events_of f.curve.book (site_of f) f.span_request)
event_lines f is = site_lines f.curve.book f.span_request (site_of f) (found_for f Events is)

-- ---- levels

pub looked_inside : (f : FoundStation) (minute : ℤ) → IsEvaluable f minute → IsPredicted f.curve (minute -ℤ f.basis.high.add)
looked_inside f minute looked =
    let first : f.curve.first ≡ f.span.begin = ap (λ (p : Prediction). p.first) f.alone in
    let last : f.curve.last ≡ f.span.end = ap (λ (p : Prediction). p.last) f.alone in
    let from = looked.from in
    let until = looked.until in
    record { least = omega (arith, ints); most = omega (arith, ints) }

-- the minute has a local time by every clock
pub looked_zone : (f : FoundStation) (minute : ℤ) → IsEvaluable f minute → InZoneYears minute
looked_zone f minute looked =
    let is = f.valid in
    let book = f.curve.book in
    let begins : InDomain book.first_year book.years f.span.begin = rw f.looked is.span.begins in
    let ends : InDomain book.first_year book.years f.span.end = rw f.looked is.span.ends in
    let from = looked.from in
    let until = looked.until in
    let least = begins.least in
    let most = ends.most in
    zone_minute book f.basis.high minute is.limits.times.years is.valid.high
    (record { least = omega (arith, ints); most = omega (arith, ints) })

-- the first minute has a level, if the station was found for events
pub first_looked : (f : FoundStation) → f.purpose ≡ Events → IsEvaluable f f.span_request.begin
first_looked f is =
    let adds = within_adds f.basis in
    let least_first = adds.0 in
    let greatest_last = adds.1 in
    let forward = f.valid.span.forward in
    let begins : f.span.begin ≡ (widened_of f.basis f.span_request.begin f.span_request.end).begin = ap (λ (s : Span). s.begin) (span_for f Events is) in
    let ends : f.span.end ≡ (widened_of f.basis f.span_request.begin f.span_request.end).end = ap (λ (s : Span). s.end) (span_for f Events is) in
    record { from = omega (arith, ints); until = omega (arith, ints) }

-- all minutes of the span have a level, if the station was found for levels
pub all_looked : (f : FoundStation) → f.purpose ≡ Levels → IsTrue (is_equal f.basis) → AreEvaluable f
all_looked f is equal minute from until =
    let begins : f.span.begin ≡ f.span_request.begin -ℤ f.basis.high.add = ap (λ (s : Span). s.begin) (rw equal at (span_for f Levels is)) in
    let ends : f.span.end ≡ f.span_request.end -ℤ f.basis.high.add = ap (λ (s : Span). s.end) (rw equal at (span_for f Levels is)) in
    record { from = omega (arith, ints); until = omega (arith, ints) }

-- ---- the highest water

-- the minutes of the reference that are evaluated
peak_begins : (f : FoundStation) → HasPeak f → f.span.begin ≡ first_source (site_of f) f.span_request
peak_begins f has = ap (λ (s : Span). s.begin) (rw has.equal at (span_for f Highest has.purpose))

peak_ends : (f : FoundStation) → HasPeak f → f.span.end ≡ f.span_request.end -ℤ f.basis.high.add
peak_ends f has = ap (λ (s : Span). s.end) (rw has.equal at (span_for f Highest has.purpose))

pub peak_some : (f : FoundStation) → HasPeak f → f.span.begin <ℤ f.span.end
peak_some f has =
    let some = some_minute f.span_request.begin f.span_request.end (found_for f Highest has.purpose).span.some in
    let begins = peak_begins f has in
    let ends = peak_ends f has in
    omega (arith, ints)

pub peak_short : (f : FoundStation) → HasPeak f → (f.span.end -ℤ f.span.begin) ≤ℤ pos 5270400
peak_short f has =
    let few = f.valid.few in
    let begins = peak_begins f has in
    let ends = peak_ends f has in
    omega (arith, ints)

peak_count : (f : FoundStation) → HasPeak f → unsigned_abs (f.span.end -ℤ f.span.begin) ≡ minute_count f.span_request
peak_count f has =
    let begins = peak_begins f has in
    let ends = peak_ends f has in
    let same : f.span.end -ℤ f.span.begin ≡ f.span_request.end -ℤ f.span_request.begin = omega (arith, ints) in ap unsigned_abs same

pub peak_is : (f : FoundStation) (c : CurveSpec) → HasPeak f → c ≡ over f.curve (level_curve f.curve.book (site_of f))
    → peak_of c f.span.begin (unsigned_abs (f.span.end -ℤ f.span.begin)) ≡ highest_of f.curve.book (site_of f) f.span_request
unfolding highest_of
peak_is f c has levels =
    rw (levels, peak_count f has, peak_begins f has)
    (peak_of-same (level_curve f.curve.book (site_of f)) f.curve.first f.curve.last (first_source (site_of f) f.span_request) (minute_count f.span_request))

pub verdict_is : (f : FoundStation) (c : CurveSpec) (peak : Peak) → HasPeak f
    → c ≡ over f.curve (level_curve f.curve.book (site_of f))
    → peak_verdict c f.span.begin (unsigned_abs (f.span.end -ℤ f.span.begin)) peak
    ≡ highest_verdict f.curve.book (site_of f) f.span_request peak
unfolding highest_verdict
verdict_is f c peak has levels =
    rw (levels, peak_count f has, peak_begins f has)
    (verdict-same (level_curve f.curve.book (site_of f)) f.curve.first f.curve.last (first_source (site_of f) f.span_request) (minute_count f.span_request) peak)

pub peak_inside : (f : FoundStation) (at : ℤ) → HasPeak f → f.span.begin ≤ℤ at → at <ℤ f.span.end → IsSourceIn (site_of f) f.span_request at
peak_inside f at has from before =
    let begins = peak_begins f has in
    let ends = peak_ends f has in
    record { from = omega (arith, ints); before = omega (arith, ints) }
