-- Connections served one after the other.
use Rattle.std.proofs.Common.{◌≡◌, ℕ, ◌+◌, ◌^◌, ◌<◌, Bool, false, true, List, [], ◌∷◌, ◌++◌, length, append_assoc, append-nil, length-append, arith, Option, Some, None, is_some, Ok, Err, inl, inr, ap, sym, ◌∙◌, subst, refl}
use Rattle.std.specs.Bool.{IsTrue}
use Rattle.std.specs.Prelude.{ℤ, count_by, ◌==◌, ◌||◌, ◌&&◌, ◌-◌, not, if◌then◌else◌}
use Rattle.std.proofs.lemmas.Grind.{common_steps}
use Rattle.std.proofs.lemmas.Bool.Decides.{nat_tests}
use Rattle.tide_edge.specs.Clocks.{ClockState, clock_after}
use Rattle.tide_edge.specs.Doors.{Connection, ListenerState, DoorState, after_next, closed, connections_of, door_after_close, door_after_next}
use Rattle.tide_edge.specs.Faults.{counted, faults_after}
use Rattle.tide_edge.specs.FileStates.{as_list}
use Rattle.tide_server.specs.declared.outage.Outage.{Outage}
use Rattle.tide_server.specs.declared.outage.Outage.TheVariants as outages
use Rattle.tide_server.specs.declared.served_data.ServedData.{ServedData}
use Rattle.tide_server.specs.Conversations.{AreServed, HasServed, IsServed, after_minutes, is_cut}
use Rattle.tide_server.specs.Serving.{Exchange, RoseBy, clock_failed, has_byte}
use Rattle.tide_server.specs.Workings.Connections.{Went, clock_given, with_latest}
use Rattle.tide_server.specs.Workings.Steps.{IsKept, Serves, StepBy, door_with, is_clock, is_door, serving}

-- the next connection was accepted, and then answered or left
pub went_next : (failed : Bool) (served_data : ServedData) (first now after : DoorState) (clock clock_now : ClockState)
    → now ≡ door_after_next (Ok true) first
    → Went failed served_data (λ c. door_after_close (with_latest c now)) after clock clock_now
    → Went failed served_data (door_with first) after clock clock_now
went_next failed served_data first now after clock clock_now is went = record {
  connection = went.connection;
  door = went.door ∙ ap (λ d. door_after_close (with_latest went.connection d)) is;
  ended = went.ended;
}

-- ---- What serving leaves unchanged

pub none_kept : (before : Exchange) → IsKept false false before before
none_kept before = record {
  door_contents = refl;
  faults = refl;
  readings = before.clock.readings;
  clock = refl;
}

with_readings : ClockState → List (Option ℤ) → ℕ → ClockState
with_readings clock readings faults = record clock { readings = readings; faults = faults }

clock_asked : (minute : Option ℤ) (before now after : ClockState) (readings : List (Option ℤ))
    → now ≡ with_readings before readings before.faults → after ≡ clock_given minute now
    → (more : List (Option ℤ)) × (after ≡ with_readings before more before.faults)
unfolding with_readings
clock_asked (Some minute) before now after readings so_far is =
    (readings ++ Some minute ∷ [], is ∙ ap (clock_after (Ok minute)) so_far)
clock_asked None before now after readings so_far is = (readings, is ∙ so_far)

pub kept_on : (served_data : ServedData) (before now after : Exchange) → IsKept false false before now
    → StepBy (Ok true) served_data now after → IsKept false false before after
unfolding with_readings
kept_on served_data before now after kept step =
    let clock = clock_asked step.ended.0 before.clock now.clock after.clock kept.readings kept.clock step.ended.1 in record {
      door_contents = ap (λ d. d.door_contents) step.door ∙ kept.door_contents;
      faults = ap (λ d. d.faults) step.door ∙ kept.faults;
      readings = clock.0;
      clock = clock.1;
    }

kept_over : (served_data : ServedData) (before now after : Exchange) → IsKept false false before now
    → StepBy (Ok false) served_data now after → IsKept false false before after
kept_over served_data before now after kept step = record {
  door_contents = ap (λ d. d.door_contents) step.0 ∙ kept.door_contents;
  faults = ap (λ d. d.faults) step.0 ∙ kept.faults;
  readings = kept.readings;
  clock = step.1 ∙ kept.clock;
}

kept_by : (served_data : ServedData) (outage : Outage) (before now after : Exchange) → IsKept false false before now
    → StepBy (Err outage) served_data now after → IsKept (is_door outage) (is_clock outage) before after
unfolding with_readings
kept_by served_data outages.Door before now after kept step = record {
  door_contents = ap (λ d. d.door_contents) step.0 ∙ kept.door_contents;
  faults = ap (λ d. d.faults) step.0 ∙ ap counted kept.faults;
  readings = kept.readings;
  clock = step.1 ∙ kept.clock;
}
kept_by served_data outages.Clock before now after kept step = record {
  door_contents = ap (λ d. d.door_contents) step.door ∙ kept.door_contents;
  faults = ap (λ d. d.faults) step.door ∙ kept.faults;
  readings = kept.readings ++ None ∷ [];
  clock = step.ended.0 ∙ ap clock_failed kept.clock;
}

-- ---- The connections

count_push : {X : Type 0} (p : X → Bool) (xs : List X) (x : X)
    → count_by p (xs ++ x ∷ []) ≡ count_by p xs + (if p x then 1 else 0)
count_push p [] x = grind (arith, common_steps)
count_push p (y ∷ xs) x = grind (arith, common_steps, count_push p xs x)

rose_at : (stands : Bool) (more before now after : ℕ) → (now == 2 ^ 64 - 1) ≡ stands → now ≡ before + more → after ≡ counted now
    → RoseBy (more + 1) before after
rose_at true more before now after at rose is = inr (grind (arith, nat_tests))
rose_at false more before now after at rose is = inl (grind (arith, nat_tests))

rose_by : (more before now after : ℕ) (failed : Bool) → RoseBy more before now → after ≡ faults_after failed now
    → RoseBy (more + (if failed then 1 else 0)) before after
rose_by more before now after false rose is =
    elim rose [ inl r ↦ inl (omega (arith, is, r)) | inr last ↦ inr (is ∙ last) ]
rose_by more before now after true rose is =
    elim rose [ inl r ↦ rose_at (now == 2 ^ 64 - 1) more before now after refl r is | inr last ↦ inr (grind (arith, nat_tests)) ]

-- no connection was served
pub none_passed : (served_data : ServedData) (has_failed : Bool) (before after : Exchange)
    → after.door.connections ≡ before.door.connections → after.door.line_faults ≡ before.door.line_faults
    → after.clock ≡ before.clock → after.door.listener_state.accepted ≡ 0 → HasServed served_data has_failed before after
unfolding AreServed after_minutes
none_passed served_data has_failed before after connections lines clock none = record {
  over = [];
  left = None;
  minutes = [];
  connections =
      ap connections_of connections
      ∙ sym (append-nil (connections_of before.door.connections))
      ∙ sym (append-nil (connections_of before.door.connections ++ []));
  counted = none;
  cut = inl (omega (arith, lines));
  clock = clock;
  served = refl;
  last = tt;
  ends = λ is. absurd (cc);
}

-- none was left without a reply, if nothing has failed
none_left : (left : Option Connection) → (IsTrue (is_some left) → IsTrue false) → left ≡ None
none_left None ends = refl
none_left (Some c) ends = absurd (cc (ends refl))

-- the connections that were served, if nothing has failed
record HavePassed (served_data : ServedData) (before after : Exchange) : Type 0 where
  over : List Connection
  minutes : List ℤ
  connections : connections_of after.door.connections ≡ connections_of before.door.connections ++ over
  counted : after.door.listener_state.accepted ≡ length over
  cut : RoseBy (count_by is_cut over) before.door.line_faults after.door.line_faults
  clock : after.clock ≡ after_minutes minutes before.clock
  served : AreServed served_data over minutes

have_passed : (served_data : ServedData) (before after : Exchange) → HasServed served_data false before after
    → HavePassed served_data before after
have_passed served_data before after s =
    let none = none_left s.left s.ends in
    let counted : after.door.listener_state.accepted ≡ length s.over + 0 = rw none at s.counted in record {
      over = s.over;
      minutes = s.minutes;
      connections = (rw none at s.connections) ∙ append-nil (connections_of before.door.connections ++ s.over);
      counted = omega (arith, counted);
      cut = s.cut;
      clock = rw none at s.clock;
      served = s.served;
    }

served_on : (served_data : ServedData) (over : List Connection) (minutes : List ℤ) (c : Connection) (minute : Option ℤ)
    → AreServed served_data over minutes
    → IsServed served_data c minute → AreServed served_data (over ++ c ∷ []) (minutes ++ as_list minute)
unfolding AreServed
served_on served_data [] minutes c minute so_far last = (
  minute,
  [],
  ap (λ ms. ms ++ as_list minute) so_far ∙ sym (append-nil (as_list minute)),
  last,
  refl,
)
served_on served_data (first ∷ more) minutes c minute so_far last = (
  so_far.0,
  so_far.1 ++ as_list minute,
  ap (λ ms. ms ++ as_list minute) so_far.2 ∙ append_assoc (as_list so_far.0) so_far.1 (as_list minute),
  so_far.3,
  served_on served_data more so_far.1 c minute so_far.4 last,
)

given_more : (minute : Option ℤ) (minutes : List ℤ) (clock : ClockState)
    → clock_given minute (after_minutes minutes clock) ≡ after_minutes (minutes ++ as_list minute) clock
unfolding after_minutes
given_more None [] clock = refl
given_more (Some m) [] clock = refl
given_more minute (first ∷ more) clock = given_more minute more (clock_after (Ok first) clock)

cut_on : (c : Connection) (over : List Connection) (before now after : ℕ) → RoseBy (count_by is_cut over) before now
    → after ≡ faults_after (is_cut c) now → RoseBy (count_by is_cut (over ++ c ∷ [])) before after
cut_on c over before now after so_far is =
    subst (λ (n : ℕ). RoseBy n before after) (sym (count_push is_cut over c))
    (rose_by (count_by is_cut over) before now after (is_cut c) so_far is)

counted_by : (last : Bool) (count : ℕ) → (count == 2 ^ 64 - 1) ≡ last → count < 2 ^ 64 - 1 → counted count ≡ count + 1
counted_by true count is few = absurd (grind (arith, nat_tests))
counted_by false count is few = rw is refl

pub counted_on : (count : ℕ) → count < 2 ^ 64 - 1 → counted count ≡ count + 1
counted_on count few = counted_by (count == 2 ^ 64 - 1) count refl few

pub next_serving : (port count : ℕ) (after : ListenerState) → count < 2 ^ 64 - 1 → after ≡ closed (after_next (Ok true) (serving port count))
    → after ≡ serving port (count + 1)
next_serving port count after few is = is ∙ ap (serving port) (counted_on count few)

-- the connections after one more
pub passed_on : (served_data : ServedData) (before now after : Exchange) → HasServed served_data false before now
    → now.door.listener_state.accepted < 2 ^ 64 - 1
    → StepBy (Ok true) served_data now after → HasServed served_data false before after
passed_on served_data before now after passed few step =
    let so_far = have_passed served_data before now passed in
    let c = step.connection in
    let minute = step.ended.0 in
    let accepted : after.door.listener_state.accepted ≡ now.door.listener_state.accepted + 1 =
    ap (λ d. d.listener_state.accepted) step.door ∙ counted_on now.door.listener_state.accepted few in
    let one : length (so_far.over ++ c ∷ []) ≡ length so_far.over + 1 = length-append so_far.over (c ∷ []) in
    record {
      over = so_far.over ++ c ∷ [];
      left = None;
      minutes = so_far.minutes ++ as_list minute;
      connections =
          ap (λ d. connections_of d.connections) step.door
          ∙ ap (λ cs. cs ++ c ∷ []) so_far.connections
          ∙ append_assoc (connections_of before.door.connections) so_far.over (c ∷ [])
          ∙ sym (append-nil (connections_of before.door.connections ++ (so_far.over ++ c ∷ [])));
      counted = omega (arith, accepted, one, so_far.counted);
      cut =
          cut_on c so_far.over before.door.line_faults now.door.line_faults after.door.line_faults so_far.cut
          (ap (λ d. d.line_faults) step.door);
      clock = step.ended.1 ∙ ap (clock_given minute) so_far.clock ∙ given_more minute so_far.minutes before.clock;
      served = served_on served_data so_far.over so_far.minutes c minute so_far.served step.ended.2;
      last = tt;
      ends = λ is. absurd (cc);
    }

-- the connections after nothing but a count of faults or the end of the port has changed
pub passed_still : (served_data : ServedData) (has_failed : Bool) (before now after : Exchange)
    → HasServed served_data false before now
    → after.door.connections ≡ now.door.connections → after.door.line_faults ≡ now.door.line_faults
    → after.door.listener_state.accepted ≡ now.door.listener_state.accepted → after.clock ≡ now.clock
    → HasServed served_data has_failed before after
passed_still served_data has_failed before now after passed connections lines accepted clock =
    let so_far = have_passed served_data before now passed in record {
      over = so_far.over;
      left = None;
      minutes = so_far.minutes;
      connections =
          ap connections_of connections ∙ so_far.connections
          ∙ sym (append-nil (connections_of before.door.connections ++ so_far.over));
      counted = omega (arith, accepted, so_far.counted);
      cut = subst (λ (n : ℕ). RoseBy (count_by is_cut so_far.over) before.door.line_faults n) (sym lines) so_far.cut;
      clock = clock ∙ so_far.clock;
      served = so_far.served;
      last = tt;
      ends = λ is. absurd (cc);
    }

uncut : (read_failed write_failed : Bool) (bytes : Bool) → (not read_failed && bytes) ≡ true → write_failed ≡ false
    → (read_failed || write_failed) ≡ false
uncut true write_failed bytes asks unfailed = absurd (cc)
uncut false write_failed bytes asks unfailed = unfailed

-- the connections after the clock has failed for one more
left_passed : (served_data : ServedData) (before now after : Exchange) → HasServed served_data false before now
    → now.door.listener_state.accepted < 2 ^ 64 - 1
    → StepBy (Err outages.Clock) served_data now after → HasServed served_data true before after
left_passed served_data before now after passed few step =
    let so_far = have_passed served_data before now passed in
    let c = step.connection in
    let left = step.ended.1 in
    let whole : is_cut c ≡ false = uncut c.read_failed c.write_failed (has_byte c.came) left.asked left.unanswered.unfailed in
    let accepted : after.door.listener_state.accepted ≡ now.door.listener_state.accepted + 1 =
    ap (λ d. d.listener_state.accepted) step.door ∙ counted_on now.door.listener_state.accepted few in
    record {
      over = so_far.over;
      left = Some c;
      minutes = so_far.minutes;
      connections = ap (λ d. connections_of d.connections) step.door ∙ ap (λ cs. cs ++ c ∷ []) so_far.connections;
      counted = omega (arith, accepted, so_far.counted);
      cut =
          subst (λ (n : ℕ). RoseBy (count_by is_cut so_far.over) before.door.line_faults n)
          (sym (ap (λ d. d.line_faults) step.door ∙ ap (λ b. faults_after b now.door.line_faults) whole)) so_far.cut;
      clock = step.ended.0 ∙ ap clock_failed so_far.clock;
      served = so_far.served;
      last = left;
      ends = λ is. refl;
    }

failed_passed : (served_data : ServedData) (outage : Outage) (before now after : Exchange)
    → HasServed served_data false before now → now.door.listener_state.accepted < 2 ^ 64 - 1
    → StepBy (Err outage) served_data now after → HasServed served_data true before after
failed_passed served_data outages.Door before now after passed few step =
    passed_still served_data true before now after passed (ap (λ d. d.connections) step.0) (ap (λ d. d.line_faults) step.0)
    (ap (λ d. d.listener_state.accepted) step.0) step.1
failed_passed served_data outages.Clock before now after passed few step = left_passed served_data before now after passed few step

-- ---- The end of serving

-- no more connections come
pub over_serves : (served_data : ServedData) (count : ℕ) (before now after : Exchange)
    → now.door.listener_state ≡ serving served_data.port count → IsKept false false before now → HasServed served_data false before now
    → StepBy (Ok false) served_data now after → Serves served_data (Ok tt) before after
over_serves served_data count before now after listener_state kept passed step = record {
  port = ap (λ d. d.listener_state.port) step.0 ∙ ap (λ d. d.port) listener_state;
  listens = ap (λ d. d.listener_state.listens) step.0 ∙ ap (λ d. d.listens) listener_state;
  closed = ap (λ d. d.listener_state.is_open) step.0 ∙ ap (λ d. d.is_open) listener_state;
  over = inl (ap (λ d. d.listener_state.is_over) step.0);
  passed =
      passed_still served_data false before now after passed (ap (λ d. d.connections) step.0) (ap (λ d. d.line_faults) step.0)
      (ap (λ d. d.listener_state.accepted) step.0) step.1;
  kept = kept_over served_data before now after kept step;
}

-- 2^64 - 1 connections were accepted
pub all_serves : (served_data : ServedData) (before now : Exchange) → now.door.listener_state ≡ serving served_data.port (2 ^ 64 - 1)
    → IsKept false false before now → HasServed served_data false before now → Serves served_data (Ok tt) before now
all_serves served_data before now listener_state kept passed = record {
  port = ap (λ d. d.port) listener_state;
  listens = ap (λ d. d.listens) listener_state;
  closed = ap (λ d. d.is_open) listener_state;
  over = inr (ap (λ d. d.accepted) listener_state);
  passed = passed;
  kept = kept;
}

still_closed : (served_data : ServedData) (outage : Outage) (now after : Exchange) → StepBy (Err outage) served_data now after
    → (after.door.listener_state.port ≡ now.door.listener_state.port) × (after.door.listener_state.listens ≡ now.door.listener_state.listens)
    × (now.door.listener_state.is_open ≡ false → after.door.listener_state.is_open ≡ false)
still_closed served_data outages.Door now after step = (
  ap (λ d. d.listener_state.port) step.0,
  ap (λ d. d.listener_state.listens) step.0,
  λ none. ap (λ d. d.listener_state.is_open) step.0 ∙ none,
)
still_closed served_data outages.Clock now after step = (
  ap (λ d. d.listener_state.port) step.door,
  ap (λ d. d.listener_state.listens) step.door,
  λ none. ap (λ d. d.listener_state.is_open) step.door,
)

-- the port or the clock has failed
pub failed_serves : (served_data : ServedData) (outage : Outage) (count : ℕ) (before now after : Exchange) → count < 2 ^ 64 - 1
    → now.door.listener_state ≡ serving served_data.port count → IsKept false false before now → HasServed served_data false before now
    → StepBy (Err outage) served_data now after → Serves served_data (Err outage) before after
failed_serves served_data outage count before now after few listener_state kept passed step =
    let still = still_closed served_data outage now after step in
    let accepted : now.door.listener_state.accepted ≡ count = ap (λ d. d.accepted) listener_state in
    record {
      port = still.0 ∙ ap (λ d. d.port) listener_state;
      listens = still.1 ∙ ap (λ d. d.listens) listener_state;
      closed = still.2 (ap (λ d. d.is_open) listener_state);
      over = tt;
      passed = failed_passed served_data outage before now after passed (rw accepted few) step;
      kept = kept_by served_data outage before now after kept step;
    }
