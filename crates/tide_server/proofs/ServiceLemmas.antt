-- The end of a server that has data.
use Rattle.std.proofs.Common.{◌≡◌, ℤ, Bool, true, false, if◌then◌else◌, List, [], ◌∷◌, is_some, Ok, Err, inl, inr, sym, subst, refl}
use Rattle.std.specs.Prelude.{codes, count_by}
use Rattle.tide_edge.specs.declared.failed.Failed.{Failed}
use Rattle.tide_edge.specs.Clocks.{ClockState, clock_after, IsLawful as IsLawfulClock}
use Rattle.tide_edge.specs.DoorLaws.{IsLawful}
use Rattle.tide_edge.specs.Doors.{DoorState, door_after_listen}
use Rattle.tide_edge.proofs.ClockLemmas.{lawful_before, returned_next}
use Rattle.tide_edge.specs.FileStates.{FilesState}
use Rattle.tide_edge.specs.SinkStates.{SinkState, Wrote}
use Rattle.tide_fault.specs.declared.status.Status.{Status}
use Rattle.tide_fault.specs.declared.status.Status.TheVariants.{Done, ReadFault}
use Rattle.named_files.specs.RunFaults.{is_read_fault}
use Rattle.tide_server.specs.declared.outage.Outage.{Outage}
use Rattle.tide_server.specs.declared.outage.Outage.TheVariants as outages
use Rattle.tide_server.specs.declared.served_data.ServedData.{ServedData}
use Rattle.tide_server.specs.Conversations.{AreNext, HasServed, ReturnsNext, after_minutes}
use Rattle.tide_server.specs.Openings.{EndedBy, HasListened, notice_of}
use Rattle.tide_server.specs.Serving.{Exchange, clock_failed, exchange}
use Rattle.tide_server.specs.Workings.Ends.{Ended, Unread, unread, with_files}
use Rattle.tide_server.specs.Workings.Steps.{Serves, is_clock, is_door}
use Rattle.tide_server.proofs.OpeningLemmas.{never, wrote_first, wrote_one}
use Rattle.tide_server.proofs.ServedLemmas.{all_served}
use Rattle.tide_server.proofs.StepLemmas.{none_passed}

-- ---- The port is listened to

pub served_done : (value : Unit {0}) (served_data : ServedData) (door door_after : DoorState) (err err_after : SinkState)
    (clock clock_after : ClockState) (failed : Bool)
    → Serves served_data (Ok value) (exchange door clock) (exchange door_after clock_after)
    → Wrote err err_after failed (notice_of served_data.port)
    → Ended served_data Done (unread door err clock) (unread door_after err_after clock_after)
served_done value served_data door door_after err err_after clock clock_after failed serves wrote = record {
  port = serves.port;
  ends = inl refl;
  done = λ is. serves.over;
  closed = serves.closed;
  passed = serves.passed;
  wrote = rw serves.listens (wrote_first err err_after failed (notice_of served_data.port) wrote);
  clock_failed = false;
  door_failed = false;
  one = refl;
  kept = serves.kept;
}

one_outage : (outage : Outage) → count_by (λ failed. failed) (is_clock outage ∷ is_door outage ∷ []) ≡ 1
one_outage outages.Door = refl
one_outage outages.Clock = refl

pub served_failed : (served_data : ServedData) (outage : Outage) (door door_after : DoorState) (err between err_after : SinkState)
    (clock clock_after : ClockState) (failed also_failed : Bool)
    → Serves served_data (Err outage) (exchange door clock) (exchange door_after clock_after)
    → Wrote err between failed (notice_of served_data.port) → Wrote between err_after also_failed (codes "read fault\n")
    → Ended served_data ReadFault (unread door err clock) (unread door_after err_after clock_after)
served_failed served_data outage door door_after err between err_after clock clock_after failed also_failed serves first second = record {
  port = serves.port;
  ends = inr refl;
  done = λ is. absurd (cc);
  closed = serves.closed;
  passed = serves.passed;
  wrote = rw serves.listens (between, failed, also_failed, first, second);
  clock_failed = is_clock outage;
  door_failed = is_door outage;
  one = one_outage outage;
  kept = serves.kept;
}

-- ---- The port was listened to

same_passed : {T : Type 0} (value : T) (served_data : ServedData) (failed : Bool) (door : DoorState) (clock : ClockState) (after : Exchange)
    → HasServed served_data failed (exchange (door_after_listen (Ok value) served_data.port door) clock) after
    → HasServed served_data failed (exchange door clock) after
same_passed value served_data failed door clock after s = record {
  over = s.over;
  left = s.left;
  minutes = s.minutes;
  connections = s.connections;
  counted = s.counted;
  cut = s.cut;
  clock = s.clock;
  served = s.served;
  last = s.last;
  ends = s.ends;
}

pub ended_listening : {T : Type 0} (value : T) (served_data : ServedData) (status : Status)
    (door opened door_after : DoorState) (err err_after : SinkState)
    (clock clock_after : ClockState) → opened ≡ door_after_listen (Ok value) served_data.port door
    → Ended served_data status (unread opened err clock) (unread door_after err_after clock_after)
    → Ended served_data status (unread door err clock) (unread door_after err_after clock_after)
ended_listening value served_data status door opened door_after err err_after clock clock_after is behind =
    let E : DoorState → Type 0 = λ d. Ended served_data status (unread d err clock) (unread door_after err_after clock_after) in
    let e : E (door_after_listen (Ok value) served_data.port door) = subst E is behind in record {
      port = e.port;
      ends = e.ends;
      done = e.done;
      closed = e.closed;
      passed = same_passed value served_data (is_read_fault status) door clock (exchange door_after clock_after) e.passed;
      wrote = e.wrote;
      clock_failed = e.clock_failed;
      door_failed = e.door_failed;
      one = e.one;
      kept = record {
        door_contents = e.kept.door_contents;
        faults = e.kept.faults;
        readings = e.kept.readings;
        clock = e.kept.clock;
      };
    }

unlistening : (T : Type 0) (served_data : ServedData) (failed_to : Failed) (door : DoorState)
    (err err_after : SinkState) (clock : ClockState) (failed : Bool)
    → Wrote err err_after failed (codes "read fault\n")
    → Ended served_data ReadFault (unread door err clock)
    (unread (door_after_listen {T = T} (Err failed_to) served_data.port door) err_after clock)
unlistening T served_data failed_to door err err_after clock failed wrote = record {
  port = refl;
  ends = inr refl;
  done = λ is. absurd (cc);
  closed = refl;
  passed =
      none_passed served_data true (exchange door clock)
      (exchange (door_after_listen {T = T} (Err failed_to) served_data.port door) clock) refl refl refl refl;
  wrote = wrote_one err err_after failed (codes "read fault\n") wrote;
  clock_failed = false;
  door_failed = true;
  one = refl;
  kept = record {
    door_contents = refl;
    faults = refl;
    readings = clock.readings;
    clock = refl;
  };
}

pub ended_unlistening : (T : Type 0) (served_data : ServedData) (failed_to : Failed) (door door_after : DoorState)
    (err err_after : SinkState) (clock : ClockState)
    (failed : Bool) → door_after ≡ door_after_listen {T = T} (Err failed_to) served_data.port door
    → Wrote err err_after failed (codes "read fault\n")
    → Ended served_data ReadFault (unread door err clock) (unread door_after err_after clock)
ended_unlistening T served_data failed_to door door_after err err_after clock failed is wrote =
    let E : DoorState → Type 0 = λ d. Ended served_data ReadFault (unread door err clock) (unread d err_after clock) in
    subst E (sym is) (unlistening T served_data failed_to door err err_after clock failed wrote)

-- ---- The whole server

next_by : (minutes : List ℤ) (clock : ClockState) → IsLawfulClock (after_minutes minutes clock)
    → IsLawfulClock clock × ReturnsNext clock minutes
unfolding AreNext after_minutes
next_by [] clock law = (law, λ k. tt)
next_by (minute ∷ more) clock law =
    let later = next_by more (clock_after (Ok minute) clock) law in
    (lawful_before (Ok minute) clock later.0, λ k. (returned_next minute clock later.0 k, later.1 k))

unfailed : (has_failed : Bool) (clock : ClockState) → IsLawfulClock (if has_failed then clock_failed clock else clock) → IsLawfulClock clock
unfailed true clock law = lawful_before (Err record {}) clock law
unfailed false clock law = law

-- the minutes that a lawful clock returned
returns_next : (served_data : ServedData) (has_failed : Bool) (before after : Exchange)
    (s : HasServed served_data has_failed before after) → IsLawfulClock after.clock → ReturnsNext before.clock s.minutes
returns_next served_data has_failed before after s law =
    (next_by s.minutes before.clock
    (unfailed (is_some s.left) (after_minutes s.minutes before.clock) (subst (λ (k : ClockState). IsLawfulClock k) s.clock law))).1

-- the connections, and the requests that were answered if the port and the clock are lawful
pub has_listened : (served_data : ServedData) (status : Status) (before after : Unread) (files left : FilesState)
    → Ended served_data status before after → IsLawful after.door → IsLawfulClock after.clock
    → HasListened served_data status (with_files files before) (with_files left after)
has_listened served_data status before after files left e law clock_law =
    let first = exchange before.door before.clock in
    let last = exchange after.door after.clock in
    let next = returns_next served_data (is_read_fault status) first last e.passed clock_law in record {
      asked = e.port;
      ends = e.ends;
      passed = e.passed;
      next = next;
      served = λ t k.
          let of = law (rw e.kept.door_contents t) in
          all_served served_data (is_read_fault status) first last e.passed e.kept.door_contents
          (rw e.kept.door_contents at of.connections) (next k);
      wrote = e.wrote;
    }

pub ended_by : (served_data : ServedData) (status : Status) (before after : Unread) (files left : FilesState)
    → Ended served_data status before after → left.faults ≡ files.faults
    → EndedBy (is_read_fault status) (with_files files before) (with_files left after)
ended_by served_data status before after files left e same = record {
  files = false;
  clock = e.clock_failed;
  door = e.door_failed;
  one = e.one;
  files_count = same;
  files_first = λ is. never is;
  door_count = e.kept.faults;
  door_contents = e.kept.door_contents;
  readings = e.kept.readings;
  clock_state = e.kept.clock;
}
