-- The contract of a server over objects in memory (this project).
use Rattle.std.specs.Prelude.{◌≡◌, ◌⊎◌, ◌<◌, ◌-◌, ◌^◌, ℕ, suc, ℤ, Bool, true, false, All, List, [], ◌∷◌, ◌++◌, length, map}
use Rattle.std.specs.List.{concat}
use Rattle.tide_edge.specs.Doors.{replies_of, waiting_of}
use Rattle.tide_edge.specs.Faults.{faults_after}
use Rattle.tide_edge.specs.Memory.{HeldClock, HeldDoor, HeldFiles, HeldSink, clock_state, door_state, files_state, sink_state}
use Rattle.tide_server.specs.declared.served_data.ServedData.{ServedData}
use Rattle.tide_server.specs.Openings.{ServerStates}
use Rattle.tide_server.specs.Serving.{Answers, MayLeave, RoseBy}

-- the files, the port, standard error and the clock of a server in memory
pub record InMemory : Type 0 where
  pub files : HeldFiles
  pub door : HeldDoor
  pub err : HeldSink
  pub clock : HeldClock

-- the states of the files, the port, standard error and the clock of a server in memory
abbrev pub server_states_in : InMemory → ServerStates
server_states_in held = record {
  files = files_state held.files;
  door = door_state held.door;
  err = sink_state held.err;
  clock = clock_state held.clock;
}

-- there are as many replies as requests, and each reply answers the bytes of the request at the same
-- index, at this minute
abbrev pub AreAnswered : ServedData → ℤ → List (List (List ℕ)) → List (List ℕ) → Type 0
AreAnswered served_data minute [] [] = Unit {0}
AreAnswered served_data minute [] (reply ∷ more) = ⊥
AreAnswered served_data minute (request ∷ requests) [] = ⊥
AreAnswered served_data minute (request ∷ requests) (reply ∷ more) =
    Answers served_data minute (concat request) reply × AreAnswered served_data minute requests more

-- there are as many replies as requests, and each reply, except at most `failed` of them, answers the
-- bytes of the request at the same index, at this minute
abbrev pub AreAnsweredBut : ℕ → ServedData → ℤ → List (List (List ℕ)) → List (List ℕ) → Type 0
AreAnsweredBut failed served_data minute [] [] = Unit {0}
AreAnsweredBut failed served_data minute [] (reply ∷ more) = ⊥
AreAnsweredBut failed served_data minute (request ∷ requests) [] = ⊥
AreAnsweredBut failed served_data minute (request ∷ requests) (reply ∷ more) =
    (Answers served_data minute (concat request) reply × AreAnsweredBut failed served_data minute requests more)
    ⊎ ((fewer : ℕ) × (failed ≡ suc fewer) × AreAnsweredBut fewer served_data minute requests more)

-- Bool: whether a connection was left without a reply: the list of such connections isn't empty
abbrev pub is_left : List (List (List ℕ)) → Bool
is_left [] = false
is_left (request ∷ more) = true

-- Pending requests were accepted in their order, and each has a reply. Each of `replies` answers
-- its request if no read or write failed; otherwise at most as many don't as the count of failures
-- grew by, unless this count is at its maximum. `left` has the last accepted request if the clock
-- failed for it: this request isn't empty, and its reply is.
pub record HasAnswered (served_data : ServedData) (has_failed : Bool) (before after : InMemory) : Type 0 where
  pub requests : List (List (List ℕ))
  pub replies : List (List ℕ)
  pub left : List (List (List ℕ))
  pub accepted : waiting_of (door_state before.door) ≡ requests ++ left ++ waiting_of (door_state after.door)
  pub returned_replies : replies_of (door_state after.door) ≡ replies_of (door_state before.door) ++ replies ++ map (λ request. []) left
  pub each : length replies ≡ length requests
  pub answered : after.door.line_faults ≡ before.door.line_faults → before.door.line_faults < 2 ^ 64 - 1
      → AreAnswered served_data before.clock.minute requests replies
  pub unanswered : (failed : ℕ) × RoseBy failed before.door.line_faults after.door.line_faults
      × AreAnsweredBut failed served_data before.clock.minute requests replies
  pub last : MayLeave has_failed left
  pub bytes : All (λ request. ¬ (concat request ≡ [])) left
  pub clock : (clock_state after.clock).faults ≡ faults_after (is_left left) (clock_state before.clock).faults
