-- A server over objects that don't fail ends by its data, or out of memory.
use Rattle.std.proofs.Common.{◌≡◌, ◌⊎◌, ◌∙◌, ℕ, Bool, true, false, List, [], ◌∷◌, codes, Some, None, Result, Ok, Err, inl, inr, refl, ap, arith, le_refl, subst}
use Rattle.std.specs.Bool.{IsTrue}
use Rattle.std.specs.Prelude.{count_by}
use Rattle.decimal_text.specs.Expected.{Excuses}
use Rattle.harmonics_text.specs.declared.fault.BookFault.TheVariants as form
use Rattle.harmonics_text.specs.Reading.{book_of}
use Rattle.harmonics_book.specs.Worked.{pier_book}
use Rattle.harmonics_text.specs.Worked.{file_of, pier_lines}
use Rattle.named_files.specs.declared.run_fault.RunFault.{RunFault}
use Rattle.named_files.specs.declared.run_fault.RunFault.TheVariants.{Unread, Faulty}
use Rattle.named_files.specs.declared.run_fault.RunFault.TheVariants as none_of
use Rattle.named_files.specs.RunFaults.{is_read_fault, source_of, status_of}
use Rattle.named_files.specs.Readings.{book_named, table_named}
use Rattle.question.specs.declared.command.Command.TheVariants.{Serve}
use Rattle.question.specs.declared.fault.AskFault.TheVariants as ask
use Rattle.question.specs.Forms.{some_text}
use Rattle.question.specs.Questions.{question_of, with_item, with_items}
use Rattle.question.specs.Worked.{bare}
use Rattle.station_table.specs.declared.fault.OffsetFault.TheVariants as table
use Rattle.tide_edge.specs.Clocks.{ClockState}
use Rattle.tide_edge.specs.Faults.{Rose, counted, faults_after}
use Rattle.tide_fault.specs.declared.fault.Fault.TheVariants.{Ask, NoSheet, TooLong, Book, Offsets, BadZone, Refused}
use Rattle.tide_fault.specs.declared.refusal.Refusal.TheVariants as refusals
use Rattle.tide_fault.specs.declared.status.Status.{Status}
use Rattle.tide_fault.specs.declared.status.Status.TheVariants.{Done, NoMemory}
use Rattle.tide_server.specs.declared.served_data.ServedData.{ServedData}
use Rattle.tide_server.specs.Completeness.{EndedBefore, EndsBy, IsComplete, NothingFailed, ServedAll}
use Rattle.tide_server.specs.Conversations.{HasServed, ReturnsNext}
use Rattle.tide_server.specs.Openings.{EndedBy, HasListened, IsRefused, service_of, served_data_from, served_data_named, served_data_of}
use Rattle.tide_server.specs.Promises.{ServesAs, ServiceStates, Services, server_states_of}
use Rattle.tide_server.specs.Serving.{exchange}
use Rattle.tide_server.specs.Worked.{in_memory, pier, pier_data, pier_words}

-- ---- No connection was served

-- a fault that is excused is the expected one, unless it is out of memory
said_for : {A : Type 0} (expected : Result A RunFault) (why : RunFault) (firm : Type 0) → firm → Excuses (source_of why) firm expected why
    → (expected ≡ Err why) ⊎ (status_of why ≡ NoMemory)
said_for expected Unread firm stood excused = inl (excused stood)
said_for expected (Faulty (Ask ask.NoMemory)) firm stood excused = inr refl
said_for expected (Faulty (Ask _)) firm stood excused = inl excused
said_for expected (Faulty (NoSheet word)) firm stood excused = inl excused
said_for expected (Faulty (TooLong slot)) firm stood excused = inl excused
said_for expected (Faulty (Book form.NoMemory)) firm stood excused = inr refl
said_for expected (Faulty (Book (form.At line why))) firm stood excused = inl excused
said_for expected (Faulty (Offsets table.NoMemory)) firm stood excused = inr refl
said_for expected (Faulty (Offsets (table.At row why))) firm stood excused = inl excused
said_for expected (Faulty BadZone) firm stood excused = inl excused
said_for expected (Faulty (Refused refusals.NoMemory)) firm stood excused = inr refl
said_for expected (Faulty (Refused _)) firm stood excused = inl excused
said_for expected (none_of.Refused refusals.NoMemory rows) firm stood excused = inr refl
said_for expected (none_of.Refused _ rows) firm stood excused = inl excused

-- the port was not listened to
before_listening : {F D E K : Type 0} (s : ServiceStates F D E K) (words : List (List ℕ)) (status is : Status)
    (before after : Services F D E K)
    → ServesAs s words status before after → (s.door after.door).listener_state.port ≡ None → status ≡ is → EndedBefore status is before after
before_listening s words status is before after serves unasked ends =
    record { ends = ends; door = serves.unlistened unasked; clock = serves.unread (inl unasked) }

by_why : {F D E K : Type 0} (s : ServiceStates F D E K) (words : List (List ℕ)) (expected : Result ServedData RunFault)
    (why : RunFault) (status : Status) (before after : Services F D E K)
    → ServesAs s words status before after → (s.door after.door).listener_state.port ≡ None → status ≡ status_of why
    → (expected ≡ Err why) ⊎ (status_of why ≡ NoMemory) → EndsBy s expected status before after ⊎ EndedBefore status NoMemory before after
by_why s words expected why status before after serves unasked ends said =
    elim said [
      | inl is ↦ inl (rw is (before_listening s words status (status_of why) before after serves unasked ends))
      | inr out ↦ inr (before_listening s words status NoMemory before after serves unasked (ends ∙ out))
    ]

by_refusal : {F D E K : Type 0} (s : ServiceStates F D E K) (words : List (List ℕ)) (firm : Type 0)
    (expected : Result ServedData RunFault) (status : Status) (before after : Services F D E K)
    → firm → (s.door before.door).listener_state.port ≡ None → ServesAs s words status before after
    → IsRefused firm expected status (server_states_of s before) (server_states_of s after)
    → EndsBy s expected status before after ⊎ EndedBefore status NoMemory before after
by_refusal s words firm expected status before after stood unasked serves refused =
    let still : (s.door after.door).listener_state.port ≡ None = ap (λ d. d.listener_state.port) refused.door ∙ unasked in
    elim refused.said [
      | inl said ↦ by_why s words expected refused.why status before after serves still said.0
          (said_for expected refused.why firm stood refused.excused)
      | inr out ↦ inr (before_listening s words status NoMemory before after serves still out.0)
    ]

-- ---- Connections were served

one_failed : (files clock door : Bool) → count_by (λ failed. failed) (files ∷ clock ∷ door ∷ []) ≡ 1
    → ¬ (IsTrue files) → ¬ (IsTrue clock) → ¬ (IsTrue door) → ⊥
one_failed true clock door one files_not clock_not door_not = files_not refl
one_failed false true door one files_not clock_not door_not = clock_not refl
one_failed false false true one files_not clock_not door_not = door_not refl
one_failed false false false one files_not clock_not door_not = absurd (cc)

-- a count that was raised by a fault rose
risen : (failed : Bool) (before after : ℕ) → after ≡ faults_after failed before → IsTrue failed → Rose before after
risen true before after is failed = rw is (le_refl (counted before))
risen false before after is failed = absurd (cc)

unfailing : {F D E K : Type 0} (s : ServiceStates F D E K) (served_data : ServedData) (before after : Services F D E K)
    → NothingFailed s before after
    → (s.door after.door).listener_state.port ≡ Some served_data.port → EndedBy true (server_states_of s before) (server_states_of s after) → ⊥
unfailing s served_data before after nothing asked ended =
    one_failed ended.files ended.clock ended.door ended.one
    (λ is. let none = ended.files_first is in absurd (cc))
    (λ is. nothing.clock (risen ended.clock (s.clock before.clock).faults (s.clock after.clock).faults
    (ap (λ (c : ClockState). c.faults) ended.clock_state) is))
    (λ is. nothing.door (risen ended.door (s.door before.door).faults (s.door after.door).faults ended.door_count is))

served_all : {F D E K : Type 0} (s : ServiceStates F D E K) (words : List (List ℕ)) (served_data : ServedData)
    (status : Status) (before after : Services F D E K)
    → ServesAs s words status before after → NothingFailed s before after
    → HasListened served_data status (server_states_of s before) (server_states_of s after)
    → ServedAll s served_data status before after
served_all s words served_data status before after serves nothing listened =
    elim listened.ends [
      | inl done ↦
          let P : Status → Type 0 = λ st. (passed : HasServed served_data (is_read_fault st)
          (exchange (s.door before.door) (s.clock before.clock)) (exchange (s.door after.door) (s.clock after.clock)))
          × ReturnsNext (s.clock before.clock) passed.minutes in
          let served : P Done = subst P done (listened.passed, listened.next) in record {
            ends = done;
            port = listened.asked;
            over = serves.done done;
            passed = served.0;
            next = served.1;
          }
      | inr failed ↦ absurd (unfailing s served_data before after nothing listened.asked (rw failed at serves.fault))
    ]

pub serves_completely : {F D E K : Type 0} (s : ServiceStates F D E K) → IsComplete s
serves_completely s words status before after unasked serves nothing =
    let expected = served_data_of (s.files before.files).file_contents.folder words in
    elim (serves.own_files nothing.observable) [
      | inl refused ↦ by_refusal s words (IsTrue (s.files before.files).file_contents.is_steady) expected status before after
          nothing.steady unasked serves refused
      | inr listened ↦ inl (rw listened.1 (served_all s words listened.0 status before after serves nothing listened.2))
    ]

-- ---- A server worked out by hand

pier_named : book_of (file_of pier_lines) ≡ Ok pier_book
    → served_data_named (λ slot. (in_memory.files pier.files).file_contents.folder)
    (record (bare Serve) { file = Some (codes "f") }) (codes "f") ≡ Ok pier_data
unfolding served_data_named book_named table_named
pier_named is = rw is refl

pub pier_asked : service_of pier_words ≡ Ok (record (bare Serve) { file = Some (codes "f") })
unfolding service_of question_of with_items with_item some_text
pier_asked = refl

pub pier_served : book_of (file_of pier_lines) ≡ Ok pier_book
    → served_data_of (in_memory.files pier.files).file_contents.folder pier_words ≡ Ok pier_data
unfolding served_data_from
pier_served is = rw pier_asked (pier_named is)

one_below : ¬ (Rose 0 0)
one_below rose = absurd (omega (arith, rose))

pub pier_unfailed : NothingFailed in_memory pier pier
pier_unfailed = record { observable = refl; steady = refl; clock = one_below; door = one_below }
