-- The port in memory after serving.
use Rattle.std.proofs.Common.{◌≡◌, ℕ, suc, ◌+◌, ◌-◌, ◌^◌, ◌<◌, Bool, false, true, List, [], ◌∷◌, map, arith, None, Ok, inl, inr, ap, ◌∙◌, subst, sym, refl}
use Rattle.std.specs.List.{concat}
use Rattle.std.specs.Prelude.{ℤ, count_by, if◌then◌else◌}
use Rattle.std.proofs.lemmas.Grind.{common_steps}
use Rattle.std.proofs.lemmas.List.{length-map}
use Rattle.tide_edge.specs.Clocks.{ClockState, next_minute}
use Rattle.tide_edge.specs.Faults.{faults_after}
use Rattle.tide_edge.specs.Memory.{folder_of}
use Rattle.tide_fault.specs.declared.status.Status.{Status}
use Rattle.named_files.specs.RunFaults.{is_read_fault}
use Rattle.tide_server.specs.declared.served_data.ServedData.{ServedData}
use Rattle.tide_server.specs.Laws.{AreAnswered, AreAnsweredBut, HasAnswered, InMemory, server_states_in, is_left}
use Rattle.tide_server.specs.Openings.{EndsAs, served_data_of}
use Rattle.tide_server.specs.Serving.{AnswersUnlessCut, Answers, AreHeld, Conversation, RoseBy, Served, clock_after_all, clock_at_end, clock_with, exchange}

-- the number of connections that were cut short
abbrev cuts : List Conversation → ℕ
cuts served = count_by (λ c. c.is_cut) served

none_cut : (more was : ℕ) → RoseBy more was was → was < 2 ^ 64 - 1 → more ≡ 0
none_cut more was rose few =
    elim rose [ inl r ↦ omega (arith, r) | inr last ↦ absurd (omega (arith, last)) ]

uncut : (is_cut : Bool) (more : ℕ) → (if is_cut then 1 + more else more) ≡ 0 → (is_cut ≡ false) × (more ≡ 0)
uncut true more none = absurd (omega (arith, none))
uncut false more none = (refl, none)

-- neither the first connection nor those after it were cut short
first_uncut : (c : Conversation) (more : List Conversation) → cuts (c ∷ more) ≡ 0 → (c.is_cut ≡ false) × (cuts more ≡ 0)
first_uncut c more none = uncut c.is_cut (cuts more) (grind (arith, common_steps, none))

whole_answer : (is_cut : Bool) (served_data : ServedData) (minute : ℤ) (bytes reply : List ℕ) → is_cut ≡ false
    → AnswersUnlessCut is_cut (Answers served_data minute) bytes reply → Answers served_data minute bytes reply
whole_answer true served_data minute bytes reply none answers = absurd (cc)
whole_answer false served_data minute bytes reply none answers = answers

same_minutes : (is_asked : Bool) (clock : ClockState) (minute : ℤ) → ((n : ℕ) → clock.minute_at n ≡ minute)
    → (n : ℕ) → (clock_with is_asked clock).minute_at n ≡ minute
same_minutes true clock minute is n = is n
same_minutes false clock minute is n = is n

-- the first connection is answered, or it was cut short
whole_or_cut : (is_cut : Bool) (served_data : ServedData) (minute : ℤ) (request : List (List ℕ)) (reply : List ℕ)
    (requests : List (List (List ℕ))) (replies : List (List ℕ)) (more : ℕ)
    → AnswersUnlessCut is_cut (Answers served_data minute) (concat request) reply → AreAnsweredBut more served_data minute requests replies
    → AreAnsweredBut (if is_cut then suc more else more) served_data minute (request ∷ requests) (reply ∷ replies)
whole_or_cut true served_data minute request reply requests replies more answers behind = inr (more, refl, behind)
whole_or_cut false served_data minute request reply requests replies more answers behind = inl (answers, behind)

first_counted : (c : Conversation) (more : List Conversation) → cuts (c ∷ more) ≡ (if c.is_cut then suc (cuts more) else cuts more)
first_counted c more = grind (arith, common_steps)

first_or_cut : (served_data : ServedData) (minute : ℤ) (c : Conversation) (more : List Conversation) (now : ℤ) → now ≡ minute
    → AnswersUnlessCut c.is_cut (Answers served_data now) (concat c.request) c.reply
    → AreAnsweredBut (cuts more) served_data minute (map (λ c. c.request) more) (map (λ c. c.reply) more)
    → AreAnsweredBut (cuts (c ∷ more)) served_data minute (map (λ c. c.request) (c ∷ more)) (map (λ c. c.reply) (c ∷ more))
first_or_cut served_data minute c more now is answers behind =
    subst (λ (n : ℕ). AreAnsweredBut n served_data minute (map (λ c. c.request) (c ∷ more)) (map (λ c. c.reply) (c ∷ more)))
    (sym (first_counted c more))
    (whole_or_cut c.is_cut served_data minute c.request c.reply (map (λ c. c.request) more) (map (λ c. c.reply) more) (cuts more)
    (subst (λ (m : ℤ). AnswersUnlessCut c.is_cut (Answers served_data m) (concat c.request) c.reply) is answers) behind)

all_answered : (served_data : ServedData) (clock : ClockState) (minute : ℤ) (served : List Conversation)
    → ((n : ℕ) → clock.minute_at n ≡ minute)
    → cuts served ≡ 0 → AreHeld served_data clock served
    → AreAnswered served_data minute (map (λ c. c.request) served) (map (λ c. c.reply) served)
unfolding AreHeld
all_answered served_data clock minute [] is none held = tt
all_answered served_data clock minute (c ∷ more) is none held =
    let first = first_uncut c more none in
    let now : next_minute clock ≡ minute = is _ in (
      subst (λ (m : ℤ). Answers served_data m (concat c.request) c.reply) now
          (whole_answer c.is_cut served_data (next_minute clock) (concat c.request) c.reply first.0 held.0.answered),
      all_answered served_data (clock_with c.is_asked clock) minute more (same_minutes c.is_asked clock minute is) first.1 held.1,
    )

-- connections that weren't cut short are answered
all_but : (served_data : ServedData) (clock : ClockState) (minute : ℤ) (served : List Conversation) → ((n : ℕ) → clock.minute_at n ≡ minute)
    → AreHeld served_data clock served
    → AreAnsweredBut (cuts served) served_data minute (map (λ c. c.request) served) (map (λ c. c.reply) served)
unfolding AreHeld
all_but served_data clock minute [] is held = tt
all_but served_data clock minute (c ∷ more) is held =
    let behind = all_but served_data (clock_with c.is_asked clock) minute more (same_minutes c.is_asked clock minute is) held.1 in
    let now : next_minute clock ≡ minute = is _ in
    first_or_cut served_data minute c more (next_minute clock) now held.0.answered behind

-- ---- The clock's faults

unfailed : (is_asked : Bool) (clock : ClockState) → (clock_with is_asked clock).faults ≡ clock.faults
unfailed true clock = refl
unfailed false clock = refl

all_unfailed : (served : List Conversation) (clock : ClockState) → (clock_after_all served clock).faults ≡ clock.faults
unfolding clock_after_all
all_unfailed [] clock = refl
all_unfailed (c ∷ more) clock = all_unfailed more (clock_with c.is_asked clock) ∙ unfailed c.is_asked clock

faults_at_end : (left : List (List (List ℕ))) (clock : ClockState)
    → (clock_at_end left clock).faults ≡ faults_after (is_left left) clock.faults
faults_at_end [] clock = refl
faults_at_end (request ∷ more) clock = refl

-- ---- The whole of it

holds_answers : (served_data : ServedData) (has_failed : Bool) (before after : InMemory)
    → Served served_data has_failed (exchange (server_states_in before).door (server_states_in before).clock)
    (exchange (server_states_in after).door (server_states_in after).clock)
    → HasAnswered served_data has_failed before after
holds_answers served_data has_failed before after served = record {
  requests = map (λ c. c.request) served.served;
  replies = map (λ c. c.reply) served.served;
  left = served.left;
  accepted = served.requests;
  returned_replies = served.replies;
  each = length-map served.served (λ c. c.reply) ∙ sym (length-map served.served (λ c. c.request));
  answered = λ same few.
      let cut : RoseBy (cuts served.served) before.door.line_faults before.door.line_faults =
      subst (λ (n : ℕ). RoseBy (cuts served.served) before.door.line_faults n) same served.cut in
      all_answered served_data (server_states_in before).clock before.clock.minute served.served (λ n. refl)
      (none_cut (cuts served.served) before.door.line_faults cut few) served.held;
  unanswered = (
    cuts served.served,
    served.cut,
    all_but served_data (server_states_in before).clock before.clock.minute served.served (λ n. refl) served.held,
  );
  last = served.last;
  bytes = served.bytes;
  clock =
      ap (λ (c : ClockState). c.faults) served.clock
      ∙ faults_at_end served.left (clock_after_all served.served (server_states_in before).clock)
      ∙ ap (faults_after (is_left served.left)) (all_unfailed served.served (server_states_in before).clock);
}

pub holds_replies : (firm : Type 0) (words : List (List ℕ)) (status : Status) (before after : InMemory) → before.door.listener_state.port ≡ None
    → ¬ (after.door.listener_state.port ≡ None)
    → EndsAs firm (served_data_of (folder_of before.files.files) words) status (server_states_in before) (server_states_in after)
    → (served_data : ServedData) × (served_data_of (folder_of before.files.files) words ≡ Ok served_data)
    × HasAnswered served_data (is_read_fault status) before after
holds_replies firm words status before after unasked asked ends =
    elim ends [
      | inl refused ↦ absurd (asked (ap (λ d. d.listener_state.port) refused.door ∙ unasked))
      | inr listened ↦ (listened.0, listened.1, holds_answers listened.0 (is_read_fault status) before after (listened.2.served refl refl))
    ]
