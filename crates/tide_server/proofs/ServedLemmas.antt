-- The requests that were answered, from the connections of a port that holds its requests.
use Rattle.std.proofs.Common.{◌≡◌, ℕ, suc, ◌+◌, ◌-◌, ◌≤◌, Bool, false, true, List, [], ◌∷◌, ◌++◌, length, map, take, drop, append_assoc, arith, Option, Some, None, is_some, Ok, inl, inr, ap, sym, ◌∙◌, subst, refl}
use Rattle.std.specs.Bool.{IsTrue}
use Rattle.std.specs.List.{concat}
use Rattle.std.specs.Prelude.{ℤ, All, count_by, not, ◌&&◌, ◌||◌, if◌then◌else◌}
use Rattle.std.proofs.lemmas.Grind.{common_steps}
use Rattle.std.proofs.lemmas.List.{drop-drop, length-append, map-append, take-append-drop, take-append-le}
use Rattle.std.proofs.lemmas.List.Elements.{All-nil, All-push}
use Rattle.std.proofs.Math.Seq.{take-add}
use Rattle.tide_edge.specs.Clocks.{ClockState, clock_after, next_minute}
use Rattle.tide_edge.specs.DoorLaws.{AreOfRequests, IsOfRequest}
use Rattle.tide_edge.specs.Doors.{Connection, connections_of, left_after, replies_of, unread_of, waiting_of}
use Rattle.tide_edge.specs.FileStates.{as_list}
use Rattle.tide_server.specs.declared.served_data.ServedData.{ServedData}
use Rattle.tide_server.specs.Conversations.{AreNext, AreServed, HasServed, IsAnswered, IsLast, IsReadEnough, IsSent, IsServed, after_minutes, is_cut, reads_clock}
use Rattle.tide_server.specs.Serving.{Answers, AnswersUnlessCut, AreHeld, AsksUnlessCut, Conversation, Exchange, IsEnough, IsHeld, IsLastReadAsNeeded, IsReadAsNeeded, MayLeave, Served, clock_after_all, clock_at_end, clock_failed, clock_with, has_byte}
use Rattle.tide_server.specs.Workings.Connections.{IsNextMinute, clock_given}
use Rattle.tide_server.proofs.AnswerLemmas.{IsRead, answers_whole, none_came, same_byte}

abbrev pub conversation : List (List ℕ) → Connection → Conversation
conversation request c = record { request = request; reply = c.sent; is_cut = is_cut c; is_asked = reads_clock c }

unfoldable pub conversations : List (List (List ℕ)) → List Connection → List Conversation
conversations requests [] = []
conversations [] (c ∷ more) = []
conversations (r ∷ rs) (c ∷ more) = conversation r c ∷ conversations rs more

-- ---- The requests

of_later : (keeps : Bool) (rs : List (List (List ℕ))) (a b : List Connection) → AreOfRequests keeps rs (a ++ b)
    → AreOfRequests keeps (drop (length a) rs) b
unfolding AreOfRequests
of_later keeps rs [] b are = are
of_later keeps [] (c ∷ a) b are = absurd are
of_later keeps (r ∷ rs) (c ∷ a) b are = of_later keeps rs a b are.1

of_first : (keeps : Bool) (rs : List (List (List ℕ))) (a b : List Connection) → AreOfRequests keeps rs (a ++ b) → AreOfRequests keeps rs a
unfolding AreOfRequests
of_first keeps rs [] b are = tt
of_first keeps [] (c ∷ a) b are = absurd are
of_first keeps (r ∷ rs) (c ∷ a) b are = (are.0, of_first keeps rs a b are.1)

unread_behind : (rs : List (List (List ℕ))) (a : List Connection) (c : Connection) (b : List Connection) (keeps : Bool) → AreOfRequests keeps rs (a ++ c ∷ b)
    → unread_of rs (a ++ c ∷ b) ≡ unread_of (drop (length a) rs) (c ∷ b)
unfolding AreOfRequests unread_of
unread_behind rs [] c b keeps are = refl
unread_behind [] (x ∷ a) c b keeps are = absurd are
unread_behind (r ∷ rs) (x ∷ []) c b keeps are = refl
unread_behind (r ∷ rs) (x ∷ y ∷ a) c b keeps are = unread_behind rs (y ∷ a) c b keeps are.1

requests_of : (keeps : Bool) (rs : List (List (List ℕ))) (over : List Connection) → AreOfRequests keeps rs over
    → map (λ c. c.request) (conversations rs over) ≡ take (length over) rs
unfolding AreOfRequests conversations
requests_of keeps rs [] are = refl
requests_of keeps [] (c ∷ more) are = absurd are
requests_of keeps (r ∷ rs) (c ∷ more) are = ap (λ x. r ∷ x) (requests_of keeps rs more are.1)

replies_in : (keeps : Bool) (rs : List (List (List ℕ))) (over : List Connection) → AreOfRequests keeps rs over
    → map (λ c. c.reply) (conversations rs over) ≡ map (λ c. c.sent) over
unfolding AreOfRequests conversations
replies_in keeps rs [] are = refl
replies_in keeps [] (c ∷ more) are = absurd are
replies_in keeps (r ∷ rs) (c ∷ more) are = ap (λ x. c.sent ∷ x) (replies_in keeps rs more are.1)

as_many : (keeps : Bool) (rs : List (List (List ℕ))) (over : List Connection) → AreOfRequests keeps rs over
    → length (conversations rs over) ≡ length over
unfolding AreOfRequests conversations
as_many keeps rs [] are = refl
as_many keeps [] (c ∷ more) are = absurd are
as_many keeps (r ∷ rs) (c ∷ more) are = ap suc (as_many keeps rs more are.1)

cuts_of : (keeps : Bool) (rs : List (List (List ℕ))) (over : List Connection) → AreOfRequests keeps rs over
    → count_by (λ c. c.is_cut) (conversations rs over) ≡ count_by is_cut over
unfolding AreOfRequests conversations
cuts_of keeps rs [] are = refl
cuts_of keeps [] (c ∷ more) are = absurd are
cuts_of keeps (r ∷ rs) (c ∷ more) are = grind (arith, common_steps, cuts_of keeps rs more are.1)

-- ---- The answers

rest_parts : (keeps : Bool) (request : List (List ℕ)) (c : Connection) → IsOfRequest keeps request c
    → concat request ≡ c.came ++ drop (length c.came) (concat request)
rest_parts keeps request c of =
    sym (take-append-drop (length c.came) (concat request))
    ∙ ap (λ bs. bs ++ drop (length c.came) (concat request)) (sym of.prefix)

nothing_left : (came bytes : List ℕ) → came ≡ bytes → drop (length came) bytes ≡ []
nothing_left came bytes is = rw (← is) (grind (arith, common_steps))

read_of : (keeps : Bool) (request : List (List ℕ)) (c : Connection) → IsOfRequest keeps request c → IsReadEnough c → c.read_failed ≡ false
    → IsRead (concat request) c.came
read_of keeps request c of enough unfailed = record {
  unread_bytes = drop (length c.came) (concat request);
  parts = rest_parts keeps request c of;
  enough = elim enough.until [
    | inl ended ↦ inl (nothing_left c.came (concat request) (of.whole ended))
    | inr more ↦ elim more [ inl failed ↦ absurd (cc) | inr e ↦ inr e ]
  ];
}

no_bytes : (came : List ℕ) → has_byte came ≡ false → came ≡ []
no_bytes [] is = refl
no_bytes (b ∷ bytes) is = absurd (cc)

all_taken : (a b : List ℕ) → a ≡ take (length a) (a ++ b)
all_taken a b = grind (arith, common_steps)

unasked_answers : (read_failed write_failed : Bool) (served_data : ServedData) (minute : ℤ) (bytes came sent : List ℕ) → sent ≡ []
    → (read_failed ≡ false → IsRead bytes came) → false ≡ (not read_failed && has_byte came)
    → AnswersUnlessCut (read_failed || write_failed) (Answers served_data minute) bytes sent
unasked_answers true write_failed served_data minute bytes came sent none read asked = inl none
unasked_answers false true served_data minute bytes came sent none read asked = inl none
unasked_answers false false served_data minute bytes came sent none read asked =
    let empty : bytes ≡ [] =
    none_came bytes (subst (λ (b : List ℕ). IsRead bytes b) (no_bytes came (sym asked)) (read refl)) in
    subst (λ (b : List ℕ). Answers served_data minute b sent) (sym empty) none

asked_answers : (read_failed write_failed : Bool) (served_data : ServedData) (minute : ℤ) (bytes came sent : List ℕ)
    → IsSent write_failed (Answers served_data minute came) sent
    → (read_failed ≡ false → IsRead bytes came) → true ≡ (not read_failed && has_byte came)
    → AnswersUnlessCut (read_failed || write_failed) (Answers served_data minute) bytes sent
asked_answers true write_failed served_data minute bytes came sent sends read asked = absurd (cc)
asked_answers false true served_data minute bytes came sent (unread_bytes, some, answers) read asked = inr (
  sent ++ unread_bytes,
  answers_whole served_data minute bytes came (sent ++ unread_bytes) (read refl) answers,
  length sent,
  all_taken sent unread_bytes,
)
asked_answers false false served_data minute bytes came sent answers read asked =
    answers_whole served_data minute bytes came sent (read refl) answers

answers_by : (asking : Option ℤ) (served_data : ServedData) (minute : ℤ) (request : List (List ℕ)) (c : Connection)
    → (c.read_failed ≡ false → IsRead (concat request) c.came) → is_some asking ≡ reads_clock c → IsAnswered served_data c asking
    → IsNextMinute asking minute → AnswersUnlessCut (is_cut c) (Answers served_data minute) (concat request) c.sent
answers_by None served_data minute request c read asked answered next =
    unasked_answers c.read_failed c.write_failed served_data minute (concat request) c.came c.sent answered.sent read asked
answers_by (Some m) served_data minute request c read asked answered next =
    asked_answers c.read_failed c.write_failed served_data minute (concat request) c.came c.sent
    (subst (λ (n : ℤ). IsSent c.write_failed (Answers served_data n c.came) c.sent) next answered) read asked

asks_by : (read_failed write_failed : Bool) (bytes came : List ℕ) → (read_failed ≡ false → IsRead bytes came)
    → AsksUnlessCut (read_failed || write_failed) bytes (not read_failed && has_byte came)
asks_by true write_failed bytes came read = tt
asks_by false true bytes came read = tt
asks_by false false bytes came read = same_byte bytes came (read refl)

held_by : (keeps : Bool) (served_data : ServedData) (minute : ℤ) (request : List (List ℕ)) (c : Connection) (asking : Option ℤ)
    → IsOfRequest keeps request c → IsServed served_data c asking → IsNextMinute asking minute
    → IsHeld served_data minute (conversation request c)
held_by keeps served_data minute request c asking of served next = record {
  answered = answers_by asking served_data minute request c (read_of keeps request c of served.read) served.asked served.answered next;
  asked = asks_by c.read_failed c.write_failed (concat request) c.came (read_of keeps request c of served.read);
}

given_next : (minute : Option ℤ) (clock : ClockState) → IsNextMinute minute (next_minute clock)
    → clock_given minute clock ≡ clock_with (is_some minute) clock
given_next None clock is = refl
given_next (Some minute) clock is = ap (λ m. clock_after (Ok m) clock) is

next_by : (asking : Option ℤ) (clock : ClockState) (later : List ℤ) → AreNext clock (as_list asking ++ later)
    → IsNextMinute asking (next_minute clock) × AreNext (clock_given asking clock) later
unfolding AreNext
next_by None clock later are = (tt, are)
next_by (Some minute) clock later are = are

all_held : (keeps : Bool) (served_data : ServedData) (rs : List (List (List ℕ))) (over : List Connection) (minutes : List ℤ) (clock : ClockState)
    → AreOfRequests keeps rs over → AreServed served_data over minutes → AreNext clock minutes
    → AreHeld served_data clock (conversations rs over)
unfolding AreOfRequests conversations AreServed AreHeld
all_held keeps served_data rs [] minutes clock are served next = tt
all_held keeps served_data [] (c ∷ more) minutes clock are served next = absurd are
all_held keeps served_data (r ∷ rs) (c ∷ more) minutes clock are (asking, later, split, one, others) next =
    let here = next_by asking clock later (subst (λ (ms : List ℤ). AreNext clock ms) split next) in
    let on : clock_given asking clock ≡ clock_with (reads_clock c) clock =
    given_next asking clock here.0 ∙ ap (λ b. clock_with b clock) one.asked in (
      held_by keeps served_data (next_minute clock) r c asking are.0 one here.0,
      all_held keeps served_data rs more later (clock_with (reads_clock c) clock) are.1 others
          (subst (λ (k : ClockState). AreNext k later) on here.1),
    )

given_more : (asking : Option ℤ) (later : List ℤ) (clock : ClockState)
    → after_minutes (as_list asking ++ later) clock ≡ after_minutes later (clock_given asking clock)
unfolding after_minutes
given_more None later clock = refl
given_more (Some minute) later clock = refl

clock_of : (keeps : Bool) (served_data : ServedData) (rs : List (List (List ℕ))) (over : List Connection) (minutes : List ℤ) (clock : ClockState)
    → AreOfRequests keeps rs over → AreServed served_data over minutes → AreNext clock minutes
    → after_minutes minutes clock ≡ clock_after_all (conversations rs over) clock
unfolding AreOfRequests conversations AreServed clock_after_all after_minutes
clock_of keeps served_data rs [] minutes clock are served next = ap (λ ms. after_minutes ms clock) served
clock_of keeps served_data [] (c ∷ more) minutes clock are served next = absurd are
clock_of keeps served_data (r ∷ rs) (c ∷ more) minutes clock are (asking, later, split, one, others) next =
    let here = next_by asking clock later (subst (λ (ms : List ℤ). AreNext clock ms) split next) in
    let on : clock_given asking clock ≡ clock_with (reads_clock c) clock =
    given_next asking clock here.0 ∙ ap (λ b. clock_with b clock) one.asked in
    ap (λ ms. after_minutes ms clock) split
    ∙ given_more asking later clock
    ∙ ap (after_minutes later) on
    ∙ clock_of keeps served_data rs more later (clock_with (reads_clock c) clock) are.1 others
    (subst (λ (k : ClockState). AreNext k later) on here.1)

-- ---- The last read

needed_by : (request : List (List ℕ)) (c : Connection) → IsOfRequest true request c → IsReadEnough c
    → IsReadAsNeeded request (left_after (length c.came) request)
needed_by request c of enough = record {
  before = length c.came - c.last;
  all = length c.came;
  unread_bytes = refl;
  waits =
      let within : length c.came - c.last ≤ length c.came = omega arith in
      let same : take (length c.came - c.last) (concat request) ≡ take (length c.came - c.last) c.came =
      ap (take (length c.came - c.last)) (rest_parts true request c of)
      ∙ take-append-le (length c.came - c.last) c.came (drop (length c.came) (concat request)) within in
      subst (λ (bs : List ℕ). ¬ (IsEnough bs)) (sym same) enough.waits;
  one = let few = of.piece refl in omega (arith, few);
}

unfoldable AreReadEnough : List Connection → Type 0
AreReadEnough [] = Unit {0}
AreReadEnough (c ∷ more) = IsReadEnough c × AreReadEnough more

enough_of : (served_data : ServedData) (over : List Connection) (minutes : List ℤ) (left : Option Connection) → AreServed served_data over minutes
    → IsLast left → AreReadEnough (over ++ as_list left)
unfolding AreServed AreReadEnough
enough_of served_data [] minutes None served last = tt
enough_of served_data [] minutes (Some c) served last = (last.read, tt)
enough_of served_data (c ∷ more) minutes left (asking, later, split, one, others) last =
    (one.read, enough_of served_data more later left others last)

last_needed : (rs : List (List (List ℕ))) (all : List Connection) → AreOfRequests true rs all → AreReadEnough all
    → IsLastReadAsNeeded (take (length all) rs) (unread_of rs all)
unfolding AreOfRequests AreReadEnough unread_of
last_needed rs [] are enough = tt
last_needed [] (c ∷ more) are enough = absurd are
last_needed (r ∷ rs) (c ∷ []) are enough = needed_by r c are.0 enough.0
last_needed (r ∷ []) (c ∷ next ∷ more) are enough = absurd are.1
last_needed (r ∷ s ∷ rs) (c ∷ next ∷ more) are enough = last_needed (s ∷ rs) (next ∷ more) are.1 enough.1

-- ---- The connection that was left

pub record IsLeftOf (served_data : ServedData) (has_failed : Bool) (rs : List (List (List ℕ))) (left : Option Connection) : Type 0 where
  pub requests : List (List (List ℕ))
  pub accepted : requests ≡ take (length (as_list left)) rs
  pub replies : map (λ c. c.sent) (as_list left) ≡ map (λ request. []) requests
  pub counted : length requests ≡ length (as_list left)
  pub last : MayLeave has_failed requests
  pub bytes : All (λ request. ¬ (concat request ≡ [])) requests
  pub clock : (clock : ClockState) → (if is_some left then clock_failed clock else clock) ≡ clock_at_end requests clock

may_leave : (has_failed : Bool) (request : List (List ℕ)) → IsTrue has_failed → MayLeave has_failed (request ∷ [])
may_leave true request is = omega arith
may_leave false request is = absurd (cc)

may_leave_none : (has_failed : Bool) → MayLeave has_failed []
may_leave_none false = refl
may_leave_none true = omega arith

abbrev HasByte : List (List ℕ) → Type 0
HasByte request = ¬ (concat request ≡ [])

asks : (read_failed : Bool) (came : List ℕ) → (not read_failed && has_byte came) ≡ true → ¬ (came ≡ [])
asks true came is = absurd (cc)
asks false [] is = absurd (cc)
asks false (b ∷ bytes) is = λ none. absurd (cc)

some_came : (bytes came unread_bytes : List ℕ) → bytes ≡ came ++ unread_bytes → ¬ (came ≡ []) → ¬ (bytes ≡ [])
some_came bytes [] unread_bytes parts some none = some refl
some_came bytes (b ∷ came) unread_bytes parts some none = absurd (cc)

left_of : (keeps : Bool) (served_data : ServedData) (has_failed : Bool) (rs : List (List (List ℕ))) (left : Option Connection)
    → AreOfRequests keeps rs (as_list left) → IsLast left → (IsTrue (is_some left) → IsTrue has_failed)
    → IsLeftOf served_data has_failed rs left
unfolding AreOfRequests
left_of keeps served_data has_failed rs None are last ends = record {
  requests = [];
  accepted = refl;
  replies = refl;
  counted = refl;
  last = may_leave_none has_failed;
  bytes = All-nil HasByte;
  clock = λ clock. refl;
}
left_of keeps served_data has_failed [] (Some c) are last ends = absurd are
left_of keeps served_data has_failed (r ∷ rs) (Some c) are last ends = record {
  requests = r ∷ [];
  accepted = refl;
  replies = ap (λ reply. reply ∷ []) last.unanswered.sent;
  counted = refl;
  last = may_leave has_failed r (ends refl);
  bytes = All-push HasByte [] r (All-nil HasByte)
      (some_came (concat r) c.came (drop (length c.came) (concat r)) (rest_parts keeps r c are.0)
      (asks c.read_failed c.came last.asked));
  clock = λ clock. refl;
}

-- ---- All of them

last_by : (keeps : Bool) (rs : List (List (List ℕ))) (before all : List Connection) → AreOfRequests keeps rs (before ++ all) → IsTrue keeps
    → AreReadEnough all → IsLastReadAsNeeded (take (length all) (drop (length before) rs)) (unread_of rs (before ++ all))
last_by true rs before [] are keeps enough = tt
last_by true rs before (c ∷ more) are keeps enough =
    subst (λ (ps : List (List ℕ)). IsLastReadAsNeeded (take (length (c ∷ more)) (drop (length before) rs)) ps)
    (sym (unread_behind rs before c more true are))
    (last_needed (drop (length before) rs) (c ∷ more) (of_later true rs before (c ∷ more) are) enough)
last_by false rs before all are keeps enough = absurd (cc)

-- the requests that were answered, from the connections of a lawful port
pub all_served : (served_data : ServedData) (has_failed : Bool) (before after : Exchange)
    (passed : HasServed served_data has_failed before after) → after.door.door_contents ≡ before.door.door_contents
    → AreOfRequests before.door.door_contents.keeps_pieces before.door.door_contents.requests (connections_of after.door.connections)
    → AreNext before.clock passed.minutes → Served served_data has_failed before after
all_served served_data has_failed before after passed same law next =
    let keeps = before.door.door_contents.keeps_pieces in
    let requests = before.door.door_contents.requests in
    let earlier : List Connection = connections_of before.door.connections in
    let all : List Connection = passed.over ++ as_list passed.left in
    let rs : List (List (List ℕ)) = drop (length earlier) requests in
    let parts : connections_of after.door.connections ≡ earlier ++ all =
    passed.connections ∙ append_assoc earlier passed.over (as_list passed.left) in
    let are : AreOfRequests keeps requests (earlier ++ all) = subst (λ (cs : List Connection). AreOfRequests keeps requests cs) parts law in
    let now : AreOfRequests keeps rs all = of_later keeps requests earlier all are in
    let first : AreOfRequests keeps rs passed.over = of_first keeps rs passed.over (as_list passed.left) now in
    let left = left_of keeps served_data has_failed (drop (length passed.over) rs) passed.left
    (of_later keeps rs passed.over (as_list passed.left) now) passed.last passed.ends in
    let served : List Conversation = conversations rs passed.over in
    let accepted : map (λ (c : Conversation). c.request) served ++ left.requests ≡ take (length all) rs =
    ap (λ x. x ++ left.requests) (requests_of keeps rs passed.over first)
    ∙ ap (λ x. take (length passed.over) rs ++ x) left.accepted
    ∙ sym (take-add (length passed.over) (length (as_list passed.left)) rs)
    ∙ ap (λ n. take n rs) (sym (length-append passed.over (as_list passed.left))) in
    let pending : waiting_of after.door ≡ drop (length all) rs =
    ap (λ n. drop n after.door.door_contents.requests) (ap length parts ∙ length-append earlier all)
    ∙ ap (λ c. drop (length earlier + length all) c.requests) same
    ∙ sym (drop-drop (length all) (length earlier) requests) in
    let unread : unread_of after.door.door_contents.requests (connections_of after.door.connections) ≡ unread_of requests (earlier ++ all) =
    ap (λ c. unread_of c.requests (connections_of after.door.connections)) same ∙ ap (unread_of requests) parts in
    record {
      served = served;
      left = left.requests;
      requests =
          sym (take-append-drop (length all) rs)
          ∙ ap (λ x. x ++ drop (length all) rs) (sym accepted)
          ∙ ap (λ x. map (λ (c : Conversation). c.request) served ++ left.requests ++ x) (sym pending);
      replies =
          ap (map (λ (c : Connection). c.sent)) passed.connections
          ∙ map-append (λ (c : Connection). c.sent) (earlier ++ passed.over) (as_list passed.left)
          ∙ ap (λ x. x ++ map (λ (c : Connection). c.sent) (as_list passed.left)) (map-append (λ (c : Connection). c.sent) earlier passed.over)
          ∙ ap (λ x. replies_of before.door ++ x ++ map (λ (c : Connection). c.sent) (as_list passed.left))
          (sym (replies_in keeps rs passed.over first))
          ∙ ap (λ x. replies_of before.door ++ map (λ (c : Conversation). c.reply) served ++ x) left.replies;
      counted = omega (arith, passed.counted, as_many keeps rs passed.over first, left.counted);
      held = all_held keeps served_data rs passed.over passed.minutes before.clock first passed.served next;
      read = λ is.
          subst (λ (ps : List (List ℕ)). IsLastReadAsNeeded (map (λ c. c.request) served ++ left.requests) ps) (sym unread)
          (subst (λ (x : List (List (List ℕ))). IsLastReadAsNeeded x (unread_of requests (earlier ++ all))) (sym accepted)
          (last_by keeps requests earlier all are is
          (enough_of served_data passed.over passed.minutes passed.left passed.served passed.last)));
      cut = rw (cuts_of keeps rs passed.over first) passed.cut;
      clock =
          passed.clock
          ∙ ap (λ c. if is_some passed.left then clock_failed c else c)
          (clock_of keeps served_data rs passed.over passed.minutes before.clock first passed.served next)
          ∙ left.clock (clock_after_all served before.clock);
      last = left.last;
      bytes = left.bytes;
    }
