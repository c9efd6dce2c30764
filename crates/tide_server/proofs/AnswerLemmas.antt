-- The answers to a connection.
use Rattle.std.proofs.Common.{◌≡◌, ◌⊎◌, ◌≢◌, ℕ, ◌<◌, Bool, false, true, List, [], ◌∷◌, ◌++◌, length, take, drop, append-nil, length-drop, arith, Some, None, inl, inr, ap, sym, ◌∙◌, subst, refl}
use Rattle.std.specs.Bool.{IsTrue}
use Rattle.std.specs.Prelude.{ℤ}
use Rattle.std.proofs.lemmas.List.{take-append-drop}
use Rattle.tide_edge.specs.Clocks.{ClockState}
use Rattle.tide_edge.specs.Doors.{DoorState}
use Rattle.tide_server.specs.declared.served_data.ServedData.{ServedData}
use Rattle.http_rows.specs.Heads.{head_end}
use Rattle.http_rows.specs.Rows.{ReplyRow, IsRow, is_settled}
use Rattle.tide_server.specs.Serving.{Answers, IsEnough, has_byte}
use Rattle.tide_server.specs.Workings.Connections.{HasRead, Replies, RowSent, Went, read_as, sending, sent, with_latest}
use Rattle.tide_server.proofs.ConnectionLemmas.{not_enough}
use Rattle.http_rows.proofs.RowLemmas.{one_row_at, settled_stays}

one : (request : List ℕ) (a b : ReplyRow) → IsRow request a → IsRow request b → a ≡ b
one request a b x y = one_row_at (head_end request) request a b x y

-- ---- The bytes that were read determine the answer to all bytes

-- a prefix of a connection's bytes that was read: all of them, or enough to determine the reply
pub record IsRead (bytes request : List ℕ) : Type 0 where
  pub unread_bytes : List ℕ
  pub parts : bytes ≡ request ++ unread_bytes
  pub enough : (unread_bytes ≡ []) ⊎ IsEnough request

row_whole : (request unread_bytes : List ℕ) (row : ReplyRow) → (unread_bytes ≡ []) ⊎ IsEnough request → IsRow request row → IsRow (request ++ unread_bytes) row
row_whole request unread_bytes row enough is =
    elim enough [
      | inl none ↦
          (let same : request ++ unread_bytes ≡ request = ap (λ xs. request ++ xs) none ∙ append-nil request in
          subst (λ (r : List ℕ). IsRow r row) (sym same) is)
      | inr e ↦
          (let same : e.0 ≡ row = one request e.0 row e.1 is in
          settled_stays request unread_bytes row is (subst (λ (r : ReplyRow). IsTrue (is_settled r)) same e.2))
    ]

answers_behind : (served_data : ServedData) (minute : ℤ) (request unread_bytes reply : List ℕ) → (unread_bytes ≡ []) ⊎ IsEnough request
    → Answers served_data minute request reply → Answers served_data minute (request ++ unread_bytes) reply
answers_behind served_data minute [] [] reply enough answers = answers
answers_behind served_data minute [] (r ∷ unread_bytes) reply enough answers =
    elim enough [ inl none ↦ absurd (cc) | inr e ↦ absurd (not_enough e) ]
answers_behind served_data minute (b ∷ request) unread_bytes reply enough answers =
    elim answers [
      | inl made ↦ inl (made.0, row_whole (b ∷ request) unread_bytes made.0 enough made.1, made.2)
      | inr made ↦ inr (made.0, row_whole (b ∷ request) unread_bytes made.0 enough made.1, made.2, made.3)
    ]

pub answers_whole : (served_data : ServedData) (minute : ℤ) (bytes request reply : List ℕ) → IsRead bytes request
    → Answers served_data minute request reply → Answers served_data minute bytes reply
answers_whole served_data minute bytes request reply read answers =
    subst (λ (bs : List ℕ). Answers served_data minute bs reply) (sym read.parts)
    (answers_behind served_data minute request read.unread_bytes reply read.enough answers)

pub same_byte : (bytes request : List ℕ) → IsRead bytes request → has_byte request ≡ has_byte bytes
same_byte bytes [] read =
    elim read.enough [ inl none ↦ ap has_byte (sym (read.parts ∙ none)) | inr e ↦ absurd (not_enough e) ]
same_byte bytes (b ∷ request) read =
    let parts : bytes ≡ b ∷ (request ++ read.unread_bytes) = read.parts in ap has_byte (sym parts)

pub none_came : (bytes : List ℕ) → IsRead bytes [] → bytes ≡ []
none_came bytes read = elim read.enough [ inl none ↦ read.parts ∙ none | inr e ↦ absurd (not_enough e) ]

-- ---- Reading, and then sending

made_answers : (served_data : ServedData) (minute : ℤ) (request reply : List ℕ) (row : ReplyRow) → request ≢ [] → IsRow request row
    → Replies served_data minute row reply → Answers served_data minute request reply
made_answers served_data minute [] reply row some is made = absurd (some refl)
made_answers served_data minute (b ∷ bytes) reply row some is made =
    elim made [ inl text ↦ inl (row, is, text) | inr text ↦ inr (row, is, text.0, text.1) ]

some_byte : (request : List ℕ) → request ≢ [] → true ≡ has_byte request
some_byte [] some = absurd (some refl)
some_byte (b ∷ bytes) some = refl

parts : (count : ℕ) (text : List ℕ) → text ≡ take count text ++ drop count text
parts count text = sym (take-append-drop count text)

some_left : (count : ℕ) (text : List ℕ) → count < length text → ¬ (drop count text ≡ [])
some_left count text some none =
    let long : length (drop count text) ≡ length {A = ℕ} [] = ap length none in
    let left = rw (length-drop count text) at long in absurd (omega (arith, left, some))

sent_behind : (failed : Bool) (first now after : DoorState) (request text : List ℕ) (count : ℕ) (is_ended : Bool)
    → now ≡ with_latest (read_as false request count is_ended) first → after ≡ sent text failed now
    → after ≡ with_latest (sending text failed (read_as false request count is_ended)) first
sent_behind false first now after request text count is_ended reads sends = sends ∙ ap (sent text false) reads
sent_behind true first now after request text count is_ended reads sends = sends ∙ ap (sent text true) reads

-- a reply was sent
pub went_row : (served_data : ServedData) (row : ReplyRow) (request : List ℕ) (first now after : DoorState) (clock clock_now : ClockState)
    → HasRead false request first now → request ≢ [] → IsRow request row
    → RowSent false served_data row now after clock clock_now
    → Went false served_data (λ c. with_latest c first) after clock clock_now
went_row served_data row request first now after clock clock_now read some is (text, false, minute, made, sends, asked) = record {
  connection = sending text false (read_as false request read.count read.is_ended);
  door = sent_behind false first now after request text read.count read.is_ended read.door sends;
  ended = (
    Some minute,
    asked,
    record {
      read = record { waits = read.enough.waits; one = read.enough.one; until = read.enough.until };
      asked = some_byte request some;
      answered = made_answers served_data minute request text row some is made;
    },
  );
}
went_row served_data row request first now after clock clock_now read some is (text, true, minute, made, sends, asked) = record {
  connection = sending (take sends.0 text) true (read_as false request read.count read.is_ended);
  door = sent_behind true first now after request (take sends.0 text) read.count read.is_ended read.door sends.2;
  ended = (
    Some minute,
    asked,
    record {
      read = record { waits = read.enough.waits; one = read.enough.one; until = read.enough.until };
      asked = some_byte request some;
      answered = (
        drop sends.0 text,
        some_left sends.0 text sends.1,
        subst (λ (whole : List ℕ). Answers served_data minute request whole) (parts sends.0 text)
            (made_answers served_data minute request text row some is made),
      );
    },
  );
}

pub went_by_row : (failed : Bool) (served_data : ServedData) (row : ReplyRow) (request : List ℕ)
    (first now after : DoorState) (clock clock_now : ClockState)
    → HasRead false request first now → request ≢ [] → IsRow request row
    → RowSent failed served_data row now after clock clock_now
    → Went failed served_data (λ c. with_latest c first) after clock clock_now
went_by_row false served_data row request first now after clock clock_now read some is sends =
    went_row served_data row request first now after clock clock_now read some is sends
went_by_row true served_data row request first now after clock clock_now read some is sends = record {
  connection = read_as false request read.count read.is_ended;
  door = sends.0 ∙ read.door;
  ended = (
    sends.1,
    record {
      read = read.enough;
      asked = sym (some_byte request some);
      unanswered = record { sent = refl; unfailed = refl };
    },
  );
}

-- no byte was read
pub went_silent : (served_data : ServedData) (first now : DoorState) (clock : ClockState) → HasRead false [] first now
    → Went false served_data (λ c. with_latest c first) now clock clock
went_silent served_data first now clock read = record {
  connection = read_as false [] read.count read.is_ended;
  door = read.door;
  ended = (
    None,
    refl,
    record { read = read.enough; asked = refl; answered = record { sent = refl; unfailed = refl } },
  );
}

-- a read has failed
pub went_unread : (served_data : ServedData) (request : List ℕ) (first now : DoorState) (clock : ClockState)
    → HasRead true request first now
    → Went false served_data (λ c. with_latest c first) now clock clock
went_unread served_data request first now clock read = record {
  connection = read_as true request read.count read.is_ended;
  door = read.door;
  ended = (
    None,
    refl,
    record { read = read.enough; asked = refl; answered = record { sent = refl; unfailed = refl } },
  );
}
