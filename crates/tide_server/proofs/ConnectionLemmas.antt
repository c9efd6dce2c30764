-- The bytes of a connection, piece by piece.
use Rattle.std.proofs.Common.{◌≡◌, ◌⊎◌, ℕ, ◌+◌, ◌-◌, ◌<◌, ◌≤◌, Bool, false, true, List, [], ◌++◌, length, take, arith, ap, sym, ◌∙◌, subst, refl, Ok, Err, Some, inl, inr}
use Rattle.std.specs.Bool.{IsTrue}
use Rattle.std.specs.Prelude.{nat_le, ◌==◌, ◌||◌}
use Rattle.std.proofs.lemmas.Bool.Decides.{nat_tests}
use Rattle.std.proofs.lemmas.Grind.{common_steps}
use Rattle.std.proofs.lemmas.List.{take-append-le, take-take}
use Rattle.tide_edge.specs.declared.failed.Failed.{Failed}
use Rattle.tide_edge.specs.Doors.{DoorState, door_after_read, just_taken}
use Rattle.tide_edge.specs.declared.files.piece.TheConstants.{PIECE}
use Rattle.tide_server.specs.declared.limits.TheConstants.{LONGEST}
use Rattle.http_rows.specs.Heads.{head_end, head_length}
use Rattle.http_rows.specs.Rows.{ReplyRow, IsRow, is_settled}
use Rattle.tide_server.specs.Serving.{IsEnough}
use Rattle.tide_server.specs.Workings.Connections.{HasRead, read_as, with_latest}
use Rattle.http_rows.proofs.RowLemmas.{long_settled, one_row_at}

few_by : (long : Bool) (request : List ℕ) (row : ReplyRow) → IsRow request row → is_settled row ≡ false
    → nat_le LONGEST (length request) ≡ long
    → length request < LONGEST
few_by true request row is unsettled long =
    let reaches : LONGEST ≤ length request = grind (arith, nat_tests) in
    let settled : IsTrue (is_settled row) = long_settled request row is reaches in
    absurd (cc)
few_by false request row is unsettled long = grind (arith, nat_tests)

-- bytes that don't determine the reply are fewer than the longest request has
pub few : (request : List ℕ) (row : ReplyRow) → IsRow request row → is_settled row ≡ false → length request < LONGEST
few request row is unsettled = few_by (nat_le LONGEST (length request)) request row is unsettled refl

pub unsettled : (request : List ℕ) (row : ReplyRow) → IsRow request row → is_settled row ≡ false → ¬ (IsEnough request)
unsettled request row is none enough =
    let same : enough.0 ≡ row = one_row_at (head_end request) request enough.0 row enough.1 is in
    let settled : IsTrue (is_settled row) = subst (λ (r : ReplyRow). IsTrue (is_settled r)) same enough.2 in
    absurd (cc)

unsettled_at : (row : ReplyRow) → IsRow [] row → is_settled row ≡ false
unfolding head_length
unsettled_at row is = ap is_settled is

pub not_enough : ¬ (IsEnough [])
not_enough enough = unsettled [] enough.0 enough.1 (unsettled_at enough.0 enough.1) enough

-- ---- Reading on

-- bytes were read of the open connection, whose end wasn't found, and no read has failed
pub record ReadSoFar (first : DoorState) (request : List ℕ) (now : DoorState) : Type 0 where
  count : ℕ
  door : now ≡ with_latest (read_as false request count false) first

pub read_none : (first : DoorState) → first.connections.latest ≡ Some just_taken → ReadSoFar first [] first
read_none first fresh = record {
  count = 0;
  door = ap (λ l. record first { connections = record first.connections { latest = l } }) fresh;
}

pub still_open : (first now : DoorState) (request : List ℕ) → ReadSoFar first request now → now.listener_state ≡ first.listener_state
still_open first now request so_far = ap (λ d. d.listener_state) so_far.door

-- the result of one more read
pub record OneMore (now : DoorState) (request next : List ℕ) (count : ℕ) (after : DoorState) : Type 0 where
  pub buffer : List ℕ
  pub door : after ≡ door_after_read (Ok count) buffer now
  pub came : next ≡ request ++ take count buffer
  pub longer : length next ≡ length request + count
  pub within : count ≤ PIECE

pub read_on : (first now after : DoorState) (request next : List ℕ) (count : ℕ) → ReadSoFar first request now
    → OneMore now request next count after → after ≡ with_latest (read_as false next count ((count == 0) || false)) first
read_on first now after request next count so_far more =
    more.door
    ∙ ap (door_after_read (Ok count) more.buffer) so_far.door
    ∙ ap (λ bytes. with_latest (read_as false bytes count ((count == 0) || false)) first) (sym more.came)

not_over : (ends settled : Bool) → (ends || settled) ≡ false → (ends || false) ≡ false
not_over true settled is = absurd (cc)
not_over false settled is = refl

-- the end wasn't found, if reading goes on
pub goes_on : (first now after : DoorState) (request next : List ℕ) (settled : Bool) (count : ℕ) → ReadSoFar first request now
    → OneMore now request next count after → (count == 0 || settled) ≡ false → ReadSoFar first next after
goes_on first now after request next settled count so_far more is = record {
  count = count;
  door =
      read_on first now after request next count so_far more
      ∙ ap (λ e. with_latest (read_as false next count e) first) (not_over (count == 0) settled is);
}

pub not_settled : (ends settled : Bool) → (ends || settled) ≡ false → settled ≡ false
not_settled true settled is = absurd (cc)
not_settled false settled is = is

pub still_open_after : (first now after : DoorState) (request next : List ℕ) (count : ℕ) → ReadSoFar first request now
    → OneMore now request next count after → after.listener_state ≡ first.listener_state
still_open_after first now after request next count so_far more =
    ap (λ d. d.listener_state) (read_on first now after request next count so_far more)

-- ---- The end of reading

abbrev pub HasStopped : Bool → List ℕ → Type 0
HasStopped is_ended bytes = (is_ended ≡ true) ⊎ ((false ≡ true) ⊎ IsEnough bytes)

over_by : (ends settled : Bool) (next : List ℕ) (row : ReplyRow) → (ends || settled) ≡ true → (settled ≡ true → IsTrue (is_settled row))
    → IsRow next row → HasStopped (ends || false) next
over_by true settled next row is enough row_is = inl refl
over_by false settled next row is enough row_is = inr (inr (row, row_is, enough is))

-- a row ended the reading
pub over_row : (count : ℕ) (next : List ℕ) (row : ReplyRow) → (count == 0 || is_settled row) ≡ true → IsRow next row
    → HasStopped ((count == 0) || false) next
over_row count next row is row_is = over_by (count == 0) (is_settled row) next row is (λ s. s) row_is

-- the end of the connection ended the reading
pub over_none : (count : ℕ) (next : List ℕ) → count ≡ 0 → HasStopped ((count == 0) || false) next
over_none count next none = rw none (inl refl)

all_of : (bytes : List ℕ) → take (length bytes) bytes ≡ bytes
all_of bytes = grind (arith, common_steps)

prefix_of : (bytes more : List ℕ) → take (length bytes) (bytes ++ more) ≡ bytes
prefix_of bytes more =
    let fits : length bytes ≤ length bytes = omega arith in take-append-le (length bytes) bytes more fits ∙ all_of bytes

-- no more is read, since the last read failed
pub has_failed : (first now after : DoorState) (request buffer : List ℕ) (failed : Failed) → ReadSoFar first request now
    → ¬ (IsEnough request) → after ≡ door_after_read (Err failed) buffer now → HasRead true request first after
has_failed first now after request buffer failed so_far waits is = record {
  count = 0;
  is_ended = false;
  door = is ∙ ap (door_after_read (Err failed) buffer) so_far.door;
  enough = record {
    waits =
        let whole : length request - 0 ≡ length request = omega arith in
        subst (λ (bs : List ℕ). ¬ (IsEnough bs)) (sym (ap (λ n. take n request) whole ∙ all_of request)) waits;
    one = omega arith;
    until = inr (inl refl);
  };
}

-- no more is read, since the bytes before the last read didn't determine the reply
pub has_read : (first now after : DoorState) (request next : List ℕ) (count : ℕ) → ReadSoFar first request now
    → ¬ (IsEnough request) → OneMore now request next count after → HasStopped ((count == 0) || false) next
    → HasRead false next first after
has_read first now after request next count so_far waits more over = record {
  count = count;
  is_ended = (count == 0) || false;
  door = read_on first now after request next count so_far more;
  enough = record {
    waits =
        let before : length next - count ≡ length request = omega (arith, more.longer) in
        let same : take (length next - count) next ≡ request =
        ap (λ n. take n next) before ∙ ap (take (length request)) more.came ∙ prefix_of request (take count more.buffer) in
        subst (λ (bs : List ℕ). ¬ (IsEnough bs)) (sym same) waits;
    one = more.within;
    until = over;
  };
}

-- ---- The buffer for a piece

-- the first bytes of a buffer that is as long as the piece
pub first_of_room : (buffer more piece : List ℕ) (long count : ℕ) → piece ≡ take long (buffer ++ more) → length buffer ≡ long
    → count ≤ long → take count piece ≡ take count buffer
first_of_room buffer more piece long count is fills within =
    ap (take count) is ∙ take-take count long (buffer ++ more) within ∙ take-append-le count buffer more (rw fills within)
