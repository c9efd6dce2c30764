-- The calls of a door in memory keep its connections of its requests.
use Rattle.std.proofs.Common.{◌≡◌, ℕ, ◌+◌, ◌-◌, ◌≤◌, Bool, true, false, List, [], ◌∷◌, ◌++◌, length, map, take, drop, min, append_assoc, append-nil, length-append, arith, Option, Some, None, Ok, Err, ap, sym, ◌∙◌, subst, refl}
use Rattle.std.specs.List.{concat}
use Rattle.std.specs.Option.{option_map}
use Rattle.std.specs.Prelude.{◌==◌, ◌||◌, ◌↔◌, nat_lt, IfOk}
use Rattle.std.proofs.lemmas.Bool.Decides.{nat_tests}
use Rattle.std.proofs.lemmas.Grind.{common_steps}
use Rattle.std.proofs.lemmas.List.{append_cancel_left, drop-drop, length-take-le, map-append, take-append-drop}
use Rattle.std.proofs.Math.Seq.{take-append_seam, take-nil}
use Rattle.tide_edge.specs.FaultSchedule.{is_to_fail}
use Rattle.tide_edge.specs.Doors.{Connection, Connections, append_to_last, connection_after_read, connection_after_write, connections_of, first_or_empty, just_taken, left_after, no_connections, unread_of}
use Rattle.tide_edge.specs.DoorLaws.{AreOfRequests, IsOfRequest}
use Rattle.tide_edge.specs.Memory.{HeldDoor, after_line_read, after_line_write, after_taking, is_shut, line_count, line_read}
use Rattle.tide_edge.specs.Workings.HeldDoors.{IsTied, IsTiedDoor}
use Rattle.tide_edge.proofs.PieceLemmas.{all_left, bytes_left, left_on}

-- no connection was accepted yet
pub tied_new : (requests : List (List (List ℕ))) → IsTied requests requests no_connections [] []
unfolding AreOfRequests unread_of
tied_new requests = record { of = tt; waits = refl; left = refl; sent = refl; none = λ is. refl }

-- ---- The connection accepted last

-- the last connection belongs to the request `request`, and these are those behind it
record IsLastOf (requests : List (List (List ℕ))) (earlier : List Connection) (c : Connection) : Type 0 where
  request : List (List ℕ)
  more : List (List (List ℕ))
  here : drop (length earlier) requests ≡ request ∷ more
  before : AreOfRequests true requests earlier
  of : IsOfRequest true request c

last_of : (requests : List (List (List ℕ))) (earlier : List Connection) (c : Connection) → AreOfRequests true requests (earlier ++ c ∷ [])
    → IsLastOf requests earlier c
unfolding AreOfRequests
last_of [] [] c are = absurd are
last_of [] (e ∷ earlier) c are = absurd are
last_of (r ∷ requests) [] c are = record { request = r; more = requests; here = refl; before = tt; of = are.0 }
last_of (r ∷ requests) (e ∷ earlier) c are =
    let last = last_of requests earlier c are.1 in
    record { request = last.request; more = last.more; here = last.here; before = (are.0, last.before); of = last.of }

first_is : (first request : List (List ℕ)) (rest more : List (List (List ℕ))) → first ∷ rest ≡ request ∷ more → first ≡ request
first_is first request rest more is = cc

none_here : (request : List (List ℕ)) (more : List (List (List ℕ))) → [] ≡ request ∷ more → ⊥
none_here request more is = cc

with_last : (requests : List (List (List ℕ))) (earlier : List Connection) (request : List (List ℕ)) (more : List (List (List ℕ)))
    (c : Connection) → drop (length earlier) requests ≡ request ∷ more → AreOfRequests true requests earlier → IsOfRequest true request c
    → AreOfRequests true requests (earlier ++ c ∷ [])
unfolding AreOfRequests
with_last [] [] request more c here before of = none_here request more here
with_last [] (e ∷ earlier) request more c here before of = absurd before
with_last (r ∷ requests) [] request more c here before of =
    (subst (λ (q : List (List ℕ)). IsOfRequest true q c) (sym (first_is r request requests more here)) of, tt)
with_last (r ∷ requests) (e ∷ earlier) request more c here before of =
    (before.0, with_last requests earlier request more c here before.1 of)

unread_last : (requests : List (List (List ℕ))) (earlier : List Connection) (request : List (List ℕ)) (more : List (List (List ℕ)))
    (c : Connection) → drop (length earlier) requests ≡ request ∷ more
    → unread_of requests (earlier ++ c ∷ []) ≡ left_after (length c.came) request
unfolding unread_of
unread_last [] [] request more c here = absurd (none_here request more here)
unread_last [] (e ∷ earlier) request more c here = absurd (none_here request more here)
unread_last (r ∷ requests) [] request more c here = ap (left_after (length c.came)) (first_is r request requests more here)
unread_last (r ∷ requests) (e ∷ []) request more c here = unread_last requests [] request more c here
unread_last (r ∷ requests) (e ∷ next ∷ earlier) request more c here = unread_last requests (next ∷ earlier) request more c here

replies_with : (earlier : List Connection) (c : Connection) → map (λ c. c.sent) (earlier ++ c ∷ []) ≡ map (λ c. c.sent) earlier ++ c.sent ∷ []
replies_with earlier c = map-append (λ (c : Connection). c.sent) earlier (c ∷ [])

-- a change of the connection accepted last, with its unread pieces and the replies after it
module _ (requests pending : List (List (List ℕ))) (earlier : List Connection) (coming left replies more : List (List ℕ))
    (change : Connection → Connection)
    (goes : (c : Connection) (request : List (List ℕ)) → IsOfRequest true request c → coming ≡ left_after (length c.came) request
    → IsOfRequest true request (change c) × (left ≡ left_after (length (change c).came) request))
    (sends : (c : Connection) (before : List (List ℕ)) → replies ≡ before ++ c.sent ∷ [] → more ≡ before ++ (change c).sent ∷ [])
    (none : coming ≡ [] → replies ≡ [] → (left ≡ []) × (more ≡ [])) where
  changed : (latest : Option Connection) → IsTied requests pending record { earlier = earlier; latest = latest } coming replies
      → IsTied requests pending record { earlier = earlier; latest = option_map change latest } left more
  unfolding unread_of
  changed None t =
      let first : earlier ≡ [] = t.none refl in
      let empty = none (t.left ∙ ap (λ cs. unread_of requests (cs ++ [])) first) (t.sent ∙ ap (λ cs. map (λ (c : Connection). c.sent) (cs ++ [])) first) in
      record {
        of = t.of;
        waits = t.waits;
        left = empty.0 ∙ sym (ap (λ cs. unread_of requests (cs ++ [])) first);
        sent = empty.1 ∙ sym (ap (λ cs. map (λ (c : Connection). c.sent) (cs ++ [])) first);
        none = t.none;
      }
  changed (Some c) t =
      let last = last_of requests earlier c t.of in
      let next = goes c last.request last.of (t.left ∙ unread_last requests earlier last.request last.more c last.here) in
      record {
        of = with_last requests earlier last.request last.more (change c) last.here last.before next.0;
        waits = t.waits ∙ ap (λ n. drop n requests) (length-append earlier (c ∷ []) ∙ sym (length-append earlier (change c ∷ [])));
        left = next.1 ∙ sym (unread_last requests earlier last.request last.more (change c) last.here);
        sent = sends c (map (λ (c : Connection). c.sent) earlier) (t.sent ∙ replies_with earlier c) ∙ sym (replies_with earlier (change c));
        none = λ is. absurd (cc);
      }

-- ---- Another connection

taken_of : (request : List (List ℕ)) → IsOfRequest true request just_taken
taken_of request = record { prefix = refl; whole = λ is. absurd (cc); piece = λ is. omega arith }

-- the first pending request is the one of the connection accepted last
taken_next : (requests more : List (List (List ℕ))) (request : List (List ℕ)) (all : Connections) (coming replies : List (List ℕ))
    → IsTied requests (request ∷ more) all coming replies
    → IsTied requests more record { earlier = connections_of all; latest = Some just_taken } request (replies ++ [] ∷ [])
taken_next requests more request all coming replies t = record {
  of = with_last requests (connections_of all) request more just_taken (sym t.waits) t.of (taken_of request);
  waits =
      ap (drop 1) t.waits
      ∙ drop-drop 1 (length (connections_of all)) requests
      ∙ ap (λ n. drop n requests) (sym (length-append (connections_of all) (just_taken ∷ [])));
  left = all_left request ∙ sym (unread_last requests (connections_of all) request more just_taken (sym t.waits));
  sent = ap (λ rs. rs ++ [] ∷ []) t.sent ∙ sym (replies_with (connections_of all) just_taken);
  none = λ is. absurd (cc);
}

taken_by : (fails : Bool) (pending : List (List (List ℕ))) (contents : HeldDoor) → is_to_fail contents.fault_schedule ≡ fails → contents.pending ≡ pending
    → IsTiedDoor contents → IsTiedDoor (after_taking contents)
taken_by true pending contents fails waits t = rw fails t
taken_by false [] contents fails waits t = rw (fails, waits) (rw waits at t.0, λ is. refl)
taken_by false (request ∷ more) contents fails waits t =
    let some : nat_lt 0 (length (request ∷ more)) ≡ true = grind (arith, common_steps, nat_tests) in
    let tied = rw waits at t.0 in
    rw (fails, waits, some)
    (taken_next contents.requests more request contents.connections contents.coming contents.replies tied, λ is. let none = t.1 is in absurd (cc))

pub tied_taking : (contents : HeldDoor) → IsTiedDoor contents → IsTiedDoor (after_taking contents)
tied_taking contents t = taken_by (is_to_fail contents.fault_schedule) contents.pending contents refl refl t

-- ---- A read

nothing_left : (none ended : Bool) (coming : List (List ℕ)) → (none || ended) ≡ true → (none ≡ true → concat coming ≡ [])
    → (ended ≡ true → concat coming ≡ []) → concat coming ≡ []
nothing_left true ended coming is first second = first refl
nothing_left false ended coming is first second = second is

longer : (came : List ℕ) (count : ℕ) (buffer : List ℕ) → count ≤ length buffer → length (came ++ take count buffer) ≡ length came + count
longer came count buffer within = length-append came (take count buffer) ∙ ap (λ n. length came + n) (length-take-le count buffer within)

of_read : (request coming : List (List ℕ)) (c : Connection) (count : ℕ) (buffer : List ℕ) → IsOfRequest true request c
    → coming ≡ left_after (length c.came) request → take count buffer ≡ take count (concat coming) → count ≤ length buffer
    → count ≤ length (first_or_empty coming) → (count ≡ 0 → concat coming ≡ [])
    → IsOfRequest true request (connection_after_read (Ok count) buffer c)
of_read request coming c count buffer of left bytes within piece ended =
    let whole : concat request ≡ c.came ++ concat coming =
    sym (take-append-drop (length c.came) (concat request))
    ∙ ap (λ bs. bs ++ drop (length c.came) (concat request)) (sym of.prefix)
    ∙ ap (λ bs. c.came ++ bs) (sym (ap concat left ∙ bytes_left (length c.came) request)) in
    let long = longer c.came count buffer within in
    let before : length (c.came ++ take count buffer) - count ≡ length c.came = omega (arith, long) in
    let parts : concat request ≡ c.came ++ take count buffer ++ drop count (concat coming) =
    whole
    ∙ ap (λ bs. c.came ++ bs) (sym (take-append-drop count (concat coming)))
    ∙ sym (append_assoc c.came (take count (concat coming)) (drop count (concat coming)))
    ∙ ap (λ bs. c.came ++ bs ++ drop count (concat coming)) (sym bytes) in
    record {
      prefix =
          sym (ap (take (length (c.came ++ take count buffer))) parts
          ∙ take-append_seam (c.came ++ take count buffer) (drop count (concat coming)));
      whole = λ is.
          let none : concat coming ≡ [] =
          nothing_left (count == 0) c.is_ended coming is (λ zero. ended (grind (arith, nat_tests, zero)))
          (λ e. sym (append_cancel_left c.came [] (concat coming) (append-nil c.came ∙ of.whole e ∙ whole))) in
          ap (λ bs. c.came ++ bs) (bytes ∙ ap (take count) none ∙ take-nil count ∙ sym none) ∙ sym whole;
      piece = λ keeps. rw (before, ← left) piece;
    }

filled_by : (count : ℕ) (bytes old buffer : List ℕ) → buffer ≡ take count bytes ++ drop count old → count ≤ length bytes
    → take count buffer ≡ take count bytes
filled_by count bytes old buffer is within = grind (arith, common_steps)

first_within : (coming : List (List ℕ)) → length (first_or_empty coming) ≤ length (concat coming)
first_within [] = omega arith
first_within (piece ∷ more) = omega (arith, length-append piece (concat more))

module _ (contents : HeldDoor) (old buffer : List ℕ) (same : length buffer ≡ length old)
    (filled : buffer ≡ take (line_count contents (length old)) (concat contents.coming) ++ drop (line_count contents (length old)) old)
    (end : IfOk (line_read contents (length old)) (λ count. (count ≡ 0) ↔ (concat contents.coming ≡ []))) (tied : IsTiedDoor contents) where
  read_by : (fails : Bool) → is_to_fail contents.fault_schedule ≡ fails → IsTiedDoor (after_line_read contents (length old) buffer)
  read_by true fails =
      rw fails (
        changed contents.requests contents.pending contents.connections.earlier contents.coming contents.coming contents.replies contents.replies
            (connection_after_read (Err record {}) buffer)
            (λ c request of left. (record { prefix = of.prefix; whole = of.whole; piece = λ keeps. omega arith }, left))
            (λ c before is. is) (λ none sent. (none, sent)) contents.connections.latest tied.0,
        tied.1,
      )
  read_by false fails =
      let count : ℕ = min (length old) (length (first_or_empty contents.coming)) in
      let is_filled : buffer ≡ take count (concat contents.coming) ++ drop count old = rw fails at filled in
      let ends : (count ≡ 0) ↔ (concat contents.coming ≡ []) = rw fails at end in
      let piece : count ≤ length (first_or_empty contents.coming) = omega arith in
      let whole : count ≤ length (concat contents.coming) = omega (arith, piece, first_within contents.coming) in
      let within : count ≤ length buffer = omega (arith, same) in
      let bytes = filled_by count (concat contents.coming) old buffer is_filled whole in
      rw fails (
        changed contents.requests contents.pending contents.connections.earlier contents.coming (left_after count contents.coming)
            contents.replies contents.replies (connection_after_read (Ok count) buffer)
            (λ c request of left. (
              of_read request contents.coming c count buffer of left bytes within piece ends.0,
              ap (left_after count) left ∙ left_on (length c.came) count request
                  ∙ ap (λ n. left_after n request) (sym (longer c.came count buffer within)),
            ))
            (λ c before is. is) (λ none sent. (ap (left_after count) none, sent)) contents.connections.latest tied.0,
        tied.1,
      )

  pub tied_read : IsTiedDoor (after_line_read contents (length old) buffer)
  tied_read = read_by (is_to_fail contents.fault_schedule) refl

-- ---- A write

append_last : (replies : List (List ℕ)) (reply bytes : List ℕ)
    → append_to_last (replies ++ reply ∷ []) bytes ≡ replies ++ (reply ++ bytes) ∷ []
append_last [] reply bytes = refl
append_last (r ∷ []) reply bytes = refl
append_last (r ∷ next ∷ more) reply bytes = ap (λ xs. r ∷ xs) (append_last (next ∷ more) reply bytes)

module _ (contents : HeldDoor) (piece : List ℕ) (tied : IsTiedDoor contents) where
  write_by : (fails : Bool) → is_shut contents ≡ fails → IsTiedDoor (after_line_write contents piece)
  write_by true fails =
      rw fails (
        changed contents.requests contents.pending contents.connections.earlier contents.coming contents.coming contents.replies contents.replies
            (connection_after_write (Err record {}) piece)
            (λ c request of left. (record { prefix = of.prefix; whole = of.whole; piece = of.piece }, left))
            (λ c before is. is) (λ none sent. (none, sent)) contents.connections.latest tied.0,
        tied.1,
      )
  write_by false fails =
      let bytes : List ℕ = take (min (length piece) contents.capacity) piece in
      rw fails (
        changed contents.requests contents.pending contents.connections.earlier contents.coming contents.coming contents.replies
            (append_to_last contents.replies bytes) (connection_after_write (Ok (min (length piece) contents.capacity)) piece)
            (λ c request of left. (record { prefix = of.prefix; whole = of.whole; piece = of.piece }, left))
            (λ c before is. ap (λ rs. append_to_last rs bytes) is ∙ append_last before c.sent bytes)
            (λ none sent. (none, ap (λ rs. append_to_last rs bytes) sent)) contents.connections.latest tied.0,
        tied.1,
      )

  pub tied_write : IsTiedDoor (after_line_write contents piece)
  tied_write = write_by (is_shut contents) refl
