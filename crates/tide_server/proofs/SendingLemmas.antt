-- The bytes that were sent over a connection, piece by piece.
use Rattle.std.proofs.Common.{◌≡◌, ℕ, ◌+◌, ◌≤◌, Bool, false, true, List, [], ◌++◌, length, take, drop, append_assoc, append-nil, length-append, arith, ap, sym, ◌∙◌, refl, Ok, Option, Some, None}
use Rattle.std.specs.Option.{option_map}
use Rattle.std.proofs.lemmas.List.{take-append-le}
use Rattle.std.proofs.Math.Seq.{take-add, take-append-add}
use Rattle.tide_edge.specs.Doors.{Connection, DoorState, door_after_write}
use Rattle.tide_edge.specs.Faults.{faults_after}
use Rattle.tide_server.specs.Workings.Connections.{SentBy, sending, sent}

with_open : DoorState → ℕ → Option Connection → DoorState
with_open d lines latest = record d { connections = record d.connections { latest = latest }; line_faults = lines }

with_sent : Connection → List ℕ → Connection
with_sent c bytes = record c { sent = bytes }

opened_none : (latest : Option Connection) → latest ≡ option_map (sending [] false) latest
unfolding with_sent
opened_none None = refl
opened_none (Some c) = ap (λ bytes. Some (with_sent c bytes)) (sym (append-nil c.sent))

with_cut : Connection → List ℕ → Connection
with_cut c bytes = record c { sent = bytes; write_failed = true }

opened_twice : (failed : Bool) (latest : Option Connection) (a b : List ℕ)
    → option_map (sending b failed) (option_map (sending a false) latest) ≡ option_map (sending (a ++ b) failed) latest
unfolding with_sent with_cut
opened_twice false None a b = refl
opened_twice true None a b = refl
opened_twice false (Some c) a b = ap (λ bytes. Some (with_sent c bytes)) (append_assoc c.sent a b)
opened_twice true (Some c) a b = ap (λ bytes. Some (with_cut c bytes)) (append_assoc c.sent a b)

pub sent_none : (d : DoorState) → d ≡ sent [] false d
unfolding with_open
sent_none d = ap (with_open d d.line_faults) (opened_none d.connections.latest)

-- a text that was sent after another one
sent_behind : (first : DoorState) (a b : List ℕ) (failed : Bool) → sent b failed (sent a false first) ≡ sent (a ++ b) failed first
unfolding with_open
sent_behind first a b failed =
    ap (with_open first (faults_after failed first.line_faults)) (opened_twice failed first.connections.latest a b)

-- the state after one more piece
pub sent_on : (first now after : DoorState) (text : List ℕ) (at count : ℕ) → now ≡ sent (take at text) false first
    → after ≡ door_after_write (Ok count) (drop at text) now → after ≡ sent (take (at + count) text) false first
sent_on first now after text at count so_far is =
    is
    ∙ ap (door_after_write (Ok count) (drop at text)) so_far
    ∙ sent_behind first (take at text) (take count (drop at text)) false
    ∙ ap (λ xs. sent xs false first) (sym (take-add at count text))

-- ---- A text in two parts

-- the second part was sent after the first one
pub sent_both : (failed : Bool) (a b text : List ℕ) (first now after : DoorState) → a ++ b ≡ text
    → SentBy false a first now → SentBy failed b now after → SentBy failed text first after
sent_both false a b text first now after whole sends more =
    more ∙ ap (sent b false) sends ∙ sent_behind first a b false ∙ ap (λ xs. sent xs false first) whole
sent_both true a b text first now after whole sends (count, few, more) =
    let long : length text ≡ length a + length b = ap length (sym whole) ∙ length-append a b in
    let cut : take (length a + count) text ≡ a ++ take count b =
    ap (take (length a + count)) (sym whole) ∙ take-append-add a b count in (
      length a + count,
      omega (arith, long, few),
      more ∙ ap (sent (take count b) true) sends ∙ sent_behind first a (take count b) true ∙ ap (λ xs. sent xs true first) (sym cut),
    )

-- the second part wasn't sent, since a write of the first one failed
pub first_cut : (a b text : List ℕ) (first after : DoorState) → a ++ b ≡ text → SentBy true a first after → SentBy true text first after
first_cut a b text first after whole (count, few, sends) =
    let long : length text ≡ length a + length b = ap length (sym whole) ∙ length-append a b in
    let within : count ≤ length a = omega (arith, few) in
    let cut : take count text ≡ take count a = ap (take count) (sym whole) ∙ take-append-le count a b within in
    (count, omega (arith, long, few), sends ∙ ap (λ xs. sent xs true first) (sym cut))
