-- The pieces of a text that are written, together.
use Rattle.std.proofs.Common.{◌≡◌, ℕ, suc, ◌+◌, ◌-◌, ◌<◌, ◌≤◌, Bool, true, false, if◌then◌else◌, List, [], ◌∷◌, ◌++◌, length, take, Result, Ok, Err, refl, sym, ap, ◌∙◌, arith, append_assoc, append-nil, length-append}
use Rattle.std.proofs.lemmas.List.{take-append-le}
use Rattle.tide_edge.specs.declared.sink.writing.WriteFailed.{WriteFailed}
use Rattle.tide_edge.specs.SinkStates.{SinkState, put, sink_failed}
use Rattle.tide_edge.specs.Sending.{Sends, has_room, gone_for, held_after}
use Rattle.tide_edge.proofs.WritingLemmas.{put_none, put_put}

take_beyond : (xs ys : List ℕ) (n : ℕ) → take (length xs + n) (xs ++ ys) ≡ xs ++ take n ys
take_beyond [] ys n = let e : 0 + n ≡ n = omega arith in ap (λ k. take k ys) e
take_beyond (x ∷ xs) ys n =
    let e : suc (length xs) + n ≡ suc (length xs + n) = omega arith in
    ap (λ k. take k (x ∷ (xs ++ ys))) e ∙ ap (λ l. x ∷ l) (take_beyond xs ys n)

-- a piece that failed, as a piece of a text that goes on
pub sends_cut : (before after : SinkState) (sent : ℕ) (text rest : List ℕ) (fault : WriteFailed)
    → Sends before after sent text (Err fault) → Sends before after sent (text ++ rest) (Err fault)
sends_cut before after sent text rest fault sends =
    let least = sends.0 in
    let most = sends.1 in
    let both = length-append text rest in
    let few : fault.sent - sent ≤ length text = omega (arith, least, most) in (
      least,
      omega (arith, most, both),
      sends.2 ∙ ap (λ xs. sink_failed (put xs before)) (sym (take-append-le (fault.sent - sent) text rest few)),
    )

-- a piece after one that was written whole
pub sends_then : (before now after : SinkState) (sent done : ℕ) (text rest : List ℕ) (result : Result ℕ WriteFailed)
    → Sends before now sent text (Ok done) → Sends now after done rest result
    → Sends before after sent (text ++ rest) result
sends_then before now after sent done text rest (Ok last) first second =
    let bytes = first.0 in
    let more = second.0 in
    let both = length-append text rest in (
      omega (arith, bytes, more, both),
      second.1 ∙ ap (put rest) first.1 ∙ put_put text rest before,
    )
sends_then before now after sent done text rest (Err fault) first second =
    let bytes = first.0 in
    let least = second.0 in
    let most = second.1 in
    let both = length-append text rest in
    let part = fault.sent - done in
    let place : fault.sent - sent ≡ length text + part = omega (arith, bytes, least) in (
      omega (arith, bytes, least),
      omega (arith, bytes, most, both),
      second.2 ∙ ap (λ (s : SinkState). sink_failed (put (take part rest) s)) first.1
          ∙ ap sink_failed (put_put text (take part rest) before)
          ∙ ap (λ xs. sink_failed (put xs before)) (sym (take_beyond text rest part) ∙ ap (λ m. take m (text ++ rest)) (sym place)),
    )

-- nothing was written yet
pub same_state : (s : SinkState) → s ≡ put [] s
same_state s = sym (put_none s)

pub sends_none : (state : SinkState) (sent : ℕ) → Sends state state sent [] (Ok sent)
sends_none state sent = (omega arith, same_state state)

-- a line that stays in a buffer
pub sends_held : (state : SinkState) (sent : ℕ) (gone : List ℕ) → gone ≡ [] → Sends state state sent gone (Ok sent)
sends_held state sent gone none = rw none (sends_none state sent)

-- ---- lines in a buffer

by_room : (fits : Bool) (held line : List ℕ) → (if fits then [] else held) ++ (if fits then held ++ line else line) ≡ held ++ line
by_room true held line = refl
by_room false held line = refl

-- putting a line into a buffer loses no byte and repeats none
pub buffer_kept : (held line now : List ℕ) → now ≡ held_after held line → gone_for held line ++ now ≡ held ++ line
buffer_kept held line now is = rw is (by_room (has_room held line) held line)

pub buffer_length : (held line now : List ℕ) → now ≡ held_after held line
    → length (gone_for held line) + length now ≡ length held + length line
buffer_length held line now is =
    let all : length (gone_for held line ++ now) ≡ length (held ++ line) = ap length (buffer_kept held line now is) in
    omega (arith, all, length-append (gone_for held line) now, length-append held line)

-- one more line of all that are left
pub buffer_step : {T : Type 0} (all : List T → List ℕ) (remaining rest : List T) (x : T) (whole text held line now : List ℕ)
    → remaining ≡ x ∷ rest → all (x ∷ rest) ≡ line ++ all rest → now ≡ held_after held line
    → text ++ (held ++ all remaining) ≡ whole → (text ++ gone_for held line) ++ (now ++ all rest) ≡ whole
buffer_step all remaining rest x whole text held line now is more put so_far =
    append_assoc text (gone_for held line) (now ++ all rest)
    ∙ ap (λ ys. text ++ ys) (sym (append_assoc (gone_for held line) now (all rest))
    ∙ ap (λ ys. ys ++ all rest) (buffer_kept held line now put) ∙ append_assoc held line (all rest))
    ∙ ap (λ ys. text ++ (held ++ ys)) (sym more ∙ ap all (sym is))
    ∙ so_far

-- the last line
pub buffer_done : {T : Type 0} (all : List T → List ℕ) (remaining : List T) (whole text held : List ℕ) → remaining ≡ []
    → all [] ≡ [] → text ++ (held ++ all remaining) ≡ whole → text ++ held ≡ whole
buffer_done all remaining whole text held none empty so_far =
    ap (λ ys. text ++ ys) (sym (append-nil held) ∙ ap (λ ys. held ++ ys) (sym empty ∙ ap all (sym none))) ∙ so_far

-- ---- a text from its first byte on

pub from_first : (before after : SinkState) (text : List ℕ) (fault : WriteFailed) → Sends before after 0 text (Err fault)
    → (fault.sent < length text) × (after ≡ sink_failed (put (take fault.sent text) before))
from_first before after text fault sends =
    let most = sends.1 in
    let all : fault.sent - 0 ≡ fault.sent = omega arith in
    (omega (arith, most), sends.2 ∙ ap (λ m. sink_failed (put (take m text) before)) all)
