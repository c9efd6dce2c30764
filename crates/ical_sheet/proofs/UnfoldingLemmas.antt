-- A piece, unfolded, and its lines.
use Rattle.std.proofs.Common.{◌≡◌, ◌≢◌, ℕ, zero, suc, ◌+◌, ◌<◌, ◌≤◌, Bool, true, false, ◌==◌, ◌&&◌, nat_lt, slice_index, List, [], ◌∷◌, ◌++◌, length, take, drop, refl, sym, ap, ◌∙◌, arith, append_assoc, length-take, length-drop, All, codes, append-nil}
use Rattle.std.proofs.lemmas.Bool.Decides.{nat_tests}
use Rattle.std.proofs.lemmas.List.{take-append-drop, drop_more}
use Rattle.std.proofs.lemmas.List.Elements.{All-head, All-tail, All-take, All-drop, All-cons, All-same, All-weaker}
use Rattle.std.specs.List.{flat_map}
use Rattle.std.specs.Str.{IsUtf8}
use Rattle.ical_sheet.specs.Folding.{AreShort, IsContentLine, IsUnindented, begun_with, cut_up, folded, further_pieces, is_fold, physical_lines, ends_at, prefix_length, unfolded}
use Rattle.ical_sheet.proofs.PieceLemmas.{greatest-le, rest-text, prefix-positive}

-- octets of which none is a CR
abbrev pub LacksReturn : List ℕ → Type 0
LacksReturn text = All (λ octet. octet ≢ 13) text

-- the pieces after the first, as they are written
abbrev pub continued : List (List ℕ) → List ℕ
continued pieces = flat_map (λ piece. codes "\r\n " ++ piece) pieces

unfolded-other : (octet : ℕ) (rest : List ℕ) → octet ≢ 13 → unfolded (octet ∷ rest) ≡ octet ∷ unfolded rest
unfolding unfolded
unfolded-other octet [] h = refl
unfolded-other octet (b ∷ []) h = refl
unfolded-other octet (b ∷ c ∷ rest) h = let other : (octet == 13) ≡ false = grind (arith, nat_tests) in rw other

pub unfolded-append : (piece rest : List ℕ) → LacksReturn piece → unfolded (piece ++ rest) ≡ piece ++ unfolded rest
unfolded-append [] rest h = refl
unfolded-append (octet ∷ piece) rest h =
    unfolded-other octet (piece ++ rest) (All-head (λ octet. octet ≢ 13) octet piece h)
    ∙ ap (λ text. octet ∷ text) (unfolded-append piece rest (All-tail (λ octet. octet ≢ 13) octet piece h))

lines-other : (octet : ℕ) (rest : List ℕ) → octet ≢ 13 → physical_lines (octet ∷ rest) ≡ begun_with octet (physical_lines rest)
unfolding physical_lines
lines-other octet [] h = refl
lines-other octet (b ∷ rest) h = let other : (octet == 13) ≡ false = grind (arith, nat_tests) in rw other

pub physical_lines-line : (line rest : List ℕ) → LacksReturn line → physical_lines (line ++ 13 ∷ 10 ∷ rest) ≡ line ∷ physical_lines rest
unfolding physical_lines
physical_lines-line [] rest h = refl
physical_lines-line (octet ∷ line) rest h =
    lines-other octet (line ++ 13 ∷ 10 ∷ rest) (All-head (λ octet. octet ≢ 13) octet line h)
    ∙ ap (begun_with octet) (physical_lines-line line rest (All-tail (λ octet. octet ≢ 13) octet line h))

-- ---- one step of unfolding

-- a fold is at the index of a text
abbrev pub has_fold : List ℕ → ℕ → Bool
has_fold text at = nat_lt (at + 2) (length text) && is_fold (slice_index text at) (slice_index text (at + 1)) (slice_index text (at + 2))

next_three : (text : List ℕ) (at : ℕ) → at + 2 < length text
    → drop at text ≡ slice_index text at ∷ slice_index text (at + 1) ∷ slice_index text (at + 2) ∷ drop (at + 3) text
next_three text at within =
    let second : at + 1 + 1 ≡ at + 2 = omega arith in
    let third : at + 2 + 1 ≡ at + 3 = omega arith in
    let a : drop at text ≡ slice_index text at ∷ drop (at + 1) text = drop_more text at 0 (omega (arith, within)) in
    let b : drop (at + 1) text ≡ slice_index text (at + 1) ∷ drop (at + 2) text =
    rw second at (drop_more text (at + 1) 0 (omega (arith, within))) in
    let c : drop (at + 2) text ≡ slice_index text (at + 2) ∷ drop (at + 3) text = rw third at (drop_more text (at + 2) 0 within) in
    cc

pub unfolded-fold : (text : List ℕ) (at : ℕ) → has_fold text at ≡ true
    → (at + 2 < length text) × (unfolded (drop at text) ≡ unfolded (drop (at + 3) text))
unfolding unfolded
unfolded-fold text at h =
    let within : at + 2 < length text = grind (arith, nat_tests) in
    let is : is_fold (slice_index text at) (slice_index text (at + 1)) (slice_index text (at + 2)) ≡ true = grind (arith, nat_tests) in
    (within, rw (next_three text at within, is) refl)

unfolded-short : (octet : ℕ) (rest : List ℕ) → length rest ≤ 1 → unfolded (octet ∷ rest) ≡ octet ∷ unfolded rest
unfolding unfolded
unfolded-short octet [] h = refl
unfolded-short octet (b ∷ []) h = refl
unfolded-short octet (b ∷ c ∷ rest) h = absurd (omega (arith, h))

pub unfolded-octet : (text : List ℕ) (at : ℕ) → at < length text → has_fold text at ≡ false
    → unfolded (drop at text) ≡ slice_index text at ∷ unfolded (drop (at + 1) text)
unfolding unfolded
unfolded-octet text at within h =
    elim (nat_lt (at + 2) (length text)) as (λ v. nat_lt (at + 2) (length text) ≡ v
    → unfolded (drop at text) ≡ slice_index text at ∷ unfolded (drop (at + 1) text)) [
      | true ↦ λ more.
          let three : at + 2 < length text = grind (arith, nat_tests) in
          let other : is_fold (slice_index text at) (slice_index text (at + 1)) (slice_index text (at + 2)) ≡ false =
          grind (arith, nat_tests) in
          let second : at + 1 + 1 ≡ at + 2 = omega arith in
          let third : at + 2 + 1 ≡ at + 3 = omega arith in
          let b : drop (at + 1) text ≡ slice_index text (at + 1) ∷ drop (at + 2) text =
          rw second at (drop_more text (at + 1) 0 (omega (arith, three))) in
          let c : drop (at + 2) text ≡ slice_index text (at + 2) ∷ drop (at + 3) text = rw third at (drop_more text (at + 2) 0 three) in
          rw (next_three text at three, other, b, c) refl
      | false ↦ λ less.
          let last : length text ≤ at + 2 = grind (arith, nat_tests) in
          rw (drop_more text at 0 within)
          (unfolded-short (slice_index text at) (drop (at + 1) text) (simp length-drop (omega (arith, last))))
    ] refl

-- ---- the pieces after the first, and what comes after the line

unfolded-end : (rest : List ℕ) → IsUnindented rest → unfolded (codes "\r\n" ++ rest) ≡ codes "\r\n" ++ unfolded rest
unfolding unfolded
unfolded-end [] start = refl
unfolded-end (octet ∷ rest) start =
    let other : is_fold 13 10 octet ≡ false = grind (arith, nat_tests, start.0, start.1) in
    rw other (ap (λ text. 13 ∷ text) (unfolded-other 10 (octet ∷ rest) (omega arith)))

unfolded-continued : (more : ℕ) (text rest : List ℕ) → IsUtf8 text → LacksReturn text → IsUnindented rest → length text ≤ more
    → unfolded (continued (cut_up more text) ++ (codes "\r\n" ++ rest)) ≡ text ++ (codes "\r\n" ++ unfolded rest)
unfolding unfolded cut_up
unfolded-continued more [] rest utf8 clean start h = unfolded-end rest start
unfolded-continued zero (octet ∷ others) rest utf8 clean start h = absurd (omega (arith, h))
unfolded-continued (suc more) (octet ∷ others) rest utf8 clean start h =
    let text : List ℕ = octet ∷ others in
    let n = prefix_length 74 text in
    let later : List ℕ = continued (cut_up more (drop n text)) in
    let next : unfolded (later ++ (codes "\r\n" ++ rest)) ≡ drop n text ++ (codes "\r\n" ++ unfolded rest) =
    unfolded-continued more (drop n text) rest (rest-text 74 text utf8) (All-drop (λ octet. octet ≢ 13) n text clean) start
    (simp length-drop (omega (arith, h, prefix-positive 74 text utf8 (omega arith) (omega arith))))
    in
    ap unfolded (append_assoc (take n text) later (codes "\r\n" ++ rest))
    ∙ unfolded-append (take n text) (later ++ (codes "\r\n" ++ rest)) (All-take (λ octet. octet ≢ 13) n text clean)
    ∙ ap (λ t. take n text ++ t) next
    ∙ sym (append_assoc (take n text) (drop n text) (codes "\r\n" ++ unfolded rest))
    ∙ ap (λ t. t ++ (codes "\r\n" ++ unfolded rest)) (take-append-drop n text)

-- a line of at most 75 octets
abbrev IsShort : List ℕ → Type 0
IsShort line = length line ≤ 75

lines-continued : (more : ℕ) (line text rest : List ℕ) → IsUtf8 text → LacksReturn line → LacksReturn text
    → length line ≤ 75 → length text ≤ more → AreShort (physical_lines rest)
    → AreShort (physical_lines (line ++ continued (cut_up more text) ++ (codes "\r\n" ++ rest)))
unfolding cut_up
lines-continued more line [] rest utf8 head clean short h others =
    rw (append-nil line, physical_lines-line line rest head) (All-cons IsShort line (physical_lines rest) short others)
lines-continued zero line (octet ∷ text) rest utf8 head clean short h others = absurd (omega (arith, h))
lines-continued (suc more) line (octet ∷ remainder) rest utf8 head clean short h others =
    let text : List ℕ = octet ∷ remainder in
    let n = prefix_length 74 text in
    let next : List ℕ = 32 ∷ take n text in
    let later : List ℕ = continued (cut_up more (drop n text)) in
    let first : physical_lines (line ++ 13 ∷ 10 ∷ (next ++ later) ++ (codes "\r\n" ++ rest))
    ≡ line ∷ physical_lines (next ++ later ++ (codes "\r\n" ++ rest)) =
    ap physical_lines (append_assoc line (13 ∷ 10 ∷ (next ++ later)) (codes "\r\n" ++ rest))
    ∙ physical_lines-line line (next ++ later ++ (codes "\r\n" ++ rest)) head
    in
    let further : AreShort (physical_lines (next ++ later ++ (codes "\r\n" ++ rest))) =
    lines-continued more next (drop n text) rest (rest-text 74 text utf8)
    (All-cons (λ octet. octet ≢ 13) 32 (take n text) (omega arith) (All-take (λ octet. octet ≢ 13) n text clean))
    (All-drop (λ octet. octet ≢ 13) n text clean)
    (simp length-take (omega (arith, greatest-le (ends_at text) 74)))
    (simp length-drop (omega (arith, h, prefix-positive 74 text utf8 (omega arith) (omega arith))))
    others
    in
    All-same IsShort (physical_lines (line ++ 13 ∷ 10 ∷ (next ++ later) ++ (codes "\r\n" ++ rest)))
    (line ∷ physical_lines (next ++ later ++ (codes "\r\n" ++ rest))) first
    (All-cons IsShort line (physical_lines (next ++ later ++ (codes "\r\n" ++ rest))) short further)

-- ---- a whole line, and what comes after it

module _ (line rest : List ℕ) (is : IsContentLine line) where
  abbrev first : ℕ
  first = prefix_length 75 line

  abbrev later : List ℕ
  later = continued (further_pieces (drop first line))

  written : folded line ++ rest ≡ take first line ++ later ++ (codes "\r\n" ++ rest)
  unfolding folded
  written = append_assoc (take first line ++ later) (codes "\r\n") rest

  clean : LacksReturn line
  clean = All-weaker (λ octet. (octet ≢ 13) × (octet ≢ 10)) (λ octet. octet ≢ 13) (λ octet h. h.0) line is.unbroken

  pub unfolded-folded : IsUnindented rest → unfolded (folded line ++ rest) ≡ line ++ (codes "\r\n" ++ unfolded rest)
  unfolded-folded start =
      ap unfolded (written ∙ append_assoc (take first line) later (codes "\r\n" ++ rest))
      ∙ unfolded-append (take first line) (later ++ (codes "\r\n" ++ rest)) (All-take (λ octet. octet ≢ 13) first line clean)
      ∙ ap (λ t. take first line ++ t) (unfolded-continued (length (drop first line)) (drop first line) rest
      (rest-text 75 line is.utf8) (All-drop (λ octet. octet ≢ 13) first line clean) start (omega arith))
      ∙ sym (append_assoc (take first line) (drop first line) (codes "\r\n" ++ unfolded rest))
      ∙ ap (λ t. t ++ (codes "\r\n" ++ unfolded rest)) (take-append-drop first line)

  pub lines-folded : AreShort (physical_lines rest) → AreShort (physical_lines (folded line ++ rest))
  lines-folded others =
      rw written (
      lines-continued (length (drop first line)) (take first line) (drop first line) rest (rest-text 75 line is.utf8)
      (All-take (λ octet. octet ≢ 13) first line clean) (All-drop (λ octet. octet ≢ 13) first line clean)
      (simp length-take (omega (arith, greatest-le (ends_at line) 75))) (omega arith) others
      )
