-- Cutting bytes into lines: lines without an LF, each with an LF after it, are cut into the same
-- lines.
use Rattle.std.proofs.Common.{◌≡◌, ℕ, ◌<◌, ◌==◌, Bool, true, inl, inr, List, [], ◌∷◌, ◌++◌, length, refl, sym, ap, ◌∙◌, append_assoc, arith}
use Rattle.std.specs.Prelude.{not}
use Rattle.std.specs.List.{list_all, AllByRecursion, join_with_byte}
use Rattle.std.proofs.lemmas.Bool.{not-true, ne_eqb, cases_Bool}
use Rattle.std.proofs.lemmas.List.Splits.{slice_split_at, length-slice_split, join_with_byte-slice_split}
use Rattle.std.proofs.lemmas.List.Sums.{AllPass-from_list_all}
use Rattle.cert_text.specs.Texts.{ended, joined}
use Rattle.cert_text.specs.ByLine.{is_lf, pieces, but_last, last_of, lines_in, last_in, is_over}

-- ---- lines without LF

-- the text contains no LF
abbrev pub is_free : List ℕ → Bool
is_free text = list_all (λ b. not (is_lf b)) text

-- no line contains an LF
abbrev pub AreFree : List (List ℕ) → Type 0
AreFree lines = AllByRecursion (λ line. is_free line ≡ true) lines

pub are_free-append : (xs ys : List (List ℕ)) → AreFree xs → AreFree ys → AreFree (xs ++ ys)
are_free-append [] bs ha hb = hb
are_free-append (a ∷ xs) ys ha hb = (ha.0, are_free-append xs ys ha.1 hb)

pub are_free_prefix : (xs ys : List (List ℕ)) → AreFree (xs ++ ys) → AreFree xs
are_free_prefix [] bs h = tt
are_free_prefix (a ∷ xs) ys h = (h.0, are_free_prefix xs ys h.1)

-- ---- cutting

pieces_ended : (line rest : List ℕ) → is_free line ≡ true → pieces (line ++ 10 ∷ rest) ≡ line ∷ pieces rest
pieces_ended line rest h =
    slice_split_at is_lf line 10 rest (λ k d lt. not-true _ (AllPass-from_list_all (λ (b : ℕ). not (is_lf b)) line h k d lt)) refl

pub some_piece : (bytes : List ℕ) → 0 < length (pieces bytes)
some_piece bytes = omega (arith, length-slice_split is_lf bytes)

pub but_last-next : (piece : List ℕ) (more : List (List ℕ)) → 0 < length more → but_last (piece ∷ more) ≡ piece ∷ but_last more
but_last-next piece [] h = absurd (omega arith)
but_last-next piece (next ∷ more) h = refl

pub last_of-next : (piece : List ℕ) (more : List (List ℕ)) → 0 < length more → last_of (piece ∷ more) ≡ last_of more
last_of-next piece [] h = absurd (omega arith)
last_of-next piece (next ∷ more) h = refl

-- the lines in `joined lines ++ rest` are `lines`, which contain no LF, and then the lines in
-- `rest`; the bytes after the last LF are the ones in `rest`
pub lines_in-joined : (lines : List (List ℕ)) (rest : List ℕ) → AreFree lines
    → (lines_in (joined lines ++ rest) ≡ lines ++ lines_in rest) × (last_in (joined lines ++ rest) ≡ last_in rest)
lines_in-joined [] rest h = (refl, refl)
lines_in-joined (line ∷ lines) rest h =
    let apart : joined (line ∷ lines) ++ rest ≡ line ++ 10 ∷ (joined lines ++ rest) =
    append_assoc (ended line) (joined lines) rest ∙ append_assoc line (10 ∷ []) (joined lines ++ rest) in
    let cut = ap (λ (bytes : List ℕ). pieces bytes) apart ∙ pieces_ended line (joined lines ++ rest) h.0 in
    let more = lines_in-joined lines rest h.1 in (
      ap (λ (ps : List (List ℕ)). but_last ps) cut
          ∙ but_last-next line (pieces (joined lines ++ rest)) (some_piece (joined lines ++ rest)) ∙ ap (λ ls. line ∷ ls) more.0,
      ap (λ (ps : List (List ℕ)). last_of ps) cut
          ∙ last_of-next line (pieces (joined lines ++ rest)) (some_piece (joined lines ++ rest)) ∙ more.1,
    )

join_next : (line : List ℕ) (lines : List (List ℕ)) (rest : List ℕ)
    → join_with_byte 10 (line ∷ (lines ++ rest ∷ [])) ≡ line ++ 10 ∷ join_with_byte 10 (lines ++ rest ∷ [])
join_next line [] rest = refl
join_next line (more ∷ lines) rest = refl

join_joined : (lines : List (List ℕ)) (rest : List ℕ) → join_with_byte 10 (lines ++ rest ∷ []) ≡ joined lines ++ rest
join_joined [] rest = refl
join_joined (line ∷ lines) rest =
    join_next line lines rest ∙ ap (λ ls. line ++ 10 ∷ ls) (join_joined lines rest)
    ∙ sym (append_assoc (ended line) (joined lines) rest ∙ append_assoc line (10 ∷ []) (joined lines ++ rest))

bytes_of_pieces : (bytes : List ℕ) (lines : List (List ℕ)) (rest : List ℕ) → pieces bytes ≡ lines ++ rest ∷ []
    → bytes ≡ joined lines ++ rest
bytes_of_pieces bytes lines rest e =
    sym (join_with_byte-slice_split 10 bytes) ∙ ap (λ (ps : List (List ℕ)). join_with_byte 10 ps) e ∙ join_joined lines rest

rejoined : (ps : List (List ℕ)) → 0 < length ps → ps ≡ but_last ps ++ last_of ps ∷ []
rejoined [] h = absurd (omega arith)
rejoined (p ∷ []) h = refl
rejoined (p ∷ q ∷ ps) h = ap (λ xs. p ∷ xs) (rejoined (q ∷ ps) (omega arith))

-- bytes are their lines, each with its LF, and then the bytes after the last LF
pub bytes_of_lines : (bytes : List ℕ) → bytes ≡ joined (lines_in bytes) ++ last_in bytes
bytes_of_lines bytes = bytes_of_pieces bytes (lines_in bytes) (last_in bytes) (rejoined (pieces bytes) (some_piece bytes))

over_is : (lines : List (List ℕ)) (last : List ℕ) → is_over lines last ≡ true → joined lines ++ last ≡ []
over_is [] [] e = refl
over_is [] (b ∷ bs) e = absurd cc
over_is (line ∷ lines) last e = absurd cc

-- there is neither a line nor a byte after the last LF exactly if there are no bytes
pub is_over-bytes : (bytes : List ℕ) → is_over (lines_in bytes) (last_in bytes) ≡ (length bytes == 0)
is_over-bytes [] = refl
is_over-bytes (b ∷ bs) =
    elim (cases_Bool (is_over (lines_in (b ∷ bs)) (last_in (b ∷ bs)))) [
      | inl over ↦
          let none : b ∷ bs ≡ [] = bytes_of_lines (b ∷ bs) ∙ over_is (lines_in (b ∷ bs)) (last_in (b ∷ bs)) over in absurd cc
      | inr more ↦ more ∙ sym (ne_eqb (length (b ∷ bs)) 0 (λ e. omega (arith, e)))
    ]
