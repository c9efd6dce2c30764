-- The first line in bytes, and the length of the text of a moment.
use Rattle.std.proofs.Common.{◌≡◌, ℕ, true, false, cond, ltb, List, [], ◌∷◌, length, take, drop, Some, None, ℤ, refl, ap, ◌∙◌, arith}
use Rattle.std.specs.Prelude.{position}
use Rattle.std.specs.List.{position_or_len}
use Rattle.std.proofs.lemmas.Bool.{ltb-true, ltb-false}
use Rattle.std.proofs.lemmas.List.{drop-drop}
use Rattle.std.proofs.lemmas.List.Splits.{slice_split_first, slice_split_none}
use Rattle.std.proofs.lemmas.List.Sums.{fails_before_first}
use Rattle.zone_time.specs.Dates.{two_digits, date_text, clock_text}
use Rattle.zone_time.specs.Moments.{moment_text}
use Rattle.cert_text.specs.ByLine.{is_lf, pieces, but_last, last_of, lines_in, last_in}
use Rattle.cert_text.proofs.CutLemmas.{but_last-next, last_of-next, some_piece}

-- the text of a moment has 17 bytes
pub length-moment_text : (m : ℤ) → length (moment_text m) ≡ 17
unfolding moment_text date_text clock_text two_digits
length-moment_text m = refl

-- ---- the first line

chosen : (t : Rattle.std.proofs.Common.Bool) (n k : ℕ) → cond t (Some n) None ≡ Some k → (t ≡ true) × (n ≡ k)
chosen true n k e = (refl, cc)
chosen false n k e = absurd cc

unchosen : (t : Rattle.std.proofs.Common.Bool) (n : ℕ) → cond t (Some n) None ≡ None → t ≡ false
unchosen true n e = absurd cc
unchosen false n e = refl

-- bytes without an LF have no line
pub no_line : (bytes : List ℕ) → position is_lf bytes ≡ None → lines_in bytes ≡ []
no_line bytes e =
    let all = ltb-false _ _ (unchosen (ltb (position_or_len is_lf bytes) (length bytes)) (position_or_len is_lf bytes) e) in
    ap (λ (ps : List (List ℕ)). but_last ps)
    (slice_split_none is_lf bytes (λ k d lt. fails_before_first is_lf bytes k d (omega (arith, all, lt))))

-- if the first LF is at index `k`, the first line is the first `k` bytes, and the other lines are
-- in the bytes after this LF
pub some_line : (bytes line rest after : List ℕ) (k : ℕ) → position is_lf bytes ≡ Some k → line ≡ take k bytes
    → rest ≡ drop k bytes → after ≡ drop 1 rest
    → (lines_in bytes ≡ line ∷ lines_in after) × (last_in bytes ≡ last_in after)
some_line bytes line rest after k e l r a =
    let c = chosen (ltb (position_or_len is_lf bytes) (length bytes)) (position_or_len is_lf bytes) k e in
    let cut : pieces bytes ≡ line ∷ pieces after = rw (l, a, r, ← c.1, drop-drop) (slice_split_first is_lf bytes 0 (ltb-true _ _ c.0)) in (
      ap (λ (ps : List (List ℕ)). but_last ps) cut ∙ but_last-next line (pieces after) (some_piece after),
      ap (λ (ps : List (List ℕ)). last_of ps) cut ∙ last_of-next line (pieces after) (some_piece after),
    )
