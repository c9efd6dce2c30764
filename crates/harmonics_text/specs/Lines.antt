-- The lines of a file, and the tokens of a line (XTide's text harmonics file; this project).
use Rattle.std.specs.Prelude.{
  ℕ,
  codes,
  ◌+◌,
  ◌-◌,
  ◌==◌,
  nat_eq,
  nat_lt,
  Bool,
  true,
  false,
  not,
  ◌&&◌,
  ◌||◌,
  if◌then◌else◌,
  List,
  [],
  ◌∷◌,
  length,
  take,
  drop,
  filter,
  Option,
  Some,
  None,
}
use Rattle.std.specs.List.{onto_first, slice_split, list_all, starts_with, ends_with, position_or_len, suffix_len}

-- a line of a file: its number, counted from 1 over all lines, and its bytes without the LF
pub record Line : Type 0 where
  pub number : ℕ
  pub text : List ℕ

-- true if the byte is an LF (10)
abbrev pub is_lf : ℕ → Bool
is_lf b = b == 10

-- the lines of a file, without their LFs: the file is cut after each LF, and the bytes after the
-- last LF are a line if there are any
unfoldable pub cut : List ℕ → List (List ℕ)
cut [] = []
cut (b ∷ bs) = if is_lf b then [] ∷ cut bs else onto_first b (cut bs)

-- `numbered n texts`: the lines with numbers, the first of them n
unfoldable pub numbered : ℕ → List (List ℕ) → List Line
numbered n [] = []
numbered n (text ∷ texts) = record { number = n; text = text } ∷ numbered (n + 1) texts

-- true if the byte is a space (32) or a tab (9)
abbrev pub is_blank : ℕ → Bool
is_blank b = (b == 32) || (b == 9)

-- true if the line is a comment, which begins with `#`
abbrev pub is_comment : List ℕ → Bool
is_comment text = starts_with nat_eq text (codes "#")

-- true if the line has more than 4,096 bytes, its LF not counted
abbrev pub is_too_long : List ℕ → Bool
is_too_long text = nat_lt 4096 (length text)

-- the text without its last byte if this is a CR (13), else the text itself
abbrev pub without_cr : List ℕ → List ℕ
without_cr text = if ends_with nat_eq text (13 ∷ []) then take (length text - 1) text else text

-- true if the line isn't skipped: if it isn't a comment, and isn't a line of at most 4,096 bytes
-- with only spaces and tabs, and perhaps a CR at its end
unfoldable pub is_kept : Line → Bool
is_kept l = not (is_comment l.text) && (is_too_long l.text || not (list_all is_blank (without_cr l.text)))

-- the lines that aren't skipped, in order; comments and blank lines of at most 4,096 bytes are
-- skipped
unfoldable pub kept : List Line → List Line
kept ls = filter is_kept ls

-- true if the list has an item
abbrev pub is_filled : List ℕ → Bool
is_filled [] = false
is_filled (b ∷ bs) = true

-- the tokens of a text, in order: its longest parts without a space or a tab
unfoldable pub tokens : List ℕ → List (List ℕ)
tokens text = filter is_filled (slice_split is_blank text)

-- true if the byte is neither a space nor a tab
abbrev pub is_visible : ℕ → Bool
is_visible b = not (is_blank b)

-- the text without the spaces and tabs at its end
abbrev pub without_blank_end : List ℕ → List ℕ
without_blank_end text = take (length text - suffix_len is_blank text) text

-- the text without the spaces and tabs at its start and at its end
unfoldable pub trimmed : List ℕ → List ℕ
trimmed text = without_blank_end (drop (position_or_len is_visible text) text)

-- the token of a list that has exactly one; None for any other list
abbrev pub only : List (List ℕ) → Option (List ℕ)
only [] = None
only (t ∷ []) = Some t
only (t ∷ u ∷ ts) = None

-- the two tokens of a list that has exactly two; None for any other list
abbrev pub only_two : List (List ℕ) → Option (List ℕ × List ℕ)
only_two [] = None
only_two (t ∷ []) = None
only_two (t ∷ u ∷ []) = Some (t, u)
only_two (t ∷ u ∷ v ∷ ts) = None
