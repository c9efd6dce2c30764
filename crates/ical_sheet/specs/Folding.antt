-- Content lines, folded and unfolded (RFC 5545, section 3.1; the length of the pieces is this project's
-- choice).
use Rattle.std.specs.Prelude.{
  ℕ,
  zero,
  suc,
  ◌≤◌,
  ◌≢◌,
  Bool,
  not,
  ◌==◌,
  ◌&&◌,
  ◌||◌,
  nat_le,
  nat_lt,
  if◌then◌else◌,
  List,
  [],
  ◌∷◌,
  ◌++◌,
  length,
  take,
  drop,
  slice_index,
  codes,
  All,
}
use Rattle.std.specs.List.{join_by}
use Rattle.std.specs.Str.{IsUtf8}

-- ---- content lines

-- `text` doesn't begin with a space (32) or a tab (9)
abbrev pub IsUnindented : List ℕ → Type 0
IsUnindented text = (slice_index text 0 ≢ 32) × (slice_index text 0 ≢ 9)

-- a content line of RFC 5545: UTF-8 text without CR (13) and LF (10) that doesn't begin with a space or
-- a tab
pub record IsContentLine (line : List ℕ) : Type 0 where
  pub utf8 : IsUtf8 line
  pub unbroken : All (λ octet. (octet ≢ 13) × (octet ≢ 10)) line
  pub unindented : IsUnindented line

-- ---- folding

-- a byte of a UTF-8 character other than the character's first: 128 to 191 (RFC 3629, section 3)
abbrev pub is_inner : ℕ → Bool
is_inner octet = nat_le 128 octet && nat_lt octet 192

-- `text` can be cut after its first `n` bytes without splitting a UTF-8 character: the next byte begins
-- a character, or `text` ends there
abbrev pub ends_at : List ℕ → ℕ → Bool
ends_at text n = nat_le n (length text) && not (is_inner (slice_index text n))

-- the greatest number from 1 to n for which the test `passes` is true, or 0 if there is none
unfoldable pub greatest : (ℕ → Bool) → (n : ℕ) → ℕ
greatest passes zero = 0
greatest passes (suc n) = if passes (suc n) then suc n else greatest passes n

-- the length of the longest prefix of `text` with at most `most` bytes that splits no UTF-8 character
abbrev pub prefix_length : (most : ℕ) → List ℕ → ℕ
prefix_length most text = greatest (ends_at text) most

-- a text cut into pieces, each the longest prefix of the remaining text with at most 74 bytes that
-- splits no UTF-8 character; at most `more` pieces
unfoldable pub cut_up : (more : ℕ) → List ℕ → List (List ℕ)
cut_up more [] = []
cut_up zero (octet ∷ rest) = []
cut_up (suc more) (octet ∷ rest) =
    let text = octet ∷ rest in let n = prefix_length 74 text in take n text ∷ cut_up more (drop n text)

-- the rest of a line after its first piece, cut into pieces of at most 74 bytes that split no UTF-8
-- character
abbrev pub further_pieces : List ℕ → List (List ℕ)
further_pieces rest = cut_up (length rest) rest

-- a line cut into pieces that split no UTF-8 character: the first is the longest prefix with at most 75
-- bytes, and each other piece the longest with at most 74
abbrev pub pieces_of : List ℕ → List (List ℕ)
pieces_of line = let n = prefix_length 75 line in take n line ∷ further_pieces (drop n line)

-- a content line in its written (folded) form: its pieces with CR LF and a space between them, and CR
-- LF at the end
unfoldable pub folded : List ℕ → List ℕ
folded line = join_by (λ piece. piece) (codes "\r\n ") (pieces_of line) ++ codes "\r\n"

-- the first `n` bytes of `text` are its longest prefix with at most `most` bytes that is UTF-8, so no
-- character is split
pub record IsLongestPrefix (most : ℕ) (text : List ℕ) (n : ℕ) : Type 0 where
  pub short : n ≤ most
  pub within : n ≤ length text
  pub utf8 : IsUtf8 (take n text)
  pub longest : (k : ℕ) → k ≤ most → k ≤ length text → IsUtf8 (take k text) → k ≤ n

-- ---- unfolding

-- the three bytes are CR, LF, and a space or a tab
abbrev pub is_fold : ℕ → ℕ → ℕ → Bool
is_fold a b c = (a == 13) && (b == 10) && ((c == 32) || (c == 9))

-- a text without its folds: each CR LF directly before a space or a tab is removed, together with this
-- space or tab
unfoldable pub unfolded : List ℕ → List ℕ
unfolded (a ∷ b ∷ c ∷ rest) = if is_fold a b c then unfolded rest else a ∷ unfolded (b ∷ c ∷ rest)
unfolded (a ∷ b ∷ []) = a ∷ b ∷ []
unfolded (a ∷ []) = a ∷ []
unfolded [] = []

-- ---- the lines of a text

-- the lines with the byte `octet` inserted before the first line; without lines, one line that has only
-- this byte
abbrev pub begun_with : ℕ → List (List ℕ) → List (List ℕ)
begun_with octet [] = (octet ∷ []) ∷ []
begun_with octet (line ∷ lines) = (octet ∷ line) ∷ lines

-- the lines of a text, each without the CR LF that ends it
unfoldable pub physical_lines : List ℕ → List (List ℕ)
physical_lines (a ∷ b ∷ rest) =
    if (a == 13) && (b == 10) then [] ∷ physical_lines rest else begun_with a (physical_lines (b ∷ rest))
physical_lines (a ∷ []) = (a ∷ []) ∷ []
physical_lines [] = []

-- each of `lines` has at most 75 bytes
abbrev pub AreShort : List (List ℕ) → Type 0
AreShort lines = All (λ line. length line ≤ 75) lines
