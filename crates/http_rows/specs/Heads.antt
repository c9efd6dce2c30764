-- The head of a request: its end, and the fields that the server uses (RFC 9112, sections 2 to 6).
use Rattle.std.specs.Prelude.{
  ◌≡◌,
  ℕ,
  ◌+◌,
  ◌<◌,
  ◌≤◌,
  ◌==◌,
  ◌&&◌,
  if◌then◌else◌,
  List,
  [],
  ◌∷◌,
  length,
  take,
  map,
  filter,
  count_by,
  Option,
  Some,
  None,
  is_some,
  codes,
}
use Rattle.std.specs.List.{starts_with}
use Rattle.std.specs.Option.{option_map}
use Rattle.std.specs.Str.{str_eq_ignore_ascii_case}
use Rattle.httparse.specs.Ascii.{line_feed, crlf_bytes}
use Rattle.httparse.specs.Grammar.{RequestHead, ReadsRequest}
use Rattle.httparse.specs.Spans.{name_and_value}
use Rattle.http_rows.specs.declared.limits.TheConstants.{MOST_FIELDS, MOST_HEAD}

-- the length of the empty line that the bytes begin with: 1 for LF, 2 for CR LF, or None if they don't
-- begin with one
unfoldable pub empty_line : List ℕ → Option ℕ
empty_line bytes =
    if starts_with (λ a b. a == b) bytes (line_feed ∷ []) then Some 1
    else (if starts_with (λ a b. a == b) bytes crlf_bytes then Some 2 else None)

-- the length in bytes of the head that the bytes begin with, which ends with the first empty line that
-- directly follows an LF; None if there is no such line
unfoldable pub head_length : List ℕ → Option ℕ
head_length [] = None
head_length (b ∷ bytes) =
    option_map (λ n. n + 1) (if b == line_feed && is_some (empty_line bytes) then empty_line bytes else head_length bytes)

-- the length in bytes of the head of a request, if it ends within MOST_HEAD (8,192) bytes, else None
abbrev pub head_end : List ℕ → Option ℕ
head_end request = head_length (take MOST_HEAD request)

-- the number of LF bytes among the bytes
abbrev pub line_feeds : List ℕ → ℕ
line_feeds bytes = count_by (λ b. b == line_feed) bytes

-- the fields of a head with one name: their number, and the value of the first of them (no bytes if there
-- is none)
pub record Occurs : Type 0 where
  pub count : ℕ
  pub first : List ℕ

-- the values of the fields called `name`, in order; names are compared without ASCII case, and a field is
-- a pair of name and value
abbrev pub values_of : List ℕ → List (List ℕ × List ℕ) → List (List ℕ)
values_of name fields = map (λ f. f.1) (filter (λ f. str_eq_ignore_ascii_case f.0 name) fields)

-- the first value in a list, or no bytes if the list is empty
abbrev pub first_or_empty : List (List ℕ) → List ℕ
first_or_empty [] = []
first_or_empty (value ∷ more) = value

-- the fields called `name`: their number, and the value of the first of them, or no bytes; a field is a
-- pair of name and value
abbrev pub occurs : List ℕ → List (List ℕ × List ℕ) → Occurs
occurs name fields =
    record { count = length (values_of name fields); first = first_or_empty (values_of name fields) }

-- the parts of a request's head that the server uses: method, target, minor version of HTTP/1.x, and the
-- fields Host, Content-Length and Transfer-Encoding
pub record Head : Type 0 where
  pub method : List ℕ
  pub target : List ℕ
  pub minor : ℕ
  pub host : Occurs
  pub content_length : Occurs
  pub transfer_coding : Occurs

-- the parts that the server uses of a head with this method, target, minor version of HTTP/1.x and fields
-- (pairs of name and value)
abbrev pub head_of : List ℕ → List ℕ → ℕ → List (List ℕ × List ℕ) → Head
head_of method target minor fields = record {
  method = method;
  target = target;
  minor = minor;
  host = occurs (codes "host") fields;
  content_length = occurs (codes "content-length") fields;
  transfer_coding = occurs (codes "transfer-encoding") fields;
}

-- The result of parsing `bytes` as a head: the parts that the server uses, if the bytes are, to the last
-- one, a request head of the grammar of `httparse` with at most MOST_FIELDS (64) fields; otherwise None.
abbrev pub ReadsAs : List ℕ → Option Head → Type 0
ReadsAs bytes None = (h : RequestHead) → ReadsRequest bytes h [] → MOST_FIELDS < length h.fields
ReadsAs bytes (Some head) =
    (h : RequestHead) × ReadsRequest bytes h [] × (length h.fields ≤ MOST_FIELDS)
    × (head ≡ head_of h.method h.target h.minor (map name_and_value h.fields))
