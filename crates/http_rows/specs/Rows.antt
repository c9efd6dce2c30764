-- The row of the table of statuses that applies to a request (RFC 9110, sections 9 and 15; RFC 9112,
-- sections 2, 3 and 6; the paths and the order are this project's).
use Rattle.std.specs.Prelude.{
  ◌≡◌,
  ℕ,
  ◌+◌,
  ◌==◌,
  nat_lt,
  nat_le,
  Bool,
  true,
  false,
  not,
  ◌&&◌,
  ◌||◌,
  if◌then◌else◌,
  List,
  [],
  ◌∷◌,
  ◌++◌,
  length,
  take,
  drop,
  Option,
  Some,
  None,
  is_none,
  unwrap_or,
  codes,
}
use Rattle.std.specs.List.{position_or_len, starts_with}
use Rattle.std.specs.Option.{option_map_or}
use Rattle.std.specs.Str.{bytes_eq}
use Rattle.decimal_text.specs.Digits.{digits_of}
use Rattle.http_rows.specs.Heads.{Head, head_end, line_feeds, ReadsAs}
use Rattle.http_rows.specs.Paths.{is_posted, path_named}
use Rattle.http_rows.specs.declared.limits.TheConstants.{MOST_BODY, MOST_DIGITS, MOST_HEAD, MOST_LINES}
use Rattle.http_rows.specs.declared.path.Path.{Path}
use Rattle.http_rows.specs.declared.request_rejection.RequestRejection.{RequestRejection}
use Rattle.http_rows.specs.declared.request_rejection.RequestRejection.TheVariants.{
  HeadTooLarge,
  HeadCutShort,
  BadRequest,
  NotFound,
  RequiresGet,
  RequiresPost,
  LengthRequired,
  BodyTooLarge,
  BodyCutShort,
}

-- the path of a request's target: the bytes before its first `?` (63), or all if there is none
abbrev pub path_of : List ℕ → List ℕ
path_of target = take (position_or_len (λ b. b == 63) target) target

-- the query of a request's target: the bytes after its first `?` (63), or no bytes if there is none
abbrev pub query_of : List ℕ → List ℕ
query_of target = drop (position_or_len (λ b. b == 63) target + 1) target

-- the path of a head's target, or None if the server has no such path
abbrev pub path_in : Head → Option Path
path_in head = path_named (path_of head.target)

-- the server has the path of this head, and serves it by GET and HEAD
abbrev pub requires_get : Head → Bool
requires_get head = option_map_or (λ path. not (is_posted path)) (path_in head) false

-- the server has the path of this head, and serves it by POST
abbrev pub requires_post : Head → Bool
requires_post head = option_map_or is_posted (path_in head) false

-- the method of this head is HEAD
abbrev pub is_head : Head → Bool
is_head head = bytes_eq head.method (codes "HEAD")

-- the method of this head is GET or HEAD
abbrev pub is_get_or_head : Head → Bool
is_get_or_head head = bytes_eq head.method (codes "GET") || is_head head

-- the method of this head is POST
abbrev pub is_post : Head → Bool
is_post head = bytes_eq head.method (codes "POST")

-- the length of the body in bytes that a head gives: the number in the only Content-Length, of 1 to
-- MOST_DIGITS (18) digits, if there is no Transfer-Encoding; otherwise None
abbrev pub length_in : Head → Option ℕ
length_in head =
    if nat_lt 1 head.content_length.count || nat_lt 0 head.transfer_coding.count then None
    else digits_of MOST_DIGITS head.content_length.first

-- the length of the body in bytes that a head gives, or 0 if it gives none
abbrev pub length_of : Head → ℕ
length_of head = unwrap_or (length_in head) 0

-- ---- the table, in its order

-- the rejections of a request with a head that doesn't end, in the order of the table of HTTP statuses,
-- each with the condition under which it applies
abbrev pub unended_rows : List ℕ → List (Bool × RequestRejection)
unended_rows request =
    (nat_le MOST_HEAD (length request), HeadTooLarge)
    ∷ (true, HeadCutShort)
    ∷ []

-- the rejections of a request by the lines of its head (`bytes`) and by the result `read` of parsing it,
-- in the order of the table of HTTP statuses, each with the condition under which it applies
abbrev pub head_rows : List ℕ → Option Head → List (Bool × RequestRejection)
head_rows bytes read =
    (nat_lt MOST_LINES (line_feeds bytes), HeadTooLarge)
    ∷ (is_none read, BadRequest)
    ∷ []

-- the rejections of a request by its head's fields, target, path, method and length of the body, in the
-- order of the table of HTTP statuses, each with the condition under which it applies
abbrev pub field_rows : Head → List (Bool × RequestRejection)
field_rows head =
    (nat_lt 1 head.host.count || (head.minor == 1 && (head.host.count == 0)), BadRequest)
    ∷ (not (starts_with (λ a b. a == b) head.target (codes "/")), BadRequest)
    ∷ (is_none (path_in head), NotFound)
    ∷ (requires_get head && not (is_get_or_head head), RequiresGet)
    ∷ (requires_post head && not (is_post head), RequiresPost)
    ∷ (is_post head && (head.content_length.count == 0), LengthRequired)
    ∷ (is_post head && is_none (length_in head), BadRequest)
    ∷ (is_post head && nat_lt MOST_BODY (length_of head), BodyTooLarge)
    ∷ []

-- the rejection of a request by `rest`, the bytes after its head, with its condition: a POST has fewer
-- bytes there than its head says
abbrev pub body_rows : Head → List ℕ → List (Bool × RequestRejection)
body_rows head rest =
    (is_post head && nat_lt (length rest) (length_of head), BodyCutShort)
    ∷ []

-- the first rejection in the list with a true condition, or None if no condition is true
abbrev pub first_row : List (Bool × RequestRejection) → Option RequestRejection
first_row [] = None
first_row (row ∷ rows) = if row.0 then Some row.1 else first_row rows

-- ---- the row that applies

-- a request that the predictor of tides answers: path, query and body, and whether the reply has no body
-- (the method is HEAD)
pub record Asking : Type 0 where
  pub path : List ℕ
  pub query : List ℕ
  pub body : List ℕ
  pub is_head_request : Bool

-- The row of the table of HTTP statuses that applies to a request: it rejects the request for a reason,
-- and the Bool is true if the reply has no body (the method is HEAD); or it asks the predictor of tides.
pub data ReplyRow : Type 0 where
  rejects : RequestRejection → Bool → ReplyRow
  asks : Asking → ReplyRow

-- the request for the predictor of tides with this head; a POST has its body at the start of `rest`, the
-- bytes after the head, and other requests have no body
abbrev pub asking : Head → List ℕ → Asking
asking head rest = record {
  path = path_of head.target;
  query = query_of head.target;
  body = (if is_post head then take (length_of head) rest else []);
  is_head_request = is_head head;
}

-- the row of the table of HTTP statuses for a request with a valid head, and with the bytes `rest` after
-- it: the rejection, if there is one, and otherwise the request for the predictor of tides
abbrev pub field_row : Option RequestRejection → Head → List ℕ → ReplyRow
field_row (Some rejection) head rest = rejects rejection (is_head head)
field_row None head rest = asks (asking head rest)

-- the row of the table of HTTP statuses for a request after the test of its head: the rejection by the
-- head, if there is one; BadRequest if the result `read` of parsing the head is None; otherwise the row
-- by the fields and by `rest`, the bytes after the head
abbrev pub head_row : Option RequestRejection → Option Head → List ℕ → ReplyRow
head_row (Some rejection) read rest = rejects rejection false
head_row None None rest = rejects BadRequest false
head_row None (Some head) rest = field_row (first_row (field_rows head ++ body_rows head rest)) head rest

-- the row of the table of HTTP statuses for a request with the head `bytes` and the bytes `rest` after
-- it; `read` is the result of parsing the head
abbrev pub ended_row : List ℕ → Option Head → List ℕ → ReplyRow
ended_row bytes read rest = head_row (first_row (head_rows bytes read)) read rest

-- the row of the table of HTTP statuses for a request with a head that doesn't end
abbrev pub unended_row : List ℕ → ReplyRow
unended_row request = head_row (first_row (unended_rows request)) None []

-- `row` is the row of the table of HTTP statuses that applies to a request with a head of `end` bytes, or
-- one that doesn't end (None)
abbrev pub IsRowAt : Option ℕ → List ℕ → ReplyRow → Type 0
IsRowAt None request row = row ≡ unended_row request
IsRowAt (Some end) request row =
    (read : Option Head) × ReadsAs (take end request) read × (row ≡ ended_row (take end request) read (drop end request))

-- `row` is the row of the table of HTTP statuses that applies to the bytes `request`
abbrev pub IsRow : List ℕ → ReplyRow → Type 0
IsRow request row = IsRowAt (head_end request) request row

-- further bytes of the request can't change this rejection: it isn't one because the head or the body was
-- cut short
abbrev pub is_settled_by : RequestRejection → Bool
is_settled_by HeadCutShort = false
is_settled_by BodyCutShort = false
is_settled_by HeadTooLarge = true
is_settled_by BadRequest = true
is_settled_by NotFound = true
is_settled_by RequiresGet = true
is_settled_by RequiresPost = true
is_settled_by LengthRequired = true
is_settled_by BodyTooLarge = true

-- further bytes of the request can't change which row of the table of HTTP statuses applies to it
abbrev pub is_settled : ReplyRow → Bool
is_settled (rejects rejection is_head_request) = is_settled_by rejection
is_settled (asks asking) = true
