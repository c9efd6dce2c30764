-- The bytes of a response (RFC 9112, sections 4 and 6; RFC 9110, sections 8, 10 and 15).
use Rattle.std.specs.Prelude.{ℕ, Bool, if◌then◌else◌, List, [], ◌++◌, length, codes, decimal, Option, Some, None}
use Rattle.http_rows.specs.Rows.{ReplyRow, rejects, asks}
use Rattle.http_rows.specs.declared.code.Code.{Code}
use Rattle.http_rows.specs.declared.code.Code.TheVariants as code
use Rattle.http_rows.specs.declared.request_rejection.RequestRejection.{RequestRejection}
use Rattle.http_rows.specs.declared.request_rejection.RequestRejection.TheVariants.{
  HeadTooLarge,
  HeadCutShort,
  BadRequest,
  NotFound,
  RequiresGet,
  RequiresPost,
  LengthRequired,
  BodyTooLarge,
  BodyCutShort,
}

-- the text of a status code with its reason phrase, such as `200 OK`
unfoldable pub status_of : Code → List ℕ
status_of code.Success = codes "200 OK"
status_of code.BadRequest = codes "400 Bad Request"
status_of code.NotFound = codes "404 Not Found"
status_of code.MethodNotAllowed = codes "405 Method Not Allowed"
status_of code.LengthRequired = codes "411 Length Required"
status_of code.ContentTooLarge = codes "413 Content Too Large"
status_of code.Unprocessable = codes "422 Unprocessable Content"
status_of code.FieldsTooLarge = codes "431 Request Header Fields Too Large"
status_of code.Unavailable = codes "503 Service Unavailable"

-- the head of a response with status `code` and media type `kind`, for a body of `size` bytes; `allow` is
-- the line of allowed methods, with its CR LF, or empty
abbrev pub response_head : Code → List ℕ → List ℕ → ℕ → List ℕ
response_head code kind allow size =
    codes "HTTP/1.1 " ++ status_of code
    ++ codes "\r\nContent-Type: " ++ kind ++ codes "; charset=utf-8\r\nContent-Length: " ++ decimal size ++ codes "\r\n"
    ++ allow
    ++ codes "Connection: close\r\n\r\n"

-- the response with status `code`, media type `kind`, line of allowed methods `allow` (with its CR LF, or
-- empty) and `body`; if `is_head_request` is true, the body is left out, but Content-Length is still its
-- length
abbrev pub response : Code → List ℕ → List ℕ → List ℕ → Bool → List ℕ
response code kind allow body is_head_request = response_head code kind allow (length body) ++ (if is_head_request then [] else body)

-- ---- the fixed rows

-- the status code of the reply to a request that is rejected for each reason
unfoldable pub code_of : RequestRejection → Code
code_of HeadTooLarge = code.FieldsTooLarge
code_of HeadCutShort = code.BadRequest
code_of BadRequest = code.BadRequest
code_of NotFound = code.NotFound
code_of RequiresGet = code.MethodNotAllowed
code_of RequiresPost = code.MethodNotAllowed
code_of LengthRequired = code.LengthRequired
code_of BodyTooLarge = code.ContentTooLarge
code_of BodyCutShort = code.BadRequest

-- the body of the reply to a request that is rejected for each reason
unfoldable pub body_of : RequestRejection → List ℕ
body_of HeadTooLarge = codes "header fields too large\n"
body_of HeadCutShort = codes "bad request\n"
body_of BadRequest = codes "bad request\n"
body_of NotFound = codes "not found\n"
body_of RequiresGet = codes "method not allowed\n"
body_of RequiresPost = codes "method not allowed\n"
body_of LengthRequired = codes "length required\n"
body_of BodyTooLarge = codes "content too large\n"
body_of BodyCutShort = codes "bad request\n"

-- the line of allowed methods, with its CR LF, in the reply to a request that is rejected for each
-- reason, or no bytes
unfoldable pub allow_of : RequestRejection → List ℕ
allow_of RequiresGet = codes "Allow: GET, HEAD\r\n"
allow_of RequiresPost = codes "Allow: POST\r\n"
allow_of HeadTooLarge = []
allow_of HeadCutShort = []
allow_of BadRequest = []
allow_of NotFound = []
allow_of LengthRequired = []
allow_of BodyTooLarge = []
allow_of BodyCutShort = []

-- the reply to a request that is rejected for the reason `rejection`: a fixed text; if `is_head_request`,
-- without its body
abbrev pub rejection_of : RequestRejection → Bool → List ℕ
rejection_of rejection is_head_request =
    response (code_of rejection) (codes "text/plain") (allow_of rejection) (body_of rejection) is_head_request

-- the reply to a row's request if the row rejects it, or None if the predictor of tides answers it
abbrev pub fixed_of : ReplyRow → Option (List ℕ)
fixed_of (rejects rejection is_head_request) = Some (rejection_of rejection is_head_request)
fixed_of (asks asking) = None

-- ---- out of memory

-- the reply to a row's request has no body, because the request's method is HEAD
abbrev pub is_bodiless : ReplyRow → Bool
is_bodiless (rejects rejection is_head_request) = is_head_request
is_bodiless (asks asking) = asking.is_head_request

-- the reply with status 503 (Service Unavailable), which replaces any other reply if memory runs out; if
-- `is_head_request`, without its body
abbrev pub unavailable_to : Bool → List ℕ
unavailable_to is_head_request = response code.Unavailable (codes "text/plain") [] (codes "no memory\n") is_head_request

-- the reply to a row's request with status 503 (Service Unavailable), which replaces any other reply if
-- memory runs out
abbrev pub unavailable_of : ReplyRow → List ℕ
unavailable_of row = unavailable_to (is_bodiless row)
