-- The server's types as values of the definitions, and facts about them (this project).
use Rattle.std.specs.Prelude.{◌≤◌, length}
use Rattle.http_rows.specs.Heads as heads
use Rattle.http_rows.specs.Paths.{text_of}
use Rattle.http_rows.specs.Rows as rows
use Rattle.http_rows.specs.declared.asking.Asking.{Asking}
use Rattle.http_rows.specs.declared.head.Head.{Head}
use Rattle.http_rows.specs.declared.head.Occurs.{Occurs}
use Rattle.http_rows.specs.declared.reply_row.ReplyRow.{ReplyRow}
use Rattle.http_rows.specs.declared.limits.TheConstants.{MOST_BODY}
use Rattle.http_rows.specs.declared.reply_row.ReplyRow.TheVariants.{Rejects, Asks}

-- the program's record of the fields with one name (their number and the first value) as the definitions'
-- record
abbrev pub occurs_seen : Occurs → heads.Occurs
occurs_seen o = record { count = o.count; first = o.first.now }

-- the program's record of a head (the parts that the server uses) as the definitions' record
abbrev pub head_seen : Head → heads.Head
head_seen h = record {
  method = h.method.now;
  target = h.target.now;
  minor = h.minor;
  host = occurs_seen h.host;
  content_length = occurs_seen h.content_length;
  transfer_coding = occurs_seen h.transfer_coding;
}

-- the program's record of a request for the predictor of tides as the definitions' record
abbrev pub asking_seen : Asking → rows.Asking
asking_seen a = record { path = text_of a.path; query = a.query.now; body = a.body.now; is_head_request = a.is_head_request }

-- the program's row of the table of HTTP statuses as the definitions' row
abbrev pub row_seen : ReplyRow → rows.ReplyRow
row_seen (Rejects rejection is_head_request) = rows.rejects rejection is_head_request
row_seen (Asks asking) = rows.asks (asking_seen asking)

-- the body of a request that the predictor of tides answers has at most MOST_BODY (4,194,304) bytes
abbrev pub IsAsking : rows.Asking → Type 0
IsAsking a = length a.body ≤ MOST_BODY

-- if the row says that the predictor of tides answers the request, the body has at most MOST_BODY
-- (4,194,304) bytes
abbrev pub IsAskingRow : rows.ReplyRow → Type 0
IsAskingRow (rows.rejects rejection is_head_request) = Unit {0}
IsAskingRow (rows.asks asking) = IsAsking asking
