-- The reply to a request, with harmonic constants, a table of offsets and the present minute (this
-- project).
use Rattle.std.specs.Prelude.{◌≡◌, ℕ, ℤ, Bool, List, [], codes, is_some, Result, Ok, Err}
use Rattle.harmonics_book.specs.declared.book.Book.{Book}
use Rattle.question.specs.declared.fault.AskFault.{AskFault}
use Rattle.question.specs.declared.layout.Layout.{Layout}
use Rattle.question.specs.declared.question.Question.{Question}
use Rattle.question.specs.declared.question.ZoneWord.{ZoneWord}
use Rattle.question.specs.declared.question.ZoneWord.TheVariants as words
use Rattle.question.specs.Layouts.{media_type_of}
use Rattle.question.specs.Questions.{question_of}
use Rattle.station_table.specs.declared.offsets.Offsets.{Offsets}
use Rattle.tide_fault.specs.declared.fault.Fault.{Fault}
use Rattle.tide_fault.specs.declared.fault.Fault.TheVariants.{Ask, Refused}
use Rattle.tide_answer.specs.declared.inputs.Given.{Given}
use Rattle.tide_fault.specs.declared.refusal.Refusal.{Refusal}
use Rattle.tide_answer.specs.declared.text.Answer.{Answer}
use Rattle.tide_answer.specs.Answers.{answered}
use Rattle.tide_fault.specs.Faults.{line_of}
use Rattle.named_files.specs.Readings.{zone_file}
use Rattle.zone_time.specs.declared.zone.Zone.{Zone}
use Rattle.zone_time.specs.declared.zone.Zone.TheVariants.{Utc, Fixed}
use Rattle.http_rows.specs.declared.code.Code.{Code}
use Rattle.http_rows.specs.declared.code.Code.TheVariants as code
use Rattle.tide_server.specs.Queries.{pairs_of}
use Rattle.http_rows.specs.Responses.{response, rejection_of}
use Rattle.http_rows.specs.Rows.{ReplyRow, rejects, asks, Asking, IsRow}

-- Bool: whether a request's zone is a zone file
abbrev pub names_file : ZoneWord → Bool
names_file word = is_some (zone_file word)

-- the zone in which a query's answer shows local times; a query never names a zone file, so this case
-- counts as UTC
abbrev pub zone_of : ZoneWord → Zone
zone_of words.Utc = Utc
zone_of (words.Fixed minutes) = Fixed minutes
zone_of (words.Named name) = Utc

-- the inputs of a web request's answer: its zone, the present minute, and its body as the certificate to
-- be checked
abbrev pub given_with : Question → Asking → ℤ → Given
given_with question asking minute = record { zone = zone_of question.zone; certificate = asking.body; now = minute }

-- the HTTP reply with this status code and the line that reports a fault; without this body if the Bool,
-- whether the request is HEAD, is true
abbrev pub fault_reply : Code → List Offsets → Fault → Bool → List ℕ
fault_reply code table fault is_head_request = response code (codes "text/plain") [] (line_of table fault) is_head_request

-- the HTTP reply with an answer (status 200, also if it rejects a certificate) or with the line of a
-- refusal (422); without this body if the Bool, whether the request is HEAD, is true
unfoldable pub answer_reply : List Offsets → Layout → Result Answer Refusal → Bool → List ℕ
answer_reply table layout (Ok answer) is_head_request = response code.Success (media_type_of layout) [] answer.text is_head_request
answer_reply table layout (Err refusal) is_head_request = fault_reply code.Unprocessable table (Refused refusal) is_head_request

-- the HTTP reply to a web query: its answer at this minute, or status 400 and the fault if the query
-- isn't a request
unfoldable pub question_reply : Book → List Offsets → ℤ → Asking → Result Question AskFault → List ℕ
question_reply book table minute asking (Ok question) =
    answer_reply table question.layout (answered book table question (given_with question asking minute)) asking.is_head_request
question_reply book table minute asking (Err fault) = fault_reply code.BadRequest table (Ask fault) asking.is_head_request

-- the HTTP reply to a web query that no reply with a fixed text rejects, at this minute since
-- 1970-01-01T00:00Z
unfoldable pub asking_reply : Book → List Offsets → ℤ → Asking → List ℕ
asking_reply book table minute asking = question_reply book table minute asking (question_of (pairs_of asking))

-- the HTTP reply for a row of the table of HTTP statuses: a reply with a fixed text, or the answer to
-- the query
abbrev pub reply_of : Book → List Offsets → ℤ → ReplyRow → List ℕ
reply_of book table minute (rejects rejection is_head_request) = rejection_of rejection is_head_request
reply_of book table minute (asks asking) = asking_reply book table minute asking

-- `reply` is the HTTP reply to `request`, the bytes of a whole request, at this minute
abbrev pub IsReply : Book → List Offsets → ℤ → List ℕ → List ℕ → Type 0
IsReply book table minute request reply = (row : ReplyRow) × IsRow request row × (reply ≡ reply_of book table minute row)
