-- Answers that are streamed: written while they are computed (this project).
use Rattle.std.specs.Prelude.{◌≡◌, ℕ, ◌<◌, Bool, true, false, ◌&&◌, if◌then◌else◌, List, length, take, Some, None, Result, Ok, Err}
use Rattle.decimal_text.specs.Expected.{◌>>=◌}
use Rattle.harmonics_book.specs.declared.book.Book.{Book}
use Rattle.question.specs.declared.command.Command.{Command}
use Rattle.question.specs.declared.command.Command.TheVariants.{Predict, Certify}
use Rattle.question.specs.declared.layout.Layout.{Layout}
use Rattle.question.specs.declared.layout.Layout.TheVariants.{Plain}
use Rattle.question.specs.declared.question.Question.{Question}
use Rattle.station_table.specs.declared.basis.Basis.{Basis}
use Rattle.station_table.specs.declared.offsets.Offsets.{Offsets}
use Rattle.station_table.specs.Bases.{is_plain}
use Rattle.tide_edge.specs.declared.sink.writing.WriteFailed.{WriteFailed}
use Rattle.tide_edge.specs.SinkStates.{SinkState, put, sink_failed}
use Rattle.zone_time.specs.declared.zone.Zone.{Zone}
use Rattle.zone_time.specs.declared.zone.Zone.TheVariants as zones
use Rattle.tide_answer.specs.declared.inputs.Given.{Given}
use Rattle.station_span.specs.declared.purpose.Purpose.TheVariants.{Events}
use Rattle.tide_answer.specs.declared.ready.Ready.{Ready}
use Rattle.tide_fault.specs.declared.refusal.Refusal.{Refusal}
use Rattle.tide_answer.specs.declared.text.Answer.{Answer}
use Rattle.tide_answer.specs.Answers.{answered, named_by}
use Rattle.tide_answer.specs.Asking.{request_by_question}
use Rattle.station_span.specs.Sites.{site_in}

-- Bool: whether answers of a command can be streamed, that is, written while they are computed
abbrev pub can_stream : Command → Bool
can_stream Predict = true
can_stream Certify = true
can_stream _ = false

-- Bool: whether a layout is `plain`
abbrev pub is_plain_layout : Layout → Bool
is_plain_layout Plain = true
is_plain_layout _ = false

-- Bool: whether a zone was read from a zone file
abbrev pub is_zone_file : Zone → Bool
is_zone_file (zones.File file) = true
is_zone_file _ = false

-- Bool: whether an answer is streamed, that is, written while it is computed: its station has no
-- offsets, its layout is `plain`, and its zone wasn't read from a zone file
abbrev pub streams_by : Basis → Layout → Zone → Bool
streams_by basis layout zone =
    is_plain basis && (is_plain_layout layout && (if is_zone_file zone then false else true))

-- the prepared answer: `stream` has the answer if it is streamed, that is, written while it is computed,
-- and is None if not; or the first refusal
unfoldable pub prepared : Book → List Offsets → Question → Given → Result Ready Refusal
prepared book table question inputs = do
  answer ← answered book table question inputs
  name ← named_by question.station
  span_request ← named_by (request_by_question question)
  site ← site_in Events book table name span_request
  Ok (record { stream = if streams_by site.basis question.layout inputs.zone then Some answer else None })

-- the whole text of `answer` was written, and the result is the number of its cells; or a write failed,
-- and only the first `fault.sent` bytes were written (the arguments: sink before, sink after, answer,
-- result)
abbrev pub Streams : SinkState → SinkState → Answer → Result ℕ WriteFailed → Type 0
Streams before after answer (Ok cells) = (cells ≡ answer.cells) × (after ≡ put answer.text before)
Streams before after answer (Err fault) =
    (fault.sent < length answer.text) × (after ≡ sink_failed (put (take fault.sent answer.text) before))
