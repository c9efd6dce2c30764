-- The request about a station that a question makes.
use Rattle.std.specs.Prelude.{Result, Ok}
use Rattle.decimal_text.specs.Expected.{◌>>=◌}
use Rattle.question.specs.declared.question.Question.{Question}
use Rattle.station_span.specs.Sites.{NamedSpan}
use Rattle.tide_fault.specs.declared.refusal.Refusal.{Refusal}
use Rattle.tide_answer.specs.Answers.{named_by}
use Rattle.tide_answer.specs.Asking.{request_by_question}

-- the station's name, the span and the mark of a question, or the refusal if the name or the span is
-- missing
unfoldable pub named_span : Question → Result NamedSpan Refusal
named_span question = do
  name ← named_by question.station
  span_request ← named_by (request_by_question question)
  Ok (record { name = name; span_request = span_request })
