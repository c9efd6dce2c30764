-- Answers that can be written.
use Rattle.std.specs.Prelude.{Bool, true, false, Result, Ok, Err, is_some}
use Rattle.tide_answer.specs.declared.ready.Ready.{Ready}
use Rattle.tide_answer.specs.declared.text.Answer.{Answer}
use Rattle.tide_desk.specs.declared.body.Body.{Body}
use Rattle.tide_desk.specs.declared.body.Body.TheVariants.{Text, Stream}

-- the answer of a `Body`, either a text in memory or one that is computed while it is written
abbrev pub answer_in : Body → Answer
answer_in (Text answer) = answer
answer_in (Stream answer) = answer

-- the result with the answer of its `Body`, or the same error
abbrev pub answer_by : {E : Type 0} → Result Body E → Result Answer E
answer_by (Ok body) = Ok (answer_in body)
answer_by (Err fault) = Err fault

-- Bool: whether an answer is computed while it is written, and not a text in memory
abbrev pub is_stream : Body → Bool
is_stream (Text answer) = false
is_stream (Stream answer) = true

-- Bool: whether a prepared answer is streamed (computed while it is written); false for an error
abbrev pub is_streaming : {E : Type 0} → Result Ready E → Bool
is_streaming (Ok ready) = is_some ready.stream
is_streaming (Err fault) = false
