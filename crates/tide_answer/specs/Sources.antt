-- An answer with a station's events, by when its text is made (this project).
use Rattle.std.specs.Prelude.{true, false}
use Rattle.tide_answer.specs.declared.events_answer.Source.{Source}
use Rattle.tide_answer.specs.declared.events_answer.Source.TheVariants.{Stream, Whole}
use Rattle.tide_answer.specs.FoundAnswers.{FoundAnswer}

-- the answer of a `Source`, and whether it is streamed
abbrev pub found_in : Source → FoundAnswer
found_in (Stream answer) = record { answer = answer; streams = true }
found_in (Whole found) = record { answer = found.answer; streams = false }
