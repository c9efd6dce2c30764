-- Short forms of questions, for examples: arguments with a space between them (this project).
use Rattle.std.specs.Prelude.{ℕ, ◌==◌, Bool, List, map, pos, Some, None, Result}
use Rattle.std.specs.List.{slice_split}
use Rattle.question.specs.declared.command.Command.{Command}
use Rattle.question.specs.declared.fault.AskFault.{AskFault}
use Rattle.question.specs.declared.origin.Origin.TheVariants.{Query}
use Rattle.question.specs.declared.layout.Layout.TheVariants.{Plain}
use Rattle.question.specs.declared.question.Question.{Question}
use Rattle.question.specs.declared.question.ZoneWord.TheVariants.{Utc}
use Rattle.question.specs.Questions.{question_of}
use Rattle.question.specs.Words.{item_of, pairs_of}

-- True if the byte is a space (32).
abbrev pub is_space : ℕ → Bool
is_space byte = byte == 32

-- The question of a command line, or its first fault. The arguments are separated by single spaces.
abbrev pub of_line : List ℕ → Result Question AskFault
of_line words = question_of (pairs_of (slice_split is_space words))

-- The question of a web query, or its first fault: of the command that its path names, and of its
-- pairs, each written as `key=value`.
abbrev pub of_query : List ℕ → List (List ℕ) → Result Question AskFault
of_query command words = question_of (record { origin = Query; command = Some command; items = map item_of words })

-- The question of the command in which no key is given: each field is the key's default, or None.
abbrev pub bare : Command → Question
bare command = record {
  command = command;
  file = None;
  offsets = None;
  certificate = None;
  station = None;
  begin = None;
  end = None;
  mark = None;
  step = pos 60;
  zone = Utc;
  layout = Plain;
  seed = None;
  port = 8080;
  sheets = None;
}
