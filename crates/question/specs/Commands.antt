-- The commands and their names (this project).
use Rattle.std.specs.Prelude.{ℕ, Bool, true, ◌&&◌, List, [], ◌∷◌, codes, Option}
use Rattle.std.specs.List.{find, list_any}
use Rattle.std.specs.Str.{bytes_eq}
use Rattle.question.specs.declared.command.Command.{Command}
use Rattle.question.specs.declared.command.Command.TheVariants.{
  Predict,
  Certify,
  Check,
  Heights,
  Calendar,
  Clock,
  Stations,
  Sample,
  Trial,
  Serve,
  Report,
  Highest,
  Peak,
  PeakCheck,
  About,
}
use Rattle.question.specs.declared.origin.Origin.{Origin}
use Rattle.question.specs.declared.origin.Origin.TheVariants.{Line, Query}

-- All commands.
abbrev pub all_commands : List Command
all_commands =
    Predict ∷ Certify ∷ Check ∷ Heights ∷ Calendar ∷ Clock ∷ Stations ∷ Sample ∷ Trial ∷ Serve ∷ Report ∷ Highest ∷ Peak
    ∷ PeakCheck ∷ About ∷ []

-- the commands that the web server has a path for
abbrev pub with_path : List Command
with_path = Predict ∷ Certify ∷ Check ∷ Heights ∷ Calendar ∷ Clock ∷ Stations ∷ []

-- The name of each command, as it is written in a command line.
abbrev pub word_of : Command → List ℕ
word_of Predict = codes "predict"
word_of Certify = codes "certify"
word_of Check = codes "check"
word_of Heights = codes "heights"
word_of Calendar = codes "calendar"
word_of Clock = codes "clock"
word_of Stations = codes "stations"
word_of Sample = codes "sample"
word_of Trial = codes "trial"
word_of Serve = codes "serve"
word_of Report = codes "report"
word_of Highest = codes "highest"
word_of Peak = codes "peak"
word_of PeakCheck = codes "peakcheck"
word_of About = codes "about"

-- True if the command is in the list. Commands are compared by their names.
abbrev pub is_among : List Command → Command → Bool
is_among commands command = list_any (λ c. bytes_eq (word_of c) (word_of command)) commands

-- True if a question of this origin can have the command: a command line can have each command, and
-- a web query each command for which the web server has a path.
abbrev pub is_asked_in : Origin → Command → Bool
is_asked_in Line command = true
is_asked_in Query command = is_among with_path command

-- The command called `word`, or None if there isn't one or a question of this origin can't have it.
abbrev pub command_named : Origin → List ℕ → Option Command
command_named origin word = find (λ command. bytes_eq (word_of command) word && is_asked_in origin command) all_commands
