-- Commands are the same if their names are.
use Rattle.std.proofs.Common.{◌≡◌, refl, ap, Some}
use Rattle.question.specs.declared.command.Command.{Command}
use Rattle.question.specs.declared.command.Command.TheVariants.{Predict, Certify, Check, Heights, Calendar, Clock, Stations, Sample, Trial, Serve, Report, Highest, Peak, PeakCheck, About}
use Rattle.question.specs.declared.origin.Origin.TheVariants.{Line}
use Rattle.question.specs.Commands.{word_of, command_named}

-- a command is found by its name
pub command_named-word_of : (c : Command) → command_named Line (word_of c) ≡ Some c
command_named-word_of Predict = refl
command_named-word_of Certify = refl
command_named-word_of Check = refl
command_named-word_of Heights = refl
command_named-word_of Calendar = refl
command_named-word_of Clock = refl
command_named-word_of Stations = refl
command_named-word_of Sample = refl
command_named-word_of Trial = refl
command_named-word_of Serve = refl
command_named-word_of Report = refl
command_named-word_of Highest = refl
command_named-word_of Peak = refl
command_named-word_of PeakCheck = refl
command_named-word_of About = refl

pub word_of_one : (c d : Command) → word_of c ≡ word_of d → c ≡ d
word_of_one c d e = cc (command_named-word_of c, command_named-word_of d, ap (command_named Line) e)
