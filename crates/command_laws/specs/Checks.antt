-- The output of `check` after `Accepted`, and the output of `predict` (this project).
use Rattle.std.specs.Prelude.{◌≡◌, ℕ, ℤ, List, ◌∷◌, codes, Result, Ok}
use Rattle.named_files.specs.declared.run_fault.RunFault.{RunFault}
use Rattle.named_files.specs.Readings.{zone_named}
use Rattle.question.specs.declared.command.Command.TheVariants.{Predict, Certify, Check}
use Rattle.question.specs.declared.layout.Layout.TheVariants.{Plain}
use Rattle.question.specs.declared.question.Question.{Question}
use Rattle.question.specs.declared.question.ZoneWord.TheVariants.{Utc}
use Rattle.report_sheets.specs.Sheets.{SheetSpec}
use Rattle.tide_answer.specs.declared.text.Answer.{Answer}
use Rattle.tide_answer.specs.Answers.{text_accepted}
use Rattle.tide_desk.specs.Answers.{answer_of, question_of_words}
use Rattle.tide_desk.specs.Laws.{Asks, AsksListing, HoldsCertificate, NameSameFiles, subject_of}
use Rattle.tide_edge.specs.FileStates.{Folder}
use Rattle.zone_time.specs.declared.zone.Zone.{Zone}

-- the answer of `predict` is a listing, and the answer of `check` is `Accepted` and then this listing
abbrev pub PrintsAccepted : Result Answer RunFault → Result Answer RunFault → Type 0
PrintsAccepted predicted checked = (listing : Answer) × (predicted ≡ Ok listing) × (checked ≡ Ok (text_accepted listing.text))

-- For a text that `certify` returned, `check` prints `Accepted`, and then what `predict` prints for the
-- certificate's station, span and mark, with the files and in the zone of the check. The folder of the
-- check may be another one with the same harmonic constants and table.
abbrev pub CheckShowsPredict : Type 0
CheckShowsPredict = (sheets : List SheetSpec) (before after : Folder) (minute later last : ℤ) (words more others : List (List ℕ))
    (certify check predict : Question) (certificate : Answer) (zone : Zone) →
    Asks sheets words Certify certify → answer_of sheets before minute words ≡ Ok certificate →
    Asks sheets more Check check → HoldsCertificate before after certify check certificate.text →
    zone_named after check.zone ≡ Ok zone →
    Asks sheets others Predict predict → AsksListing check (subject_of certify) predict →
    PrintsAccepted (answer_of sheets after last others) (answer_of sheets after later more)

-- if the command line `certify` followed by `arguments` is a request, then `predict` followed by these
-- arguments is one too, for the same station, span, mark and files, in universal time and with the
-- layout `plain`
abbrev pub TakesItsArguments : Type 0
TakesItsArguments = (sheets : List SheetSpec) (arguments : List (List ℕ)) (certify : Question) →
    question_of_words sheets (codes "certify" ∷ arguments) ≡ Ok certify →
    question_of_words sheets (codes "predict" ∷ arguments) ≡ Ok (record certify { command = Predict; zone = Utc; layout = Plain })

-- For a text that `certify` returned, `check` prints `Accepted`, and then what `predict` prints
-- with the arguments of `certify`, if the request to check names the same harmonics file and table,
-- and its zone is universal time.
abbrev pub CheckShowsSameArguments : Type 0
CheckShowsSameArguments = (sheets : List SheetSpec) (before after : Folder) (minute later last : ℤ) (arguments more : List (List ℕ))
    (certify check : Question) (certificate : Answer) →
    question_of_words sheets (codes "certify" ∷ arguments) ≡ Ok certify →
    answer_of sheets before minute (codes "certify" ∷ arguments) ≡ Ok certificate →
    Asks sheets more Check check → HoldsCertificate before after certify check certificate.text →
    NameSameFiles certify check → check.zone ≡ Utc →
    PrintsAccepted (answer_of sheets after last (codes "predict" ∷ arguments)) (answer_of sheets after later more)
