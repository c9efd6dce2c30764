-- The text after `Accepted` is what `predict` prints.
use Rattle.std.proofs.Common.{◌≡◌, ◌∷◌, Ok, refl, sym, ap, ◌∙◌}
use Rattle.std.specs.Prelude.{codes}
use Rattle.question.specs.declared.command.Command.TheVariants.{Predict}
use Rattle.question.specs.declared.layout.Layout.TheVariants.{Plain}
use Rattle.question.specs.declared.question.Question.{Question}
use Rattle.question.specs.declared.question.ZoneWord.TheVariants.{Utc}
use Rattle.zone_time.specs.declared.zone.Zone.TheVariants as zones
use Rattle.named_files.specs.Readings.{zone_named}
use Rattle.tide_desk.specs.Laws.{AcceptsWhatCertifyAnswers}
use Rattle.tide_edge.specs.FileStates.{Folder}
use Rattle.command_laws.specs.Checks.{CheckShowsPredict, CheckShowsSameArguments}
use Rattle.command_laws.proofs.ArgumentLemmas.{certify_asked, takes_its_arguments}

pub shows_predict : AcceptsWhatCertifyAnswers → CheckShowsPredict
shows_predict accepts sheets before after minute later last words more others certify check predict certificate zone
    asks ok asks_check holds shown asks_predict lists =
    let answer = accepts sheets before after minute later words more certify check certificate zone asks ok asks_check holds shown in
    let listing = answer.2 in
    (listing.shown, listing.to_words last others predict asks_predict.asked lists, answer.1 ∙ ap Ok listing.text)

universal : (folder : Folder) → zone_named folder Utc ≡ Ok zones.Utc
unfolding zone_named
universal folder = refl

pub shows_same_arguments : AcceptsWhatCertifyAnswers → CheckShowsSameArguments
shows_same_arguments accepts sheets before after minute later last arguments more certify check certificate asked ok
    asks_check holds files utc =
    let predict : Question = record certify { command = Predict; zone = Utc; layout = Plain } in
    shows_predict accepts sheets before after minute later last (codes "certify" ∷ arguments) more
    (codes "predict" ∷ arguments) certify check predict certificate zones.Utc
    (record { asked = asked; is = certify_asked sheets arguments certify asked }) ok asks_check holds
    (ap (zone_named after) utc ∙ universal after)
    (record { asked = takes_its_arguments sheets arguments certify asked; is = refl })
    (record { command = refl; files = record { file = files.file; offsets = files.offsets }; about = refl; zone = sym utc; layout = refl })
