-- The zone of a query is no file.
use Rattle.std.proofs.Common.{◌≡◌, ℕ, ℤ, Bool, true, false, List, Option, Some, None, refl}
use Rattle.std.specs.Prelude.{if◌then◌else◌, option_and_then, unwrap_or, codes, drop, IfOk, Result, Ok, Err}
use Rattle.std.specs.Option.{option_map, option_or}
use Rattle.std.specs.Str.{bytes_eq}
use Rattle.decimal_text.specs.Expected.{◌>>=◌, EqualsUnlessNoMemory}
use Rattle.question.specs.declared.command.Command.{Command}
use Rattle.question.specs.declared.fault.AskFault.{AskFault}
use Rattle.question.specs.declared.key.Key.TheVariants as key
use Rattle.question.specs.declared.origin.Origin.TheVariants.{Query}
use Rattle.question.specs.declared.pairs.Item.{Item}
use Rattle.question.specs.declared.question.Question.{Question}
use Rattle.question.specs.declared.question.ZoneWord.{ZoneWord}
use Rattle.question.specs.declared.question.ZoneWord.TheVariants.{Utc, Fixed}
use Rattle.question.specs.Commands.{command_named}
use Rattle.question.specs.Forms.{after, file_zone, offset_of, zone_of}
use Rattle.question.specs.Questions.{KeyTexts, is_out_of_memory, question_from, command_of, complete, missing_key, no_key_texts, question_of, question_with, with_items}
use Rattle.http_rows.specs.Rows.{Asking}
use Rattle.tide_server.specs.Queries.{items_of, pairs_of}
use Rattle.tide_server.specs.Replies.{names_file}

abbrev pub names : Option ZoneWord → Bool
names None = false
names (Some word) = names_file word

fixed_alone : (minutes : Option ℤ) → names (option_map Fixed minutes) ≡ false
fixed_alone None = refl
fixed_alone (Some minutes) = refl

no_name : (file : Option (List ℕ)) (minutes : Option ℤ)
    → names (option_or (option_and_then (file_zone Query) file) (option_map Fixed minutes)) ≡ false
no_name None minutes = fixed_alone minutes
no_name (Some name) minutes = fixed_alone minutes

no_file : (utc : Bool) (file : Option (List ℕ)) (minutes : Option ℤ)
    → names (if utc then Some Utc else option_or (option_and_then (file_zone Query) file) (option_map Fixed minutes)) ≡ false
no_file true file minutes = refl
no_file false file minutes = no_name file minutes

form_names_none : (text : List ℕ) → names (zone_of Query text) ≡ false
unfolding zone_of
form_names_none text = no_file (bytes_eq text (codes "UTC")) (after 64 text) (offset_of text)

or_utc : (word : Option ZoneWord) → names word ≡ false → names_file (unwrap_or word Utc) ≡ false
or_utc None none = refl
or_utc (Some word) none = none

field_names_none : (said : Option (List ℕ)) → names_file (unwrap_or (option_and_then (zone_of Query) said) Utc) ≡ false
field_names_none None = refl
field_names_none (Some text) = or_utc (zone_of Query text) (form_names_none text)

of_whole : (command : Command) (said : KeyTexts) (whole : Result (Unit {0}) AskFault) (question : Question)
    → (whole >>= λ w. Ok (question_from Query command said)) ≡ Ok question → names_file question.zone ≡ false
of_whole command said (Ok w) question is =
    let same : question_from Query command said ≡ question = cc in rw (← same) (field_names_none (said key.Zone))
of_whole command said (Err fault) question is = absurd (cc)

of_said : (command : Command) (said : Result KeyTexts AskFault) (question : Question)
    → (said >>= λ s. complete (missing_key Query command s) >>= λ w. Ok (question_from Query command s)) ≡ Ok question
    → names_file question.zone ≡ false
of_said command (Ok s) question is = of_whole command s (complete (missing_key Query command s)) question is
of_said command (Err fault) question is = absurd (cc)

items_name_no_file : (command : Command) (items : List Item) (question : Question)
    → question_with Query command items ≡ Ok question → names_file question.zone ≡ false
items_name_no_file command items question is = of_said command (with_items Query command 1 items no_key_texts) question is

of_command : (command : Result Command AskFault) (items : List Item) (question : Question)
    → (command >>= λ c. question_with Query c items) ≡ Ok question → names_file question.zone ≡ false
of_command (Ok c) items question is = items_name_no_file c items question is
of_command (Err fault) items question is = absurd (cc)

pub query_names_no_file : (command : Option (List ℕ)) (items : List Item) (question : Question)
    → question_of record { origin = Query; command = command; items = items } ≡ Ok question → names_file question.zone ≡ false
unfolding question_of
query_names_no_file command items question is = of_command (command_of Query command) items question is

pub read_names_no_file : (command : Command) (items : List Item) (result : Result Question AskFault)
    → EqualsUnlessNoMemory is_out_of_memory (question_with Query command items) result
    → IfOk result (λ question. names_file question.zone ≡ false)
read_names_no_file command items (Ok question) is = items_name_no_file command items question is
read_names_no_file command items (Err fault) is = tt

-- the question of a request's path and query
pub question_at : (asking : Asking) (command : Command) → command_named Query (drop 1 asking.path) ≡ Some command
    → question_of (pairs_of asking) ≡ question_with Query command (items_of asking.query)
unfolding question_of
question_at asking command named = rw named refl
