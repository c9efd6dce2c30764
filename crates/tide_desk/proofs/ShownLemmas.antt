-- The end of a run by what it opened.
use Rattle.std.proofs.Common.{◌≡◌, ◌∙◌, ap, ℕ, ℤ, true, false, List, [], ◌∷◌, ◌++◌, map, append-nil, append_assoc, Option, Some, None, Result, Ok, Err, inl, refl, sym}
use Rattle.std.specs.Bool.{IsTrue}
use Rattle.decimal_text.specs.Expected.{Excused, Meets}
use Rattle.named_files.specs.declared.run_fault.RunFault.{RunFault}
use Rattle.named_files.specs.RunFaults.{is_out_of_memory, source_of}
use Rattle.named_files.specs.Opened.{AreShownFor, IsResultOf, failing_file}
use Rattle.named_files.specs.Reporting.{Reports}
use Rattle.named_files.proofs.OpenedLemmas.{shows_itself_for, up_to}
use Rattle.named_files.proofs.SettledLemmas.{reported_settles}
use Rattle.question.specs.declared.question.Question.{Question}
use Rattle.report_sheets.specs.Sheets.{SheetSpec}
use Rattle.tide_answer.specs.declared.text.Answer.{Answer}
use Rattle.tide_edge.specs.SinkStates.{Wrote}
use Rattle.tide_fault.specs.declared.fault.Fault.{Fault}
use Rattle.tide_fault.specs.declared.slot.Slot.{Slot}
use Rattle.tide_fault.specs.declared.status.Status.{Status}
use Rattle.tide_desk.specs.Answers.{question_of_words}
use Rattle.tide_desk.specs.Outcomes.{EndsAs, Outputs, Sources}
use Rattle.tide_desk.specs.Shown.{Agrees, EndsAsShown, answer_by, answer_shown, folders_by, first_minute, given_between, names_by, names_wanted}
use Rattle.tide_desk.proofs.OutcomeLemmas.{ends_reported, own_excused}

-- ---- The names up to a fault are the first of all

wider_by : (question : Question) (file : Option (List ℕ)) (why : Option Slot)
    → (more : List (List ℕ)) × (names_by question file None ≡ names_by question file why ++ more)
wider_by question None why = ([], refl)
wider_by question (Some name) None = ([], sym (append-nil (names_by question (Some name) None)))
wider_by question (Some name) (Some slot) = up_to name question slot

wider : (asked : Result Question Fault) (why : Option Slot)
    → (more : List (List ℕ)) × (names_wanted asked None ≡ names_wanted asked why ++ more)
wider (Ok question) why = wider_by question question.file why
wider (Err fault) why = ([], refl)

-- ---- The end

-- the minute that the clock returned agrees with its readings
pub first_agrees : (readings : List (Option ℤ)) → Agrees (first_minute readings) readings
first_agrees [] = tt
first_agrees (reading ∷ more) = refl

-- the answer by the openings is an expected one
by_openings : (sheets : List SheetSpec) (words : List (List ℕ)) (before after : Sources) (result : Result Answer RunFault)
    (shown : IsResultOf (names_wanted (question_of_words sheets words)) (AreShownFor (question_of_words sheets words))
    (λ folders. answer_shown sheets folders (given_between before.clock after.clock) words)
    before.files.open_log after.files.open_log result)
    → Meets source_of (IsTrue true) (answer_by sheets words shown.open_log before.clock after.clock) result
by_openings sheets words before after result shown =
    shown.answer true (folders_by (question_of_words sheets words) shown.open_log)
    (shows_itself_for (question_of_words sheets words) shown.open_log (folders_by (question_of_words sheets words) shown.open_log)
    (λ question is. ap (λ asked. folders_by asked shown.open_log) is))

pub shown_answered : (sheets : List SheetSpec) (words : List (List ℕ)) (before after : Sources) (answer : Answer) (status : Status)
    (unwritten written : Outputs)
    → IsResultOf (names_wanted (question_of_words sheets words)) (AreShownFor (question_of_words sheets words))
    (λ folders. answer_shown sheets folders (given_between before.clock after.clock) words)
    before.files.open_log after.files.open_log (Ok answer)
    → ((expected : Result Answer RunFault) → expected ≡ Ok answer → EndsAs expected status unwritten written)
    → EndsAsShown sheets words before after status unwritten written
shown_answered sheets words before after answer status unwritten written shown ends =
    let is = by_openings sheets words before after (Ok answer) shown in
    record {
      open_log = shown.open_log;
      all = shown.all;
      unopened = shown.unopened;
      names = shown.names;
      last = λ other. (shown.unopened, rw is shown.names);
      ends = ends (answer_by sheets words shown.open_log before.clock after.clock) is;
    }

pub shown_refused : (sheets : List SheetSpec) (words : List (List ℕ)) (before after : Sources) (none : RunFault) (status : Status)
    (unwritten written : Outputs)
    → IsResultOf (names_wanted (question_of_words sheets words)) (AreShownFor (question_of_words sheets words))
    (λ folders. answer_shown sheets folders (given_between before.clock after.clock) words)
    before.files.open_log after.files.open_log (Err none)
    → Wrote unwritten.out written.out false [] → Reports none status unwritten.err written.err
    → EndsAsShown sheets words before after status unwritten written
shown_refused sheets words before after none status unwritten written shown quiet reported =
    let meets = by_openings sheets words before after (Err none) shown in
    let expected : Result Answer RunFault = answer_by sheets words shown.open_log before.clock after.clock in
    let returned : Excused (is_out_of_memory none) expected none = own_excused (IsTrue true) expected none meets (inl refl) in
    let to = wider (question_of_words sheets words) (failing_file {T = Answer} (Err none)) in
    record {
      open_log = shown.open_log;
      all = shown.all;
      unopened = shown.unopened ++ to.0;
      names = to.1 ∙ ap (λ n. n ++ to.0) shown.names ∙ append_assoc (map (λ o. o.name) shown.open_log) shown.unopened to.0;
      last = λ other.
          (shown.unopened, rw (reported_settles expected none status unwritten.err written.err meets reported other) shown.names);
      ends = ends_reported expected none status unwritten written returned quiet reported;
    }
