-- The answer over the contents of observable files and the minute of an observable clock, from the
-- transcripts and the law of files.
use Rattle.std.proofs.Common.{◌≡◌, ◌⊎◌, ℕ, ℤ, Bool, true, false, if◌then◌else◌, List, [], ◌∷◌, Option, Some, None, Result, Ok, Err, inl, inr, refl, sym, ap, ◌∙◌, le_refl, subst}
use Rattle.std.specs.Bool.{IsTrue}
use Rattle.std.specs.Prelude.{IfErr, IfSome, pos}
use Rattle.std.proofs.Math.Seq.{drop-append_seam, drop-length}
use Rattle.decimal_text.specs.Expected.{◌>>=◌, Excuses, Meets, memory, given}
use Rattle.question.specs.declared.question.Question.{Question}
use Rattle.report_sheets.specs.Sheets.{SheetSpec}
use Rattle.tide_answer.specs.declared.text.Answer.{Answer}
use Rattle.tide_edge.specs.Clocks.{ClockState, IsLawful, clock_after, next_minute}
use Rattle.tide_edge.specs.Faults.{Rose, counted}
use Rattle.tide_edge.specs.FaultSchedule.{answer}
use Rattle.tide_edge.specs.StoreLaws.{IsLawful as AreLawfulFiles}
use Rattle.tide_edge.specs.Whole.{Allowance}
use Rattle.tide_edge.proofs.ClockLemmas.{returned_next}
use Rattle.tide_fault.specs.declared.fault.Fault.{Fault}
use Rattle.tide_fault.specs.Faults.{is_out_of_memory as fault_is_out_of_memory, refusal_is_out_of_memory}
use Rattle.named_files.specs.declared.materials.Materials.{Materials}
use Rattle.named_files.specs.declared.run_fault.RunFault.{RunFault}
use Rattle.named_files.specs.declared.run_fault.RunFault.TheVariants.{Unread, Faulty, Refused}
use Rattle.named_files.specs.RunFaults.{faulty, refused_over, source_of}
use Rattle.named_files.specs.Opened.{AreShownFor, IsResultOf}
use Rattle.named_files.specs.Readings.{Folders, files_in}
use Rattle.named_files.proofs.OpenedLemmas.{shows_own_for}
use Rattle.named_files.proofs.ReadingLemmas.{excuses_weaker}
use Rattle.tide_desk.specs.Answers.{HasFiles, ReadsClock, answer_of, answer_from, answered_over_book, answered_over_file, answered_over_optional_file, given_with, is_report, question_of_words, reads_clock}
use Rattle.tide_desk.specs.Outcomes.{IsFirm, Sources, WentOn}
use Rattle.tide_desk.specs.Shown.{Agrees, IsReadLast, answer_shown, minute_given, names_wanted, readings_between, shown_by, shown_over}
use Rattle.tide_desk.specs.Workings.Settled.{IsSettled}
use Rattle.tide_desk.proofs.SettledLemmas.{never}

-- ---- The minute that the clock returned is its next one, or it returned none

-- the answers with what the clock returned and with its next minute are the same, or it has returned none
abbrev IsSame : Option ℤ → Result Answer RunFault → Result Answer RunFault → Type 0
IsSame returned shown own = (shown ≡ own) ⊎ ((shown ≡ Err Unread) × (returned ≡ None))

same_by : (read : Result Materials RunFault) (reads : Bool) (returned : Option ℤ) (minute : ℤ)
    (next : Materials → ℤ → Result Answer RunFault) → IfSome returned (λ m. m ≡ minute)
    → IsSame returned
    (read >>= λ r. (if reads then minute_given returned else Ok (pos 0)) >>= λ now. next r now)
    (read >>= λ r. next r (if reads then minute else pos 0))
same_by (Err none) reads returned minute next is = inl refl
same_by (Ok read) false returned minute next is = inl refl
same_by (Ok read) true (Some m) minute next is = inl (ap (next read) is)
same_by (Ok read) true None minute next is = inr (refl, refl)

same_over : (sheets : List SheetSpec) (folders : Folders) (returned : Option ℤ) (minute : ℤ) (question : Question) (name : List ℕ)
    → IfSome returned (λ m. m ≡ minute)
    → IsSame returned (shown_over sheets folders returned question name) (answered_over_file sheets folders minute question name)
unfolding shown_over answered_over_file
same_over sheets folders returned minute question name is =
    same_by (files_in folders question name) (reads_clock question.command) returned minute
    (λ read now. refused_over read.table (answered_over_book (is_report question.command) sheets read.book read.table question
    (given_with read now))) is

same_file : (sheets : List SheetSpec) (folders : Folders) (returned : Option ℤ) (minute : ℤ) (question : Question)
    (file : Option (List ℕ))
    → IfSome returned (λ m. m ≡ minute)
    → IsSame returned (shown_by sheets folders returned question file)
    (answered_over_optional_file sheets folders minute question file)
same_file sheets folders returned minute question None is = inl refl
same_file sheets folders returned minute question (Some name) is = same_over sheets folders returned minute question name is

same_asked : (sheets : List SheetSpec) (folders : Folders) (returned : Option ℤ) (minute : ℤ) (asked : Result Question Fault)
    → IfSome returned (λ m. m ≡ minute)
    → IsSame returned
    (faulty asked >>= λ question. shown_by sheets folders returned question question.file)
    (faulty asked >>= λ question. answered_over_optional_file sheets folders minute question question.file)
same_asked sheets folders returned minute (Ok question) is = same_file sheets folders returned minute question question.file is
same_asked sheets folders returned minute (Err fault) is = inl refl

same_answer : (sheets : List SheetSpec) (folders : Folders) (returned : Option ℤ) (minute : ℤ) (words : List (List ℕ))
    → IfSome returned (λ m. m ≡ minute)
    → IsSame returned
    (answer_shown sheets folders returned words) (answer_from sheets folders minute words)
unfolding answer_shown answer_from
same_answer sheets folders returned minute words is = same_asked sheets folders returned minute (question_of_words sheets words) is

-- ---- The expected result

abbrev unread_answer : Result Answer RunFault
unread_answer = Err Unread

inside : (firm also : Type 0) (out_of_memory : Bool) (own : Result Answer RunFault) (none : RunFault) → (none ≡ Unread → ⊥)
    → Excuses (if out_of_memory then memory else given) firm unread_answer none
    → Excuses (if out_of_memory then memory else given) also own none
inside firm also true own none other excuses = tt
inside firm also false own none other excuses = let same : unread_answer ≡ Err none = excuses in let one : none ≡ Unread = cc in absurd (other one)

-- a result is excused if the clock has failed
missed : (firm also : Type 0) (shown own result : Result Answer RunFault) → shown ≡ Err Unread
    → (also → ⊥) → Meets source_of firm shown result → Meets source_of also own result
missed firm also shown own (Ok answer) is failed meets = let never_both : unread_answer ≡ Ok answer = sym is ∙ meets in cc
missed firm also shown own (Err Unread) is failed meets = λ a. absurd (failed a)
missed firm also shown own (Err (Faulty fault)) is failed meets =
    inside firm also (fault_is_out_of_memory fault) own (Faulty fault) (λ e. absurd cc) (rw is at meets)
missed firm also shown own (Err (Refused refusal rows)) is failed meets =
    inside firm also (refusal_is_out_of_memory refusal) own (Refused refusal rows) (λ e. absurd cc) (rw is at meets)

weaker : (firm also : Type 0) (expected result : Result Answer RunFault) → (also → firm) → Meets source_of firm expected result
    → Meets source_of also expected result
weaker firm also expected (Ok answer) implies meets = meets
weaker firm also expected (Err none) implies meets = excuses_weaker also firm (source_of none) expected none implies meets

-- ---- What the clock returned, by the law of clocks

-- what an observable clock returned, if it was read only then: its next minute, or nothing, and then it has
-- failed
record IsGiven (asks : Type 0) (before after : ClockState) : Type 0 where
  given : Option ℤ
  agrees : Agrees given (readings_between before after)
  next : IfSome given (λ minute. minute ≡ next_minute before)
  missed : given ≡ None → asks × Rose before.faults after.faults

given_by : (asks : Type 0) (is_asked failed : Bool) (minute : ℤ) (before : ClockState)
    → IsLawful (if is_asked then clock_after (answer failed minute) before else before)
    → (IsTrue is_asked → asks × IsTrue before.is_observable) → (IsTrue failed → IsTrue is_asked)
    → IsGiven asks before (if is_asked then clock_after (answer failed minute) before else before)
given_by asks false failed minute before law asked failing = record {
  given = Some (next_minute before);
  agrees = subst (Agrees (Some (next_minute before))) (sym (drop-length before.readings)) tt;
  next = refl;
  missed = λ none. absurd (cc);
}
given_by asks true false minute before law asked failing = record {
  given = Some (next_minute before);
  agrees = subst (Agrees (Some (next_minute before))) (sym (drop-append_seam before.readings (Some minute ∷ [])))
      (ap Some (returned_next minute before law (asked refl).1));
  next = refl;
  missed = λ none. absurd (cc);
}
given_by asks true true minute before law asked failing = record {
  given = None;
  agrees = subst (Agrees None) (sym (drop-append_seam before.readings (None ∷ []))) refl;
  next = tt;
  missed = λ none. ((asked refl).0, le_refl (counted before.faults));
}

module _ (sheets : List SheetSpec) (words : List (List ℕ)) (before after : Sources) (result : Result Answer RunFault) (unread : Type 0)
    (lawful : AreLawfulFiles after.files) (file_contents : after.files.file_contents ≡ before.files.file_contents)
    (shown : (given : Option ℤ) → Agrees given (readings_between before.clock after.clock) → IsResultOf (names_wanted (question_of_words sheets words)) (AreShownFor (question_of_words sheets words))
    (λ folders. answer_shown sheets folders given words)
    before.files.open_log after.files.open_log result)
    (last : IsReadLast (ReadsClock (question_of_words sheets words)) unread (AreShownFor (question_of_words sheets words))
    (λ folders. HasFiles folders (question_of_words sheets words)) before after result)
    (observable : IsTrue before.files.file_contents.is_observable) where
  abbrev own : Folders
  own = λ slot. before.files.file_contents.folder

  abbrev asked : Result Question Fault
  asked = question_of_words sheets words

  last_shows : (firm : Bool) → (IsTrue firm → IsTrue before.files.file_contents.is_steady) → AreShownFor asked firm last.open_log own
  last_shows firm steady = shows_own_for asked firm last.open_log before.files after.files steady lawful file_contents last.all observable

  -- the result is the expected one over the contents
  pub own_answer : (failed : Bool) (allowed : Allowance) → WentOn failed (ReadsClock asked) allowed before after → IsLawful after.clock
      → (ReadsClock asked → IsTrue before.clock.is_observable)
      → Meets source_of (IsFirm (ReadsClock asked) before after)
      (answer_of sheets before.files.file_contents.folder (next_minute before.clock) words) result
  own_answer failed allowed went law readable =
      let clock : IsGiven (ReadsClock asked) before.clock after.clock =
      rw went.time
      (given_by (ReadsClock asked) went.is_asked went.clock went.minute before.clock (rw went.time at law)
      (λ is. (went.asked is, readable (went.asked is))) went.failed) in
      let steady = before.files.file_contents.is_steady in
      let is = shown clock.given clock.agrees in
      let shows = shows_own_for asked steady is.open_log before.files after.files (λ s. s) lawful file_contents is.all observable in
      let meets = is.answer steady own shows in
      elim (same_answer sheets own clock.given (next_minute before.clock) words clock.next) [
        | inl same ↦ weaker (IsTrue steady) (IsFirm (ReadsClock asked) before after) _ result (λ firm. firm.files) (rw same at meets)
        | inr t ↦ missed (IsTrue steady) (IsFirm (ReadsClock asked) before after) _ _ result t.0
            (λ firm. firm.clock (clock.missed t.1)) meets
      ]

  -- the clock is unchanged, unless all files can be read
  pub own_last : ¬ (HasFiles own asked) → unread
  own_last unheld = last.last own (last_shows false (λ f. never f)) unheld

  -- the clock was read once, if the files can be read and the command needs it
  pub own_once : ReadsClock asked → HasFiles own asked → IfErr result IsSettled
      → (minute : ℤ) × (after.clock ≡ clock_after (Ok minute) before.clock)
  own_once asks has settled = last.once own (last_shows false (λ f. never f)) has asks settled
