-- The next run accepts what one run has written.
use Rattle.std.proofs.Common.{◌≡◌, ◌∙◌, ℕ, ℤ, ◌++◌, false, List, [], Option, Some, Result, Ok, Err, inr, refl, subst, sym, ap, pos}
use Rattle.std.specs.Result.{IsOkAnd}
use Rattle.named_files.specs.declared.materials.Materials.{Materials}
use Rattle.named_files.specs.declared.run_fault.RunFault.{RunFault}
use Rattle.named_files.specs.RunFaults.{refused_over}
use Rattle.named_files.specs.Readings.{Folders, book_named, certificate_named, files_in, table_named, zone_named}
use Rattle.question.specs.declared.command.Command.{Command}
use Rattle.question.specs.declared.command.Command.TheVariants.{Certify, Check, Peak, PeakCheck}
use Rattle.question.specs.declared.question.Question.{Question}
use Rattle.report_sheets.specs.Sheets.{SheetSpec}
use Rattle.station_span.specs.declared.span_request.SpanRequest.{SpanRequest}
use Rattle.decimal_text.proofs.ExpectedLemmas.{then_ok}
use Rattle.tide_answer.specs.declared.text.Answer.{Answer}
use Rattle.tide_answer.specs.Answers.{answered, certified, checked, peak_certified, peak_checked, text_by}
use Rattle.tide_answer.specs.Laws as books
use Rattle.tide_answer.specs.PeakLaws as peaks
use Rattle.tide_edge.specs.Clocks.{next_minute}
use Rattle.tide_edge.specs.SinkStates.{SinkState, put}
use Rattle.tide_fault.specs.declared.slot.Slot.TheVariants as slots
use Rattle.zone_time.specs.declared.zone.Zone.{Zone}
use Rattle.tide_desk.specs.Answers.{ReadsClock, question_of_words, reads_clock, given_with, is_report}
use Rattle.tide_desk.specs.Completeness.{answer_held, folder_held}
use Rattle.tide_desk.specs.Laws.{Asks, AcceptsWithListing, AcceptsWhatCertifyAnswers, HoldsCertificate, Subject, subject_of}
use Rattle.tide_desk.specs.Outcomes.{text_with}
use Rattle.tide_desk.specs.PassedOn.{IsDone, ChecksWhatWasCertified, ChecksWhatPeakCertified, IsPassedOn, AcceptsSubject, AcceptsPeakOf, ChecksWhatCame, ChecksPeakThatCame}
use Rattle.tide_desk.specs.PeakLaws.{AcceptsWithHighest, AcceptsWhatPeakAnswers}
use Rattle.tide_desk.specs.Promises.{Objects, States}
use Rattle.tide_desk.specs.Shown.{answer_shown, folders_by, given_between, shown_over}
use Rattle.tide_desk.proofs.AskedLemmas.{NamesSpan, asked_in_range, is_requestable, went_over_span}
use Rattle.tide_desk.proofs.CheckingLemmas.{GoesOver, Makes}
use Rattle.tide_desk.proofs.CompletenessLemmas.{accepting, accepting_by, ends_by_what_came}
use Rattle.tide_desk.proofs.FileLemmas.{named_book, named_table, unrefused}
use Rattle.tide_desk.proofs.SettledLemmas.{never}

-- ---- By the contents of the files

clock_unread : (sheets : List SheetSpec) (words : List (List ℕ)) (command : Command) (question : Question) → reads_clock command ≡ false
    → Asks sheets words command question → ¬ (ReadsClock (question_of_words sheets words))
clock_unread sheets words command question none asks clock = never (rw (asks.is, none) at (rw asks.asked at clock))

ok_answer : (expected : Result Answer RunFault) → IsOkAnd expected (λ answer. answer.rejected ≡ false)
    → (answer : Answer) × (expected ≡ Ok answer)
ok_answer (Ok answer) is = (answer, refl)
ok_answer (Err none) is = absurd is

-- an empty output holds the text of the answer afterwards
taken_whole : (before after : SinkState) (text : List ℕ) → before.accepted ≡ [] → after ≡ put text before → after.accepted ≡ text
taken_whole before after text empty is = ap (λ (s : SinkState). s.accepted) is ∙ ap (λ (sink_text : List ℕ). sink_text ++ text) empty

done_answer : {F O E K : Type 0} (s : States F O E K) (sheets : List SheetSpec) (words : List (List ℕ)) (before after : Objects F O E K)
    → ¬ (ReadsClock (question_of_words sheets words)) → IsDone s sheets words before after
    → (answer : Answer) × (answer_held s sheets words before ≡ Ok answer) × ((s.out after.out).accepted ≡ answer.text)
done_answer s sheets words before after unread done =
    let ends = done.answers.own_files done.observable (λ asks. absurd (unread asks)) (inr (λ is. absurd (cc))) in
    let is = ok_answer (answer_held s sheets words before) ends.says in (
      is.0,
      is.1,
      taken_whole (s.out before.out) (s.out after.out)
          (text_with (answer_held s sheets words before)) done.empty ends.output ∙ ap text_with is.1,
    )

pub checks_certified : {F O E K G P D L : Type 0} (s : States F O E K) (t : States G P D L) → AcceptsWhatCertifyAnswers
    → ChecksWhatWasCertified s t
checks_certified s t accepts sheets words more certify check zone before after status first last asks done asks_check
    answers nothing holds shown =
    let made = done_answer s sheets words before after (clock_unread sheets words Certify certify refl asks) done in
    let held = subst (HoldsCertificate (folder_held s before) (folder_held t first) certify check) made.2 holds in
    let is = accepts sheets (folder_held s before) (folder_held t first) (next_minute (s.clock before.clock))
    (next_minute (t.clock first.clock))
    words more certify check made.0 zone asks made.1 asks_check held shown in
    accepting t (AcceptsWithListing sheets (folder_held t first) check (subject_of certify)) sheets more status first
    last is.0 answers nothing is.1
    (ap (λ (a : Answer). a.rejected) is.2.text) is.2

pub checks_peak : {F O E K G P D L : Type 0} (s : States F O E K) (t : States G P D L) → AcceptsWhatPeakAnswers
    → ChecksWhatPeakCertified s t
checks_peak s t accepts sheets words more peak check before after status first last asks done asks_check answers nothing holds =
    let made = done_answer s sheets words before after (clock_unread sheets words Peak peak refl asks) done in
    let held = subst (HoldsCertificate (folder_held s before) (folder_held t first) peak check) made.2 holds in
    let is = accepts sheets (folder_held s before) (folder_held t first) (next_minute (s.clock before.clock))
    (next_minute (t.clock first.clock))
    words more peak check made.0 asks made.1 asks_check held in
    accepting t (AcceptsWithHighest sheets (folder_held t first) check (subject_of peak)) sheets more status first last
    is.0 answers nothing is.1
    (ap (λ (a : Answer). a.rejected) is.2.text) is.2

-- ---- By the bytes that were read

-- the answer to a command that neither reads the clock nor writes a report
shown_text : (sheets : List SheetSpec) (folders : Folders) (given : Option ℤ) (words : List (List ℕ))
    (command : Command) (question : Question) (name : List ℕ) (read : Materials)
    → Asks sheets words command question → reads_clock command ≡ false → is_report command ≡ false
    → question.file ≡ Some name → files_in folders question name ≡ Ok read
    → answer_shown sheets folders given words
    ≡ refused_over read.table (text_by command read.book read.table question (given_with read (pos 0)))
unfolding answer_shown shown_over answered files_in
shown_text sheets folders given words command question name read asks unread plain file files =
    rw (asks.asked, file, files, asks.is, unread, plain) refl

-- the harmonic constants and the table that were read
record PartsCame (folders : Folders) (question : Question) (name : List ℕ) (read : Materials) : Type 0 where
  book : book_named (folders slots.File) name ≡ Ok read.book
  table : table_named (folders slots.Offsets) question.offsets ≡ Ok read.table

parts_came : (folders : Folders) (question : Question) (name : List ℕ) (read : Materials)
    → files_in folders question name ≡ Ok read → PartsCame folders question name read
unfolding files_in
parts_came folders question name read ok =
    let book = then_ok (book_named (folders slots.File) name) _ read ok in
    let table = then_ok (table_named (folders slots.Offsets) question.offsets) _ read book.2 in
    let zone = then_ok (zone_named (folders slots.Zone) question.zone) _ read table.2 in
    let certificate = then_ok (certificate_named (folders slots.Certificate) question.certificate) _ read zone.2 in
    let same : record { book = book.0; table = table.0; zone = zone.0; certificate = certificate.0 } ≡ read =
    (let last = certificate.2 in cc) in
    subst (PartsCame folders question name) same (record { book = book.1; table = table.1 })

-- the station and the span of an answer of a command that certifies
record IsMadeOf (made : Makes) (question : Question) (read : Materials) (certificate : Answer) : Type 0 where
  name : List ℕ
  span_request : SpanRequest
  names : NamesSpan question name span_request
  text : made read.book read.table name span_request ≡ Ok certificate

was_made_of : (made : Makes) (sheets : List SheetSpec) (folders : Folders) (given : Option ℤ) (words : List (List ℕ))
    (command : Command) (question : Question) (name : List ℕ) (read : Materials) (certificate : Answer)
    → reads_clock command ≡ false → is_report command ≡ false → GoesOver command made → Asks sheets words command question
    → question.file ≡ Some name → files_in folders question name ≡ Ok read
    → answer_shown sheets folders given words ≡ Ok certificate → IsMadeOf made question read certificate
was_made_of made sheets folders given words command question name read certificate unread plain goes asks file files is =
    let given_now = given_with read (pos 0) in
    let text = unrefused read.table (text_by command read.book read.table question given_now) certificate
    (sym (shown_text sheets folders given words command question name read asks unread plain file files) ∙ is) in
    let over = went_over_span question (λ name span_request. made read.book read.table name span_request) certificate
    (sym (goes read.book read.table question given_now) ∙ text) in
    record { name = over.0; span_request = over.1; names = over.2; text = over.3 }

-- the answer of a check of a certificate
record IsAccepted (certify : Question) (one two : Materials) (answer : Answer) : Type 0 where
  checks : checked two.book two.table two.certificate two.zone ≡ Ok answer
  about : AcceptsSubject one.book one.table two.zone (subject_of certify) answer

was_accepted : books.AcceptsWhatIsCertified → (sheets : List SheetSpec) (folders : Folders) (words : List (List ℕ))
    (certify : Question) (name : List ℕ) (one two : Materials) (certificate : Answer)
    → question_of_words sheets words ≡ Ok certify → files_in folders certify name ≡ Ok one
    → IsMadeOf certified certify one certificate → IsPassedOn one two certificate.text
    → (answer : Answer) × IsAccepted certify one two answer
was_accepted accepts sheets folders words certify name one two certificate span_request files was passed =
    let parts = parts_came folders certify name one files in
    let book = named_book (folders slots.File) name one.book parts.book in
    let table = named_table (folders slots.Offsets) certify.offsets one.table parts.table in
    let can = is_requestable certify was.name was.span_request (asked_in_range sheets words certify span_request) was.names in
    let accepted = accepts one.book one.table was.name was.span_request two.zone certificate book table can was.text in (
      accepted.0,
      record {
        checks = rw (passed.book, passed.offsets, passed.certificate) accepted.1;
        about = record {
          name = was.name;
          span_request = was.span_request;
          about = rw (was.names.station, was.names.begin, was.names.end, was.names.mark) refl;
          listing = accepted.2;
        };
      },
    )

unrejecting : (one : Materials) (zone : Zone) (subject : Subject) (answer : Answer)
    → AcceptsSubject one.book one.table zone subject answer → answer.rejected ≡ false
unrejecting one zone subject answer accepts = ap (λ (a : Answer). a.rejected) accepts.listing.2

pub checks_came : {F O E K G P D L : Type 0} (s : States F O E K) (t : States G P D L) → books.AcceptsWhatIsCertified → ChecksWhatCame s t
checks_came s t accepts sheets words more certify check before after status first last one two made checks asks empty
    came asks_check came_too passed unrisen =
    let folders = folders_by (question_of_words sheets words) made.shown.open_log in
    let more_folders = folders_by (question_of_words sheets more) checks.shown.open_log in
    let given = given_between (s.clock before.clock) (s.clock after.clock) in
    let more_given = given_between (t.clock first.clock) (t.clock last.clock) in
    let is = ok_answer (answer_shown sheets folders given words) made.shown.ends.says in
    let was = was_made_of certified sheets folders given words Certify certify came.name one is.0 refl refl
    (λ book table question given. refl) asks came.file came.files is.1 in
    let sink_text = taken_whole (s.out before.out) (s.out after.out)
    (text_with (answer_shown sheets folders given words)) empty made.shown.ends.output ∙ ap text_with is.1 in
    let accepted = was_accepted accepts sheets folders words certify came.name one two is.0 asks.asked came.files was
    (subst (IsPassedOn one two) sink_text passed) in
    let answer_is = shown_text sheets more_folders more_given more Check check came_too.name two asks_check refl refl
    came_too.file came_too.files ∙ ap (refused_over two.table) accepted.1.checks in
    accepting_by t (AcceptsSubject one.book one.table two.zone (subject_of certify)) sheets more status first last
    (answer_shown sheets more_folders more_given more) accepted.0 checks answer_is
    (unrejecting one two.zone (subject_of certify) accepted.0 accepted.1.about) accepted.1.about
    (ends_by_what_came t sheets more status first last checks unrisen)

-- ---- A highest water, by the bytes that were read

record IsAcceptedPeak (peak : Question) (one two : Materials) (answer : Answer) : Type 0 where
  checks : peak_checked two.book two.table two.certificate ≡ Ok answer
  about : AcceptsPeakOf one.book one.table (subject_of peak) answer

peak_was_accepted : peaks.AcceptsWhatPeakCertifies → (sheets : List SheetSpec) (folders : Folders)
    (words : List (List ℕ)) (peak : Question) (name : List ℕ) (one two : Materials) (certificate : Answer)
    → question_of_words sheets words ≡ Ok peak → files_in folders peak name ≡ Ok one
    → IsMadeOf peak_certified peak one certificate → IsPassedOn one two certificate.text
    → (answer : Answer) × IsAcceptedPeak peak one two answer
peak_was_accepted accepts sheets folders words peak name one two certificate span_request files was passed =
    let parts = parts_came folders peak name one files in
    let book = named_book (folders slots.File) name one.book parts.book in
    let table = named_table (folders slots.Offsets) peak.offsets one.table parts.table in
    let can = is_requestable peak was.name was.span_request (asked_in_range sheets words peak span_request) was.names in
    let accepted = accepts one.book one.table was.name was.span_request certificate book table can was.text in (
      accepted.0,
      record {
        checks = rw (passed.book, passed.offsets, passed.certificate) accepted.1;
        about = record {
          name = was.name;
          span_request = was.span_request;
          about = rw (was.names.station, was.names.begin, was.names.end, was.names.mark) refl;
          highest = accepted.2;
        };
      },
    )

pub checks_peak_came : {F O E K G P D L : Type 0} (s : States F O E K) (t : States G P D L)
    → peaks.AcceptsWhatPeakCertifies → ChecksPeakThatCame s t
checks_peak_came s t accepts sheets words more peak check before after status first last one two made checks asks empty
    came asks_check came_too passed unrisen =
    let folders = folders_by (question_of_words sheets words) made.shown.open_log in
    let more_folders = folders_by (question_of_words sheets more) checks.shown.open_log in
    let given = given_between (s.clock before.clock) (s.clock after.clock) in
    let more_given = given_between (t.clock first.clock) (t.clock last.clock) in
    let is = ok_answer (answer_shown sheets folders given words) made.shown.ends.says in
    let was = was_made_of peak_certified sheets folders given words Peak peak came.name one is.0 refl refl
    (λ book table question given. refl) asks came.file came.files is.1 in
    let sink_text = taken_whole (s.out before.out) (s.out after.out)
    (text_with (answer_shown sheets folders given words)) empty made.shown.ends.output ∙ ap text_with is.1 in
    let accepted = peak_was_accepted accepts sheets folders words peak came.name one two is.0 asks.asked came.files was
    (subst (IsPassedOn one two) sink_text passed) in
    let answer_is = shown_text sheets more_folders more_given more PeakCheck check came_too.name two asks_check refl
    refl came_too.file came_too.files ∙ ap (refused_over two.table) accepted.1.checks in
    accepting_by t (AcceptsPeakOf one.book one.table (subject_of peak)) sheets more status first last
    (answer_shown sheets more_folders more_given more) accepted.0 checks answer_is
    (ap (λ (a : Answer). a.rejected) accepted.1.about.highest.2) accepted.1.about
    (ends_by_what_came t sheets more status first last checks unrisen)
