-- The data of a server by what it opened.
use Rattle.std.proofs.Common.{arith, ◌≡◌, ◌∙◌, ap, ℕ, List, [], ◌∷◌, ◌++◌, map, append-nil, append_assoc, Option, Some, None, Result, Ok, Err, inl, refl, sym, subst}
use Rattle.std.specs.Bool.{IsTrue}
use Rattle.std.specs.Prelude.{Bool, true, All}
use Rattle.tide_edge.specs.StoreLaws.{IsLawful, IsOfStore}
use Rattle.std.specs.Option.{ForSome}
use Rattle.std.specs.Result.{IsErrAnd}
use Rattle.decimal_text.specs.Expected.{Excused, Meets}
use Rattle.harmonics_book.specs.declared.book.Book.{Book}
use Rattle.question.specs.declared.question.Question.{Question}
use Rattle.station_table.specs.declared.offsets.Offsets.{Offsets as TableRow}
use Rattle.tide_edge.specs.FileStates.{FilesState, Opening, Openings, FileContents, as_list, openings_of}
use Rattle.tide_fault.specs.declared.fault.Fault.{Fault}
use Rattle.tide_fault.specs.declared.slot.Slot.{Slot}
use Rattle.tide_fault.specs.declared.slot.Slot.TheVariants.{File, Offsets, Zone, Certificate}
use Rattle.tide_fault.specs.declared.status.Status.{Status}
use Rattle.tide_fault.specs.Faults.{is_out_of_memory as fault_is_out_of_memory}
use Rattle.named_files.specs.declared.run_fault.RunFault.{RunFault}
use Rattle.named_files.specs.declared.run_fault.RunFault.TheVariants.{Faulty}
use Rattle.named_files.specs.RunFaults.{file_of, is_unread, source_of, faulty}
use Rattle.named_files.specs.Opened.{AreShown, AreShownFor, IsResultOf, ReadsFile, failing_file}
use Rattle.named_files.specs.Readings.{Folders, allowed_for, book_named, limit_of, table_named}
use Rattle.named_files.proofs.OpenedLemmas.{shows_itself, shows_own}
use Rattle.named_files.proofs.RequestLemmas.{ReadToFault, nothing_read, then_fault, then_file}
use Rattle.std.proofs.lemmas.List.Elements.{All-tail}
use Rattle.tide_edge.proofs.ReadingLemmas.{all_of_store}
use Rattle.tide_edge.specs.Whole.{Allowance, ReadWithin, both, one_file}
use Rattle.harmonics_book.specs.Books.{IsBook}
use Rattle.named_files.proofs.ReadingLemmas.{meets_at, faulty_excuses, wider as within_wider}
use Rattle.named_files.proofs.SettledLemmas.{reported_settles}
use Rattle.named_files.specs.Reporting.{Reports}
use Rattle.tide_server.proofs.OpeningLemmas.{refused_for}
use Rattle.tide_server.specs.declared.served_data.ServedData.{ServedData}
use Rattle.tide_server.specs.Openings.{EndsAs, ServerStates, IsRefused, service_of, served_data_by, served_data_from, served_data_named, served_data_of}
use Rattle.tide_server.specs.Shown.{EndsAsShown, folders_by, names_by, names_served, ReadsServedData, served_data_by_openings, served_data_names}

-- ---- The names up to a fault

after_book : (name : List ℕ) (question : Question) (said : Option Slot) → ForSome said (λ other. other ≡ File)
    → (more : List (List ℕ)) × (served_data_names name question said ≡ (name ∷ []) ++ more)
after_book name question None is = (as_list question.offsets, refl)
after_book name question (Some other) is = ([], ap (λ it. served_data_names name question (Some it)) (is other refl))

after_table : (name : List ℕ) (question : Question) (said : Option Slot) → ForSome said (λ other. other ≡ Offsets)
    → served_data_names name question said ≡ name ∷ as_list question.offsets
after_table name question None is = refl
after_table name question (Some other) is = ap (λ it. served_data_names name question (Some it)) (is other refl)

-- ---- The files, one after the other

-- a file is the reason why there are no data
stopped : {question : Question} {name : List ℕ} {names : List (List ℕ)} {allowed : Allowance} {Excusing : Bool → Folders → Type 0} {none : RunFault}
    {before after : FilesState} (result : Result ServedData RunFault) → IsErrAnd result (λ e. e ≡ none)
    → (more : List (List ℕ)) × (served_data_names name question (file_of none) ≡ names ++ more)
    → (ReadWithin allowed (is_unread none) before after
    → ReadWithin (both (one_file (limit_of File)) (allowed_for Offsets question.offsets)) (is_unread none) before after)
    → ((firm : Bool) (folders : Folders) → Excusing firm folders
    → Meets {T = ServedData} source_of (IsTrue firm) (served_data_named folders question name) (Err none))
    → ReadToFault question names allowed Excusing none before after → ReadsServedData question name before after result
stopped (Ok served_data) is to fits meets read = absurd is
stopped (Err it) is to fits meets read =
    rw is
    (record {
      shown = record {
        open_log = read.open_log;
        unopened = read.unopened ++ to.0;
        all = read.all;
        names = to.1 ∙ ap (λ n. n ++ to.0) read.named ∙ append_assoc (map (λ o. o.name) read.open_log) read.unopened to.0;
        answer = λ firm folders shows. meets firm folders (read.excused firm folders shows);
      };
      read = fits read.read;
    })

pub stopped_at_book : {question : Question} {name : List ℕ} {before after : FilesState} {none : RunFault} (result : Result ServedData RunFault)
    → IsErrAnd result (λ e. e ≡ none) → ReadsFile File (Some name) (λ folder. book_named folder name) IsBook before after (Err none)
    → ReadsServedData question name before after result
unfolding served_data_named
stopped_at_book {question = question} {name = name} {none = none} result is book =
    stopped result is (after_book name question (file_of none) book.fault)
    (λ read. within_wider _ _ _ _ _ (omega arith) (omega arith) read)
    (λ firm folders excused. meets_at (IsTrue firm) (book_named (folders File) name) _ (Err none) none refl excused.1)
    (then_fault nothing_read refl book)

pub stopped_at_table : {question : Question} {name : List ℕ} {before between after : FilesState} {none : RunFault} {read : Book}
    (result : Result ServedData RunFault) → IsErrAnd result (λ e. e ≡ none)
    → ReadsFile File (Some name) (λ folder. book_named folder name) IsBook before between (Ok read)
    → ReadsFile Offsets question.offsets (λ folder. table_named folder question.offsets) (λ _. Unit {0}) between after (Err none)
    → ReadsServedData question name before after result
unfolding served_data_named
stopped_at_table {question = question} {name = name} {none = none} result is book table =
    stopped result is
    ([], after_table name question (file_of none) table.fault ∙ sym (append-nil (name ∷ as_list question.offsets)))
    (λ read. read)
    (λ firm folders excused.
    rw excused.0.1 (meets_at (IsTrue firm) (table_named (folders Offsets) question.offsets) _ (Err none) none refl excused.1))
    (then_fault (then_file nothing_read refl book) refl table)

pub all_read : {question : Question} {name : List ℕ} {before between after : FilesState} {read : Book} {rows : List TableRow}
    {served_data : ServedData} → served_data ≡ record { book = read; table = rows; port = question.port }
    → ReadsFile File (Some name) (λ folder. book_named folder name) IsBook before between (Ok read)
    → ReadsFile Offsets question.offsets (λ folder. table_named folder question.offsets) (λ _. Unit {0}) between after (Ok rows)
    → ReadsServedData question name before after (Ok served_data)
unfolding served_data_named
all_read {question = question} is book table =
    let all = then_file {question = question} (then_file nothing_read refl book) refl table in
    record {
      shown = record {
        open_log = all.open_log;
        unopened = [];
        all = all.all;
        names = all.named ∙ sym (append-nil (map (λ o. o.name) all.open_log));
        answer = λ firm folders shows.
            let known = all.known [] firm folders (rw (append-nil all.open_log) shows) in
            rw (is, known.0.1, known.1) refl;
      };
      read = all.read;
    }

-- ---- The arguments

-- the files that the arguments name were opened, and the result is the data that they name
abbrev pub AreServedFrom : List (List ℕ) → Openings → Openings → Result ServedData RunFault → Type 0
AreServedFrom words =
    IsResultOf (names_served (service_of words)) (AreShownFor (service_of words)) (λ folders. served_data_from folders words)

pub shown_unasked : (words : List (List ℕ)) (before : Openings) (fault : Fault) (result : Result ServedData RunFault)
    → IsErrAnd result (λ none. none ≡ Faulty fault) → Excused (fault_is_out_of_memory fault) (service_of words) fault
    → AreServedFrom words before before result
unfolding served_data_from
shown_unasked words before fault result is excused = record {
  open_log = [];
  unopened = names_served (service_of words) (failing_file result);
  all = sym (append-nil (openings_of before));
  names = refl;
  answer = λ firm folders shows.
      meets_at (IsTrue firm) (faulty (service_of words)) _ result (Faulty fault) is
      (faulty_excuses (IsTrue firm) (service_of words) fault excused);
}

pub shown_named : (words : List (List ℕ)) (question : Question) (name : List ℕ) (before after : Openings)
    (result : Result ServedData RunFault)
    → service_of words ≡ Ok question → question.file ≡ Some name
    → IsResultOf (served_data_names name question) (AreShown question) (λ folders. served_data_named folders question name) before after result
    → AreServedFrom words before after result
unfolding served_data_from
shown_named words question name before after result is named shown =
    let N : Option (List ℕ) → Type 0 =
    λ file. names_by question file (failing_file result) ≡ map (λ o. o.name) shown.open_log ++ shown.unopened in
    record {
      open_log = shown.open_log;
      unopened = shown.unopened;
      all = shown.all;
      names = rw is (subst N (sym named) shown.names);
      answer = λ firm folders shows.
          let M : Option (List ℕ) → Type 0 = λ file. Meets source_of (IsTrue firm) (served_data_by folders question file) result in
          rw is (subst M (sym named) (shown.answer firm folders (rw is at shows)));
    }

pub shown_nameless : (words : List (List ℕ)) (question : Question) (before : Openings) (result : Result ServedData RunFault)
    → service_of words ≡ Ok question
    → ((firm : Bool) (folders : Folders) → Meets source_of (IsTrue firm) (served_data_by folders question question.file) result)
    → AreServedFrom words before before result
unfolding served_data_from
shown_nameless words question before result is meets = record {
  open_log = [];
  unopened = names_served (service_of words) (failing_file result);
  all = sym (append-nil (openings_of before));
  names = refl;
  answer = λ firm folders shows. rw is (meets firm folders);
}

-- the data by the contents that the openings show
itself : (asked : Result Question Fault) (open_log : List Opening) → AreShownFor asked true open_log (folders_by asked open_log)
itself (Ok question) open_log = shows_itself question open_log
itself (Err fault) open_log = tt

own_by : (asked : Result Question Fault) (open_log : List Opening) (file_contents : FileContents) → All (IsOfStore file_contents) open_log
    → AreShownFor asked file_contents.is_steady open_log (λ slot. file_contents.folder)
own_by (Ok question) open_log file_contents of = shows_own question file_contents.is_steady open_log file_contents (λ steady. steady) of
own_by (Err fault) open_log file_contents of = tt

by_openings : (words : List (List ℕ)) (before after : Openings) (result : Result ServedData RunFault)
    (shown : AreServedFrom words before after result)
    → Meets source_of (IsTrue true) (served_data_by_openings words shown.open_log) result
by_openings words before after result shown =
    shown.answer true (folders_by (service_of words) shown.open_log) (itself (service_of words) shown.open_log)

second : (P : Opening → Type 0) (first more : List Opening) → All P (first ++ more) → All P more
second P [] more all = all
second P (o ∷ first) more all = second P first more (All-tail P o (first ++ more) all)

-- the data by the contents of observable files
pub own_data : (words : List (List ℕ)) (before after : FilesState) (result : Result ServedData RunFault)
    → AreServedFrom words before.open_log after.open_log result → after.file_contents ≡ before.file_contents → IsLawful after
    → IsTrue before.file_contents.is_observable
    → Meets source_of (IsTrue before.file_contents.is_steady) (served_data_of before.file_contents.folder words) result
own_data words before after result shown same law t =
    let all : All (IsOfStore before.file_contents) (openings_of after.open_log) =
    rw same at (all_of_store after (law (rw same t))) in
    let of : All (IsOfStore before.file_contents) shown.open_log =
    second (IsOfStore before.file_contents) (openings_of before.open_log) shown.open_log (rw shown.all at all) in
    shown.answer before.file_contents.is_steady (λ slot. before.file_contents.folder) (own_by (service_of words) shown.open_log before.file_contents of)

-- ---- The end of a server

wider_by : (question : Question) (file : Option (List ℕ)) (why : Option Slot)
    → (more : List (List ℕ)) × (names_by question file None ≡ names_by question file why ++ more)
wider_by question None why = ([], refl)
wider_by question (Some name) None = ([], sym (append-nil (served_data_names name question None)))
wider_by question (Some name) (Some File) = (as_list question.offsets, refl)
wider_by question (Some name) (Some Offsets) = ([], sym (append-nil (served_data_names name question None)))
wider_by question (Some name) (Some Zone) = ([], sym (append-nil (served_data_names name question None)))
wider_by question (Some name) (Some Certificate) = ([], sym (append-nil (served_data_names name question None)))

wider : (asked : Result Question Fault) (why : Option Slot)
    → (more : List (List ℕ)) × (names_served asked None ≡ names_served asked why ++ more)
wider (Ok question) why = wider_by question question.file why
wider (Err fault) why = ([], refl)

pub shown_ready : (words : List (List ℕ)) (served_data : ServedData) (status : Status) (before after : ServerStates)
    → AreServedFrom words before.files.open_log after.files.open_log (Ok served_data)
    → ((expected : Result ServedData RunFault) → expected ≡ Ok served_data → EndsAs (IsTrue true) expected status before after)
    → EndsAsShown words status before after
shown_ready words served_data status before after shown ends =
    let answer = by_openings words before.files.open_log after.files.open_log (Ok served_data) shown in record {
      open_log = shown.open_log;
      all = shown.all;
      unopened = shown.unopened;
      names = shown.names;
      last = λ other. (shown.unopened, rw answer shown.names);
      ends = ends (served_data_by_openings words shown.open_log) answer;
    }

pub shown_refused : (words : List (List ℕ)) (none : RunFault) (status : Status) (before after : ServerStates)
    → AreServedFrom words before.files.open_log after.files.open_log (Err none)
    → after.door ≡ before.door → after.clock ≡ before.clock → Reports none status before.err after.err
    → EndsAsShown words status before after
shown_refused words none status before after shown door clock faulty =
    let expected : Result ServedData RunFault = served_data_by_openings words shown.open_log in
    let answer = by_openings words before.files.open_log after.files.open_log (Err none) shown in
    let to = wider (service_of words) (failing_file {T = ServedData} (Err none)) in
    record {
      open_log = shown.open_log;
      all = shown.all;
      unopened = shown.unopened ++ to.0;
      names = to.1 ∙ ap (λ n. n ++ to.0) shown.names ∙ append_assoc (map (λ o. o.name) shown.open_log) shown.unopened to.0;
      last = λ other.
          (shown.unopened, rw (reported_settles expected none status before.err after.err answer faulty other) shown.names);
      ends = inl (refused_for (IsTrue true) expected none status before after answer door clock faulty);
    }

pub shown_another : (words : List (List ℕ)) (status : Status) (before after : ServerStates) → after.files ≡ before.files
    → IsRefused (IsTrue true) (served_data_by_openings words []) status before after → EndsAsShown words status before after
shown_another words status before after same refused = record {
  open_log = [];
  all = ap (λ files. openings_of files.open_log) same ∙ sym (append-nil (openings_of before.files.open_log));
  unopened = names_served (service_of words) None;
  names = refl;
  last = λ other. (names_served (service_of words) (failing_file (served_data_by_openings words [])), refl);
  ends = inl refused;
}
