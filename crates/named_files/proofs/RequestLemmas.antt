-- The files of a request, read one after the other.
use Rattle.std.proofs.Common.{◌≡◌, ◌∙◌, ap, sym, ℕ, false, arith, List, [], ◌∷◌, ◌++◌, length, map, append_assoc, append-nil, Option, Some, Result, Ok, Err, refl}
use Rattle.std.specs.Prelude.{◌≤◌, Bool, IsTrue}
use Rattle.std.specs.Result.{IsErrAnd}
use Rattle.std.proofs.lemmas.List.{length-append}
use Rattle.decimal_text.specs.Expected.{Excuses, Meets}
use Rattle.decimal_text.specs.declared.limits.TheConstants.{MOST_BYTES}
use Rattle.harmonics_book.specs.Books.{IsBook}
use Rattle.harmonics_book.specs.declared.book.Book.{Book as TheBook}
use Rattle.question.specs.declared.question.Question.{Question}
use Rattle.station_table.specs.declared.offsets.Offsets.{Offsets as TableRow}
use Rattle.tide_edge.specs.FileStates.{FilesState, Folder, Opening, as_list, openings_of}
use Rattle.tide_edge.specs.Whole.{Allowance, ReadWithin, both, no_file}
use Rattle.tide_edge.proofs.ReadingLemmas.{go_on, read_none, read_then}
use Rattle.zone_time.specs.Zones.{IsZone}
use Rattle.zone_time.specs.declared.zone.Zone.{Zone as TheZone}
use Rattle.tide_fault.specs.declared.slot.Slot.{Slot}
use Rattle.tide_fault.specs.declared.slot.Slot.TheVariants.{File, Offsets, Zone, Certificate}
use Rattle.named_files.specs.declared.run_fault.RunFault.{RunFault}
use Rattle.named_files.specs.declared.materials.Materials.{Materials}
use Rattle.named_files.specs.RunFaults.{IsOf, file_of, is_unread, source_of}
use Rattle.named_files.specs.Opened.{AreShown, IsShown, ReadsFile, ReadsFiles, index_of, names_to}
use Rattle.named_files.specs.Readings.{Folders, allowed_for, allowed_to, book_named, certificate_named, files_in, table_named, zone_file, zone_named}
use Rattle.named_files.proofs.ReadingLemmas.{meets_at, said_at, wider, within_all}
use Rattle.named_files.proofs.OpenedLemmas.{all_named, length-names, names_on, shown_at, stops_at}

-- from `before` to `after`, the files with these names were opened in turn and read without a fault, within the
-- limit `allowed`; and `Knows` holds of contents that agree with what was read
pub record ReadSoFar (question : Question) (names : List (List ℕ)) (allowed : Allowance) (Knows : Folders → Type 0)
    (before after : FilesState) : Type 0 where
  pub open_log : List Opening
  pub all : openings_of after.open_log ≡ openings_of before.open_log ++ open_log
  pub named : names ≡ map (λ o. o.name) open_log
  pub read : ReadWithin allowed false before after
  pub known : (more : List Opening) (firm : Bool) (folders : Folders) → AreShown question firm (open_log ++ more) folders → Knows folders

-- the same up to the fault `none`: some of the names, the last, weren't opened, and the contents excuse the fault
pub record ReadToFault (question : Question) (names : List (List ℕ)) (allowed : Allowance) (Excusing : Bool → Folders → Type 0)
    (none : RunFault) (before after : FilesState) : Type 0 where
  pub open_log : List Opening
  pub unopened : List (List ℕ)
  pub all : openings_of after.open_log ≡ openings_of before.open_log ++ open_log
  pub named : names ≡ map (λ o. o.name) open_log ++ unopened
  pub read : ReadWithin allowed (is_unread none) before after
  pub excused : (firm : Bool) (folders : Folders) → AreShown question firm open_log folders → Excusing firm folders

pub nothing_read : {question : Question} {state : FilesState} → ReadSoFar question [] no_file (λ _. Unit {0}) state state
nothing_read {state = state} = record {
  open_log = [];
  all = sym (append-nil (openings_of state.open_log));
  named = refl;
  read = read_none no_file state;
  known = λ more firm folders shows. tt;
}

-- the next opening of the file in its place shows this file
is_shown : {question : Question} {names : List (List ℕ)} {allowed : Allowance} {Knows : Folders → Type 0} {before between : FilesState}
    (slot : Slot) (so_far : ReadSoFar question names allowed Knows before between) → index_of question slot ≡ length names
    → (here more : List Opening) (firm : Bool) (folders : Folders)
    → AreShown question firm (so_far.open_log ++ (here ++ more)) folders → IsShown slot firm here (folders slot)
is_shown {question = question} slot so_far place here more firm folders shows =
    shown_at slot firm (folders slot) so_far.open_log here more (index_of question slot)
    (place ∙ ap length so_far.named ∙ length-names so_far.open_log) (shows slot)

module _ {T : Type 0} {question : Question} {names : List (List ℕ)} {allowed : Allowance} {Knows : Folders → Type 0} {slot : Slot}
    {name : Option (List ℕ)} {expected : Folder → Result T RunFault} {IsValid : T → Type 0} {before between after : FilesState}
    (so_far : ReadSoFar question names allowed Knows before between) (place : index_of question slot ≡ length names) where
  -- the next file was read
  pub then_file : {value : T} → ReadsFile slot name expected IsValid between after (Ok value)
      → ReadSoFar question (names ++ as_list name) (both allowed (allowed_for slot name))
      (λ folders. Knows folders × (expected (folders slot) ≡ Ok value)) before after
  then_file {value = value} file =
      let here = file.opened.open_log in
      record {
        open_log = so_far.open_log ++ here;
        all = go_on before.open_log between.open_log after.open_log so_far.open_log here so_far.all file.opened.all;
        named =
            names_on so_far.open_log here names (as_list name) [] so_far.named
            (all_named slot name expected between.open_log after.open_log value file.opened ∙ sym (append-nil (map (λ o. o.name) here)))
            ∙ append-nil (map (λ o. o.name) (so_far.open_log ++ here));
        read = read_then allowed (allowed_for slot name) false before between after so_far.read file.read;
        known = λ more firm folders shows.
            let shows = rw (append_assoc so_far.open_log here more) at shows in
            (so_far.known (here ++ more) firm folders shows, file.opened.answer firm (folders slot) (is_shown slot so_far place here more firm folders shows));
      }

  -- the next file is the reason for a fault
  pub then_fault : {none : RunFault} → ReadsFile slot name expected IsValid between after (Err none)
      → ReadToFault question (names ++ as_list name) (both allowed (allowed_for slot name))
      (λ firm folders. Knows folders × Excuses (source_of none) (IsTrue firm) (expected (folders slot)) none) none before after
  then_fault {none = none} file =
      let here = file.opened.open_log in
      record {
        open_log = so_far.open_log ++ here;
        unopened = file.opened.unopened;
        all = go_on before.open_log between.open_log after.open_log so_far.open_log here so_far.all file.opened.all;
        named = names_on so_far.open_log here names (as_list name) file.opened.unopened so_far.named file.opened.names;
        read = read_then allowed (allowed_for slot name) (is_unread none) before between after so_far.read file.read;
        excused = λ firm folders shows. (
          so_far.known here firm folders shows,
          file.opened.answer firm (folders slot) (is_shown slot so_far place here [] firm folders (rw (append-nil here) shows)),
        );
      }

-- ---- The files of a request

-- the file of the kind `slot` is the reason why there is no answer
stopped : {question : Question} {name : List ℕ} {slot : Slot} {names : List (List ℕ)} {allowed : Allowance} {Excusing : Bool → Folders → Type 0}
    {none : RunFault} {before after : FilesState} → IsOf slot none → names_to name question (Some slot) ≡ names
    → ((failed : Bool) → ReadWithin allowed failed before after → ReadWithin (allowed_to question (Some slot)) failed before after)
    → ((firm : Bool) (folders : Folders) → Excusing firm folders → Meets {T = Materials} source_of (IsTrue firm) (files_in folders question name) (Err none))
    → ReadToFault question names allowed Excusing none before after
    → (result : Result Materials RunFault) → IsErrAnd result (λ e. e ≡ none) → ReadsFiles question name before after result
stopped of_slot are fits meets read (Ok value) is = absurd is
stopped {question = question} {name = name} {slot = slot} {none = none} {before = before} {after = after} of_slot are fits meets read (Err e) is =
    let to = stops_at name question slot (file_of none) of_slot in
    let last = said_at question slot (file_of none) (is_unread none) before after of_slot (fits (is_unread none) read.read) in
    rw is
    (record {
      opened = record {
        open_log = read.open_log;
        unopened = read.unopened ++ to.0;
        all = read.all;
        names = to.1 ∙ ap (λ n. n ++ to.0) (are ∙ read.named) ∙ append_assoc (map (λ o. o.name) read.open_log) read.unopened to.0;
        whole = tt;
        answer = λ firm folders shows. meets firm folders (read.excused firm folders shows);
      };
      valid = tt;
      read = within_all question (file_of none) (is_unread none) before after last;
      last = last;
    })

all_names : (question : Question) (name : List ℕ)
    → names_to name question (Some Certificate)
    ≡ ((name ∷ as_list question.offsets) ++ as_list (zone_file question.zone)) ++ as_list question.certificate
all_names question name =
    ap (λ n. name ∷ n) (sym (append_assoc (as_list question.offsets) (as_list (zone_file question.zone)) (as_list question.certificate)))

place_of_zone : (question : Question) (name : List ℕ) → index_of question Zone ≡ length (name ∷ as_list question.offsets)
place_of_zone question name = omega arith

place_of_certificate : (question : Question) (name : List ℕ)
    → index_of question Certificate ≡ length ((name ∷ as_list question.offsets) ++ as_list (zone_file question.zone))
place_of_certificate question name = omega (arith, length-append (as_list question.offsets) (as_list (zone_file question.zone)))

pub stopped_at_book : {question : Question} {name : List ℕ} {before after : FilesState} {none : RunFault}
    (result : Result Materials RunFault) → IsErrAnd result (λ e. e ≡ none)
    → ReadsFile File (Some name) (λ folder. book_named folder name) IsBook before after (Err none)
    → ReadsFiles question name before after result
unfolding files_in
stopped_at_book {question = question} {name = name} {none = none} result is book =
    stopped book.fault refl (λ failed read. read)
    (λ firm folders excused. meets_at (IsTrue firm) (book_named (folders File) name) _ (Err none) none refl excused.1)
    (then_fault nothing_read refl book) result is

pub stopped_at_table : {question : Question} {name : List ℕ} {before between after : FilesState} {none : RunFault}
    {read : TheBook} (result : Result Materials RunFault) → IsErrAnd result (λ e. e ≡ none)
    → ReadsFile File (Some name) (λ folder. book_named folder name) IsBook before between (Ok read)
    → ReadsFile Offsets question.offsets (λ folder. table_named folder question.offsets) (λ _. Unit {0}) between after (Err none)
    → ReadsFiles question name before after result
unfolding files_in
stopped_at_table {question = question} {name = name} {none = none} result is book table =
    stopped table.fault refl (λ failed read. read)
    (λ firm folders excused.
    rw excused.0.1 (meets_at (IsTrue firm) (table_named (folders Offsets) question.offsets) _ (Err none) none refl excused.1))
    (then_fault (then_file nothing_read refl book) refl table) result is

pub stopped_at_zone : {question : Question} {name : List ℕ} {before between beyond after : FilesState} {none : RunFault}
    {read : TheBook} {rows : List TableRow} (result : Result Materials RunFault) → IsErrAnd result (λ e. e ≡ none)
    → ReadsFile File (Some name) (λ folder. book_named folder name) IsBook before between (Ok read)
    → ReadsFile Offsets question.offsets (λ folder. table_named folder question.offsets) (λ _. Unit {0}) between beyond (Ok rows)
    → ReadsFile Zone (zone_file question.zone) (λ folder. zone_named folder question.zone) IsZone beyond after (Err none)
    → ReadsFiles question name before after result
unfolding files_in
stopped_at_zone {question = question} {name = name} {none = none} result is book table zone =
    stopped zone.fault refl (λ failed read. wider _ _ failed _ _ (omega arith) (omega arith) read)
    (λ firm folders excused.
    rw (excused.0.0.1, excused.0.1)
    (meets_at (IsTrue firm) (zone_named (folders Zone) question.zone) _ (Err none) none refl excused.1))
    (then_fault (then_file (then_file nothing_read refl book) refl table) (place_of_zone question name) zone) result is

pub stopped_at_certificate : {question : Question} {name : List ℕ} {before between beyond later after : FilesState} {none : RunFault}
    {read : TheBook} {rows : List TableRow} {clock : TheZone} (result : Result Materials RunFault) → IsErrAnd result (λ e. e ≡ none)
    → ReadsFile File (Some name) (λ folder. book_named folder name) IsBook before between (Ok read)
    → ReadsFile Offsets question.offsets (λ folder. table_named folder question.offsets) (λ _. Unit {0}) between beyond (Ok rows)
    → ReadsFile Zone (zone_file question.zone) (λ folder. zone_named folder question.zone) IsZone beyond later (Ok clock)
    → ReadsFile Certificate question.certificate (λ folder. certificate_named folder question.certificate) (λ bytes. length bytes ≤ MOST_BYTES)
    later after (Err none)
    → ReadsFiles question name before after result
unfolding files_in
stopped_at_certificate {question = question} {name = name} {none = none} result is book table zone certificate =
    stopped certificate.fault (all_names question name)
    (λ failed read. wider _ _ failed _ _ (omega arith) (omega arith) read)
    (λ firm folders excused.
    rw (excused.0.0.0.1, excused.0.0.1, excused.0.1)
    (meets_at (IsTrue firm) (certificate_named (folders Certificate) question.certificate) _ (Err none) none refl excused.1))
    (then_fault (then_file (then_file (then_file nothing_read refl book) refl table) (place_of_zone question name) zone) (place_of_certificate question name) certificate)
    result is

-- no file is a reason
pub all_read : {question : Question} {name : List ℕ} {before between beyond later after : FilesState} {read : TheBook} {rows : List TableRow}
    {clock : TheZone} {bytes : List ℕ} → ReadsFile File (Some name) (λ folder. book_named folder name) IsBook before between (Ok read)
    → ReadsFile Offsets question.offsets (λ folder. table_named folder question.offsets) (λ _. Unit {0}) between beyond (Ok rows)
    → ReadsFile Zone (zone_file question.zone) (λ folder. zone_named folder question.zone) IsZone beyond later (Ok clock)
    → ReadsFile Certificate question.certificate (λ folder. certificate_named folder question.certificate) (λ bytes. length bytes ≤ MOST_BYTES)
    later after (Ok bytes)
    → ReadsFiles question name before after (Ok (record { book = read; table = rows; zone = clock; certificate = bytes }))
unfolding files_in
all_read {question = question} {name = name} {before = before} {after = after} book table zone certificate =
    let all =
    then_file {question = question} (then_file (then_file (then_file nothing_read refl book) refl table) (place_of_zone question name) zone) (place_of_certificate question name) certificate in
    record {
      opened = record {
        open_log = all.open_log;
        unopened = [];
        all = all.all;
        names = all_names question name ∙ all.named ∙ sym (append-nil (map (λ o. o.name) all.open_log));
        whole = refl;
        answer = λ firm folders shows.
            let known = all.known [] firm folders (rw (append-nil all.open_log) shows) in
            rw (known.0.0.0.1, known.0.0.1, known.0.1, known.1) refl;
      };
      valid = record { book = book.valid; zone = zone.valid; certificate = certificate.valid };
      read = wider _ _ false _ _ (omega arith) (omega arith) all.read;
      last = tt;
    }
