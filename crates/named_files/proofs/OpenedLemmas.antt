-- The opening of one file, and of one after the other.
use Rattle.std.proofs.Common.{◌≡◌, ◌∙◌, ap, sym, ℕ, List, [], ◌∷◌, ◌++◌, length, map, Option, Some, None, Result, Ok, Err, inl, inr, refl, subst, append_assoc, append-nil, suc}
use Rattle.std.specs.Prelude.{Bool, true, false, if◌then◌else◌, ◌<◌, IfSome, IsTrue, OnOk, slice_get, All}
use Rattle.std.specs.Result.{IsErrAnd}
use Rattle.named_files.specs.declared.loading.LoadFault.{LoadFault}
use Rattle.named_files.specs.declared.loading.LoadFault.TheVariants as load
use Rattle.named_files.specs.Loading.{loaded, source_of as source_of_loading}
use Rattle.decimal_text.specs.Expected.{◌>>=◌, Meets, memory, outside, given}
use Rattle.harmonics_book.specs.declared.book.Book.{Book as TheBook}
use Rattle.harmonics_text.specs.declared.fault.BookFault.TheVariants as form
use Rattle.question.specs.declared.question.Question.{Question}
use Rattle.std.specs.Option.{ForSome}
use Rattle.std.proofs.lemmas.List.Elements.{All-get_or, All-tail}
use Rattle.std.proofs.lemmas.Option.{slice_get_cases}
use Rattle.tide_edge.specs.FileStates.{Folder, Opening, Openings, FileContents, as_list, openings_of}
use Rattle.tide_edge.specs.FileStates.{FilesState}
use Rattle.tide_edge.specs.StoreLaws.{IsLawful, IsOfStore}
use Rattle.tide_edge.proofs.ReadingLemmas.{all_of_store, once_as, read_none, shows_by_law}
use Rattle.tide_edge.specs.Whole.{IsOutOfMemory, OpenedOnce, Shows, is_read_out, no_file, whole, source_of as source_of_reading}
use Rattle.tide_edge.specs.declared.files.read_all_fault.ReadAllFault.{ReadAllFault}
use Rattle.tide_edge.specs.declared.files.read_all_fault.ReadAllFault.TheVariants as reading
use Rattle.tide_fault.specs.declared.slot.Slot.{Slot}
use Rattle.tide_fault.specs.declared.slot.Slot.TheVariants.{File, Offsets, Zone, Certificate}
use Rattle.named_files.specs.declared.run_fault.RunFault.{RunFault}
use Rattle.named_files.specs.RunFaults.{source_of}
use Rattle.named_files.specs.Opened.{AreShown, AreShownFor, IsShown, Opened, ReadsFile, folders_shown, index_of, names_of, names_to, shown}
use Rattle.named_files.specs.Readings.{Folders, book_named, bytes_from, bytes_of, limit_of, zone_file}
use Rattle.named_files.proofs.ReadingLemmas.{IsOfContents, excuses_book, excuses_bytes, meets_at, meets_inside, named_book, named_from}

out_of_memory_meets : {T : Type 0} (firm : Type 0) (expected result : Result T RunFault) → IsOutOfMemory source_of result
    → Meets source_of firm expected result
out_of_memory_meets firm expected (Ok value) of_memory = absurd of_memory
out_of_memory_meets firm expected (Err none) of_memory = rw of_memory tt

out_of_memory_whole : {T : Type 0} (P : Type 0) (result : Result T RunFault) → IsOutOfMemory source_of result → OnOk result P
out_of_memory_whole P (Ok value) of_memory = absurd of_memory
out_of_memory_whole P (Err none) of_memory = tt

always_whole : {T : Type 0} (P : Type 0) (result : Result T RunFault) → P → OnOk result P
always_whole P (Ok value) p = p
always_whole P (Err none) p = tt

-- a file that is named
opened_named : {T : Type 0} (slot : Slot) (name : List ℕ) (expected : Option (List ℕ) → Result T RunFault) (before after : Openings)
    (result : Result T RunFault) → OpenedOnce source_of expected (limit_of slot) name before after result
    → Opened slot (Some name) (λ folder. expected (folder name)) before after result
opened_named slot name expected before after result (inl (same, of_memory)) = record {
  open_log = [];
  unopened = name ∷ [];
  all = ap openings_of same ∙ sym (append-nil (openings_of before));
  names = refl;
  whole = out_of_memory_whole _ result of_memory;
  answer = λ firm folder is. out_of_memory_meets (IsTrue firm) (expected (folder name)) result of_memory;
}
opened_named slot name expected before after result (inr (opening, named, is, answer)) = record {
  open_log = opening ∷ [];
  unopened = [];
  all = ap openings_of is;
  names = ap (λ n. n ∷ []) (sym named);
  whole = always_whole _ result refl;
  answer = λ firm folder shows.
      answer firm (folder name) (subst (λ (n : List ℕ). Shows (limit_of slot) firm opening (folder n)) named shows);
}

-- no file is named
opened_none : {T : Type 0} (slot : Slot) (expected : Folder → Result T RunFault) (before : Openings) (result : Result T RunFault)
    → ((firm : Bool) (folder : Folder) → Meets source_of (IsTrue firm) (expected folder) result)
    → Opened slot None expected before before result
opened_none slot expected before result meets = record {
  open_log = [];
  unopened = [];
  all = sym (append-nil (openings_of before));
  names = refl;
  whole = always_whole _ result refl;
  answer = λ firm folder is. meets firm folder;
}

-- ---- The reading of one file

-- no file is named
pub reads_none : {T : Type 0} {slot : Slot} {expected : Folder → Result T RunFault} {IsValid : T → Type 0} {state : FilesState} {value : T}
    → ((folder : Folder) → expected folder ≡ Ok value) → IsValid value → ReadsFile slot None expected IsValid state state (Ok value)
reads_none {slot = slot} {expected = expected} {state = state} {value = value} is valid = record {
  opened = opened_none slot expected state.open_log (Ok value) (λ firm folder. is folder);
  unnamed = λ none. sym (is (λ _. None));
  valid = valid;
  read = read_none no_file state;
  fault = tt;
}

module _ {S : Type 0} {slot : Slot} {name : List ℕ} {IsShort : List ℕ → Type 0} {before after : FilesState} {next : List ℕ → Result S RunFault}
    {IsValid : S → Type 0} where
  -- the bytes couldn't be read
  pub reads_fault : {none : RunFault} (result : Result S RunFault) → IsErrAnd result (λ e. e ≡ none)
      → ReadsFile slot (Some name) (λ folder. bytes_of slot (folder name)) IsShort before after (Err none)
      → ReadsFile slot (Some name) (λ folder. bytes_of slot (folder name) >>= next) IsValid before after result
  reads_fault (Ok value) is bytes = absurd is
  reads_fault {none = none} (Err e) is bytes =
      rw is
      (record {
        opened = record {
          open_log = bytes.opened.open_log;
          unopened = bytes.opened.unopened;
          all = bytes.opened.all;
          names = bytes.opened.names;
          whole = tt;
          answer = λ firm folder shows.
              meets_at (IsTrue firm) (bytes_of slot (folder name)) next (Err none) none refl (bytes.opened.answer firm folder shows);
        };
        unnamed = λ no_name. cc;
        valid = tt;
        read = bytes.read;
        fault = bytes.fault;
      })

  -- the bytes were read, and a step that touches no file reads the contents
  pub reads_contents : {bytes : List ℕ} (result : Result S RunFault) → IsOfContents slot IsValid (next bytes) result
      → ReadsFile slot (Some name) (λ folder. bytes_of slot (folder name)) IsShort before after (Ok bytes)
      → ReadsFile slot (Some name) (λ folder. bytes_of slot (folder name) >>= next) IsValid before after result
  reads_contents result contents bytes = record {
    opened = record {
      open_log = bytes.opened.open_log;
      unopened = bytes.opened.unopened;
      all = bytes.opened.all;
      names = bytes.opened.names;
      whole = always_whole _ result bytes.opened.whole;
      answer = λ firm folder shows.
          rw (bytes.opened.answer firm folder shows) (meets_inside (IsTrue firm) (next _) result contents.same);
    };
    unnamed = λ no_name. cc;
    valid = contents.valid;
    read = rw contents.read bytes.read;
    fault = contents.fault;
  }

-- the element at an index after that many others
get_behind : (before : List Opening) (here : Opening) (more : List Opening) → slice_get (before ++ here ∷ more) (length before) ≡ Some here
get_behind [] here more = refl
get_behind (first ∷ before) here more = get_behind before here more

-- the opening at a file's index shows the file
pub shown_at : (slot : Slot) (firm : Bool) (folder : Folder) (before here more : List Opening) (index : ℕ) → index ≡ length before
    → IfSome (slice_get (before ++ (here ++ more)) index) (λ o. Shows (limit_of slot) firm o (folder o.name))
    → IsShown slot firm here folder
shown_at slot firm folder before [] more index at shows = tt
shown_at slot firm folder before (opening ∷ unread_bytes) more index at shows = rw (at, get_behind before opening (unread_bytes ++ more)) at shows

-- ---- The contents of a file, from its bytes

memory_of_bytes : (slot : Slot) (result : Result (List ℕ) ReadAllFault) → IsOutOfMemory source_of_reading result
    → IsOutOfMemory source_of (bytes_from slot result)
memory_of_bytes slot (Ok bytes) out = absurd out
memory_of_bytes slot (Err reading.NoMemory) out = refl
memory_of_bytes slot (Err reading.Failed) out = let no : outside ≡ memory = out in cc
memory_of_bytes slot (Err reading.TooLong) out = let no : given ≡ memory = out in cc

bytes_meet : (slot : Slot) (firm : Type 0) (file : Option (List ℕ)) (result : Result (List ℕ) ReadAllFault)
    → Meets source_of_reading firm (whole (limit_of slot) file) result → Meets source_of firm (bytes_of slot file) (bytes_from slot result)
bytes_meet slot firm file (Ok bytes) meets = rw meets refl
bytes_meet slot firm file (Err fault) meets = excuses_bytes firm slot file fault meets

pub opened_bytes : (slot : Slot) (name : List ℕ) (before after : Openings) (result : Result (List ℕ) ReadAllFault)
    → OpenedOnce source_of_reading (whole (limit_of slot)) (limit_of slot) name before after result
    → Opened slot (Some name) (λ folder. bytes_of slot (folder name)) before after (bytes_from slot result)
opened_bytes slot name before after result once =
    opened_named slot name (bytes_of slot) before after (bytes_from slot result)
    (once_as source_of_reading (whole (limit_of slot)) source_of (bytes_of slot) (limit_of slot) name before after result
    (bytes_from slot result)
    (λ firm file meets. bytes_meet slot (IsTrue firm) file result meets) (memory_of_bytes slot result) once)

memory_of_book : (result : Result TheBook LoadFault) → IsOutOfMemory source_of_loading result → IsOutOfMemory source_of (named_from result)
unfolding named_from
memory_of_book (Ok book) out = absurd out
memory_of_book (Err load.Failed) out = let no : outside ≡ memory = out in cc
memory_of_book (Err load.TooLong) out = let no : given ≡ memory = out in cc
memory_of_book (Err (load.Book form.NoMemory)) out = refl
memory_of_book (Err (load.Book (form.At line why))) out = let no : given ≡ memory = out in cc

book_meets : (name : List ℕ) (firm : Type 0) (file : Option (List ℕ)) (result : Result TheBook LoadFault)
    → Meets source_of_loading firm (loaded (limit_of File) file) result
    → Meets source_of firm (book_named (λ _. file) name) (named_from result)
unfolding named_from
book_meets name firm file (Ok book) meets = named_book (λ _. file) name book meets
book_meets name firm file (Err fault) meets = excuses_book firm (λ _. file) name fault meets

pub opened_book : (name : List ℕ) (before after : Openings) (result : Result TheBook LoadFault)
    → OpenedOnce source_of_loading (loaded (limit_of File)) (limit_of File) name before after result
    → Opened File (Some name) (λ folder. book_named folder name) before after (named_from result)
unfolding book_named
opened_book name before after result once =
    opened_named File name (λ file. book_named (λ _. file) name) before after (named_from result)
    (once_as source_of_loading (loaded (limit_of File)) source_of (λ file. book_named (λ _. file) name) (limit_of File) name before after
    result (named_from result)
    (λ firm file meets. book_meets name (IsTrue firm) file result meets) (memory_of_book result) once)

-- ---- One file after the other

map-append : (first second : List Opening) → map (λ o. o.name) (first ++ second) ≡ map (λ o. o.name) first ++ map (λ o. o.name) second
map-append [] second = refl
map-append (o ∷ first) second = ap (λ names. o.name ∷ names) (map-append first second)

-- names follow those before
pub names_on : (first second : List Opening) (names more left : List (List ℕ)) → names ≡ map (λ o. o.name) first
    → more ≡ map (λ o. o.name) second ++ left → names ++ more ≡ map (λ o. o.name) (first ++ second) ++ left
names_on first second names more left is next =
    ap (λ n. n ++ more) is
    ∙ ap (λ m. map (λ o. o.name) first ++ m) next
    ∙ sym (append_assoc (map (λ o. o.name) first) (map (λ o. o.name) second) left)
    ∙ ap (λ n. n ++ left) (sym (map-append first second))

-- a file that was read was opened, if it is named
pub all_named : {T : Type 0} (slot : Slot) (name : Option (List ℕ)) (expected : Folder → Result T RunFault) (before after : Openings)
    (value : T) (o : Opened slot name expected before after (Ok value)) → as_list name ≡ map (λ it. it.name) o.open_log
all_named slot name expected before after value o =
    o.names ∙ ap (λ left. map (λ it. it.name) o.open_log ++ left) o.whole ∙ append-nil (map (λ it. it.name) o.open_log)

pub length-names : (open_log : List Opening) → length (map (λ o. o.name) open_log) ≡ length open_log
length-names [] = refl
length-names (o ∷ open_log) = ap suc (length-names open_log)

-- ---- The names up to a fault

pub up_to : (name : List ℕ) (question : Question) (slot : Slot)
    → (more : List (List ℕ)) × (names_of name question ≡ names_to name question (Some slot) ++ more)
up_to name question File = (as_list question.offsets ++ (as_list (zone_file question.zone) ++ as_list question.certificate), refl)
up_to name question Offsets = (as_list (zone_file question.zone) ++ as_list question.certificate, refl)
up_to name question Zone = (
  as_list question.certificate,
  ap (λ n. name ∷ n) (sym (append_assoc (as_list question.offsets) (as_list (zone_file question.zone)) (as_list question.certificate))),
)
up_to name question Certificate = ([], sym (append-nil (names_of name question)))

pub stops_at : (name : List ℕ) (question : Question) (slot : Slot) (said : Option Slot) → ForSome said (λ other. other ≡ slot)
    → (more : List (List ℕ)) × (names_to name question said ≡ names_to name question (Some slot) ++ more)
stops_at name question slot None is = up_to name question slot
stops_at name question slot (Some other) is =
    ([], ap (λ it. names_to name question (Some it)) (is other refl) ∙ sym (append-nil (names_to name question (Some slot))))

-- ---- The contents that agree with what was read

came_by : (limit : ℕ) (opening : Opening) (out : Bool) → is_read_out limit opening ≡ out
    → (IsTrue out → (left : List ℕ) × ((if out then Some opening.bytes else None) ≡ Some (opening.bytes ++ left))
    × (0 < opening.ends → left ≡ []))
    × (out ≡ false → (if out then Some opening.bytes else None) ≡ None)
came_by limit opening true is = (λ t. ([], ap Some (sym (append-nil opening.bytes)), λ some. refl), λ untrue. let never : true ≡ false = untrue in cc)
came_by limit opening false is = (λ t. let never : false ≡ true = t in cc, λ _. refl)

shows_itself_at : (slot : Slot) (opening : Option Opening) → IfSome opening (λ o. Shows (limit_of slot) true o (shown slot opening))
shows_itself_at slot None = tt
shows_itself_at slot (Some o) =
    let by = came_by (limit_of slot) o (is_read_out (limit_of slot) o) refl in
    record { read = λ t. by.0 t; absent = λ firm out why. by.1 out }

-- the contents that the openings show agree with what was read
pub shows_itself : (question : Question) (open_log : List Opening) → AreShown question true open_log (folders_shown question open_log)
shows_itself question open_log = λ slot. shows_itself_at slot (slice_get open_log (index_of question slot))

each : (P : Opening → Type 0) (open_log : List Opening) (index : ℕ) → All P open_log → IfSome (slice_get open_log index) P
each P open_log index all = elim (slice_get_cases open_log index).1 [
  | inl here ↦ rw here.2 (subst P here.3 (All-get_or P open_log index here.0 here.1 all))
  | inr past ↦ rw past.1 tt
]

some_as : (P Q : Opening → Type 0) (opening : Option Opening) → ((o : Opening) → P o → Q o) → IfSome opening P → IfSome opening Q
some_as P Q None says is = tt
some_as P Q (Some o) says is = says o is

-- the contents of observable files agree with what was read of them
pub shows_own : (question : Question) (firm : Bool) (open_log : List Opening) (file_contents : FileContents) → (IsTrue firm → IsTrue file_contents.is_steady)
    → All (IsOfStore file_contents) open_log → AreShown question firm open_log (λ slot. file_contents.folder)
shows_own question firm open_log file_contents steady of = λ slot.
    let shows : (o : Opening) → IsOfStore file_contents o → Shows (limit_of slot) firm o (file_contents.folder o.name) =
    λ o is. shows_by_law (limit_of slot) firm file_contents o steady is in
    some_as (IsOfStore file_contents) (λ o. Shows (limit_of slot) firm o (file_contents.folder o.name)) (slice_get open_log (index_of question slot)) shows
    (each (IsOfStore file_contents) open_log (index_of question slot) of)

-- the same for the arguments of a command line
pub shows_itself_for : {E : Type 0} (asked : Result Question E) (open_log : List Opening) (folders : Folders)
    → ((question : Question) → asked ≡ Ok question → folders ≡ folders_shown question open_log)
    → AreShownFor asked true open_log folders
shows_itself_for (Ok question) open_log folders are = rw (are question refl) (shows_itself question open_log)
shows_itself_for (Err fault) open_log folders are = tt

behind : (P : Opening → Type 0) (before open_log : List Opening) → All P (before ++ open_log) → All P open_log
behind P [] open_log all = all
behind P (o ∷ before) open_log all = behind P before open_log (All-tail P o (before ++ open_log) all)

pub shows_own_for : {E : Type 0} (asked : Result Question E) (firm : Bool) (open_log : List Opening) (before after : FilesState)
    → (IsTrue firm → IsTrue before.file_contents.is_steady) → IsLawful after → after.file_contents ≡ before.file_contents
    → openings_of after.open_log ≡ openings_of before.open_log ++ open_log → IsTrue before.file_contents.is_observable
    → AreShownFor asked firm open_log (λ slot. before.file_contents.folder)
shows_own_for (Ok question) firm open_log before after steady lawful file_contents all t =
    let whole : All (IsOfStore before.file_contents) (openings_of after.open_log) = rw file_contents at (all_of_store after (lawful (rw file_contents t))) in
    let both : All (IsOfStore before.file_contents) (openings_of before.open_log ++ open_log) = rw all at whole in
    shows_own question firm open_log before.file_contents steady (behind (IsOfStore before.file_contents) (openings_of before.open_log) open_log both)
shows_own_for (Err fault) firm open_log before after steady lawful file_contents all t = tt
