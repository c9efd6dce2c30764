-- The contents of files, from the steps of reading.
use Rattle.std.proofs.Common.{◌≡◌, ◌∙◌, ap, sym, ℕ, ◌≤◌, nat_le, Bool, true, false, cond, List, length, Option, Some, None, Result, Ok, Err, arith, refl, subst}
use Rattle.std.specs.Result.{IsErrAnd}
use Rattle.decimal_text.specs.Expected.{◌>>=◌, Excused, EqualsUnlessNoMemory}
use Rattle.harmonics_book.specs.declared.book.Book.{Book as TheBook}
use Rattle.harmonics_text.specs.declared.fault.BookFault.TheVariants as form
use Rattle.harmonics_text.specs.Reading.{At, book_of}
use Rattle.tide_fault.specs.declared.fault.Fault.{Fault}
use Rattle.named_files.specs.declared.loading.LoadFault.{LoadFault}
use Rattle.named_files.specs.declared.loading.LoadFault.TheVariants as load
use Rattle.tide_fault.specs.declared.slot.Slot.{Slot}
use Rattle.tide_fault.specs.declared.slot.Slot.TheVariants.{File, Offsets, Zone, Certificate}
use Rattle.tide_fault.specs.Faults.{is_out_of_memory as fault_is_out_of_memory, refusal_is_out_of_memory}
use Rattle.named_files.specs.Loading.{loaded, bytes_from as load_bytes_from, book_from as load_book_from, source_of as source_of_loading}
use Rattle.station_table.specs.declared.fault.OffsetFault.{OffsetFault}
use Rattle.station_table.specs.declared.fault.OffsetFault.TheVariants as table
use Rattle.station_table.specs.declared.offsets.Offsets.{Offsets as TableRow}
use Rattle.station_table.specs.Reasons.{is_out_of_memory as table_is_out_of_memory}
use Rattle.tide_edge.specs.declared.files.read_all_fault.ReadAllFault.{ReadAllFault}
use Rattle.tide_edge.specs.declared.files.read_all_fault.ReadAllFault.TheVariants as reading
use Rattle.decimal_text.specs.Expected.{Source, memory, outside, given, Excuses, Meets}
use Rattle.tide_edge.specs.FileStates.{Folder}
use Rattle.question.specs.declared.question.Question.{Question}
use Rattle.std.specs.Option.{ForSome}
use Rattle.std.specs.Result.{IfErr, IfOk}
use Rattle.tide_edge.specs.FileStates.{FilesState}
use Rattle.tide_edge.specs.Whole.{Allowance, ReadWithin, whole, source_of as source_of_reading}
use Rattle.zone_time.specs.declared.zone.Zone.{Zone as TheZone}
use Rattle.zone_time.specs.declared.zone_fault.ZoneFault.{ZoneFault}
use Rattle.zone_time.specs.declared.zone_fault.ZoneFault.TheVariants as zones
use Rattle.zone_time.specs.Zones.{IsZone, is_out_of_memory as zone_is_out_of_memory}
use Rattle.named_files.specs.declared.run_fault.RunFault.{RunFault}
use Rattle.named_files.specs.declared.run_fault.RunFault.TheVariants.{Unread, Faulty, Refused}
use Rattle.named_files.specs.RunFaults.{IsOf, is_unread, reading_failed, source_of, faulty, is_out_of_memory}
use Rattle.named_files.specs.Readings.{allowed_to, files_allowed, book_from, book_named, bytes_from, bytes_of, fault_of_loading, fault_of_reading, limit_of, table_from, zone_from}

-- ---- Steps, one after the other

-- a fault of the first step is one of the whole
excuses_next : {A B : Type 0} (firm : Type 0) (source : Source) (step : Result A RunFault)
    (next : A → Result B RunFault) (none : RunFault) → Excuses source firm step none
    → Excuses source firm (step >>= next) none
excuses_next firm memory step next none excused = tt
excuses_next firm outside step next none excused = λ f. rw (excused f) refl
excuses_next firm given step next none excused = rw excused refl

-- a result that is an excused fault meets the expected one
meets_fault : {A : Type 0} (firm : Type 0) (expected result : Result A RunFault) (none : RunFault)
    → IsErrAnd result (λ e. e ≡ none) → Excuses (source_of none) firm expected none
    → Meets source_of firm expected result
meets_fault firm expected (Ok value) none is excused = absurd is
meets_fault firm expected (Err e) none is excused =
    let P : RunFault → Type 0 = λ x. Excuses (source_of x) firm expected x in subst P (sym is) excused

pub meets_at : {A B : Type 0} (firm : Type 0) (step : Result A RunFault) (next : A → Result B RunFault)
    (result : Result B RunFault) (none : RunFault) → IsErrAnd result (λ e. e ≡ none)
    → Excuses (source_of none) firm step none → Meets source_of firm (step >>= next) result
meets_at firm step next result none is excused =
    meets_fault firm (step >>= next) result none is (excuses_next firm (source_of none) step next none excused)

-- reading has failed, if a step has
pub failed_at : {A : Type 0} (result : Result A RunFault) (none : RunFault) → IsErrAnd result (λ e. e ≡ none)
    → reading_failed result ≡ is_unread none
failed_at (Ok value) none is = absurd is
failed_at (Err e) none is = ap is_unread is

-- ---- The excuses of a fault

inside_excuses : {A : Type 0} (firm : Type 0) (out_of_memory : Bool) (expected : Result A RunFault) (none : RunFault)
    → Excused out_of_memory expected none → Excuses (cond out_of_memory memory given) firm expected none
inside_excuses firm true expected none excused = tt
inside_excuses firm false expected none excused = excused

returned_excuses : {A : Type 0} (firm : Type 0) (expected : Result A RunFault) (none : RunFault)
    → Excused (is_out_of_memory none) expected none → Excuses (source_of none) firm expected none
returned_excuses firm expected Unread excused = λ f. excused
returned_excuses firm expected (Faulty fault) excused = inside_excuses firm (fault_is_out_of_memory fault) expected (Faulty fault) excused
returned_excuses firm expected (Refused refusal rows) excused =
    inside_excuses firm (refusal_is_out_of_memory refusal) expected (Refused refusal rows) excused

-- a step that touches no file and no clock
pub meets_inside : {A : Type 0} (firm : Type 0) (expected result : Result A RunFault)
    → EqualsUnlessNoMemory is_out_of_memory expected result → Meets source_of firm expected result
meets_inside firm expected (Ok value) returned = returned
meets_inside firm expected (Err none) returned = returned_excuses firm expected none returned

-- the result of a step that touches no file, for the bytes of a file of this kind
pub record IsOfContents {T : Type 0} (slot : Slot) (IsValid : T → Type 0) (expected result : Result T RunFault) : Type 0 where
  pub same : EqualsUnlessNoMemory is_out_of_memory expected result
  pub valid : IfOk result IsValid
  pub read : reading_failed result ≡ false
  pub fault : IfErr result (IsOf slot)

-- a table and a zone that were read, with the reasons of a run
pub table_inside : (expected read : Result (List TableRow) OffsetFault) → EqualsUnlessNoMemory table_is_out_of_memory expected read
    → IsOfContents Offsets (λ _. Unit {0}) (table_from expected) (table_from read)
table_inside expected (Ok rows) returned = record { same = rw returned refl; valid = tt; read = refl; fault = tt }
table_inside expected (Err table.NoMemory) returned = record { same = tt; valid = tt; read = refl; fault = λ slot is. cc }
table_inside expected (Err (table.At row why)) returned = record { same = rw returned refl; valid = tt; read = refl; fault = λ slot is. cc }

pub zone_inside : (expected read : Result TheZone ZoneFault) → EqualsUnlessNoMemory zone_is_out_of_memory expected read → IfOk read IsZone
    → IsOfContents Zone IsZone (zone_from expected) (zone_from read)
zone_inside expected (Ok zone) returned valid = record { same = rw returned refl; valid = valid; read = refl; fault = tt }
zone_inside expected (Err zones.NoMemory) returned valid = record { same = tt; valid = tt; read = refl; fault = λ slot is. cc }
zone_inside expected (Err zones.BadZone) returned valid = record { same = rw returned refl; valid = tt; read = refl; fault = λ slot is. cc }

faulty_inside : {A : Type 0} (firm : Type 0) (out_of_memory : Bool) (step : Result A Fault) (fault : Fault)
    → Excused out_of_memory step fault → Excuses (cond out_of_memory memory given) firm (faulty step) (Faulty fault)
faulty_inside firm true step fault excused = tt
faulty_inside firm false step fault excused = rw excused refl

pub faulty_excuses : {A : Type 0} (firm : Type 0) (step : Result A Fault) (fault : Fault)
    → Excused (fault_is_out_of_memory fault) step fault
    → Excuses (source_of (Faulty fault)) firm (faulty step) (Faulty fault)
faulty_excuses firm step fault excused = faulty_inside firm (fault_is_out_of_memory fault) step fault excused

pub excuses_weaker : {A : Type 0} (firm weaker : Type 0) (source : Source) (expected : Result A RunFault)
    (none : RunFault) → (firm → weaker) → Excuses source weaker expected none → Excuses source firm expected none
excuses_weaker firm weaker memory expected none implies excused = tt
excuses_weaker firm weaker outside expected none implies excused = λ f. excused (implies f)
excuses_weaker firm weaker given expected none implies excused = excused

-- ---- The bytes of a file

pub excuses_bytes : (firm : Type 0) (slot : Slot) (file : Option (List ℕ)) (fault : ReadAllFault)
    → Excuses (source_of_reading fault) firm (whole (limit_of slot) file) fault
    → Excuses (source_of (fault_of_reading slot fault)) firm (bytes_of slot file) (fault_of_reading slot fault)
excuses_bytes firm slot file reading.Failed excused = λ s. rw (excused s) refl
excuses_bytes firm slot file reading.TooLong excused = rw excused refl
excuses_bytes firm slot file reading.NoMemory excused = tt

-- ---- The harmonic constants, which are loaded in pieces

unfoldable pub named_from : Result TheBook LoadFault → Result TheBook RunFault
named_from (Ok book) = Ok book
named_from (Err fault) = Err (fault_of_loading fault)

same_form : (form : Result TheBook At) → book_from form ≡ named_from (load_book_from form)
unfolding named_from
same_form (Ok book) = refl
same_form (Err at) = refl

same_cut : (short : Bool) (bytes : List ℕ)
    → (bytes_from File (cond short (Ok bytes) (Err reading.TooLong)) >>= λ bytes. book_from (book_of bytes))
    ≡ named_from (load_bytes_from (cond short (Ok bytes) (Err reading.TooLong)) >>= λ bytes. load_book_from (book_of bytes))
unfolding named_from
same_cut true bytes = same_form (book_of bytes)
same_cut false bytes = refl

same_reading : (limit : ℕ) (file : Option (List ℕ))
    → (bytes_from File (whole limit file) >>= λ bytes. book_from (book_of bytes))
    ≡ named_from (load_bytes_from (whole limit file) >>= λ bytes. load_book_from (book_of bytes))
unfolding named_from
same_reading limit None = refl
same_reading limit (Some bytes) = same_cut (nat_le (length bytes) limit) bytes

named_as_loaded : (folder : Folder) (name : List ℕ) (value : Result TheBook LoadFault)
    → loaded (limit_of File) (folder name) ≡ value → book_named folder name ≡ named_from value
unfolding book_named loaded
named_as_loaded folder name value is = same_reading (limit_of File) (folder name) ∙ ap named_from is

pub named_book : (folder : Folder) (name : List ℕ) (book : TheBook) → loaded (limit_of File) (folder name) ≡ Ok book
    → book_named folder name ≡ Ok book
unfolding named_from
named_book folder name book is = named_as_loaded folder name (Ok book) is

pub excuses_book : (firm : Type 0) (folder : Folder) (name : List ℕ) (fault : LoadFault)
    → Excuses (source_of_loading fault) firm (loaded (limit_of File) (folder name)) fault
    → Excuses (source_of (fault_of_loading fault)) firm (book_named folder name) (fault_of_loading fault)
unfolding named_from
excuses_book firm folder name load.Failed excused = λ s. named_as_loaded folder name (Err load.Failed) (excused s)
excuses_book firm folder name load.TooLong excused = named_as_loaded folder name (Err load.TooLong) excused
excuses_book firm folder name (load.Book form.NoMemory) excused = tt
excuses_book firm folder name (load.Book (form.At line why)) excused =
    named_as_loaded folder name (Err (load.Book (form.At line why))) excused

-- ---- The bytes that were read before a fault

-- reading within an allowance is within any larger one
pub wider : (a b : Allowance) (failed : Bool) (before after : FilesState) → a.files ≤ b.files → a.bytes ≤ b.bytes
    → ReadWithin a failed before after → ReadWithin b failed before after
wider a b failed before after files bytes read = record {
  open_log = read.open_log;
  all = read.all;
  opens = omega (arith, read.opens, files);
  ends = omega (arith, read.ends, files);
  bytes = omega (arith, read.bytes, bytes);
  file_contents = read.file_contents;
  faults = read.faults;
}

-- what is read up to a file is within what is read of all
pub within_all : (question : Question) (said : Option Slot) (failed : Bool) (before after : FilesState)
    → ReadWithin (allowed_to question said) failed before after → ReadWithin (files_allowed question) failed before after
within_all question None failed before after read = read
within_all question (Some File) failed before after read =
    wider (allowed_to question (Some File)) (files_allowed question) failed before after (omega arith) (omega arith) read
within_all question (Some Offsets) failed before after read =
    wider (allowed_to question (Some Offsets)) (files_allowed question) failed before after (omega arith) (omega arith) read
within_all question (Some Zone) failed before after read =
    wider (allowed_to question (Some Zone)) (files_allowed question) failed before after (omega arith) (omega arith) read
within_all question (Some Certificate) failed before after read = read

-- the file that is the reason, if one is
pub said_at : (question : Question) (slot : Slot) (said : Option Slot) (failed : Bool) (before after : FilesState)
    → ForSome said (λ other. other ≡ slot) → ReadWithin (allowed_to question (Some slot)) failed before after
    → ReadWithin (allowed_to question said) failed before after
said_at question slot None failed before after is read = within_all question (Some slot) failed before after read
said_at question slot (Some other) failed before after is read =
    subst (λ (s : Slot). ReadWithin (allowed_to question (Some s)) failed before after) (sym (is other refl)) read
