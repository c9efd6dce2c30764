-- The files of a request that were read, and an answer over them.
use Rattle.std.proofs.Common.{◌≡◌, ℕ, ℤ, ◌≤◌, Bool, true, false, cond, List, [], length, nat_le, Option, Some, None, Result, Ok, Err, refl, subst, sym, ap, ◌∙◌, arith}
use Rattle.std.proofs.lemmas.Bool.{leb-true, le-leb}
use Rattle.std.proofs.lemmas.List.Elements.{All-nil}
use Rattle.harmonics_book.specs.declared.book.Book.{Book as TheBook}
use Rattle.harmonics_book.specs.Books.{IsBook}
use Rattle.harmonics_text.specs.Reading.{At, book_of}
use Rattle.harmonics_text.proofs.Readers.{book_valid}
use Rattle.question.specs.declared.question.Question.{Question}
use Rattle.report_sheets.specs.Sheets.{SheetSpec}
use Rattle.station_table.specs.declared.fault.OffsetFault.{OffsetFault}
use Rattle.station_table.specs.declared.offsets.Offsets.{Offsets as TableRow}
use Rattle.station_table.specs.Offsets.{IsOffsets, IsTable}
use Rattle.station_table.specs.Table.{table_of}
use Rattle.tide_fault.specs.declared.refusal.Refusal.{Refusal}
use Rattle.tide_fault.specs.declared.refusal.Refusal.TheVariants.{NoStation}
use Rattle.tide_fault.specs.declared.slot.Slot.{Slot}
use Rattle.tide_fault.specs.declared.slot.Slot.TheVariants as slots
use Rattle.tide_answer.specs.declared.text.Answer.{Answer}
use Rattle.tide_answer.specs.Answers.{answered, answered_without_files, text_by, text_from}
use Rattle.decimal_text.proofs.ExpectedLemmas.{then_ok}
use Rattle.tide_edge.specs.declared.files.read_all_fault.ReadAllFault.TheVariants as reading
use Rattle.named_files.specs.declared.materials.Materials.{Materials}
use Rattle.tide_desk.specs.Answers.{answer_from, answer_of, answered_over_optional_file, answered_over_file, answered_over_book, question_of_words, given_with, is_report, minute_for}
use Rattle.named_files.specs.RunFaults.{refused_over}
use Rattle.tide_desk.specs.Laws.{Holds}
use Rattle.named_files.specs.Readings.{limit_of, bytes_from, bytes_of, book_from, book_named, table_from, table_named, zone_named, certificate_named, files_in}
use Rattle.tide_edge.specs.FileStates.{Folder}
use Rattle.station_table.proofs.ValidTableLemmas.{table_valid}
use Rattle.decimal_text.specs.declared.limits.TheConstants.{MOST_BYTES}

-- ---- the bytes under a name

read_within : (slot : Slot) (within : Bool) (held bytes : List ℕ)
    → bytes_from slot (cond within (Ok held) (Err reading.TooLong)) ≡ Ok bytes → (within ≡ true) × (held ≡ bytes)
read_within slot true held bytes ok = (refl, cc)
read_within slot false held bytes ok = absurd cc

bytes_held : (slot : Slot) (file : Option (List ℕ)) (bytes : List ℕ) → bytes_of slot file ≡ Ok bytes
    → (file ≡ Some bytes) × (length bytes ≤ limit_of slot)
bytes_held slot None bytes ok = absurd cc
bytes_held slot (Some held) bytes ok =
    let read = read_within slot (nat_le (length held) (limit_of slot)) held bytes ok in
    (ap Some read.1, subst (λ (bs : List ℕ). length bs ≤ limit_of slot) read.1 (leb-true (length held) (limit_of slot) read.0))

pub bytes_whole : (slot : Slot) (file : Option (List ℕ)) (bytes : List ℕ) → file ≡ Some bytes
    → length bytes ≤ limit_of slot → bytes_of slot file ≡ Ok bytes
bytes_whole slot file bytes held few = rw (held, le-leb (length bytes) (limit_of slot) few) refl

-- ---- the harmonic constants and the table

book_ok : (read : Result TheBook At) (book : TheBook) → book_from read ≡ Ok book → read ≡ Ok book
book_ok (Ok found) book ok = cc
book_ok (Err at) book ok = absurd cc

table_ok : (read : Result (List TableRow) OffsetFault) (table : List TableRow) → table_from read ≡ Ok table → read ≡ Ok table
table_ok (Ok rows) table ok = cc
table_ok (Err fault) table ok = absurd cc

pub named_book : (folder : Folder) (name : List ℕ) (book : TheBook) → book_named folder name ≡ Ok book → IsBook book
unfolding book_named
named_book folder name book ok =
    let bytes = then_ok (bytes_of slots.File (folder name)) _ book ok in
    book_valid bytes.0 (Ok book) (book_ok (book_of bytes.0) book bytes.2)

no_rows : IsTable []
no_rows = record { few = omega arith; each = All-nil IsOffsets }

pub named_table : (folder : Folder) (named : Option (List ℕ)) (table : List TableRow) → table_named folder named ≡ Ok table → IsTable table
unfolding table_named
named_table folder None table ok = let none : [] ≡ table = cc in subst IsTable none no_rows
named_table folder (Some name) table ok =
    let bytes = then_ok (bytes_of slots.Offsets (folder name)) _ table ok in
    let held = bytes_held slots.Offsets (folder name) bytes.0 bytes.1 in
    table_valid bytes.0 table (omega (arith, held.1)) (table_ok (table_of bytes.0) table bytes.2)

-- ---- the certificate

pub certificate_there : (folder : Folder) (named : Option (List ℕ)) (text : List ℕ) → Holds folder named text
    → length text ≤ MOST_BYTES → certificate_named folder named ≡ Ok text
unfolding certificate_named
certificate_there folder None text held few = absurd held
certificate_there folder (Some name) text held few = bytes_whole slots.Certificate (folder name) text held few

-- the text of a certificate is the text of a named file, or empty
pub certificate_held : (folder : Folder) (named : Option (List ℕ)) (text : List ℕ)
    → certificate_named folder named ≡ Ok text → (text ≡ [] → ⊥) → Holds folder named text
unfolding certificate_named
certificate_held folder None text ok some = absurd (some cc)
certificate_held folder (Some name) text ok some = (bytes_held slots.Certificate (folder name) text ok).0

-- ---- all files of a request

pub record WasRead (folder : Folder) (question : Question) (name : List ℕ) (read : Materials) : Type 0 where
  pub book : book_named folder name ≡ Ok read.book
  pub table : table_named folder question.offsets ≡ Ok read.table
  pub zone : zone_named folder question.zone ≡ Ok read.zone
  pub certificate : certificate_named folder question.certificate ≡ Ok read.certificate

files_read : (folder : Folder) (question : Question) (name : List ℕ) (read : Materials)
    → files_in (λ slot. folder) question name ≡ Ok read → WasRead folder question name read
unfolding files_in
files_read folder question name read ok =
    let book = then_ok (book_named folder name) _ read ok in
    let table = then_ok (table_named folder question.offsets) _ read book.2 in
    let zone = then_ok (zone_named folder question.zone) _ read table.2 in
    let certificate = then_ok (certificate_named folder question.certificate) _ read zone.2 in
    let same : record { book = book.0; table = table.0; zone = zone.0; certificate = certificate.0 } ≡ read =
    (let last = certificate.2 in cc) in
    subst (WasRead folder question name) same
    (record { book = book.1; table = table.1; zone = zone.1; certificate = certificate.1 })

pub read_whole : (folder : Folder) (question : Question) (name : List ℕ) (read : Materials)
    → WasRead folder question name read → files_in (λ slot. folder) question name ≡ Ok read
unfolding files_in
read_whole folder question name read was = rw (was.book, was.table, was.zone, was.certificate) refl

-- ---- an answer over them

pub record WasAnswered (folder : Folder) (minute : ℤ) (question : Question) (answer : Answer) : Type 0 where
  pub name : List ℕ
  pub file : question.file ≡ Some name
  pub read : Materials
  pub files : WasRead folder question name read
  pub text : text_by question.command read.book read.table question (given_with read (minute_for question.command minute)) ≡ Ok answer

pub unrefused : (table : List TableRow) (result : Result Answer Refusal) (answer : Answer)
    → refused_over table result ≡ Ok answer → result ≡ Ok answer
unrefused table (Ok found) answer ok = cc
unrefused table (Err refusal) answer ok = absurd cc

-- a command that reads files, and isn't a report, has no answer without them
pub record ReadsFiles (question : Question) : Type 0 where
  pub alone : (seed : Option ℕ) → text_from question.command seed ≡ Err NoStation
  pub plain : is_report question.command ≡ false

over_file :
    (sheets : List SheetSpec) (folder : Folder) (minute : ℤ) (question : Question) (name : List ℕ) (answer : Answer)
    → question.file ≡ Some name → ReadsFiles question → answered_over_file sheets (λ slot. folder) minute question name
    ≡ Ok answer → WasAnswered folder minute question answer
unfolding answered_over_file answered
over_file sheets folder minute question name answer file reads ok =
    let read = then_ok (files_in (λ slot. folder) question name) _ answer ok in
    let inputs = given_with read.0 (minute_for question.command minute) in
    let P : Bool → Type 0 =
    λ report. refused_over read.0.table (answered_over_book report sheets read.0.book read.0.table question inputs)
    ≡ Ok answer in
    record {
      name = name;
      file = file;
      read = read.0;
      files = files_read folder question name read.0 read.1;
      text = unrefused read.0.table (answered read.0.book read.0.table question inputs) answer (subst P reads.plain read.2);
    }

by_file : (sheets : List SheetSpec) (folder : Folder) (minute : ℤ) (question : Question) (file : Option (List ℕ))
    (answer : Answer) → question.file ≡ file → ReadsFiles question
    → answered_over_optional_file sheets (λ slot. folder) minute question file ≡ Ok answer
    → WasAnswered folder minute question answer
unfolding answered_without_files
by_file sheets folder minute question (Some name) answer file reads ok = over_file sheets folder minute question name answer file reads ok
by_file sheets folder minute question None answer file reads ok = absurd (let none = rw (reads.alone question.seed) at ok in cc)

-- a command line has the answer of its request
pub words_answer : (sheets : List SheetSpec) (folder : Folder) (minute : ℤ) (words : List (List ℕ))
    (question : Question) → question_of_words sheets words ≡ Ok question → answer_of sheets folder minute words
    ≡ answered_over_optional_file sheets (λ slot. folder) minute question question.file
unfolding answer_from
words_answer sheets folder minute words question asked = rw asked refl

pub was_answered : (sheets : List SheetSpec) (folder : Folder) (minute : ℤ) (words : List (List ℕ))
    (question : Question) (answer : Answer) → question_of_words sheets words ≡ Ok question → ReadsFiles question
    → answer_of sheets folder minute words ≡ Ok answer → WasAnswered folder minute question answer
was_answered sheets folder minute words question answer asked reads ok =
    by_file sheets folder minute question question.file answer refl reads
    (sym (words_answer sheets folder minute words question asked) ∙ ok)

-- the answer is the request's answer over the contents of the files
is_over_file : (sheets : List SheetSpec) (folder : Folder) (minute : ℤ) (question : Question) (answer : Answer)
    (was : WasAnswered folder minute question answer) → is_report question.command ≡ false
    → answered_over_file sheets (λ slot. folder) minute question was.name ≡ Ok answer
unfolding answered_over_file answered
is_over_file sheets folder minute question answer was plain =
    rw (read_whole folder question was.name was.read was.files, plain, was.text) refl

pub is_answered : (sheets : List SheetSpec) (folder : Folder) (minute : ℤ) (question : Question) (answer : Answer)
    → is_report question.command ≡ false → WasAnswered folder minute question answer
    → answered_over_optional_file sheets (λ slot. folder) minute question question.file ≡ Ok answer
is_answered sheets folder minute question answer plain was =
    ap (answered_over_optional_file sheets (λ slot. folder) minute question) was.file
    ∙ is_over_file sheets folder minute question answer was plain
