-- The result of loading, from the results of reading and parsing.
use Rattle.std.proofs.Common.{◌≡◌, ◌↔◌, ℕ, List, Option, IsErrAnd, Result, Ok, Err, refl}
use Rattle.harmonics_book.specs.declared.book.Book.{Book as TheBook}
use Rattle.harmonics_text.specs.declared.fault.BookFault.{BookFault}
use Rattle.harmonics_text.specs.declared.fault.BookFault.TheVariants as form
use Rattle.harmonics_text.specs.Reading.{FailsBook, book_of}
use Rattle.tide_edge.specs.declared.files.read_all_fault.ReadAllFault.{ReadAllFault}
use Rattle.tide_edge.specs.declared.files.read_all_fault.ReadAllFault.TheVariants as reading
use Rattle.decimal_text.specs.Expected.{Excuses, memory}
use Rattle.tide_edge.specs.Whole.{whole, source_of as source_of_reading}
use Rattle.named_files.specs.declared.loading.LoadFault.{LoadFault}
use Rattle.named_files.specs.declared.loading.LoadFault.TheVariants.{TooLong, Book}
use Rattle.named_files.specs.Loading.{loaded, fault_of_reading, source_of}

-- the result if reading the file fails
pub excuses_reading : (limit : ℕ) (firm : Type 0) (file : Option (List ℕ)) (fault : ReadAllFault)
    → Excuses (source_of_reading fault) firm (whole limit file) fault
    → Excuses (source_of (fault_of_reading fault)) firm (loaded limit file) (fault_of_reading fault)
unfolding loaded
excuses_reading limit firm file reading.Failed excused = λ s. rw (excused s) refl
excuses_reading limit firm file reading.TooLong excused = rw excused refl
excuses_reading limit firm file reading.NoMemory excused = tt

-- reading that ran out of memory is loading that ran out of memory
pub memory_as : (fault : ReadAllFault) → source_of_reading fault ≡ memory → source_of (fault_of_reading fault) ≡ memory
memory_as reading.Failed is = cc
memory_as reading.TooLong is = cc
memory_as reading.NoMemory is = refl

-- the result if a line is bad
pub excuses_form : (limit : ℕ) (firm : Type 0) (file : Option (List ℕ)) (bytes : List ℕ) (fault : BookFault)
    → whole limit file ≡ Ok bytes → FailsBook fault (book_of bytes)
    → Excuses (source_of (Book fault)) firm (loaded limit file) (Book fault)
unfolding loaded
excuses_form limit firm file bytes form.NoMemory read fails = tt
excuses_form limit firm file bytes (form.At line why) read fails = rw (read, fails) refl

-- the result if neither reading nor a line fails
pub loaded_whole : (limit : ℕ) (file : Option (List ℕ)) (bytes : List ℕ) (book : TheBook) → whole limit file ≡ Ok bytes
    → book_of bytes ≡ Ok book → loaded limit file ≡ Ok book
unfolding loaded
loaded_whole limit file bytes book read returned = rw (read, returned) refl

-- the result of feeding
abbrev fed_fault : ReadAllFault → Result (Unit {0}) ReadAllFault
fed_fault fault = Err fault

abbrev all_fed : Result (Unit {0}) ReadAllFault
all_fed = Ok record {}

-- a fault of reading is passed on
pub fed_passed : (P : Type 0) (fault : ReadAllFault) (result : Result TheBook LoadFault)
    → IsErrAnd result (λ it. it ≡ fault_of_reading fault)
    → (fed_fault fault ≡ fed_fault reading.TooLong) ↔ P → (result ≡ Err TooLong) ↔ P
fed_passed P fault (Ok book) is passed = absurd is
fed_passed P reading.TooLong (Err it) is passed = (λ e. passed.0 refl, λ p. rw is refl)
fed_passed P reading.Failed (Err it) is passed = (λ e. absurd cc, λ p. absurd (let same = passed.1 p in cc))
fed_passed P reading.NoMemory (Err it) is passed = (λ e. absurd cc, λ p. absurd (let same = passed.1 p in cc))

-- the result if all bytes were fed
pub fed_unpassed : (P : Type 0) (result : Result TheBook LoadFault) → (result ≡ Err TooLong → ⊥) → (all_fed ≡ fed_fault reading.TooLong) ↔ P
    → (result ≡ Err TooLong) ↔ P
fed_unpassed P result unlike passed = (λ e. absurd (unlike e), λ p. absurd (let same = passed.1 p in cc))

pub book_unlike : (fault : BookFault) (result : Result TheBook LoadFault) → IsErrAnd result (λ it. it ≡ Book fault)
    → result ≡ Err TooLong → ⊥
book_unlike fault (Ok book) is e = absurd is
book_unlike fault (Err it) is e = absurd cc
