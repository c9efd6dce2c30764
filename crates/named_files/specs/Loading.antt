-- The result expected of loading a book from a file, and the cause of each error. A failed read is
-- reported rather than a bad line (this project).
use Rattle.std.specs.Prelude.{ℕ, Bool, true, false, List, Option, Result, Ok, Err}
use Rattle.decimal_text.specs.Expected.{◌>>=◌}
use Rattle.harmonics_book.specs.declared.book.Book.{Book as TheBook}
use Rattle.harmonics_text.specs.declared.fault.BookFault.TheVariants as form
use Rattle.harmonics_text.specs.Reading.{At, book_of}
use Rattle.tide_edge.specs.declared.files.read_all_fault.ReadAllFault.{ReadAllFault}
use Rattle.tide_edge.specs.declared.files.read_all_fault.ReadAllFault.TheVariants as reading
use Rattle.decimal_text.specs.Expected.{Source, memory, outside, given}
use Rattle.tide_edge.specs.Whole.{whole}
use Rattle.named_files.specs.declared.loading.LoadFault.{LoadFault}
use Rattle.named_files.specs.declared.loading.LoadFault.TheVariants.{Failed, TooLong, Book}

-- an error of reading a file, as an error of loading a book
abbrev pub fault_of_reading : ReadAllFault → LoadFault
fault_of_reading reading.Failed = Failed
fault_of_reading reading.TooLong = TooLong
fault_of_reading reading.NoMemory = Book form.NoMemory

-- the bytes that were read, or the error of reading as an error of loading a book
abbrev pub bytes_from : Result (List ℕ) ReadAllFault → Result (List ℕ) LoadFault
bytes_from (Ok bytes) = Ok bytes
bytes_from (Err fault) = Err (fault_of_reading fault)

-- the book that was read, or the fault of the first bad line as an error of loading a book
abbrev pub book_from : Result TheBook At → Result TheBook LoadFault
book_from (Ok book) = Ok book
book_from (Err at) = Err (Book (form.At at.line at.why))

-- `loaded limit file`: the result expected for a file with these bytes, or for None if there is no
-- such file: Failed if there is none, TooLong if it has more than `limit` bytes, else its book or
-- the fault of its first bad line
unfoldable pub loaded : ℕ → Option (List ℕ) → Result TheBook LoadFault
loaded limit file = do
  bytes ← bytes_from (whole limit file)
  book_from (book_of bytes)

-- the cause of an error: a failed call on the files, the input, or that memory ran out
abbrev pub source_of : LoadFault → Source
source_of Failed = outside
source_of TooLong = given
source_of (Book form.NoMemory) = memory
source_of (Book (form.At line why)) = given

-- true if the error is that memory ran out
abbrev pub is_out_of_memory : LoadFault → Bool
is_out_of_memory Failed = false
is_out_of_memory TooLong = false
is_out_of_memory (Book form.NoMemory) = true
is_out_of_memory (Book (form.At line why)) = false
