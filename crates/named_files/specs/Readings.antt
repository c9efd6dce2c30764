-- The contents of a request's files; each is read and its contents checked before the next is opened
-- (this project).
use Rattle.std.specs.Prelude.{ℕ, List, [], Option, Some, None, Result, Ok, Err}
use Rattle.decimal_text.specs.Expected.{◌>>=◌}
use Rattle.harmonics_book.specs.declared.book.Book.{Book as TheBook}
use Rattle.harmonics_text.specs.declared.fault.BookFault.TheVariants as form
use Rattle.harmonics_text.specs.Reading.{At, book_of}
use Rattle.question.specs.declared.question.Question.{Question}
use Rattle.question.specs.declared.question.ZoneWord.{ZoneWord}
use Rattle.question.specs.declared.question.ZoneWord.TheVariants as words
use Rattle.station_table.specs.declared.fault.OffsetFault.{OffsetFault}
use Rattle.station_table.specs.declared.offsets.Offsets.{Offsets as TableRow}
use Rattle.station_table.specs.Table.{table_of}
use Rattle.tide_fault.specs.declared.fault.Fault.TheVariants.{TooLong, Book, Offsets, BadZone, Refused}
use Rattle.named_files.specs.declared.loading.LoadFault.{LoadFault}
use Rattle.named_files.specs.declared.loading.LoadFault.TheVariants as load
use Rattle.tide_fault.specs.declared.refusal.Refusal.TheVariants.{NoMemory}
use Rattle.tide_fault.specs.declared.slot.Slot.{Slot}
use Rattle.tide_fault.specs.declared.slot.Slot.TheVariants as slots
use Rattle.tide_edge.specs.declared.files.read_all_fault.ReadAllFault.{ReadAllFault}
use Rattle.tide_edge.specs.declared.files.read_all_fault.ReadAllFault.TheVariants as reading
use Rattle.tide_edge.specs.FileStates.{Folder}
use Rattle.tide_edge.specs.Whole.{Allowance, both, no_file, one_file, whole}
use Rattle.zone_time.specs.declared.zone.Zone.{Zone}
use Rattle.zone_time.specs.declared.zone.Zone.TheVariants.{Utc, Fixed}
use Rattle.zone_time.specs.declared.zone_fault.ZoneFault.{ZoneFault}
use Rattle.zone_time.specs.declared.zone_fault.ZoneFault.TheVariants as zones
use Rattle.zone_time.specs.Zones.{zone_of}
use Rattle.named_files.specs.declared.materials.Materials.{Materials}
use Rattle.named_files.specs.declared.run_fault.RunFault.{RunFault}
use Rattle.named_files.specs.declared.run_fault.RunFault.TheVariants.{Unread, Faulty}
use Rattle.decimal_text.specs.declared.limits.TheConstants.{MOST_BYTES}

-- ---- The bytes of a file

-- the greatest number of bytes of a file of this kind: 67,108,864 for harmonic constants and for a table
-- of offsets, 1,048,576 for a zone, and 400,000,000 for a certificate
abbrev pub limit_of : Slot → ℕ
limit_of slots.File = 67108864
limit_of slots.Offsets = 67108864
limit_of slots.Zone = 1048576
limit_of slots.Certificate = MOST_BYTES

-- the reason why there is no answer, for a fault in reading a file of this kind to its end
abbrev pub fault_of_reading : Slot → ReadAllFault → RunFault
fault_of_reading slot reading.Failed = Unread
fault_of_reading slot reading.TooLong = Faulty (TooLong slot)
fault_of_reading slot reading.NoMemory = Faulty (Refused NoMemory)

-- the bytes that were read of a file of this kind; or the fault in reading it, as the reason why
-- there is no answer
abbrev pub bytes_from : Slot → Result (List ℕ) ReadAllFault → Result (List ℕ) RunFault
bytes_from slot (Ok bytes) = Ok bytes
bytes_from slot (Err fault) = Err (fault_of_reading slot fault)

-- the bytes of a file of this kind, or the reason why there is no answer: the file doesn't exist (None),
-- or it has more bytes than its limit
abbrev pub bytes_of : Slot → Option (List ℕ) → Result (List ℕ) RunFault
bytes_of slot file = bytes_from slot (whole (limit_of slot) file)

-- the reason why there is no answer, for a fault in loading a harmonics file, which is parsed while it
-- is read
abbrev pub fault_of_loading : LoadFault → RunFault
fault_of_loading load.Failed = Unread
fault_of_loading load.TooLong = Faulty (TooLong slots.File)
fault_of_loading (load.Book fault) = Faulty (Book fault)

-- ---- The contents

-- the harmonic constants that were read; or the fault of the first bad line, as the reason why
-- there is no answer
abbrev pub book_from : Result TheBook At → Result TheBook RunFault
book_from (Ok book) = Ok book
book_from (Err at) = Err (Faulty (Book (form.At at.line at.why)))

-- the rows of a table of offsets that were read; or the fault of its first bad row, as the reason
-- why there is no answer
abbrev pub table_from : Result (List TableRow) OffsetFault → Result (List TableRow) RunFault
table_from (Ok rows) = Ok rows
table_from (Err fault) = Err (Faulty (Offsets fault))

-- the zone that was read from a zone file; or the fault of this file, as the reason why there is no
-- answer
abbrev pub zone_from : Result Zone ZoneFault → Result Zone RunFault
zone_from (Ok zone) = Ok zone
zone_from (Err zones.BadZone) = Err (Faulty BadZone)
zone_from (Err zones.NoMemory) = Err (Faulty (Refused NoMemory))

-- ---- By the names of a request

-- the harmonic constants in the file called `name`, or the reason why there is no answer
unfoldable pub book_named : Folder → List ℕ → Result TheBook RunFault
book_named folder name = do
  bytes ← bytes_of slots.File (folder name)
  book_from (book_of bytes)

-- the rows of the table of offsets in the file called `name`, or the reason why there is no answer; no
-- rows if no table is named (None)
unfoldable pub table_named : Folder → Option (List ℕ) → Result (List TableRow) RunFault
table_named folder None = Ok []
table_named folder (Some name) = do
  bytes ← bytes_of slots.Offsets (folder name)
  table_from (table_of bytes)

-- the zone that a request names, which is read from a zone file if it is `Named`; or the reason why
-- there is no answer
unfoldable pub zone_named : Folder → ZoneWord → Result Zone RunFault
zone_named folder words.Utc = Ok Utc
zone_named folder (words.Fixed minutes) = Ok (Fixed minutes)
zone_named folder (words.Named name) = do
  bytes ← bytes_of slots.Zone (folder name)
  zone_from (zone_of bytes)

-- the text of the certificate in the file called `name`, or the reason why there is no answer; no bytes
-- if no certificate is named (None); the format isn't checked here
unfoldable pub certificate_named : Folder → Option (List ℕ) → Result (List ℕ) RunFault
certificate_named folder None = Ok []
certificate_named folder (Some name) = bytes_of slots.Certificate (folder name)

-- a folder for each kind of file, since a file that is read twice, as two kinds, may change in between
abbrev pub Folders : Type 0
Folders = Slot → Folder

-- the contents of all files of a request, whose harmonics file is called `name`; or the first reason, in
-- the order of reading, why there is no answer
unfoldable pub files_in : Folders → Question → List ℕ → Result Materials RunFault
files_in folders question name = do
  book ← book_named (folders slots.File) name
  table ← table_named (folders slots.Offsets) question.offsets
  zone ← zone_named (folders slots.Zone) question.zone
  certificate ← certificate_named (folders slots.Certificate) question.certificate
  Ok (record { book = book; table = table; zone = zone; certificate = certificate })

-- ---- The bytes that may be read

-- the name of a zone file, or None for universal time and for a fixed offset from it
abbrev pub zone_file : ZoneWord → Option (List ℕ)
zone_file words.Utc = None
zone_file (words.Fixed minutes) = None
zone_file (words.Named name) = Some name

-- the number of files that may be opened, and of bytes that may be read, for a file of this kind; both 0
-- if it isn't named (None)
abbrev pub allowed_for : Slot → Option (List ℕ) → Allowance
allowed_for slot None = no_file
allowed_for slot (Some name) = one_file (limit_of slot)

-- the number of files that may be opened, and of bytes that may be read, for all files of a request
abbrev pub files_allowed : Question → Allowance
files_allowed question =
    both (one_file (limit_of slots.File))
    (both (allowed_for slots.Offsets question.offsets)
    (both (allowed_for slots.Zone (zone_file question.zone)) (allowed_for slots.Certificate question.certificate)))

-- the number of files that may be opened, and of bytes that may be read, for the files of a request up
-- to the file that is the reason why there is no answer; for all files if the Option is None
abbrev pub allowed_to : Question → Option Slot → Allowance
allowed_to question None = files_allowed question
allowed_to question (Some slots.File) = one_file (limit_of slots.File)
allowed_to question (Some slots.Offsets) =
    both (one_file (limit_of slots.File)) (allowed_for slots.Offsets question.offsets)
allowed_to question (Some slots.Zone) =
    both (one_file (limit_of slots.File))
    (both (allowed_for slots.Offsets question.offsets) (allowed_for slots.Zone (zone_file question.zone)))
allowed_to question (Some slots.Certificate) = files_allowed question
