-- The head and the name of small calendars (this project).
use Rattle.std.specs.Prelude.{ℕ, pos, List, codes, replicate}
use Rattle.harmonics_book.specs.declared.book.Units.TheVariants.{Feet}
use Rattle.report_sheets.specs.declared.head.Head.{Head}

-- the head of a report of the station `Pier`, in feet, made at 2000-01-10T03:00Z
abbrev pub pier : Head
pier = record { name = codes "Pier"; units = Feet; now = pos 15791220 }

-- a station's name of 80 letters `a` (97)
abbrev pub long_name : List ℕ
long_name = replicate 80 97
