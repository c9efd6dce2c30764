-- The book in a harmonics file, part by part (XTide's text harmonics file; this project).
use Rattle.std.specs.Prelude.{◌≡◌, ℕ, zero, suc, ℤ, ◌+◌, List, [], ◌∷◌, ◌++◌, length, Option, Some, None, Result, Ok, Err, if◌then◌else◌}
use Rattle.harmonics_book.specs.declared.book.Constituent.{Constituent}
use Rattle.harmonics_book.specs.declared.book.Station.{Station}
use Rattle.harmonics_book.specs.declared.book.Book.{Book}
use Rattle.harmonics_text.specs.declared.fault.BookFault.{BookFault}
use Rattle.harmonics_text.specs.declared.fault.BookFault.TheVariants.{NoMemory}
use Rattle.harmonics_text.specs.declared.fault.BookFault.TheVariants as faults
use Rattle.harmonics_text.specs.declared.fault.Why.{Why}
use Rattle.harmonics_text.specs.declared.fault.Why.TheVariants.{CutShort, LineTooLong, TooManyStations}
use Rattle.harmonics_text.specs.declared.scale.Scale.{Scale}
use Rattle.harmonics_text.specs.declared.scale.Scale.TheVariants.{Angle, Factor}
use Rattle.harmonics_text.specs.Lines.{Line, tokens, cut, numbered, kept, without_cr, is_too_long}
use Rattle.decimal_text.specs.Expected.{◌>>=◌}
use Rattle.harmonics_text.specs.Rules.{
  count_of,
  constituent_of,
  first_year_of,
  named,
  values_from,
  end_of,
  same_count_of,
  station_name_of,
  local_time_of,
  datum_of,
  pair_of,
}

-- a fault of a file: the number of its line, counted from 1 over all lines, and the reason
pub record At : Type 0 where
  pub line : ℕ
  pub why : Why

-- a part of a file, as a function of the lines from its start on: it gives the part's value and the
-- lines after the part. It fails with the fault of a bad line, or with None if the lines end before
-- the part is complete.
abbrev pub Part : Type 0 → Type 0
Part A = List Line → Result (A × List Line) (Option At)

-- the value of a rule, or its error as a fault of the line with the number n
abbrev pub at_line : {A : Type 0} → ℕ → Result A Why → Result A (Option At)
at_line n (Ok x) = Ok x
at_line n (Err why) = Err (Some (record { line = n; why = why }))

-- `checked rule text`: the rule for the line `text` without a CR at its end; LineTooLong first if
-- the line has more than 4,096 bytes
abbrev pub checked : {A : Type 0} → (List ℕ → Result A Why) → List ℕ → Result A Why
checked rule text = if is_too_long text then Err LineTooLong else rule (without_cr text)

-- `one rule`: the part of a file that is one line, with the value that the rule gives for it
abbrev pub one : {A : Type 0} → (List ℕ → Result A Why) → Part A
one rule [] = Err None
one rule (l ∷ ls) = at_line l.number (checked rule l.text) >>= λ x. Ok (x, ls)

-- `constituents remaining earlier`: the part with `remaining` lines of constituents; its value is
-- the constituents in `earlier` and then the new ones
unfoldable pub constituents : ℕ → List Constituent → Part (List Constituent)
constituents zero earlier ls = Ok (earlier, ls)
constituents (suc remaining) earlier ls = one (constituent_of earlier) ls >>= λ c. constituents remaining (earlier ++ c.0 ∷ []) c.1

-- `values s remaining earlier`: the part with `remaining` values of the kind s, on one line or
-- more; its value is the numbers in `earlier` and then the new ones
unfoldable pub values : Scale → ℕ → List ℤ → Part (List ℤ)
values s zero earlier ls = Ok (earlier, ls)
values s (suc remaining) earlier [] = Err None
values s (suc remaining) earlier (l ∷ ls) =
    at_line l.number (checked (λ text. values_from s (suc remaining) earlier (tokens text)) l.text) >>= λ v. values s v.0 v.1 ls

-- `table s years cs earlier`: the part with, for each constituent in cs, a line with its name and
-- then `years` values of the kind s; its value is the numbers in `earlier` and then the new ones
unfoldable pub table : Scale → ℕ → List Constituent → List ℤ → Part (List ℤ)
table s years [] earlier ls = Ok (earlier, ls)
table s years (c ∷ cs) earlier ls = do
  name ← one (named c.name) ls
  more ← values s years earlier name.1
  table s years cs more.0 more.1

-- `pairs cs amplitude epoch`: the part with a station's line for each constituent in cs; its value
-- is the two lists, amplitudes and epochs, with the new ones at their ends
unfoldable pub pairs : List Constituent → List ℤ → List ℤ → Part (List ℤ × List ℤ)
pairs [] amplitude epoch ls = Ok ((amplitude, epoch), ls)
pairs (c ∷ cs) amplitude epoch ls = one (pair_of c.name) ls >>= λ p. pairs cs (amplitude ++ p.0.0 ∷ []) (epoch ++ p.0.1 ∷ []) p.1

-- the part with one station: lines with its name, its local time and its datum, and a line with the
-- amplitude and the epoch of each constituent in the list
unfoldable pub station : List Constituent → Part Station
station cs ls = do
  name ← one station_name_of ls
  index ← one local_time_of name.1
  datum ← one datum_of index.1
  pair ← pairs cs [] [] datum.1
  Ok (
    record {
      name = name.0;
      meridian = index.0.meridian;
      zone = index.0.zone;
      datum = datum.0.0;
      units = datum.0.1;
      amplitude = pair.0.0;
      epoch = pair.0.1;
    },
    pair.1,
  )

-- the greatest number of stations that a file may have
unfoldable pub most_stations : ℕ
most_stations = 20000

-- `stations remaining cs earlier lines`: the stations in `earlier` and then the stations in the
-- lines, which are the rest of the file. TooManyStations at the first line after `remaining`
-- stations, LineTooLong if this line is too long.
unfoldable pub stations : ℕ → List Constituent → List Station → List Line → Result (List Station) (Option At)
stations remaining cs earlier [] = Ok earlier
stations zero cs earlier (l ∷ ls) = at_line l.number (checked (λ text. Err TooManyStations) l.text)
stations (suc remaining) cs earlier (l ∷ ls) = station cs (l ∷ ls) >>= λ s. stations remaining cs (earlier ++ s.0 ∷ []) s.1

-- the book in the lines of a file that aren't skipped: the number of constituents, the
-- constituents, the first year, the number of years, the equilibrium arguments, `*END*`, the number
-- of years again, the node factors, `*END*`, and the stations
unfoldable pub book : List Line → Result Book (Option At)
book ls = do
  count ← one count_of ls
  cs ← constituents count.0 [] count.1
  first_year ← one first_year_of cs.1
  years ← one count_of first_year.1
  angles ← table Angle years.0 cs.0 [] years.1
  first_end ← one end_of angles.1
  again ← one (same_count_of years.0) first_end.1
  factors ← table Factor years.0 cs.0 [] again.1
  second_end ← one end_of factors.1
  all ← stations most_stations cs.0 [] second_end.1
  Ok (record { constituents = cs.0; first_year = first_year.0; years = years.0; angles = angles.0; factors = factors.0; stations = all })

-- `cut_short end read`: the result with None, which means that the lines end too early, replaced by
-- CutShort at the line with the number `end`
abbrev pub cut_short : {A : Type 0} → ℕ → Result A (Option At) → Result A At
cut_short end (Ok x) = Ok x
cut_short end (Err None) = Err (record { line = end; why = CutShort })
cut_short end (Err (Some fault)) = Err fault

-- the book in the bytes of a harmonics file, or the fault of the first bad line; CutShort, at the
-- number after the last line's, if the file ends too early
unfoldable pub book_of : List ℕ → Result Book At
book_of bytes = let lines = cut bytes in cut_short (1 + length lines) (book (kept (numbered 1 lines)))

-- `FailsBook fault read`: true if `fault` is NoMemory (memory ran out), or if `read`, the result by
-- definition, is the error `fault`
abbrev pub FailsBook : BookFault → Result Book At → Type 0
FailsBook NoMemory read = Unit {0}
FailsBook (faults.At line why) read = read ≡ Err (record { line = line; why = why })

-- `ReturnsBook result read`: true if the function's result is `read`, the result by definition, or
-- is the error NoMemory (memory ran out)
abbrev pub ReturnsBook : Result Book BookFault → Result Book At → Type 0
ReturnsBook (Ok b) read = read ≡ Ok b
ReturnsBook (Err e) read = FailsBook e read
