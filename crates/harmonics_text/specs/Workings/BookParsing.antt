-- The states of a parser that reads a harmonics file line by line: which of them are valid, and the
-- state after one more line. The proofs derive the book of Reading.antt from these states (this
-- project).
use Rattle.std.specs.Prelude.{
  [],
  ◌∷◌,
  ◌++◌,
  ◌-◌,
  ◌==◌,
  nat_lt,
  nat_le,
  if◌then◌else◌,
  Option,
  Some,
  None,
  Result,
  Ok,
  Err,
  slice_index_or,
  ◌≡◌,
  ℕ,
  ℤ,
  pos,
  negsuc,
  ◌+◌,
  ◌*◌,
  ◌<◌,
  ◌≤◌,
  List,
  length,
  All,
}
use Rattle.harmonics_book.specs.declared.book.Constituent.{Constituent}
use Rattle.harmonics_book.specs.declared.book.Station.{Station}
use Rattle.harmonics_book.specs.declared.book.Book.{Book}
use Rattle.harmonics_text.specs.declared.heading.Heading.{Heading}
use Rattle.harmonics_text.specs.declared.table.Table.{Table}
use Rattle.harmonics_text.specs.declared.record.Constants.{Constants}
use Rattle.harmonics_text.specs.declared.record.Record.{Record}
use Rattle.harmonics_text.specs.declared.record.Record.TheVariants as records
use Rattle.harmonics_text.specs.declared.book_parser.BookParser.{BookParser}
use Rattle.harmonics_text.specs.declared.book_parser.BookParser.TheVariants as parsing
use Rattle.harmonics_text.specs.declared.fault.Why.{Why}
use Rattle.harmonics_text.specs.declared.fault.Why.TheVariants.{TooManyStations, LineTooLong}
use Rattle.harmonics_text.specs.declared.fault.BookFault.{BookFault}
use Rattle.harmonics_text.specs.declared.fault.BookFault.TheVariants as faults
use Rattle.harmonics_text.specs.declared.fault.LineFault.{LineFault}
use Rattle.harmonics_text.specs.declared.fault.LineFault.TheVariants.{NoMemory, Bad}
use Rattle.harmonics_text.specs.declared.scale.Scale.{Scale}
use Rattle.harmonics_text.specs.declared.scale.Scale.TheVariants.{Angle, Factor}
use Rattle.harmonics_text.specs.Lines.{tokens, is_comment, is_too_long, is_blank, without_cr}
use Rattle.decimal_text.specs.Expected.{◌>>=◌}
use Rattle.harmonics_text.specs.Rules.{
  count_of,
  constituent_of,
  first_year_of,
  named,
  parse_number,
  values_from,
  end_of,
  same_count_of,
  station_name_of,
  local_time_of,
  datum_of,
  pair_of,
}
use Rattle.std.specs.List.{list_all}
use Rattle.harmonics_book.specs.Books.{IsWithin, IsName, IsConstituent, IsBook}

-- true of a list of 1 to 500 constituents, each with a valid name and a valid speed
pub record AreConstituents (cs : List Constituent) : Type 0 where
  pub some : 1 ≤ length cs
  pub few : length cs ≤ 500
  pub each : All IsConstituent cs

-- true of a valid heading (the parts of a file before its tables): 1 to 500 valid constituents, a
-- first year from 2 to 8800, and 1 to 500 years
pub record IsHeading (h : Heading) : Type 0 where
  pub constituents : AreConstituents h.constituents
  pub first_year : IsWithin (pos 2) (pos 8800) h.first_year
  pub some_years : 1 ≤ h.years
  pub few_years : h.years ≤ 500

-- `AreValues least most count years values`: true of a complete table: it has `count` times `years`
-- values, each from `least` to `most`, both included
pub record AreValues (least most : ℤ) (count years : ℕ) (values : List ℤ) : Type 0 where
  pub all : length values ≡ count * years
  pub each : All (IsWithin least most) values

-- `IsTable least most count years t`: true of a table read in part, for `count` constituents: it
-- has all values of the constituents before `index`, and all but `remaining` at `index` if
-- `remaining` isn't 0; each value is from `least` to `most`, both included
pub record IsTable (least most : ℤ) (count years : ℕ) (t : Table) : Type 0 where
  pub before : t.remaining ≡ 0 → length t.values ≡ t.index * years
  pub inside : 1 ≤ t.remaining → length t.values + t.remaining ≡ t.index * years + years
  pub here : 1 ≤ t.remaining → t.index < count
  pub index : t.index ≤ count
  pub each : All (IsWithin least most) t.values

-- `AreConstants count c`: true of an incomplete station of a book with `count` constituents: its
-- name and numbers are in their ranges, and it has as many epochs as amplitudes, less than `count`
pub record AreConstants (count : ℕ) (c : Constants) : Type 0 where
  pub name : IsName 200 c.name
  pub meridian : IsWithin (negsuc 958) (pos 959) c.local_time.meridian
  pub datum : IsWithin (negsuc 9999999999) (pos 10000000000) c.datum
  pub some_left : length c.amplitude < count
  pub both : length c.epoch ≡ length c.amplitude
  pub amplitude : All (IsWithin (negsuc 9999999999) (pos 10000000000)) c.amplitude
  pub epoch : All (IsWithin (negsuc 7199999999) (pos 7200000000)) c.epoch

-- the station of a book with the values of `c`, a station all of whose amplitudes and epochs were
-- read
abbrev pub station_of : Constants → Station
station_of c = record {
  name = c.name;
  meridian = c.local_time.meridian;
  zone = c.local_time.zone;
  datum = c.datum;
  units = c.units;
  amplitude = c.amplitude;
  epoch = c.epoch;
}

-- `IsRecord b record`: true of the lines of an incomplete station: its values are valid, and the
-- book b has less than 20,000 stations; true if no line was read
abbrev pub IsRecord : Book → Record → Type 0
IsRecord b records.Nothing = Unit {0}
IsRecord b (records.Name n) = (length b.stations < 20000) × IsName 200 n
IsRecord b (records.LocalTime n p) = (length b.stations < 20000) × IsName 200 n × IsWithin (negsuc 958) (pos 959) p.meridian
IsRecord b (records.Constants c) = (length b.stations < 20000) × AreConstants (length b.constituents) c

-- `IsAngles h values`: true of a complete table of equilibrium arguments, in ten-millionths of a
-- degree, for the constituents and years of the heading h
abbrev pub IsAngles : Heading → List ℤ → Type 0
IsAngles h values = AreValues (negsuc 7199999999) (pos 7200000000) (length h.constituents) h.years values

-- `IsFactors h values`: true of a complete table of node factors, in millionths, for the
-- constituents and years of the heading h
abbrev pub IsFactors : Heading → List ℤ → Type 0
IsFactors h values = AreValues (pos 0) (pos 10000000) (length h.constituents) h.years values

-- true of a valid state of reading a harmonics file. The state names the line expected next and has
-- the values of the lines before it: these are in the ranges of a valid book (`IsBook`), and there
-- are as many as the lines before that one give.
abbrev pub IsBookParser : BookParser → Type 0
IsBookParser parsing.Count = Unit {0}
IsBookParser (parsing.Constituents remaining earlier) = (1 ≤ remaining) × (remaining + length earlier ≤ 500) × All IsConstituent earlier
IsBookParser (parsing.FirstYear cs) = AreConstituents cs
IsBookParser (parsing.Years cs year) = AreConstituents cs × IsWithin (pos 2) (pos 8800) year
IsBookParser (parsing.Angles h t) = IsHeading h × (t.index < length h.constituents)
    × IsTable (negsuc 7199999999) (pos 7200000000) (length h.constituents) h.years t
IsBookParser (parsing.AnglesEnd h angles) = IsHeading h × IsAngles h angles
IsBookParser (parsing.YearsAgain h angles) = IsHeading h × IsAngles h angles
IsBookParser (parsing.Factors h angles t) = IsHeading h × IsAngles h angles × (t.index < length h.constituents)
    × IsTable (pos 0) (pos 10000000) (length h.constituents) h.years t
IsBookParser (parsing.FactorsEnd h angles factors) = IsHeading h × IsAngles h angles × IsFactors h factors
IsBookParser (parsing.Stations b r) = IsBook b × IsRecord b r

-- `Fails fault rule`: true if `fault` is NoMemory (memory ran out), or if `rule`, the result by
-- definition, is the error `fault`
abbrev pub Fails : {Y : Type 0} → LineFault → Result Y Why → Type 0
Fails NoMemory rule = Unit {0}
Fails (Bad why) rule = rule ≡ Err why

-- `Follows view result rule`: true if `result`, with `view` applied to its value, is `rule`, the result
-- by definition, or if `result` is the error NoMemory (memory ran out)
abbrev pub Follows : {X Y : Type 0} → (X → Y) → Result X LineFault → Result Y Why → Type 0
Follows view (Ok x) rule = rule ≡ Ok (view x)
Follows view (Err e) rule = Fails e rule

-- an error of the line with this number, counted from 1, as a fault of the file
abbrev pub placed : ℕ → LineFault → BookFault
placed line NoMemory = faults.NoMemory
placed line (Bad why) = faults.At line why

-- ---- the state after one more line

-- the state after the first line, the number of constituents, or BadCount
unfoldable pub after_count : List ℕ → Result BookParser Why
after_count text = count_of text >>= λ n. Ok (parsing.Constituents n [])

-- `with_constituents remaining cs`: the state after a constituent's line, the last in cs;
-- `remaining` counts the constituents that were expected before it, this one included
abbrev pub with_constituents : ℕ → List Constituent → BookParser
with_constituents remaining cs = if nat_lt 1 remaining then parsing.Constituents (remaining - 1) cs else parsing.FirstYear cs

-- `after_constituent remaining earlier text`: the state after the constituent's line `text`, if
-- `remaining` constituents were expected before it; `earlier` are the constituents before
unfoldable pub after_constituent : ℕ → List Constituent → List ℕ → Result BookParser Why
after_constituent remaining earlier text = constituent_of earlier text >>= λ c. Ok (with_constituents remaining (earlier ++ c ∷ []))

-- the state of a table of which no line was read: the first constituent's name is expected
abbrev pub new_table : Table
new_table = record { index = 0; remaining = 0; values = [] }

-- `after_years cs year text`: the state after the line `text`, the number of years of the first
-- table; cs are the constituents, and `year` is the first year
unfoldable pub after_years : List Constituent → ℤ → List ℕ → Result BookParser Why
after_years cs year text = count_of text >>= λ n. Ok (parsing.Angles (record { constituents = cs; first_year = year; years = n }) new_table)

-- `pushed s values token`: the values and then the number of the kind s in the token, or the reason
-- why the token is bad
unfoldable pub pushed : Scale → List ℤ → List ℕ → Result (List ℤ) Why
pushed s values token = parse_number s token >>= λ n. Ok (values ++ n ∷ [])

-- `at_place remaining index`: a constituent's index in a table after a line of values: the next one
-- if `remaining`, the number of values that it still lacks, is 0
abbrev pub at_place : ℕ → ℕ → ℕ
at_place remaining index = if remaining == 0 then index + 1 else index

-- `after_values s t text`: the table t after `text`, a line with values of the kind s
unfoldable pub after_values : Scale → Table → List ℕ → Result Table Why
after_values s t text = values_from s t.remaining t.values (tokens text)
    >>= λ v. Ok (record { index = at_place v.0 t.index; remaining = v.0; values = v.1 })

-- `after_name t years name text`: the table t after `text`, the line with the constituent's name;
-- `years` values are expected next
unfoldable pub after_name : Table → ℕ → List ℕ → List ℕ → Result Table Why
after_name t years name text = named name text >>= λ _. Ok (record { index = t.index; remaining = years; values = t.values })

-- `after_table_line s h t text`: the incomplete table t, for the constituents and years of the
-- heading h, after its next line `text`, or the reason why the line is bad: it is values of the
-- kind s if a constituent still lacks some, else the next constituent's name
unfoldable pub after_table_line : Scale → Heading → Table → List ℕ → Result Table Why
after_table_line s h t text =
    if nat_lt 0 t.remaining then after_values s t text
    else after_name t h.years (slice_index_or h.constituents t.index (record { name = []; speed = pos 0 })).name text

-- the state with the table t of equilibrium arguments: a line of it is expected, or `*END*` if it
-- is complete
abbrev pub with_angles : Heading → Table → BookParser
with_angles h t = if nat_lt t.index (length h.constituents) then parsing.Angles h t else parsing.AnglesEnd h t.values

-- the state after `text`, a line of the table t of equilibrium arguments
unfoldable pub after_angles : Heading → Table → List ℕ → Result BookParser Why
after_angles h t text = after_table_line Angle h t text >>= λ t. Ok (with_angles h t)

-- the state after `text`, the number of years of the second table, which must be the first one's
unfoldable pub after_years_again : Heading → List ℤ → List ℕ → Result BookParser Why
after_years_again h angles text = same_count_of h.years text >>= λ _. Ok (parsing.Factors h angles new_table)

-- the state with the table t of node factors: a line of it is expected, or `*END*` if it is
-- complete
abbrev pub with_factors : Heading → List ℤ → Table → BookParser
with_factors h angles t =
    if nat_lt t.index (length h.constituents) then parsing.Factors h angles t else parsing.FactorsEnd h angles t.values

-- the state after `text`, a line of the table t of node factors
unfoldable pub after_factors : Heading → List ℤ → Table → List ℕ → Result BookParser Why
after_factors h angles t text = after_table_line Factor h t text >>= λ t. Ok (with_factors h angles t)

-- the book with a heading and its two tables, without a station
abbrev pub new_book : Heading → List ℤ → List ℤ → Book
new_book h angles factors =
    record { constituents = h.constituents; first_year = h.first_year; years = h.years; angles = angles; factors = factors; stations = [] }

-- the state after `text`, the first line of a station, which is its name; TooManyStations if the
-- book b has 20,000 stations
unfoldable pub after_nothing : Book → List ℕ → Result BookParser Why
after_nothing b text =
    if nat_le 20000 (length b.stations) then Err TooManyStations
    else station_name_of text >>= λ name. Ok (parsing.Stations b (records.Name name))

-- `with_pair b c`: the state in which the station c is being read; if c has all its amplitudes and
-- epochs, it is appended to the stations of the book b, and no station is being read
abbrev pub with_pair : Book → Constants → BookParser
with_pair b c =
    if nat_lt (length c.amplitude) (length b.constituents) then parsing.Stations b (records.Constants c)
    else parsing.Stations (record b { stations = b.stations ++ station_of c ∷ [] }) records.Nothing

-- the state after `text`, the line of the station c with the amplitude and the epoch of its next
-- constituent
unfoldable pub after_pair : Book → Constants → List ℕ → Result BookParser Why
after_pair b c text =
    pair_of (slice_index_or b.constituents (length c.amplitude) (record { name = []; speed = pos 0 })).name text
    >>= λ p. Ok (with_pair b (record c { amplitude = c.amplitude ++ p.0 ∷ []; epoch = c.epoch ++ p.1 ∷ [] }))

-- `after_record b record text`: the state of reading after `text`, the next line of a station, or
-- the reason why the line is bad; `record` has the values of the station's earlier lines, and the
-- book b has the stations before it
unfoldable pub after_record : Book → Record → List ℕ → Result BookParser Why
after_record b records.Nothing text = after_nothing b text
after_record b (records.Name name) text = local_time_of text >>= λ t. Ok (parsing.Stations b (records.LocalTime name t))
after_record b (records.LocalTime name local_time) text = datum_of text >>= λ d. Ok (parsing.Stations b
    (records.Constants (record { name = name; local_time = local_time; datum = d.0; units = d.1; amplitude = []; epoch = [] })))
after_record b (records.Constants c) text = after_pair b c text

-- the state after `text`, a line without its end that is neither a comment nor blank, or the reason
-- why it is bad
unfoldable pub after_text : BookParser → List ℕ → Result BookParser Why
after_text parsing.Count text = after_count text
after_text (parsing.Constituents remaining earlier) text = after_constituent remaining earlier text
after_text (parsing.FirstYear cs) text = first_year_of text >>= λ year. Ok (parsing.Years cs year)
after_text (parsing.Years cs year) text = after_years cs year text
after_text (parsing.Angles h t) text = after_angles h t text
after_text (parsing.AnglesEnd h angles) text = end_of text >>= λ _. Ok (parsing.YearsAgain h angles)
after_text (parsing.YearsAgain h angles) text = after_years_again h angles text
after_text (parsing.Factors h angles t) text = after_factors h angles t text
after_text (parsing.FactorsEnd h angles factors) text =
    end_of text >>= λ _. Ok (parsing.Stations (new_book h angles factors) records.Nothing)
after_text (parsing.Stations b r) text = after_record b r text

-- the state after a line of the file, without its LF: comments and blank lines don't change it;
-- LineTooLong for any other line of more than 4,096 bytes
unfoldable pub after_line : BookParser → List ℕ → Result BookParser Why
after_line d line =
    if is_comment line then Ok d
    else if is_too_long line then Err LineTooLong
    else if list_all is_blank (without_cr line) then Ok d
    else after_text d (without_cr line)

-- the book b if no line of an incomplete station was read, else None
abbrev pub book_at : Book → Record → Option Book
book_at b records.Nothing = Some b
book_at b (records.Name n) = None
book_at b (records.LocalTime n p) = None
book_at b (records.Constants c) = None

-- the book if the file may end in this state of reading: after the second `*END*`, and not between
-- the first and the last line of a station; else None
abbrev pub book_in : BookParser → Option Book
book_in parsing.Count = None
book_in (parsing.Constituents remaining earlier) = None
book_in (parsing.FirstYear cs) = None
book_in (parsing.Years cs year) = None
book_in (parsing.Angles h t) = None
book_in (parsing.AnglesEnd h angles) = None
book_in (parsing.YearsAgain h angles) = None
book_in (parsing.Factors h angles t) = None
book_in (parsing.FactorsEnd h angles factors) = None
book_in (parsing.Stations b r) = book_at b r
