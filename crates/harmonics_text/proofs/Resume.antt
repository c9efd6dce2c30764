-- The result of a parser state over the lines that are left: the parts of the file still to come, in
-- order.
use Rattle.std.proofs.Common.{◌≡◌, ℕ, ℤ, suc, ◌-◌, List, [], ◌∷◌, ◌++◌, length, drop, Option, Result, Ok, refl, arith}
use Rattle.std.specs.Prelude.{if◌then◌else◌, nat_lt}
use Rattle.harmonics_book.specs.declared.book.Constituent.{Constituent}
use Rattle.harmonics_book.specs.declared.book.Station.{Station}
use Rattle.harmonics_book.specs.declared.book.Book.{Book}
use Rattle.harmonics_text.specs.declared.scale.Scale.{Scale}
use Rattle.harmonics_text.specs.declared.scale.Scale.TheVariants.{Angle, Factor}
use Rattle.harmonics_text.specs.declared.heading.Heading.{Heading}
use Rattle.harmonics_text.specs.declared.table.Table.{Table}
use Rattle.harmonics_text.specs.declared.local_time.LocalTime.{LocalTime}
use Rattle.harmonics_text.specs.declared.record.Constants.{Constants}
use Rattle.harmonics_text.specs.declared.record.Record.{Record}
use Rattle.harmonics_text.specs.declared.record.Record.TheVariants as records
use Rattle.harmonics_text.specs.declared.book_parser.BookParser.{BookParser}
use Rattle.harmonics_text.specs.declared.book_parser.BookParser.TheVariants as parsing
use Rattle.harmonics_text.specs.Lines.{Line}
use Rattle.decimal_text.specs.Expected.{◌>>=◌}
use Rattle.harmonics_text.specs.Rules.{count_of, first_year_of, end_of, same_count_of, local_time_of, datum_of}
use Rattle.harmonics_text.specs.Reading.{At, Part, one, constituents, values, table, pairs, stations, most_stations, book}
use Rattle.harmonics_text.specs.Workings.BookParsing.{new_book, station_of}

abbrev pub Left : Type 0
Left = Result Book (Option At)

abbrev pub with_stations : Book → List Station → Left
with_stations b all = Ok (record b { stations = all })

unfoldable pub resume_stations : Book → List Line → Left
resume_stations b ls = stations (most_stations - length b.stations) b.constituents b.stations ls >>= with_stations b

unfoldable pub resume_second_end : Heading → List ℤ → List ℤ → List Line → Left
resume_second_end h angles factors ls = one end_of ls >>= λ e. resume_stations (new_book h angles factors) e.1

unfoldable pub resume_years_again : Heading → List ℤ → List Line → Left
resume_years_again h angles ls = one (same_count_of h.years) ls >>= λ a. table Factor h.years h.constituents [] a.1
    >>= λ f. resume_second_end h angles f.0 f.1

unfoldable pub resume_first_end : Heading → List ℤ → List Line → Left
resume_first_end h angles ls = one end_of ls >>= λ e. resume_years_again h angles e.1

unfoldable pub resume_years : List Constituent → ℤ → List Line → Left
resume_years cs year ls = one count_of ls >>= λ n. table Angle n.0 cs [] n.1
    >>= λ a. resume_first_end (record { constituents = cs; first_year = year; years = n.0 }) a.0 a.1

unfoldable pub resume_first_year : List Constituent → List Line → Left
resume_first_year cs ls = one first_year_of ls >>= λ y. resume_years cs y.0 y.1

unfoldable pub resume_constituents : ℕ → List Constituent → List Line → Left
resume_constituents remaining earlier ls = constituents remaining earlier ls >>= λ c. resume_first_year c.0 c.1

unfoldable pub resume_count : List Line → Left
resume_count ls = one count_of ls >>= λ k. resume_constituents k.0 [] k.1

-- a table that is read in part
unfoldable pub rest_of_table : Scale → Heading → Table → Part (List ℤ)
rest_of_table s h t ls =
    if nat_lt 0 t.remaining then (values s t.remaining t.values ls >>= λ v. table s h.years (drop (suc t.index) h.constituents) v.0 v.1)
    else table s h.years (drop t.index h.constituents) t.values ls

unfoldable pub resume_angles : Heading → Table → List Line → Left
resume_angles h t ls = rest_of_table Angle h t ls >>= λ a. resume_first_end h a.0 a.1

unfoldable pub resume_factors : Heading → List ℤ → Table → List Line → Left
resume_factors h angles t ls = rest_of_table Factor h t ls >>= λ f. resume_second_end h angles f.0 f.1

-- the stations after one that is read in part
unfoldable pub station_then : Book → Result (Station × List Line) (Option At) → Left
station_then b s =
    (s >>= λ s. stations (most_stations - length b.stations - 1) b.constituents (b.stations ++ s.0 ∷ []) s.1)
    >>= with_stations b

unfoldable pub constants_then : Constants → Result ((List ℤ × List ℤ) × List Line) (Option At) → Result (Station × List Line) (Option At)
constants_then c r = r >>= λ p. Ok (station_of (record c { amplitude = p.0.0; epoch = p.0.1 }), p.1)

unfoldable pub local_time_then : List Constituent → List ℕ → LocalTime → List Line → Result (Station × List Line) (Option At)
local_time_then cs name index ls = one datum_of ls >>= λ d. pairs cs [] [] d.1 >>= λ p. Ok (
  record { name = name; meridian = index.meridian; zone = index.zone; datum = d.0.0; units = d.0.1; amplitude = p.0.0; epoch = p.0.1 },
  p.1,
)

unfoldable pub name_then : List Constituent → List ℕ → List Line → Result (Station × List Line) (Option At)
name_then cs name ls = one local_time_of ls >>= λ p. local_time_then cs name p.0 p.1

unfoldable pub resume_record : Book → Record → List Line → Left
resume_record b records.Nothing ls = resume_stations b ls
resume_record b (records.Name name) ls = station_then b (name_then b.constituents name ls)
resume_record b (records.LocalTime name index) ls = station_then b (local_time_then b.constituents name index ls)
resume_record b (records.Constants c) ls =
    station_then b (constants_then c (pairs (drop (length c.amplitude) b.constituents) c.amplitude c.epoch ls))

unfoldable pub resume : BookParser → List Line → Left
resume parsing.Count ls = resume_count ls
resume (parsing.Constituents remaining earlier) ls = resume_constituents remaining earlier ls
resume (parsing.FirstYear cs) ls = resume_first_year cs ls
resume (parsing.Years cs year) ls = resume_years cs year ls
resume (parsing.Angles h t) ls = resume_angles h t ls
resume (parsing.AnglesEnd h angles) ls = resume_first_end h angles ls
resume (parsing.YearsAgain h angles) ls = resume_years_again h angles ls
resume (parsing.Factors h angles t) ls = resume_factors h angles t ls
resume (parsing.FactorsEnd h angles factors) ls = resume_second_end h angles factors ls
resume (parsing.Stations b r) ls = resume_record b r ls

minus_none : (n : ℕ) → n - 0 ≡ n
minus_none n = omega arith

-- the result of a file is that of the empty state over its lines
pub resume_is_book : (ls : List Line) → resume parsing.Count ls ≡ book ls
unfolding resume resume_count resume_constituents resume_first_year resume_years resume_first_end resume_years_again
    resume_second_end resume_stations book
resume_is_book ls = rw (minus_none most_stations) refl
