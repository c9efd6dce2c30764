-- A table row by row.
use Rattle.std.proofs.Common.{◌≡◌, ◌∙◌, ℕ, suc, ◌+◌, List, [], ◌∷◌, ◌++◌, length, Result, Ok, Err, refl, sym, ap, append_assoc, arith}
use Rattle.csv.specs.Reading.{records, default_config, strip_bom}
use Rattle.decimal_text.specs.Expected.{◌>>=◌, Excused}
use Rattle.station_table.specs.declared.fault.OffsetWhy.{OffsetWhy}
use Rattle.station_table.specs.declared.fault.OffsetWhy.TheVariants.{BadHeader}
use Rattle.station_table.specs.declared.fault.OffsetFault.{OffsetFault}
use Rattle.station_table.specs.declared.fault.OffsetFault.TheVariants.{NoMemory, At}
use Rattle.station_table.specs.declared.header.Header.{Header}
use Rattle.station_table.specs.declared.offsets.Offsets.{Offsets}
use Rattle.station_table.specs.Reasons.{is_out_of_memory}
use Rattle.station_table.specs.Table.{at_row, header_of, offsets_of, rows_from, table_in, table_of}
use Rattle.station_table.specs.Workings.Records.{Records, HasGiven, ReturnsHeader}
use Rattle.station_table.proofs.RecordLemmas.{given_prefix}

-- both steps of a sequence succeeded
bind_ok : {A B E : Type 0} (r : Result A E) (next : A → Result B E) (y : B) → (r >>= next) ≡ Ok y → (x : A) × (r ≡ Ok x) × (next x ≡ Ok y)
bind_ok (Ok x) next y e = (x, refl, e)
bind_ok (Err fault) next y e = absurd (cc e)

-- the result after the first row
abbrev with_first : Header → ℕ → List (List (List ℕ)) → Offsets → Result (List Offsets) OffsetFault
with_first header row more first = rows_from header (row + 1) more >>= λ rest. Ok (first ∷ rest)

-- a table's rows are its first and the rest
first_and_rest : (header : Header) (row : ℕ) (fields : List (List ℕ)) (seen : List (List (List ℕ)))
    (table : List Offsets) → rows_from header row (fields ∷ seen) ≡ Ok table
    → (first : Offsets) × (rest : List Offsets) × (at_row row (offsets_of header fields) ≡ Ok first)
    × (rows_from header (row + 1) seen ≡ Ok rest) × (first ∷ rest ≡ table)
unfolding rows_from
first_and_rest header row fields seen table e =
    let a = bind_ok (at_row row (offsets_of header fields)) (with_first header row seen) table e in
    let b = bind_ok (rows_from header (row + 1) seen) (λ rest. Ok (a.0 ∷ rest)) table a.2 in
    (a.0, b.0, a.1, b.1, cc)

pub rows_more : (header : Header) (row : ℕ) (seen : List (List (List ℕ))) (table : List Offsets)
    (fields : List (List ℕ)) (offsets : Offsets)
    → rows_from header row seen ≡ Ok table → offsets_of header fields ≡ Ok offsets
    → rows_from header row (seen ++ fields ∷ []) ≡ Ok (table ++ offsets ∷ [])
unfolding rows_from
rows_more header row [] table fields offsets e is =
    let none : table ≡ [] = cc in rw (is, none) refl
rows_more header row (f ∷ seen) table fields offsets e is =
    let (first, rest, here, later, both) = first_and_rest header row f seen table e in
    let grown : rows_from header row (f ∷ (seen ++ fields ∷ [])) ≡ Ok (first ∷ (rest ++ offsets ∷ [])) =
    rw (here, rows_more header (row + 1) seen rest fields offsets later is) refl in
    grown ∙ ap (λ rows. Ok (rows ++ offsets ∷ [])) both

pub rows_fault : (header : Header) (row : ℕ) (seen more : List (List (List ℕ))) (table : List Offsets)
    (fields : List (List ℕ)) (why : OffsetWhy)
    → rows_from header row seen ≡ Ok table → offsets_of header fields ≡ Err why
    → rows_from header row (seen ++ fields ∷ more) ≡ Err (At (row + length seen) why)
unfolding rows_from
rows_fault header row [] more table fields why e is =
    let here : row + 0 ≡ row = omega arith in rw (is, here) refl
rows_fault header row (f ∷ seen) more table fields why e is =
    let (first, rest, here, later, both) = first_and_rest header row f seen table e in
    let index : row + suc (length seen) ≡ row + 1 + length seen = omega arith in
    rw (here, rows_fault header (row + 1) seen more rest fields why later is, index) refl

pub rows_count : (header : Header) (row : ℕ) (seen : List (List (List ℕ))) (table : List Offsets)
    → rows_from header row seen ≡ Ok table → length table ≡ length seen
unfolding rows_from
rows_count header row [] table e = let none : [] ≡ table = cc in sym (ap length none)
rows_count header row (f ∷ seen) table e =
    let (first, rest, here, later, both) = first_and_rest header row f seen table e in
    sym (ap length both) ∙ ap suc (rows_count header (row + 1) seen rest later)

-- ---- the table of a text whose records are known

pub no_header : (text : List ℕ) → records default_config (strip_bom text) ≡ [] → table_of text ≡ Err (At 1 BadHeader)
unfolding table_of table_in
no_header text is = rw is refl

pub bad_header : (text : List ℕ) (names : List (List ℕ)) (more : List (List (List ℕ))) (fault : OffsetFault)
    → records default_config (strip_bom text) ≡ (names ∷ []) ++ more → header_of names ≡ Err fault → table_of text ≡ Err fault
unfolding table_of table_in
bad_header text names more fault is bad = rw (is, bad) refl

pub bad_row : (text : List ℕ) (names : List (List ℕ)) (header : Header) (seen : List (List (List ℕ)))
    (table : List Offsets) (fields : List (List ℕ)) (more : List (List (List ℕ))) (why : OffsetWhy)
    → records default_config (strip_bom text) ≡ (names ∷ (seen ++ fields ∷ [])) ++ more → header_of names ≡ Ok header
    → rows_from header 2 seen ≡ Ok table
    → offsets_of header fields ≡ Err why → table_of text ≡ Err (At (2 + length seen) why)
unfolding table_of table_in
bad_row text names header seen table fields more why is first rows bad =
    rw (is, first, append_assoc seen (fields ∷ []) more) (rows_fault header 2 seen more table fields why rows bad)

pub whole_table : (text : List ℕ) (names : List (List ℕ)) (header : Header) (seen : List (List (List ℕ))) (table : List Offsets)
    → records default_config (strip_bom text) ≡ names ∷ seen → header_of names ≡ Ok header
    → rows_from header 2 seen ≡ Ok table → table_of text ≡ Ok table
unfolding table_of table_in
whole_table text names header seen table is first rows = rw (is, first) rows

-- an error that is certain isn't excused
pub certain : (expected : Result (List Offsets) OffsetFault) (fault : OffsetFault) → expected ≡ Err fault
    → Excused (is_out_of_memory fault) expected fault
certain expected NoMemory is = tt
certain expected (At row why) is = is

-- the first record is the header, or the table's fault
pub header_given : (text : List ℕ) (names : List (List ℕ)) (records : Records) (r : Result Header OffsetFault)
    → HasGiven text (names ∷ []) records → r ≡ header_of names → ReturnsHeader text records r
header_given text names records (Ok header) given is = record { names = names; given = given; first = sym is }
header_given text names records (Err fault) given is =
    let more = given_prefix text (names ∷ []) records given in
    certain (table_of text) fault (bad_header text names more.0 fault more.1 (sym is))

-- a row's fault determines the table's
at_row_err : {A : Type 0} (row : ℕ) (r : Result A OffsetWhy) (fault : OffsetFault) → at_row row r ≡ Err fault
    → (why : OffsetWhy) × (r ≡ Err why) × (At row why ≡ fault)
at_row_err row (Ok x) fault e = absurd (cc e)
at_row_err row (Err why) fault e = (why, refl, cc)

pub excused_row : {A : Type 0} (row : ℕ) (r : Result A OffsetWhy) (expected : Result (List Offsets) OffsetFault) (fault : OffsetFault)
    → ((why : OffsetWhy) → r ≡ Err why → expected ≡ Err (At row why))
    → Excused (is_out_of_memory fault) (at_row row r) fault → Excused (is_out_of_memory fault) expected fault
excused_row row r expected NoMemory bad is = tt
excused_row row r expected (At n why) bad is =
    let (reason, here, same) = at_row_err row r (At n why) is in bad reason here ∙ ap Err same

pub row_went_well : {A : Type 0} (row : ℕ) (r : Result A OffsetWhy) (x : A) → at_row row r ≡ Ok x → r ≡ Ok x
row_went_well row (Ok y) x e = cc
row_went_well row (Err why) x e = absurd (cc e)
