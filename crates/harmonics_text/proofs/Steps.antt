-- One more line doesn't change the result over a parser state and the lines left.
use Rattle.std.proofs.Common.{◌≡◌, ℕ, ℤ, zero, suc, ◌-◌, ◌<◌, ◌≤◌, Bool, true, false, cond, ltb, leb, eqb, List, [], ◌∷◌, ◌++◌, length, drop, get_or, Option, Some, Result, Ok, Err, refl, inl, inr, length-append, sym, ap, subst, ◌∙◌, arith, add-one}
use Rattle.std.proofs.Math.Seq.{drop-cons}
use Rattle.std.proofs.lemmas.List.{drop_all}
use Rattle.std.proofs.lemmas.Bool.{cases_lt, lt-ltb, le-ltb, lt-leb, le-leb, ne_eqb}
use Rattle.std.specs.Prelude.{pos}
use Rattle.harmonics_book.specs.declared.book.Constituent.{Constituent}
use Rattle.harmonics_book.specs.declared.book.Station.{Station}
use Rattle.harmonics_book.specs.declared.book.Book.{Book}
use Rattle.harmonics_text.specs.declared.fault.Why.{Why}
use Rattle.harmonics_text.specs.declared.fault.Why.TheVariants.{LineTooLong, TooManyStations}
use Rattle.harmonics_text.specs.declared.scale.Scale.{Scale}
use Rattle.harmonics_text.specs.declared.scale.Scale.TheVariants.{Angle, Factor}
use Rattle.harmonics_text.specs.declared.heading.Heading.{Heading}
use Rattle.harmonics_text.specs.declared.table.Table.{Table}
use Rattle.harmonics_text.specs.declared.local_time.LocalTime.{LocalTime}
use Rattle.harmonics_text.specs.declared.record.Constants.{Constants}
use Rattle.harmonics_text.specs.declared.record.Record.{Record}
use Rattle.harmonics_text.specs.declared.record.Record.TheVariants as records
use Rattle.harmonics_text.specs.declared.book_parser.BookParser.{BookParser}
use Rattle.harmonics_text.specs.declared.book_parser.BookParser.TheVariants as parsing
use Rattle.harmonics_text.specs.Lines.{Line, is_too_long, without_cr, tokens}
use Rattle.decimal_text.specs.Expected.{◌>>=◌}
use Rattle.harmonics_text.specs.Rules.{count_of, constituent_of, first_year_of, end_of, named, values_from, same_count_of, station_name_of, local_time_of, datum_of, pair_of}
use Rattle.harmonics_text.specs.Reading.{At, at_line, checked, one, constituents, values, table, pairs, station, stations, most_stations}
use Rattle.harmonics_text.specs.Workings.BookParsing.{IsBookParser, new_book, station_of, with_constituents, with_angles, with_factors, with_pair, after_count, after_constituent, after_years, after_values, after_name, after_table_line, after_angles, after_years_again, after_factors, after_nothing, after_pair, after_record, after_text, at_place, new_table}
use Rattle.harmonics_text.proofs.Resume.{Left, with_stations, resume_stations, resume_second_end, resume_years_again, resume_first_end, resume_years, resume_first_year, resume_constituents, resume_count, rest_of_table, resume_angles, resume_factors, station_then, constants_then, local_time_then, name_then, resume_record, resume}

-- the next state with the other lines, or the fault at this line
abbrev pub follow : ℕ → List Line → Result BookParser Why → Left
follow n ls (Ok d) = resume d ls
follow n ls (Err why) = Err (Some (record { line = n; why = why }))

-- a rule over the line, and then a state for its value
pub one_then : {A : Type 0} (rule : List ℕ → Result A Why) (n : ℕ) (text : List ℕ) (ls : List Line)
    (k : A × List Line → Left) (d : A → BookParser) → ((x : A) → k (x, ls) ≡ resume (d x) ls)
    → (one rule (record { number = n; text = text } ∷ ls) >>= k) ≡ follow n ls (checked (λ t. rule t >>= λ x. Ok (d x)) text)
one_then {A} rule n text ls k d h =
    let go : (b : Bool) (r : Result A Why) → ((at_line n (cond b (Err LineTooLong) r) >>= λ x. Ok (x, ls)) >>= k)
    ≡ follow n ls (cond b (Err LineTooLong) (r >>= λ x. Ok (d x))) =
    λ b r. elim b as (λ b. ((at_line n (cond b (Err LineTooLong) r) >>= λ x. Ok (x, ls)) >>= k)
    ≡ follow n ls (cond b (Err LineTooLong) (r >>= λ x. Ok (d x)))) [
      | true ↦ refl
      | false ↦ elim r as (λ r. ((at_line n r >>= λ x. Ok (x, ls)) >>= k) ≡ follow n ls (r >>= λ x. Ok (d x)))
          [ Ok x ↦ h x | Err why ↦ refl ]
    ] in
    go (is_too_long text) (rule (without_cr text))

-- ---- the constituents

abbrev line : ℕ → List ℕ → Line
line n text = record { number = n; text = text }

constituents_then : (remaining : ℕ) (cs : List Constituent) (ls : List Line)
    → (constituents remaining cs ls >>= λ c. resume_first_year c.0 c.1) ≡ resume (with_constituents (suc remaining) cs) ls
unfolding resume resume_constituents constituents
constituents_then zero cs ls = refl
constituents_then (suc more) cs ls =
    let more_than : ltb 1 (suc (suc more)) ≡ true = lt-ltb 1 (suc (suc more)) (omega arith) in
    let less : suc (suc more) - 1 ≡ suc more = omega arith in
    rw (more_than, less) refl

bound : {A B C E : Type 0} (r : Result A E) (f : A → Result B E) (g : B → Result C E) → ((r >>= f) >>= g) ≡ (r >>= λ x. f x >>= g)
bound (Ok x) f g = refl
bound (Err e) f g = refl

in_three : {A B C D E : Type 0} (r : Result A E) (f : A → Result B E) (g : B → Result C E) (h : C → Result D E)
    → (((r >>= f) >>= g) >>= h) ≡ (r >>= λ x. (f x >>= g) >>= h)
in_three (Ok x) f g h = refl
in_three (Err e) f g h = refl

abbrev with_lines : {A E : Type 0} → List Line → A → Result (A × List Line) E
with_lines ls x = Ok (x, ls)

passed_on : {A B E : Type 0} (r : Result A E) (ls : List Line) (g : A × List Line → Result B E)
    → (r >>= λ x. g (x, ls)) ≡ ((r >>= with_lines ls) >>= g)
passed_on (Ok x) ls g = refl
passed_on (Err e) ls g = refl

step_constituent : (remaining : ℕ) (earlier : List Constituent) (n : ℕ) (text : List ℕ) (ls : List Line) → 1 ≤ remaining
    → resume (parsing.Constituents remaining earlier) (line n text ∷ ls)
    ≡ follow n ls (checked (after_constituent remaining earlier) text)
unfolding resume resume_constituents constituents after_constituent
step_constituent zero earlier n text ls some = absurd (omega (arith, some))
step_constituent (suc remaining) earlier n text ls some =
    bound (one (constituent_of earlier) (line n text ∷ ls)) (λ c. constituents remaining (earlier ++ c.0 ∷ []) c.1)
    (λ c. resume_first_year c.0 c.1)
    ∙ one_then (constituent_of earlier) n text ls (λ c. constituents remaining (earlier ++ c.0 ∷ []) c.1
    >>= λ c. resume_first_year c.0 c.1) (λ c. with_constituents (suc remaining) (earlier ++ c ∷ []))
    (λ c. constituents_then remaining (earlier ++ c ∷ []) ls)

-- ---- the tables

not_zero : (n : ℕ) → eqb (suc n) 0 ≡ false
not_zero n = ne_eqb (suc n) 0 (λ e. absurd (omega (arith, e)))

-- the table after a line of values
values_then : (s : Scale) (h : Heading) (index : ℕ) (remaining : ℕ) (done : List ℤ) (ls : List Line)
    → (values s remaining done ls >>= λ v. table s h.years (drop (suc index) h.constituents) v.0 v.1)
    ≡ rest_of_table s h (record { index = at_place remaining index; remaining = remaining; values = done }) ls
unfolding rest_of_table values
values_then s h index zero done ls = rw (add-one index) refl
values_then s h index (suc remaining) done ls =
    let some : ltb 0 (suc remaining) ≡ true = lt-ltb 0 (suc remaining) (omega arith) in
    let here : at_place (suc remaining) index ≡ index = rw (not_zero remaining) refl in
    rw (some, here) refl

-- ---- a table

-- the table after a name or values, if the state continues with it
abbrev GoesOn : Scale → Heading → (List ℤ × List Line → Left) → (Table → BookParser) → Type 0
GoesOn s h k d = (t : Table) (ls : List Line) → (1 ≤ t.remaining → t.index < length h.constituents)
    → (rest_of_table s h t ls >>= k) ≡ resume (d t) ls

unfoldable pub unnamed : Constituent
unnamed = record { name = []; speed = pos 0 }

at_name : (s : Scale) (h : Heading) (index : ℕ) (done : List ℤ) (ls : List Line) → index < length h.constituents
    → table s h.years (drop index h.constituents) done ls
    ≡ (one (named (get_or h.constituents index unnamed).name) ls >>= λ name. values s h.years done name.1
    >>= λ more. table s h.years (drop (suc index) h.constituents) more.0 more.1)
unfolding table
at_name s h index done ls lt = rw (drop-cons h.constituents index unnamed lt) refl

step_name : (s : Scale) (h : Heading) (index : ℕ) (done : List ℤ) (k : List ℤ × List Line → Left)
    (d : Table → BookParser) (n : ℕ) (text : List ℕ) (ls : List Line) → GoesOn s h k d → index < length h.constituents
    → 1 ≤ h.years
    → (rest_of_table s h (record { index = index; remaining = 0; values = done }) (line n text ∷ ls) >>= k)
    ≡ follow n ls (checked (λ u. after_table_line s h (record { index = index; remaining = 0; values = done }) u >>= λ t. Ok (d t)) text)
unfolding rest_of_table after_table_line after_name unnamed
step_name s h index done k d n text ls on lt some =
    let name = (get_or h.constituents index unnamed).name in
    let next : Table = record { index = index; remaining = h.years; values = done } in
    let here : at_place h.years index ≡ index = elim h.years as (λ y. 1 ≤ y → at_place y index ≡ index)
    [ zero ↦ λ h. absurd (omega (arith, h)) | suc y ↦ λ _. rw (not_zero y) refl ] some in
    let k1 = λ (x : Unit {0} × List Line). values s h.years done x.1
    >>= λ more. table s h.years (drop (suc index) h.constituents) more.0 more.1 in
    let after : (k1 (tt, ls) >>= k) ≡ resume (d next) ls =
    ap (λ (r : Result (List ℤ × List Line) (Option At)). r >>= k) (values_then s h index h.years done ls)
    ∙ subst (λ (p : ℕ). (rest_of_table s h (record { index = p; remaining = h.years; values = done }) ls >>= k)
    ≡ resume (d next) ls) (sym here) (on next ls (λ _. lt)) in
    ap (λ (r : Result (List ℤ × List Line) (Option At)). r >>= k) (at_name s h index done (line n text ∷ ls) lt)
    ∙ bound (one (named name) (line n text ∷ ls)) k1 k
    ∙ one_then (named name) n text ls (λ x. k1 x >>= k) (λ _. d next) (λ x. after)
    ∙ ap (λ (r : Result BookParser Why). follow n ls (cond (is_too_long text) (Err LineTooLong) r))
    (sym (bound (named name (without_cr text)) (λ _. Ok next) (λ t. Ok (d t))))

step_values : (s : Scale) (h : Heading) (index remaining : ℕ) (done : List ℤ) (k : List ℤ × List Line → Left)
    (d : Table → BookParser) (n : ℕ) (text : List ℕ) (ls : List Line) → GoesOn s h k d → index < length h.constituents
    → (rest_of_table s h (record { index = index; remaining = suc remaining; values = done }) (line n text ∷ ls) >>= k) ≡ follow n
    ls (checked (λ u. after_table_line s h (record { index = index; remaining = suc remaining; values = done }) u >>= λ t. Ok (d t)) text)
unfolding rest_of_table after_table_line after_values values
step_values s h index remaining done k d n text ls on lt =
    let rule = λ (u : List ℕ). values_from s (suc remaining) done (tokens u) in
    let k1 = λ (v : ℕ × List ℤ). values s v.0 v.1 ls in
    let k2 = λ (v : List ℤ × List Line). table s h.years (drop (suc index) h.constituents) v.0 v.1 in
    let next = λ (v : ℕ × List ℤ). let t : Table = record { index = at_place v.0 index; remaining = v.0; values = v.1 } in t in
    let here : (l : ℕ) → 1 ≤ l → at_place l index < length h.constituents =
    λ l. elim l as (λ l. 1 ≤ l → at_place l index < length h.constituents)
    [ zero ↦ λ some. absurd (omega (arith, some)) | suc m ↦ λ _. rw (not_zero m) lt ] in
    let after : (v : ℕ × List ℤ) → ((k1 v >>= k2) >>= k) ≡ resume (d (next v)) ls =
    λ v. ap (λ (r : Result (List ℤ × List Line) (Option At)). r >>= k) (values_then s h index v.0 v.1 ls) ∙ on (next v) ls (here v.0) in
    let r = at_line n (checked rule text) in
    let g = λ (x : (ℕ × List ℤ) × List Line). (values s x.0.0 x.0.1 x.1 >>= k2) >>= k in
    let some : ltb 0 (suc remaining) ≡ true = lt-ltb 0 (suc remaining) (omega arith) in
    rw some (in_three r k1 k2 k ∙ passed_on r ls g ∙ one_then rule n text ls g (λ v. d (next v)) after
    ∙ ap (λ (r : Result BookParser Why). follow n ls (cond (is_too_long text) (Err LineTooLong) r))
    (sym (bound (rule (without_cr text)) (λ v. Ok (next v)) (λ t. Ok (d t)))))

pub step_table : (s : Scale) (h : Heading) (t : Table) (k : List ℤ × List Line → Left) (d : Table → BookParser) (n : ℕ)
    (text : List ℕ) (ls : List Line) → GoesOn s h k d → t.index < length h.constituents → 1 ≤ h.years
    → (rest_of_table s h t (line n text ∷ ls) >>= k) ≡ follow n ls (checked (λ u. after_table_line s h t u >>= λ t. Ok (d t)) text)
step_table s h t k d n text ls on lt some =
    let index = t.index in let done = t.values in
    elim t.remaining as (λ (remaining : ℕ). (rest_of_table s h (record { index = index; remaining = remaining; values = done }) (line n text ∷ ls) >>= k)
    ≡ follow n ls (checked (λ u. after_table_line s h (record { index = index; remaining = remaining; values = done }) u >>= λ t. Ok (d t)) text))
    [ zero ↦ step_name s h index done k d n text ls on lt some | suc remaining ↦ step_values s h index remaining done k d n text ls on lt ]

-- a table whose constituents are all read
whole : (s : Scale) (h : Heading) (t : Table) (ls : List Line) → length h.constituents ≤ t.index
    → (1 ≤ t.remaining → t.index < length h.constituents) → rest_of_table s h t ls ≡ Ok (t.values, ls)
unfolding rest_of_table table
whole s h t ls past open_place =
    let none : t.remaining ≤ 0 = elim (cases_lt 0 t.remaining) [ inl some ↦ absurd (omega (arith, open_place some)) | inr le ↦ le ] in
    rw (le-ltb 0 t.remaining none, drop_all t.index h.constituents past) refl

angles_on : (h : Heading) → GoesOn Angle h (λ a. resume_first_end h a.0 a.1) (with_angles h)
unfolding resume resume_angles
angles_on h t ls open_place =
    elim (cases_lt t.index (length h.constituents)) [
      | inl lt ↦ rw (lt-ltb t.index (length h.constituents) lt) refl
      | inr le ↦ rw (le-ltb t.index (length h.constituents) le, whole Angle h t ls le open_place) refl
    ]

factors_on : (h : Heading) (angles : List ℤ) → GoesOn Factor h (λ f. resume_second_end h angles f.0 f.1) (with_factors h angles)
unfolding resume resume_factors
factors_on h angles t ls open_place =
    elim (cases_lt t.index (length h.constituents)) [
      | inl lt ↦ rw (lt-ltb t.index (length h.constituents) lt) refl
      | inr le ↦ rw (le-ltb t.index (length h.constituents) le, whole Factor h t ls le open_place) refl
    ]

-- a table before any line
table_starts : (s : Scale) (h : Heading) (ls : List Line) → rest_of_table s h new_table ls ≡ table s h.years h.constituents [] ls
unfolding rest_of_table
table_starts s h ls = refl

-- ---- a station

station_after : {A : Type 0} (b : Book) (r : Result A (Option At)) (f : A → Result (Station × List Line) (Option At))
    → station_then b (r >>= f) ≡ (r >>= λ x. station_then b (f x))
unfolding station_then
station_after b (Ok x) f = refl
station_after b (Err e) f = refl

constants_after :
    {A : Type 0} (c : Constants) (r : Result A (Option At)) (f : A → Result ((List ℤ × List ℤ) × List Line) (Option At))
    → constants_then c (r >>= f) ≡ (r >>= λ x. constants_then c (f x))
unfolding constants_then
constants_after c (Ok x) f = refl
constants_after c (Err e) f = refl

station_one : {A : Type 0} (b : Book) (rule : List ℕ → Result A Why) (n : ℕ) (text : List ℕ) (ls : List Line)
    (f : A × List Line → Result (Station × List Line) (Option At)) (d : A → BookParser)
    → ((x : A) → station_then b (f (x, ls)) ≡ resume (d x) ls)
    → station_then b (one rule (line n text ∷ ls) >>= f) ≡ follow n ls (checked (λ t. rule t >>= λ x. Ok (d x)) text)
station_one b rule n text ls f d h =
    station_after b (one rule (line n text ∷ ls)) f ∙ one_then rule n text ls (λ x. station_then b (f x)) d h

too_many : (b : Book) (n : ℕ) (text : List ℕ) (ls : List Line)
    → ((at_line n (checked (λ t. Err TooManyStations) text)) >>= with_stations b)
    ≡ follow n ls (checked (λ t. Err TooManyStations) text)
too_many b n text ls = elim (is_too_long text)
    as (λ (t : Bool). (at_line n (cond t (Err LineTooLong) (Err TooManyStations)) >>= with_stations b)
    ≡ follow n ls (cond t (Err LineTooLong) (Err TooManyStations))) [ true ↦ refl | false ↦ refl ]

station_named : (b : Book) (n : ℕ) (text : List ℕ) (ls : List Line)
    → ((station b.constituents (line n text ∷ ls) >>= λ s. stations
    (most_stations - length b.stations - 1) b.constituents (b.stations ++ s.0 ∷ []) s.1) >>= with_stations b)
    ≡ follow n ls (checked (λ t. station_name_of t >>= λ name. Ok (parsing.Stations b (records.Name name))) text)
unfolding station_then station name_then local_time_then resume resume_record
station_named b n text ls = station_one b station_name_of n text ls (λ x. name_then b.constituents x.0 x.1)
    (λ name. parsing.Stations b (records.Name name)) (λ name. refl)

step_nothing : (b : Book) (n : ℕ) (text : List ℕ) (ls : List Line)
    → resume_stations b (line n text ∷ ls) ≡ follow n ls (checked (after_nothing b) text)
unfolding resume_stations stations after_nothing most_stations
step_nothing b n text ls =
    elim (cases_lt (length b.stations) 20000) [
      | inl lt ↦
          let some : 20000 - length b.stations ≡ suc (20000 - length b.stations - 1) = omega arith in
          let room : leb 20000 (length b.stations) ≡ false = lt-leb _ _ lt in
          rw (room, some) (station_named b n text ls)
      | inr le ↦
          let none : 20000 - length b.stations ≡ 0 = omega arith in
          let full : leb 20000 (length b.stations) ≡ true = le-leb _ _ le in
          rw (full, none) (too_many b n text ls)
    ]

step_name_of_station : (b : Book) (name : List ℕ) (n : ℕ) (text : List ℕ) (ls : List Line)
    → resume (parsing.Stations b (records.Name name)) (line n text ∷ ls)
    ≡ follow n ls (checked (after_record b (records.Name name)) text)
unfolding resume resume_record name_then after_record
step_name_of_station b name n text ls =
    station_one b local_time_of n text ls (λ p. local_time_then b.constituents name p.0 p.1)
    (λ index. parsing.Stations b (records.LocalTime name index)) (λ index. refl)

step_local_time : (b : Book) (name : List ℕ) (index : LocalTime) (n : ℕ) (text : List ℕ) (ls : List Line)
    → resume (parsing.Stations b (records.LocalTime name index)) (line n text ∷ ls)
    ≡ follow n ls (checked (after_record b (records.LocalTime name index)) text)
unfolding resume resume_record local_time_then constants_then after_record
step_local_time b name index n text ls =
    station_one b datum_of n text ls
    (λ d. pairs b.constituents [] [] d.1 >>= λ p. Ok (
      record { name = name; meridian = index.meridian; zone = index.zone; datum = d.0.0; units = d.0.1; amplitude = p.0.0; epoch = p.0.1 },
      p.1,
    ))
    (λ d. parsing.Stations b
    (records.Constants (record { name = name; local_time = index; datum = d.0; units = d.1; amplitude = []; epoch = [] })))
    (λ d. refl)

pub at_pair : (cs : List Constituent) (amplitude epoch : List ℤ) (ls : List Line) → length amplitude < length cs
    → pairs (drop (length amplitude) cs) amplitude epoch ls
    ≡ (one (pair_of (get_or cs (length amplitude) unnamed).name) ls
    >>= λ p. pairs (drop (suc (length amplitude)) cs) (amplitude ++ p.0.0 ∷ []) (epoch ++ p.0.1 ∷ []) p.1)
unfolding pairs
at_pair cs amplitude epoch ls lt = rw (drop-cons cs (length amplitude) unnamed lt) refl

abbrev with_one : Constants → ℤ × ℤ → Constants
with_one c p = record c { amplitude = c.amplitude ++ p.0 ∷ []; epoch = c.epoch ++ p.1 ∷ [] }

-- the constituents after one more pair
pair_then : (b : Book) (c : Constants) (p : ℤ × ℤ) (ls : List Line)
    → station_then b (constants_then c
    (pairs (drop (suc (length c.amplitude)) b.constituents) (c.amplitude ++ p.0 ∷ []) (c.epoch ++ p.1 ∷ []) ls))
    ≡ resume (with_pair b (with_one c p)) ls
unfolding resume resume_record resume_stations station_then constants_then pairs
pair_then b c p ls =
    let n : length (c.amplitude ++ p.0 ∷ []) ≡ suc (length c.amplitude) = omega (arith, length-append c.amplitude (p.0 ∷ [])) in
    elim (cases_lt (length (c.amplitude ++ p.0 ∷ [])) (length b.constituents)) [
      | inl lt ↦ rw (lt-ltb _ _ lt, n) refl
      | inr le ↦
          let past : drop (suc (length c.amplitude)) b.constituents ≡ [] =
          drop_all (suc (length c.amplitude)) b.constituents (omega (arith, n)) in
          let others : most_stations - length (b.stations ++ station_of (with_one c p) ∷ []) ≡ most_stations
          - length b.stations - 1 = omega (arith, length-append b.stations (station_of (with_one c p) ∷ [])) in
          rw (le-ltb _ _ le, past, others) refl
    ]

step_constants : (b : Book) (c : Constants) (n : ℕ) (text : List ℕ) (ls : List Line)
    → length c.amplitude < length b.constituents
    → resume (parsing.Stations b (records.Constants c)) (line n text ∷ ls) ≡ follow n ls (checked (after_pair b c) text)
unfolding resume resume_record after_pair unnamed
step_constants b c n text ls lt =
    let rule = pair_of (get_or b.constituents (length c.amplitude) unnamed).name in
    let f = λ (p : (ℤ × ℤ) × List Line). pairs (drop (suc (length c.amplitude)) b.constituents)
    (c.amplitude ++ p.0.0 ∷ []) (c.epoch ++ p.0.1 ∷ []) p.1 in
    ap (λ (r : Result ((List ℤ × List ℤ) × List Line) (Option At)). station_then b (constants_then c r))
    (at_pair b.constituents c.amplitude c.epoch (line n text ∷ ls) lt)
    ∙ ap (station_then b) (constants_after c (one rule (line n text ∷ ls)) f)
    ∙ station_one b rule n text ls (λ p. constants_then c (f p)) (λ p. with_pair b (with_one c p)) (λ p. pair_then b c p ls)

step_record : (b : Book) (r : Record) (n : ℕ) (text : List ℕ) (ls : List Line) → IsBookParser (parsing.Stations b r)
    → resume (parsing.Stations b r) (line n text ∷ ls) ≡ follow n ls (checked (after_record b r) text)
unfolding resume resume_record after_record
step_record b records.Nothing n text ls h = step_nothing b n text ls
step_record b (records.Name name) n text ls h = step_name_of_station b name n text ls
step_record b (records.LocalTime name index) n text ls h = step_local_time b name index n text ls
step_record b (records.Constants c) n text ls h = step_constants b c n text ls h.1.1.some_left

-- ---- any state

pub step : (d : BookParser) (n : ℕ) (text : List ℕ) (ls : List Line) → IsBookParser d
    → resume d (line n text ∷ ls) ≡ follow n ls (checked (after_text d) text)
unfolding resume resume_record resume_count resume_first_year resume_years resume_angles resume_first_end
    resume_years_again resume_factors resume_second_end after_text after_count after_years after_angles
    after_years_again after_factors
step parsing.Count n text ls h =
    one_then count_of n text ls (λ k. resume_constituents k.0 [] k.1) (λ k. parsing.Constituents k []) (λ k. refl)
step (parsing.Constituents remaining earlier) n text ls h = step_constituent remaining earlier n text ls h.0
step (parsing.FirstYear cs) n text ls h =
    one_then first_year_of n text ls (λ y. resume_years cs y.0 y.1) (λ y. parsing.Years cs y) (λ y. refl)
step (parsing.Years cs year) n text ls h = one_then count_of n text ls _
    (λ k. parsing.Angles (record { constituents = cs; first_year = year; years = k }) new_table)
    (λ k. ap (λ (r : Result (List ℤ × List Line) (Option At)). r
    >>= λ a. resume_first_end (record { constituents = cs; first_year = year; years = k }) a.0 a.1)
    (sym (table_starts Angle (record { constituents = cs; first_year = year; years = k }) ls)))
step (parsing.Angles h t) n text ls facts = step_table Angle h t (λ a. resume_first_end h a.0 a.1)
    (with_angles h) n text ls (angles_on h) facts.1 facts.0.some_years
step (parsing.AnglesEnd h angles) n text ls facts =
    one_then end_of n text ls (λ e. resume_years_again h angles e.1) (λ _. parsing.YearsAgain h angles) (λ e. refl)
step (parsing.YearsAgain h angles) n text ls facts =
    one_then (same_count_of h.years) n text ls _ (λ _. parsing.Factors h angles new_table) (λ e.
    ap (λ (r : Result (List ℤ × List Line) (Option At)). r >>= λ f. resume_second_end h angles f.0 f.1) (sym (table_starts Factor h ls)))
step (parsing.Factors h angles t) n text ls facts = step_table Factor h t (λ f. resume_second_end h angles f.0 f.1)
    (with_factors h angles) n text ls (factors_on h angles) facts.2 facts.0.some_years
step (parsing.FactorsEnd h angles factors) n text ls facts =
    one_then end_of n text ls (λ e. resume_stations (new_book h angles factors) e.1)
    (λ _. parsing.Stations (new_book h angles factors) records.Nothing) (λ e. refl)
step (parsing.Stations b r) n text ls facts = step_record b r n text ls facts
