-- The invariant of a parser state is preserved by one more line.
use Rattle.std.proofs.Common.{◌≡◌, ℕ, ℤ, pos, negsuc, zero, suc, ◌+◌, ◌*◌, ◌<◌, ◌≤◌, Bool, true, false, cond, leb, List, [], ◌∷◌, ◌++◌, length, length-append, Result, Ok, Err, All, refl, inl, inr, ap, ◌∙◌, arith}
use Rattle.std.specs.List.{list_all}
use Rattle.std.proofs.lemmas.Bool.{cases_lt, lt-ltb, le-ltb, leb-false, ne_eqb}
use Rattle.std.proofs.lemmas.List.Elements.{All-push}
use Rattle.harmonics_book.specs.declared.book.Constituent.{Constituent}
use Rattle.harmonics_book.specs.declared.book.Station.{Station}
use Rattle.harmonics_book.specs.declared.book.Book.{Book}
use Rattle.harmonics_text.specs.declared.fault.Why.{Why}
use Rattle.harmonics_text.specs.declared.fault.Why.TheVariants.{LineTooLong}
use Rattle.harmonics_text.specs.declared.scale.Scale.{Scale}
use Rattle.harmonics_text.specs.declared.scale.Scale.TheVariants.{Angle, Factor}
use Rattle.harmonics_text.specs.Lines.{tokens, trimmed, is_comment, is_too_long, is_blank, without_cr}
use Rattle.harmonics_text.specs.declared.heading.Heading.{Heading}
use Rattle.harmonics_text.specs.declared.table.Table.{Table}
use Rattle.harmonics_text.specs.declared.record.Constants.{Constants}
use Rattle.harmonics_text.specs.declared.record.Record.{Record}
use Rattle.harmonics_text.specs.declared.record.Record.TheVariants as records
use Rattle.harmonics_text.specs.declared.book_parser.BookParser.{BookParser}
use Rattle.harmonics_text.specs.declared.book_parser.BookParser.TheVariants as parsing
use Rattle.harmonics_book.specs.Books.{IsWithin, IsConstituent, IsStation, IsBook}
use Rattle.harmonics_text.specs.Rules.{parse_number, least_of, most_of, count_of, first_year_of, name_of, constituent_of, values_from, named, end_of, same_count_of, station_name_of, local_time_of, datum_of, pair_of}
use Rattle.harmonics_text.specs.Workings.BookParsing.{IsHeading, AreValues, IsAngles, IsFactors, IsTable, AreConstants, IsBookParser, station_of, at_place, after_values, after_name, after_table_line, new_table, with_constituents, with_angles, with_factors, with_pair, after_count, after_constituent, after_years, after_angles, after_years_again, after_factors, after_nothing, after_pair, after_record, after_text, after_line, new_book}
use Rattle.harmonics_text.proofs.Ranges.{bind_ok, ok_is, unless, number_within, count_within, first_year_within, name_valid, IsConstituent-of, local_time_of_valid, datum_valid, IsPair, pair_valid}

-- ---- the values of a line

values_valid : (s : Scale) (remaining : ℕ) (values : List ℤ) (tokens : List (List ℕ)) (v : ℕ × List ℤ)
    → All (IsWithin (least_of s) (most_of s)) values → values_from s remaining values tokens ≡ Ok v
    → All (IsWithin (least_of s) (most_of s)) v.1 × (length v.1 + v.0 ≡ length values + remaining)
unfolding values_from
values_valid s remaining values [] v all e = rw (← ok_is (remaining, values) v e) (all, refl)
values_valid s zero values (token ∷ more) v all e = absurd cc
values_valid s (suc remaining) values (token ∷ more) v all e =
    let b = bind_ok (parse_number s token) _ v e in
    let r = values_valid s remaining (values ++ b.0 ∷ []) more v
    (All-push (IsWithin (least_of s) (most_of s)) values b.0 all (number_within s token b.0 b.1)) b.2 in
    (r.0, omega (arith, r.1, length-append values (b.0 ∷ [])))

-- ---- tables

-- a table after values of a constituent of which `remaining` are still to come
table_at : (s : Scale) (h : Heading) (index remaining : ℕ) (values : List ℤ) → index < length h.constituents
    → length values + remaining ≡ index * h.years + h.years → All (IsWithin (least_of s) (most_of s)) values
    → IsTable (least_of s) (most_of s) (length h.constituents) h.years
    (record { index = at_place remaining index; remaining = remaining; values = values })
table_at s h index zero values lt count all = record {
  before = λ _. omega (arith, count);
  inside = λ some. absurd (omega (arith, some));
  here = λ some. absurd (omega (arith, some));
  index = omega (arith, lt);
  each = all;
}
table_at s h index (suc remaining) values lt count all =
    let here : at_place (suc remaining) index ≡ index = rw (ne_eqb (suc remaining) 0 (λ e. absurd (omega (arith, e)))) refl in
    rw here record {
      before = λ none. absurd (omega (arith, none));
      inside = λ some. count;
      here = λ some. lt;
      index = omega (arith, lt);
      each = all;
    }

values_line_valid : (s : Scale) (h : Heading) (t u : Table) (text : List ℕ)
    → IsTable (least_of s) (most_of s) (length h.constituents) h.years t → t.index < length h.constituents → 1 ≤ t.remaining
    → after_values s t text ≡ Ok u
    → IsTable (least_of s) (most_of s) (length h.constituents) h.years u
unfolding after_values
values_line_valid s h t u text valid lt some e =
    let b = bind_ok (values_from s t.remaining t.values (tokens text)) _ u e in
    let r = values_valid s t.remaining t.values (tokens text) b.0 valid.each b.1 in
    let count : length b.0.1 + b.0.0 ≡ t.index * h.years + h.years = omega (arith, r.1, valid.inside some) in
    rw (← ok_is _ u b.2) (table_at s h t.index b.0.0 b.0.1 lt count r.0)

name_line_valid : (s : Scale) (h : Heading) (t u : Table) (name text : List ℕ)
    → IsTable (least_of s) (most_of s) (length h.constituents) h.years t → t.index < length h.constituents → t.remaining ≡ 0
    → after_name t h.years name text ≡ Ok u
    → IsTable (least_of s) (most_of s) (length h.constituents) h.years u
unfolding after_name
name_line_valid s h t u name text valid lt none e =
    let b = bind_ok (named name text) _ u e in
    rw (← ok_is _ u b.2) record {
      before = λ z. omega (arith, valid.before none, ap (λ k. t.index * k) z);
      inside = λ some. omega (arith, valid.before none);
      here = λ some. lt;
      index = omega (arith, lt);
      each = valid.each;
    }

pub table_line_valid : (s : Scale) (h : Heading) (t u : Table) (text : List ℕ)
    → IsTable (least_of s) (most_of s) (length h.constituents) h.years t → t.index < length h.constituents
    → after_table_line s h t text ≡ Ok u
    → IsTable (least_of s) (most_of s) (length h.constituents) h.years u
unfolding after_table_line
table_line_valid s h t u text valid lt e =
    elim (cases_lt 0 t.remaining) [
      | inl some ↦ values_line_valid s h t u text valid lt some (rw (lt-ltb 0 t.remaining some) at e)
      | inr none ↦ name_line_valid s h t u _ text valid lt (omega arith) (rw (le-ltb 0 t.remaining none) at e)
    ]

whole_values : (least most : ℤ) (count years : ℕ) (t : Table) → IsTable least most count years t → count ≤ t.index
    → AreValues least most count years t.values
whole_values least most count years t h le =
    let at_end : t.index ≡ count = omega (arith, h.index) in
    let none : t.remaining ≡ 0 = elim (cases_lt 0 t.remaining) [ inl lt ↦ absurd (omega (arith, h.here lt)) | inr empty ↦ omega arith ] in
    record { all = h.before none ∙ ap (λ k. k * years) at_end; each = h.each }

new_table_valid : (least most : ℤ) (count years : ℕ) → IsTable least most count years new_table
new_table_valid least most count years = record {
  before = λ _. omega arith;
  inside = λ some. absurd (omega (arith, some));
  here = λ some. absurd (omega (arith, some));
  index = omega arith;
  each = λ k d lt. absurd (omega (arith, lt));
}

angles_valid : (h : Heading) (t : Table) → IsHeading h
    → IsTable (negsuc 7199999999) (pos 7200000000) (length h.constituents) h.years t → IsBookParser (with_angles h t)
angles_valid h t heading valid =
    elim (cases_lt t.index (length h.constituents)) [
      | inl lt ↦ rw (lt-ltb _ _ lt) (heading, lt, valid)
      | inr le ↦ rw (le-ltb _ _ le) (heading, whole_values _ _ _ _ t valid le)
    ]

factors_valid : (h : Heading) (angles : List ℤ) (t : Table) → IsHeading h → IsAngles h angles
    → IsTable (pos 0) (pos 10000000) (length h.constituents) h.years t → IsBookParser (with_factors h angles t)
factors_valid h angles t heading before valid =
    elim (cases_lt t.index (length h.constituents)) [
      | inl lt ↦ rw (lt-ltb _ _ lt) (heading, before, lt, valid)
      | inr le ↦ rw (le-ltb _ _ le) (heading, before, whole_values _ _ _ _ t valid le)
    ]

constituents_valid : (remaining : ℕ) (earlier : List Constituent) (c : Constituent) → 1 ≤ remaining → remaining + length earlier ≤ 500
    → All IsConstituent earlier → IsConstituent c → IsBookParser (with_constituents remaining (earlier ++ c ∷ []))
constituents_valid remaining earlier c some few each new =
    let longer = length-append earlier (c ∷ []) in
    let all = All-push IsConstituent earlier c each new in
    elim (cases_lt 1 remaining) [
      | inl lt ↦ rw (lt-ltb 1 remaining lt) (omega (arith, lt), omega (arith, longer, few, lt), all)
      | inr le ↦ rw (le-ltb 1 remaining le) record { some = omega (arith, longer); few = omega (arith, longer, few, some); each = all }
    ]

-- ---- a station with one more pair

abbrev with_one : Constants → ℤ × ℤ → Constants
with_one c p = record c { amplitude = c.amplitude ++ p.0 ∷ []; epoch = c.epoch ++ p.1 ∷ [] }

all_amplitudes : (c : Constants) (p : ℤ × ℤ) → All (IsWithin (negsuc 9999999999) (pos 10000000000)) c.amplitude
    → IsPair p → All (IsWithin (negsuc 9999999999) (pos 10000000000)) (c.amplitude ++ p.0 ∷ [])
all_amplitudes c p all h = All-push (IsWithin (negsuc 9999999999) (pos 10000000000)) c.amplitude p.0 all h.amplitude

all_epochs : (c : Constants) (p : ℤ × ℤ) → All (IsWithin (negsuc 7199999999) (pos 7200000000)) c.epoch → IsPair p
    → All (IsWithin (negsuc 7199999999) (pos 7200000000)) (c.epoch ++ p.1 ∷ [])
all_epochs c p all h = All-push (IsWithin (negsuc 7199999999) (pos 7200000000)) c.epoch p.1 all h.epoch

more_constants : (count : ℕ) (c : Constants) (p : ℤ × ℤ) → AreConstants count c → IsPair p
    → length (c.amplitude ++ p.0 ∷ []) < count → AreConstants count (with_one c p)
more_constants count c p h pair lt = record {
  name = h.name;
  meridian = h.meridian;
  datum = h.datum;
  some_left = lt;
  both = omega (arith, h.both, length-append c.amplitude (p.0 ∷ []), length-append c.epoch (p.1 ∷ []));
  amplitude = all_amplitudes c p h.amplitude pair;
  epoch = all_epochs c p h.epoch pair;
}

whole_station : (count : ℕ) (c : Constants) (p : ℤ × ℤ) → AreConstants count c → IsPair p
    → count ≤ length (c.amplitude ++ p.0 ∷ []) → IsStation count (station_of (with_one c p))
whole_station count c p h pair le = record {
  name = h.name;
  meridian = h.meridian;
  datum = h.datum;
  amplitudes = omega (arith, h.some_left, length-append c.amplitude (p.0 ∷ []));
  amplitude = all_amplitudes c p h.amplitude pair;
  epochs = omega (arith, h.some_left, h.both, length-append c.amplitude (p.0 ∷ []), length-append c.epoch (p.1 ∷ []));
  epoch = all_epochs c p h.epoch pair;
}

one_more : (b : Book) (s : Station) → IsBook b → length b.stations < 20000 → IsStation (length b.constituents) s
    → IsBook (record b { stations = b.stations ++ s ∷ [] })
one_more b s h lt hs = record {
  some_constituents = h.some_constituents;
  few_constituents = h.few_constituents;
  constituents = h.constituents;
  first_year = h.first_year;
  some_years = h.some_years;
  few_years = h.few_years;
  all_angles = h.all_angles;
  angles = h.angles;
  all_factors = h.all_factors;
  factors = h.factors;
  few_stations = omega (arith, length-append b.stations (s ∷ []));
  stations = All-push (IsStation (length b.constituents)) b.stations s h.stations hs;
}

pair_then_valid : (b : Book) (c : Constants) (p : ℤ × ℤ) → IsBookParser (parsing.Stations b (records.Constants c))
    → IsPair p → IsBookParser (with_pair b (with_one c p))
pair_then_valid b c p h pair =
    elim (cases_lt (length (c.amplitude ++ p.0 ∷ [])) (length b.constituents)) [
      | inl lt ↦ rw (lt-ltb _ _ lt) (h.0, (h.1.0, more_constants (length b.constituents) c p h.1.1 pair lt))
      | inr le ↦ rw (le-ltb _ _ le)
          (one_more b (station_of (with_one c p)) h.0 h.1.0 (whole_station (length b.constituents) c p h.1.1 pair le), tt)
    ]

no_stations : (h : Heading) (angles factors : List ℤ) → IsHeading h → IsAngles h angles → IsFactors h factors
    → IsBook (new_book h angles factors)
no_stations h angles factors heading a f = record {
  some_constituents = heading.constituents.some;
  few_constituents = heading.constituents.few;
  constituents = heading.constituents.each;
  first_year = heading.first_year;
  some_years = heading.some_years;
  few_years = heading.few_years;
  all_angles = a.all;
  angles = a.each;
  all_factors = f.all;
  factors = f.each;
  few_stations = omega arith;
  stations = λ k d lt. absurd (omega (arith, lt));
}

nothing_valid : (b : Book) (text : List ℕ) (d : BookParser) → IsBook b → after_nothing b text ≡ Ok d → IsBookParser d
unfolding after_nothing station_name_of
nothing_valid b text d h e =
    let t = unless (leb 20000 (length b.stations)) _ _ d e in
    let n = bind_ok (name_of 200 (trimmed text)) _ d t.1 in
    rw (← ok_is _ d n.2) (h, (leb-false 20000 (length b.stations) t.0, name_valid 200 (trimmed text) n.0 n.1))

pair_after_valid : (b : Book) (c : Constants) (text : List ℕ) (d : BookParser)
    → IsBookParser (parsing.Stations b (records.Constants c)) → after_pair b c text ≡ Ok d → IsBookParser d
unfolding after_pair
pair_after_valid b c text d h e =
    let p = bind_ok (pair_of _ text) _ d e in
    rw (← ok_is _ d p.2) (pair_then_valid b c p.0 h (pair_valid _ text p.0 p.1))

record_valid : (b : Book) (r : Record) (text : List ℕ) (d : BookParser) → IsBookParser (parsing.Stations b r)
    → after_record b r text ≡ Ok d → IsBookParser d
unfolding after_record
record_valid b records.Nothing text d h e = nothing_valid b text d h.0 e
record_valid b (records.Name name) text d h e =
    let p = bind_ok (local_time_of text) _ d e in
    rw (← ok_is _ d p.2) (h.0, (h.1.0, h.1.1, local_time_of_valid text p.0 p.1))
record_valid b (records.LocalTime name index) text d h e =
    let m = bind_ok (datum_of text) _ d e in
    rw (← ok_is _ d m.2) (
      h.0,
      (
        h.1.0,
        record {
          name = h.1.1;
          meridian = h.1.2;
          datum = datum_valid text m.0 m.1;
          some_left = omega (arith, h.0.some_constituents);
          both = refl;
          amplitude = λ k d lt. absurd (omega (arith, lt));
          epoch = λ k d lt. absurd (omega (arith, lt));
        },
      ),
    )
record_valid b (records.Constants c) text d h e = pair_after_valid b c text d h e

-- ---- any line

text_valid : (d e : BookParser) (text : List ℕ) → IsBookParser d → after_text d text ≡ Ok e → IsBookParser e
unfolding after_text after_count after_constituent after_years after_angles after_years_again after_factors
text_valid parsing.Count e text h is =
    let n = bind_ok (count_of text) _ e is in
    let w = count_within text n.0 n.1 in
    rw (← ok_is _ e n.2) (w.0, omega (arith, w.1), λ k d lt. absurd (omega (arith, lt)))
text_valid (parsing.Constituents remaining earlier) e text h is =
    let c = bind_ok (constituent_of earlier text) _ e is in
    rw (← ok_is _ e c.2) (constituents_valid remaining earlier c.0 h.0 h.1 h.2 (IsConstituent-of earlier text c.0 c.1))
text_valid (parsing.FirstYear cs) e text h is =
    let y = bind_ok (first_year_of text) _ e is in
    rw (← ok_is _ e y.2) (h, first_year_within text y.0 y.1)
text_valid (parsing.Years cs year) e text h is =
    let n = bind_ok (count_of text) _ e is in
    let w = count_within text n.0 n.1 in
    rw (← ok_is _ e n.2) (
      record { constituents = h.0; first_year = h.1; some_years = w.0; few_years = w.1 },
      h.0.some,
      new_table_valid (negsuc 7199999999) (pos 7200000000) (length cs) n.0,
    )
text_valid (parsing.Angles hd t) e text h is =
    let u = bind_ok (after_table_line Angle hd t text) _ e is in
    rw (← ok_is _ e u.2) (angles_valid hd u.0 h.0 (table_line_valid Angle hd t u.0 text h.2 h.1 u.1))
text_valid (parsing.AnglesEnd hd angles) e text h is =
    let u = bind_ok (end_of text) _ e is in
    rw (← ok_is _ e u.2) h
text_valid (parsing.YearsAgain hd angles) e text h is =
    let u = bind_ok (same_count_of hd.years text) _ e is in
    rw (← ok_is _ e u.2) (h.0, h.1, h.0.constituents.some, new_table_valid (pos 0) (pos 10000000) (length hd.constituents) hd.years)
text_valid (parsing.Factors hd angles t) e text h is =
    let u = bind_ok (after_table_line Factor hd t text) _ e is in
    rw (← ok_is _ e u.2) (factors_valid hd angles u.0 h.0 h.1 (table_line_valid Factor hd t u.0 text h.3 h.2 u.1))
text_valid (parsing.FactorsEnd hd angles factors) e text h is =
    let u = bind_ok (end_of text) _ e is in
    rw (← ok_is _ e u.2) (no_stations hd angles factors h.0 h.1 h.2, tt)
text_valid (parsing.Stations b r) e text h is = record_valid b r text e h is

pub line_valid : (d e : BookParser) (line : List ℕ) → IsBookParser d → after_line d line ≡ Ok e → IsBookParser e
unfolding after_line
line_valid d e line h is =
    let same : (let r : Result BookParser Why = Ok d in r) ≡ Ok e → IsBookParser e = λ k. rw (← ok_is d e k) h in
    let blank : (b : Bool) → cond b (Ok d) (after_text d (without_cr line)) ≡ Ok e → IsBookParser e =
    λ b. elim b as (λ b. cond b (Ok d) (after_text d (without_cr line)) ≡ Ok e → IsBookParser e)
    [ true ↦ same | false ↦ text_valid d e (without_cr line) h ] in
    let long : (o : Bool)
    → cond o (Err LineTooLong) (cond (list_all is_blank (without_cr line)) (Ok d) (after_text d (without_cr line)))
    ≡ Ok e → IsBookParser e =
    λ o k. blank (list_all is_blank (without_cr line)) (unless o LineTooLong _ e k).1 in
    let any : (c : Bool) → cond c (Ok d) (cond (is_too_long line) (Err LineTooLong)
    (cond (list_all is_blank (without_cr line)) (Ok d) (after_text d (without_cr line)))) ≡ Ok e → IsBookParser e =
    λ c. elim c as (λ c. cond c (Ok d) (cond (is_too_long line) (Err LineTooLong)
    (cond (list_all is_blank (without_cr line)) (Ok d) (after_text d (without_cr line)))) ≡ Ok e → IsBookParser e)
    [ true ↦ same | false ↦ long (is_too_long line) ] in
    any (is_comment line) is
