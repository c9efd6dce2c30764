-- The values of a line, one token after the other, and the constants of a constituent.
use Rattle.std.proofs.Common.{◌≡◌, ℕ, ℤ, pos, cond, zero, suc, ◌+◌, ◌-◌, ◌<◌, ◌≤◌, true, ltb, List, [], ◌∷◌, ◌++◌, length, get_or, Result, Ok, Err, refl, sym, ap, subst, ◌∙◌, inl, inr, arith}
use Rattle.std.specs.Prelude.{◌||◌}
use Rattle.std.specs.Result.{IfOk, result_and}
use Rattle.std.proofs.lemmas.Bool.{cases_lt, cases_eq, lt-ltb, le-ltb, eq-eqb, ne_eqb}
use Rattle.std.proofs.lemmas.List.{get_or_default}
use Rattle.harmonics_book.specs.declared.book.Book.{Book}
use Rattle.harmonics_text.specs.declared.fault.Why.{Why}
use Rattle.harmonics_text.specs.declared.fault.Why.TheVariants.{BadNumber}
use Rattle.harmonics_text.specs.declared.fault.LineFault.{LineFault}
use Rattle.harmonics_text.specs.declared.fault.LineFault.TheVariants.{NoMemory, Bad}
use Rattle.harmonics_text.specs.declared.scale.Scale.TheVariants.{Angle, Factor, Height}
use Rattle.harmonics_text.specs.declared.scale.Scale.{Scale}
use Rattle.harmonics_text.specs.declared.heading.Heading.{Heading}
use Rattle.harmonics_text.specs.declared.table.Table.{Table}
use Rattle.harmonics_text.specs.declared.record.Constants.{Constants}
use Rattle.harmonics_text.specs.declared.record.Record.{Record}
use Rattle.harmonics_text.specs.declared.record.Record.TheVariants as records
use Rattle.harmonics_text.specs.declared.book_parser.BookParser.{BookParser}
use Rattle.harmonics_text.specs.declared.book_parser.BookParser.TheVariants as parsing
use Rattle.harmonics_text.specs.Lines.{tokens}
use Rattle.decimal_text.specs.Expected.{◌>>=◌}
use Rattle.harmonics_text.specs.Rules.{end_of, parse_number, values_from, named, is_absent, is_name, pair_from, pair_of}
use Rattle.harmonics_text.specs.Workings.Plain.{IsFirstNumber}
use Rattle.harmonics_text.specs.Workings.BookParsing.{Fails, Follows, pushed, after_values, after_name, after_table_line, after_angles, after_factors, at_place, with_pair, after_pair, after_record, after_text, new_book}
use Rattle.harmonics_text.proofs.Ranges.{bind_ok, ok_is}
use Rattle.harmonics_text.proofs.Steps.{unnamed}

pub pushed_is : (s : Scale) (values : List ℤ) (token : List ℕ) (n : ℤ) (new : List ℤ) → parse_number s token ≡ Ok n
    → new ≡ values ++ n ∷ [] → pushed s values token ≡ Ok new
unfolding pushed
pushed_is s values token n new e new_is = rw (e, new_is) refl

done_is : (x y : List ℤ) → (let r : Result (List ℤ) Why = Ok x in r) ≡ Ok y → x ≡ y
done_is x y e = cc

pub values_step : (s : Scale) (remaining : ℕ) (values : List ℤ) (token : List ℕ) (more : List (List ℕ)) (new : List ℤ)
    → 1 ≤ remaining → pushed s values token ≡ Ok new
    → values_from s remaining values (token ∷ more) ≡ values_from s (remaining - 1) new more
unfolding pushed values_from
values_step s zero values token more new some e = absurd (omega (arith, some))
values_step s (suc remaining) values token more new some e =
    let less : suc remaining - 1 ≡ remaining = omega arith in
    let go : (r : Result ℤ Why) → (r >>= λ n. Ok (values ++ n ∷ [])) ≡ Ok new
    → (r >>= λ n. values_from s remaining (values ++ n ∷ []) more) ≡ values_from s remaining new more =
    λ r. elim r as (λ (r : Result ℤ Why). (r >>= λ n. Ok (values ++ n ∷ [])) ≡ Ok new
    → (r >>= λ n. values_from s remaining (values ++ n ∷ []) more) ≡ values_from s remaining new more)
    [ Ok n ↦ λ k. ap (λ (xs : List ℤ). values_from s remaining xs more) (done_is (values ++ n ∷ []) new k) | Err why ↦ λ k. absurd cc ] in
    rw less (go (parse_number s token) e)

values_fail : (s : Scale) (remaining : ℕ) (values : List ℤ) (token : List ℕ) (more : List (List ℕ)) (why : Why) → 1 ≤ remaining
    → pushed s values token ≡ Err why → values_from s remaining values (token ∷ more) ≡ Err why
unfolding pushed values_from
values_fail s zero values token more why some e = absurd (omega (arith, some))
values_fail s (suc remaining) values token more why some e =
    let go : (r : Result ℤ Why) → (r >>= λ n. Ok (values ++ n ∷ [])) ≡ Err why
    → (r >>= λ n. values_from s remaining (values ++ n ∷ []) more) ≡ Err why =
    λ r. elim r as (λ (r : Result ℤ Why). (r >>= λ n. Ok (values ++ n ∷ [])) ≡ Err why
    → (r >>= λ n. values_from s remaining (values ++ n ∷ []) more) ≡ Err why)
    [ Ok n ↦ λ k. absurd cc | Err other ↦ λ k. cc ] in
    go (parse_number s token) e

-- the end of a loop over the tokens
pub values_end : (s : Scale) (t : Table) (text : List ℕ) (remaining : ℕ) (values : List ℤ) (rest : List ℕ)
    → values_from s remaining values (tokens rest) ≡ values_from s t.remaining t.values (tokens text) → tokens rest ≡ []
    → after_values s t text ≡ Ok (record { index = at_place remaining t.index; remaining = remaining; values = values })
unfolding after_values values_from
values_end s t text remaining values rest so_far none =
    let whole : values_from s t.remaining t.values (tokens text) ≡ Ok (remaining, values) = sym so_far ∙ ap (values_from s remaining values) none in
    rw whole refl

pub values_full : (s : Scale) (t : Table) (text : List ℕ) (remaining : ℕ) (values : List ℤ) (rest token after : List ℕ)
    → values_from s remaining values (tokens rest) ≡ values_from s t.remaining t.values (tokens text)
    → tokens rest ≡ token ∷ tokens after → remaining ≡ 0 → after_values s t text ≡ Err BadNumber
unfolding after_values values_from
values_full s t text remaining values rest token after so_far next none =
    let whole : values_from s t.remaining t.values (tokens text) ≡ Err BadNumber = sym so_far ∙ rw (next, none) refl in
    rw whole refl

pub values_fails : (s : Scale) (t : Table) (text : List ℕ) (remaining : ℕ) (values : List ℤ) (rest token after : List ℕ)
    (e : LineFault) → values_from s remaining values (tokens rest) ≡ values_from s t.remaining t.values (tokens text)
    → tokens rest ≡ token ∷ tokens after → 1 ≤ remaining → Fails e (pushed s values token) → Fails e (after_values s t text)
unfolding after_values
values_fails s t text remaining values rest token after NoMemory so_far next some h = tt
values_fails s t text remaining values rest token after (Bad why) so_far next some h =
    let whole : values_from s t.remaining t.values (tokens text) ≡ Err why =
    sym so_far ∙ ap (values_from s remaining values) next ∙ values_fail s remaining values token (tokens after) why some h in
    rw whole refl

pub values_goes_on : (s : Scale) (t : Table) (text : List ℕ) (remaining : ℕ) (values new : List ℤ)
    (rest token after : List ℕ) → values_from s remaining values (tokens rest) ≡ values_from s t.remaining t.values (tokens text)
    → tokens rest ≡ token ∷ tokens after → 1 ≤ remaining → pushed s values token ≡ Ok new
    → values_from s (remaining - 1) new (tokens after) ≡ values_from s t.remaining t.values (tokens text)
values_goes_on s t text remaining values new rest token after so_far next some h =
    sym (values_step s remaining values token (tokens after) new some h) ∙ sym (ap (values_from s remaining values) next) ∙ so_far

-- the same values after some of the tokens
pub values_moved : (s : Scale) (t u new : Table) (text rest : List ℕ) (result : Result (Unit {0}) LineFault)
    → u.index ≡ t.index
    → values_from s u.remaining u.values (tokens rest) ≡ values_from s t.remaining t.values (tokens text)
    → Follows (λ _. new) result (after_values s u rest) → Follows (λ _. new) result (after_values s t text)
unfolding after_values
values_moved s t u new text rest result index values h =
    let same : after_values s u rest ≡ after_values s t text = rw (values, index) refl in
    subst (Follows (λ _. new) result) same h

-- ---- a constituent's constants

abbrev with_lists : Constants → List ℤ → List ℤ → Constants
with_lists c amplitude epoch = record c { amplitude = amplitude; epoch = epoch }

pub pair_added : (b : Book) (c : Constants) (text name : List ℕ) (p : ℤ × ℤ) (amplitude epoch : List ℤ)
    → name ≡ (get_or b.constituents (length c.amplitude) unnamed).name → pair_of name text ≡ Ok p
    → amplitude ≡ c.amplitude ++ p.0 ∷ [] → epoch ≡ c.epoch ++ p.1 ∷ []
    → after_pair b c text ≡ Ok (with_pair b (with_lists c amplitude epoch))
unfolding after_pair unnamed
pair_added b c text name p amplitude epoch name_is e a_is e_is = rw (← name_is, e, a_is, e_is) refl

-- a pair that isn't the station's last
pub pair_within : (b : Book) (r : Record) (c new : Constants) (text : List ℕ) (result : Result (Unit {0}) LineFault)
    → r ≡ records.Constants c → length c.amplitude + 1 < length b.constituents
    → IfOk result (λ _. length new.amplitude ≡ length c.amplitude + 1)
    → Follows (λ _. with_pair b new) result (after_pair b c text)
    → Follows (λ _. parsing.Stations b (records.Constants new)) result (after_record b r text)
unfolding after_record
pair_within b r c new text (Ok x) r_is lt one is =
    let more : ltb (length new.amplitude) (length b.constituents) ≡ true = lt-ltb _ _ (omega (arith, one)) in
    rw r_is (is ∙ rw more refl)
pair_within b r c new text (Err e) r_is lt one is = rw r_is is

-- a line of a name and two numbers
pub pair_is : (name text first rest padless second third : List ℕ) (a e : ℤ) → tokens text ≡ first ∷ tokens rest
    → tokens padless ≡ tokens rest → (is_absent first || is_name first name) ≡ true
    → IsFirstNumber Height padless a second → IsFirstNumber Angle second e third → tokens third ≡ []
    → pair_of name text ≡ Ok (cond (is_absent first) (pos 0, pos 0) (a, e))
unfolding pair_of pair_from
pair_is name text first rest padless second third a e t same known h k none =
    let amplitude : tokens rest ≡ h.token ∷ tokens second = sym same ∙ h.first in
    rw (t, known, amplitude, k.first, none, h.read, k.read) refl

-- an element of a borrowed list
pub element_is : {A : Type 0} (xs ys : List A) (i j : ℕ) (x d : A) → xs ≡ ys → i ≡ j → j < length ys → get_or xs i x ≡ get_or ys j d
element_is xs ys i j x d xs_is i_is lt = rw (xs_is, i_is) (get_or_default ys j x d lt)

-- a line of a station that is read in place
pub station_read : (d : BookParser) (b new_b : Book) (r new_r : Record) (text : List ℕ) (result : Result (Unit {0}) LineFault)
    → d ≡ parsing.Stations b r → Follows (λ _. parsing.Stations new_b new_r) result (after_record b r text)
    → Follows (λ _. parsing.Stations new_b new_r) result (after_text d text)
unfolding after_text
station_read d b new_b r new_r text result d_is is = rw d_is is

-- ---- the next state after a check, or after a line that is read in place

pub follows_and : {X Y Z : Type 0} (view : X → Y) (k : Y → Z) (next : Z) (read : Result X LineFault) (rule : Result Y Why)
    → ((x : X) → k (view x) ≡ next) → Follows view read rule
    → Follows (λ d. d) (result_and read (Ok next)) (rule >>= λ y. Ok (k y))
follows_and view k next (Ok x) rule is h = rw h (ap (λ d. Ok d) (is x))
follows_and view k next (Err NoMemory) rule is h = tt
follows_and view k next (Err (Bad why)) rule is h = rw h refl

pub follows_in_place : {X Y : Type 0} (next : Y) (read : Result X LineFault) (rule : Result Y Why)
    → Follows (λ _. next) read rule → Follows (λ d. d) (result_and read (Ok next)) rule
follows_in_place next (Ok x) rule h = h
follows_in_place next (Err e) rule h = h

pub angles_end_read : (d : BookParser) (h : Heading) (angles : List ℤ) (text : List ℕ) (read : Result (Unit {0}) LineFault)
    → d ≡ parsing.AnglesEnd h angles → Follows (λ u. u) read (end_of text)
    → Follows (λ d. d) (result_and read (Ok (parsing.YearsAgain h angles))) (after_text d text)
unfolding after_text
angles_end_read d h angles text read d_is is =
    rw d_is (follows_and (λ u. u) (λ _. parsing.YearsAgain h angles) _ read (end_of text) (λ _. refl) is)

pub factors_end_read : (d : BookParser) (h : Heading) (angles factors : List ℤ) (text : List ℕ)
    (read : Result (Unit {0}) LineFault) → d ≡ parsing.FactorsEnd h angles factors → Follows (λ u. u) read (end_of text)
    → Follows (λ d. d) (result_and read (Ok (parsing.Stations (new_book h angles factors) records.Nothing))) (after_text d text)
unfolding after_text
factors_end_read d h angles factors text read d_is is =
    rw d_is (follows_and (λ u. u) (λ _. parsing.Stations (new_book h angles factors) records.Nothing) _ read (end_of text)
    (λ _. refl) is)

-- ---- a line of a table that is read in place

place_at : (remaining index : ℕ) → at_place remaining index ≤ index + 1
place_at remaining index = elim (cases_eq remaining 0) [ inl e ↦ rw (eq-eqb remaining 0 e) (omega arith) | inr other ↦ rw (ne_eqb remaining 0 other) (omega arith) ]

-- a line takes a table to the next constituent at most
place_grows : (s : Scale) (h : Heading) (t u : Table) (text : List ℕ) → after_table_line s h t text ≡ Ok u → u.index ≤ t.index + 1
unfolding after_table_line after_values after_name
place_grows s h t u text e =
    elim (cases_lt 0 t.remaining) [
      | inl some ↦
          let b = bind_ok (values_from s t.remaining t.values (tokens text)) _ u (rw (lt-ltb 0 t.remaining some) at e) in
          rw (← ok_is _ u b.2) (place_at b.0.0 t.index)
      | inr none ↦
          let b = bind_ok (named _ text) _ u (rw (le-ltb 0 t.remaining none) at e) in
          rw (← ok_is _ u b.2) (omega arith)
    ]

pub angles_read : (d : BookParser) (h : Heading) (t new : Table) (text : List ℕ) (result : Result (Unit {0}) LineFault)
    → d ≡ parsing.Angles h t → t.index + 1 < length h.constituents
    → Follows (λ _. new) result (after_table_line Angle h t text)
    → Follows (λ _. parsing.Angles h new) result (after_text d text)
unfolding after_text after_angles
angles_read d h t new text (Ok x) d_is lt is =
    let more = lt-ltb new.index (length h.constituents) (omega (arith, place_grows Angle h t new text is)) in
    rw (d_is, is, more) refl
angles_read d h t new text (Err NoMemory) d_is lt is = tt
angles_read d h t new text (Err (Bad why)) d_is lt is = rw (d_is, is) refl

pub factors_read : (d : BookParser) (h : Heading) (angles : List ℤ) (t new : Table) (text : List ℕ) (result : Result (Unit {0}) LineFault)
    → d ≡ parsing.Factors h angles t → t.index + 1 < length h.constituents
    → Follows (λ _. new) result (after_table_line Factor h t text)
    → Follows (λ _. parsing.Factors h angles new) result (after_text d text)
unfolding after_text after_factors
factors_read d h angles t new text (Ok x) d_is lt is =
    let more = lt-ltb new.index (length h.constituents) (omega (arith, place_grows Factor h t new text is)) in
    rw (d_is, is, more) refl
factors_read d h angles t new text (Err NoMemory) d_is lt is = tt
factors_read d h angles t new text (Err (Bad why)) d_is lt is = rw (d_is, is) refl
