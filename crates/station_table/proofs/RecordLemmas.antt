-- The records that a reader has returned of a text, and those of the whole text.
use Rattle.std.proofs.Common.{◌≡◌, ◌∙◌, ℕ, zero, suc, ◌+◌, ◌-◌, ◌<◌, ◌≤◌, Bool, true, false, cond, List, [], ◌∷◌, ◌++◌, length, Option, Some, None, ◌⊎◌, inl, inr, refl, sym, ap, arith}
use Rattle.std.proofs.lemmas.List.{append-nil}
use Rattle.csv.specs.Machine.{Read, next_record, step, ends_at_end, is_end, fields_after, field_after}
use Rattle.csv.specs.Reading.{ReadRecord, Reached, records, records_from, default_config, is_bom, strip_bom}
use Rattle.csv.specs.declared.parser.Config.{Config}
use Rattle.csv.specs.declared.parser.State.{State}
use Rattle.csv.specs.declared.parser.State.TheVariants as st
use Rattle.csv.proofs.ReadFacts.{rows-end, rows-more}
use Rattle.station_table.specs.Workings.Records.{Records, held, HasGiven}

-- ---- a bound on the number of records of a text

if_some : (b : Bool) (x p : Read) → cond b (Some x) None ≡ Some p → x ≡ p
if_some true x p e = cc
if_some false x p e = cc

either : (b : Bool) (x y : Option Read) (p : Read) → cond b x y ≡ Some p → (x ≡ Some p) ⊎ (y ≡ Some p)
either true x y p e = inl e
either false x y p e = inr e

ends_with_text : (cfg : Config) (s : State) (fields : List (List ℕ)) (field : List ℕ) (p : Read)
    → next_record cfg s fields field [] ≡ Some p → (p.1 ≡ st.StartRecord) × (p.2 ≡ [])
unfolding next_record
ends_with_text cfg s fields field p e =
    let is = if_some (ends_at_end s) (fields ++ (field ∷ []), st.StartRecord, []) p e in
    (sym (ap (λ (q : Read). q.1) is), sym (ap (λ (q : Read). q.2) is))

-- a record has at least one byte, if there is one
takes_byte : (cfg : Config) (s : State) (fields : List (List ℕ)) (field xs : List ℕ) (p : Read)
    → next_record cfg s fields field xs ≡ Some p → length p.2 ≤ length xs - 1
unfolding next_record
takes_byte cfg s fields field [] p e =
    let none = ap length (ends_with_text cfg s fields field p e).1 in omega (arith, none)
takes_byte cfg s fields field (c ∷ rest) p e =
    let a = (step cfg s c).1 in let s' = (step cfg s c).0 in
    elim (either (is_end a) (Some (fields_after a fields field, s', rest))
    (next_record cfg s' (fields_after a fields field) (field_after a c field) rest) p e) [
      | inl here ↦ let is : rest ≡ p.2 = cc in omega (arith, ap length is)
      | inr later ↦ omega (arith, takes_byte cfg s' (fields_after a fields field) (field_after a c field) rest p later)
    ]

none_at_end : (cfg : Config) (s s2 : State) (xs ys : List ℕ) (rows : List (List (List ℕ)))
    → s ≡ st.StartRecord → xs ≡ [] → Reached cfg s xs rows s2 ys → (length rows ≡ 0) × (length ys ≡ 0)
unfolding Reached next_record
none_at_end cfg s s2 xs ys [] start empty h = (refl, ap length (sym h.1 ∙ empty))
none_at_end cfg s s2 xs ys (r ∷ rows) start empty h =
    let none : next_record cfg st.StartRecord [] [] [] ≡ Some h.0 = rw (start, empty) at h.1 in absurd (cc none)

-- at most as many records as bytes, and one more
pub few_records : (cfg : Config) (s s2 : State) (xs ys : List ℕ) (rows : List (List (List ℕ)))
    → Reached cfg s xs rows s2 ys → length rows + length ys ≤ length xs + 1
unfolding Reached
few_records cfg s s2 xs ys [] h = let is = ap length h.1 in omega (arith, is)
few_records cfg s s2 [] ys (r ∷ rows) h =
    let end = ends_with_text cfg s [] [] h.0 h.1 in
    let none = none_at_end cfg h.0.1 s2 h.0.2 ys rows end.0 end.1 h.3 in omega (arith, none)
few_records cfg s s2 (c ∷ xs) ys (r ∷ rows) h =
    let byte = takes_byte cfg s [] [] (c ∷ xs) h.0 h.1 in
    omega (arith, byte, few_records cfg h.0.1 s2 h.0.2 ys rows h.3)

pub shorter : (text : List ℕ) → length (strip_bom text) ≤ length text
unfolding strip_bom
shorter [] = omega arith
shorter (a ∷ []) = omega arith
shorter (a ∷ b ∷ []) = omega arith
shorter (a ∷ b ∷ c ∷ rest) =
    elim (is_bom a b c) as (λ v. length (cond v rest (a ∷ b ∷ c ∷ rest)) ≤ length (a ∷ b ∷ c ∷ rest))
    [ true ↦ omega arith | false ↦ omega arith ]

-- ---- the records of the whole text

reached_prefix : (cfg : Config) (n : ℕ) (s s2 : State) (xs ys : List ℕ) (rows : List (List (List ℕ)))
    → Reached cfg s xs rows s2 ys → length rows ≤ n → records_from cfg n s xs ≡ rows ++ records_from cfg (n - length rows) s2 ys
unfolding Reached records_from
reached_prefix cfg n s s2 xs ys [] h few = let same : n - 0 ≡ n = omega arith in rw (h.0, h.1, same) refl
reached_prefix cfg zero s s2 xs ys (r ∷ rows) h few = absurd (omega (arith, few))
reached_prefix cfg (suc n) s s2 xs ys (r ∷ rows) h few =
    let left : suc n - suc (length rows) ≡ n - length rows = omega arith in
    rw (h.1, left, h.2) (ap (λ more. h.0.0 ∷ more) (reached_prefix cfg n h.0.1 s2 h.0.2 ys rows h.3 (omega (arith, few))))

none_left : (cfg : Config) (n : ℕ) (s : State) (ys : List ℕ) → next_record cfg s [] [] ys ≡ None → records_from cfg n s ys ≡ []
unfolding records_from
none_left cfg zero s ys none = refl
none_left cfg (suc n) s ys none = rw none refl

pub records_begin : (cfg : Config) (s2 : State) (xs ys : List ℕ) (rows : List (List (List ℕ)))
    → Reached cfg st.StartRecord xs rows s2 ys → records cfg xs ≡ rows ++ records_from cfg (length xs + 1 - length rows) s2 ys
records_begin cfg s2 xs ys rows h =
    reached_prefix cfg (length xs + 1) st.StartRecord s2 xs ys rows h (omega (arith, few_records cfg st.StartRecord s2 xs ys rows h))

pub records_all : (cfg : Config) (s2 : State) (xs ys : List ℕ) (rows : List (List (List ℕ)))
    → Reached cfg st.StartRecord xs rows s2 ys → next_record cfg s2 [] [] ys ≡ None → records cfg xs ≡ rows
records_all cfg s2 xs ys rows h none =
    records_begin cfg s2 xs ys rows h ∙ rw (none_left cfg (length xs + 1 - length rows) s2 ys none) (append-nil rows)

-- ---- a reader

-- the reader has returned one more record
pub given_more : (text : List ℕ) (rows : List (List (List ℕ))) (a b : Records) (fields : List (List ℕ)) → HasGiven text rows a
    → ReadRecord held a.rdr b.rdr true fields → b.rdr.first ≡ true → 0 < b.left → HasGiven text (rows ++ fields ∷ []) b
given_more text rows a b fields h read first rows_left =
    let more = rows-more held a.rdr b.rdr fields default_config st.StartRecord
    (strip_bom text) h.rest rows h.config h.source h.reached read in
    record {
      trim = read.3 ∙ h.trim;
      ready = inl first;
      rows_left = rows_left;
      config = read.2 ∙ h.config;
      rest = more.0;
      source = more.1;
      reached = more.2;
    }

-- the reader has returned all records
pub given_all : (text : List ℕ) (rows : List (List (List ℕ))) (a b : Records) → HasGiven text rows a
    → ReadRecord held a.rdr b.rdr false [] → records default_config (strip_bom text) ≡ rows
given_all text rows a b h read =
    records_all default_config a.rdr.state (strip_bom text) h.rest rows h.reached
    (rows-end held a.rdr b.rdr [] default_config h.rest h.config h.source read)

-- the records that the reader has returned are the first of the text's
pub given_prefix : (text : List ℕ) (rows : List (List (List ℕ))) (a : Records) → HasGiven text rows a
    → (more : List (List (List ℕ))) × (records default_config (strip_bom text) ≡ rows ++ more)
given_prefix text rows a h = (_, records_begin default_config a.rdr.state (strip_bom text) h.rest rows h.reached)

pub given_few : (text : List ℕ) (rows : List (List (List ℕ))) (a : Records) → HasGiven text rows a → length rows ≤ length text + 1
given_few text rows a h =
    omega (arith, few_records default_config st.StartRecord a.rdr.state (strip_bom text) h.rest rows h.reached, shorter text)
