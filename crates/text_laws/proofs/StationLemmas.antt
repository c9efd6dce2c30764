-- Names that are found.
use Rattle.std.proofs.Common.{◌≡◌, ◌≢◌, ◌⊎◌, ℕ, zero, suc, ◌<◌, Bool, true, List, [], ◌∷◌, map, length, get_or, Some, None, inl, inr, All, refl, sym, ◌∙◌, arith}
use Rattle.std.specs.Prelude.{codes}
use Rattle.std.specs.List.{flat_map, find, position, position_or_len, slice_get}
use Rattle.std.specs.Str.{bytes_eq}
use Rattle.std.proofs.lemmas.Bool.{cases_Bool, lt-ltb, le-ltb}
use Rattle.std.proofs.lemmas.List.Concat.{flat_map-append}
use Rattle.std.proofs.lemmas.List.Folds.{find_at}
use Rattle.std.proofs.lemmas.List.Quantifiers.{position-Some}
use Rattle.std.proofs.lemmas.Option.{none-some, slice_get_cases}
use Rattle.std.proofs.lemmas.Slice.Eq.{bytes_eq-Decides}
use Rattle.event_text.specs.Lines.{text_of_unit}
use Rattle.harmonics_book.specs.declared.book.Book.{Book}
use Rattle.harmonics_book.specs.declared.book.Station.{Station}
use Rattle.harmonics_book.specs.declared.book.Units.{Units}
use Rattle.harmonics_book.specs.declared.book.Units.TheVariants.{Feet, Meters, Knots, KnotsSquared}
use Rattle.listing.specs.StationLists.{reference_line, subordinate_line, stations_text_of}
use Rattle.station_table.specs.declared.offsets.Offsets.{Offsets}
use Rattle.station_table.specs.Bases.{basis_in, basis_of, basis_over}
use Rattle.text_laws.specs.Stations.{station_lines, FindsRow, FindsStation, SaysUnit}
use Rattle.text_laws.proofs.ListLemmas.{flat_map-map}

-- the first element for which a test is true, and its index
record FirstPassing {X : Type 0} (p : X → Bool) (xs : List X) : Type 0 where
  index : ℕ
  item : X
  at : slice_get xs index ≡ Some item
  passes : p item ≡ true
  placed : position p xs ≡ Some index
  found : find p xs ≡ Some item

record Missing {X : Type 0} (p : X → Bool) (xs : List X) : Type 0 where
  placed : position p xs ≡ None
  found : find p xs ≡ None

cases_first : {X : Type 0} (p : X → Bool) (xs : List X) → FirstPassing p xs ⊎ Missing p xs
cases_first p xs =
    let i : ℕ = position_or_len p xs in
    elim (slice_get_cases xs i).1 [
      | inl here ↦
          let item = here.0 in
          let placed : position p xs ≡ Some i = rw (lt-ltb _ _ here.1) refl in
          let passes = (position-Some p xs i item placed).1 in
          inl (record { index = i; item = item; at = here.2; passes = rw here.3 at passes; placed = placed; found = find_at p xs ∙ here.2 })
      | inr past ↦ inr (record { placed = rw (le-ltb _ _ past.0) refl; found = find_at p xs ∙ past.1 })
    ]

-- the test is true for no element, if none is found
none-passes : {X : Type 0} (p : X → Bool) (xs : List X) (k : ℕ) (d : X) → k < length xs → find p xs ≡ None → p (get_or xs k d) ≡ true → ⊥
none-passes p [] k d within none passes = omega (arith, within)
none-passes p (x ∷ xs) zero d within none passes = none-some x (sym (rw passes at none))
none-passes p (x ∷ xs) (suc k) d within none passes = elim (cases_Bool (p x)) [
  | inl first ↦ none-some x (sym (rw first at none))
  | inr other ↦ none-passes p xs k d (omega (arith, within)) (rw other at none) passes
]

find-agree : {X : Type 0} (p q : X → Bool) → ((x : X) → p x ≡ q x) → (xs : List X) → find p xs ≡ find q xs
find-agree p q same [] = refl
find-agree p q same (x ∷ xs) = rw (same x, find-agree p q same xs) refl

bytes_eq-same : (xs : List ℕ) → bytes_eq xs xs ≡ true
bytes_eq-same xs = (bytes_eq-Decides xs xs).1 refl

bytes_eq-sym : (xs ys : List ℕ) → bytes_eq xs ys ≡ bytes_eq ys xs
bytes_eq-sym xs ys = elim (cases_Bool (bytes_eq xs ys)) [
  | inl same ↦ same ∙ sym ((bytes_eq-Decides ys xs).1 (sym ((bytes_eq-Decides xs ys).0 same)))
  | inr other ↦ elim (cases_Bool (bytes_eq ys xs)) [
    | inl same ↦ absurd (cc ((bytes_eq-Decides xs ys).1 (sym ((bytes_eq-Decides ys xs).0 same)), other))
    | inr both ↦ other ∙ sym both
  ]
]

abbrev is_named : List ℕ → Station → Bool
is_named name station = bytes_eq station.name name

finds_station : (book : Book) (table : List Offsets) (name : List ℕ) → FirstPassing (is_named name) book.stations
    → FindsStation book table name
unfolding basis_of
finds_station book table name f = record {
  index = f.index;
  station = f.item;
  at = f.at;
  named = (bytes_eq-Decides f.item.name name).0 f.passes;
  found = rw f.placed refl;
}

abbrev row_is_named : List ℕ → Offsets → Bool
row_is_named name row = bytes_eq row.name name

finds_row : (book : Book) (table : List Offsets) (name : List ℕ) → Missing (is_named name) book.stations
    → FirstPassing (row_is_named name) table → FindsRow book table name
unfolding basis_of basis_in
finds_row book table name none f = record {
  index = f.index;
  row = f.item;
  at = f.at;
  named = (bytes_eq-Decides f.item.name name).0 f.passes;
  found = rw (none.placed, f.placed, f.at) refl;
}

pub references-found : (book : Book) (table : List Offsets) → All (λ station. FindsStation book table station.name) book.stations
references-found book table = λ k d within.
    let name : List ℕ = (get_or book.stations k d).name in
    elim (cases_first (is_named name) book.stations) [
      | inl f ↦ finds_station book table name f
      | inr none ↦ absurd (none-passes (is_named name) book.stations k d within none.found (bytes_eq-same name))
    ]

pub rows-found : (book : Book) (table : List Offsets) → All (λ row. FindsStation book table row.name ⊎ FindsRow book table row.name) table
rows-found book table = λ k d within.
    let name : List ℕ = (get_or table k d).name in
    elim (cases_first (is_named name) book.stations) [
      | inl f ↦ inl (finds_station book table name f)
      | inr none ↦ elim (cases_first (row_is_named name) table) [
        | inl f ↦ inr (finds_row book table name none f)
        | inr no_row ↦ absurd (none-passes (row_is_named name) table k d within no_row.found (bytes_eq-same name))
      ]
    ]

pub says_unit : (book : Book) (index : ℕ) (row : Offsets) → SaysUnit book index row (basis_over book index row)
unfolding basis_over
says_unit book index row =
    let same = find-agree (λ (station : Station). bytes_eq row.reference station.name) (is_named row.reference)
    (λ station. bytes_eq-sym row.reference station.name) book.stations in
    elim (cases_first (is_named row.reference) book.stations) [
      | inl f ↦
          rw f.placed (record {
            station = f.item;
            at = f.at;
            named = (bytes_eq-Decides f.item.name row.reference).0 f.passes;
            unit = rw (same, f.found) refl;
          })
      | inr none ↦ rw none.placed (refl, rw (same, none.found) refl)
    ]

pub lines-are : (book : Book) (table : List Offsets) → stations_text_of book table ≡ flat_map (λ line. line) (station_lines book table)
unfolding stations_text_of
lines-are book table =
    let references = flat_map-map (λ (line : List ℕ). line) reference_line book.stations in
    let rows = flat_map-map (λ (line : List ℕ). line) (subordinate_line book.stations) table in
    let both = flat_map-append (λ (line : List ℕ). line) (map reference_line book.stations) (map (subordinate_line book.stations) table) in
    sym (rw (references, rows) at both)

pub no-dash : (units : Units) → text_of_unit units ≢ codes "-"
unfolding text_of_unit
no-dash Feet same = cc same
no-dash Meters same = cc same
no-dash Knots same = cc same
no-dash KnotsSquared same = cc same
