-- The unit of a name among one station more.
use Rattle.std.proofs.Common.{◌≡◌, ℕ, ◌+◌, ◌<◌, true, false, if◌then◌else◌, List, [], ◌∷◌, take, get_or, length, Option, Some, None, refl}
use Rattle.std.specs.Option.{option_map, option_or}
use Rattle.std.specs.Str.{bytes_eq}
use Rattle.std.proofs.lemmas.List.{take_more}
use Rattle.std.proofs.lemmas.List.Folds.{find-append}
use Rattle.harmonics_book.specs.declared.book.Station.{Station}
use Rattle.listing.specs.StationLists.{unit_in}

option_map-or : {A B : Type 0} (f : A → B) (a b : Option A) → option_map f (option_or a b) ≡ option_or (option_map f a) (option_map f b)
option_map-or f None b = refl
option_map-or f (Some a) b = refl

one : (station : Station) (name : List ℕ) → unit_in (station ∷ []) name ≡ (if bytes_eq name station.name then Some station.units else None)
one station name = elim (bytes_eq name station.name) as (λ same. option_map (λ (s : Station). s.units)
    (if same then Some station else None) ≡ (if same then Some station.units else None)) [ true ↦ refl | false ↦ refl ]

pub unit_in_more : (stations : List Station) (i : ℕ) (d : Station) (name : List ℕ) → i < length stations
    → unit_in (take (i + 1) stations) name
    ≡ option_or (unit_in (take i stations) name)
    (if bytes_eq name (get_or stations i d).name then Some (get_or stations i d).units else None)
unit_in_more stations i d name within =
    rw (
      take_more stations i d within,
      find-append (λ (s : Station). bytes_eq name s.name) (take i stations) (get_or stations i d ∷ []),
      option_map-or,
      one (get_or stations i d) name,
    )
