-- The units of stations by their names.
use Rattle.std.specs.Prelude.{◌≡◌, ℕ, List, Option}
use Rattle.std.specs.Borrow.{Bor}
use Rattle.std.specs.BTreeMap.{BTreeMap, get_by}
use Rattle.std.specs.Cmp.Lexicographic.{slice_cmp}
use Rattle.std.specs.Ordering.{nat_cmp}
use Rattle.harmonics_book.specs.declared.book.Station.{Station}
use Rattle.harmonics_book.specs.declared.book.Units.{Units}
use Rattle.listing.specs.StationLists.{unit_in}

-- the unit that the map `units` has for the key `name`, or None if it doesn't have this key
abbrev pub unit_for : BTreeMap (Bor (List ℕ)) Units → List ℕ → Option Units
unit_for units name = get_by (λ key. slice_cmp nat_cmp name key.now) units

-- the map `units` has, for each name, the unit of the first of the stations with this name; no other
-- name is a key
abbrev pub AreUnitsOf : List Station → BTreeMap (Bor (List ℕ)) Units → Type 0
AreUnitsOf stations units = (name : List ℕ) → unit_for units name ≡ unit_in stations name
