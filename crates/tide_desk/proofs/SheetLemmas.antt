-- The sheets that a request names.
use Rattle.std.proofs.Common.{◌≡◌, ℕ, ◌<◌, Bool, true, false, cond, List, length, nat_lt, Some, None, Result, Ok, Err, refl, subst}
use Rattle.std.specs.Prelude.{IfOk, not}
use Rattle.std.specs.List.{position_or_len}
use Rattle.std.specs.Result.{result_and}
use Rattle.std.proofs.lemmas.Bool.{ltb-true}
use Rattle.report_sheets.specs.Pages.{has_sheet, missing_of}
use Rattle.report_sheets.specs.Sheets.{SheetSpec}

some_place : (within : Bool) (other place : ℕ) → cond within (Some other) None ≡ Some place → (within ≡ true) × (other ≡ place)
some_place true other place is = (refl, cc)
some_place false other place is = absurd cc

-- the index is one of the requested words
pub missing_within : (sheets : List SheetSpec) (wanted : List (List ℕ)) (place : ℕ)
    → missing_of sheets wanted ≡ Some place → place < length wanted
unfolding missing_of
missing_within sheets wanted place is =
    let first = position_or_len (λ word. not (has_sheet sheets word)) wanted in
    let found = some_place (nat_lt first (length wanted)) first place is in
    subst (λ (n : ℕ). n < length wanted) found.1 (ltb-true first (length wanted) found.0)

-- a value that is returned unless a step before it fails
pub and_holds : {A B E : Type 0} (P : B → Type 0) (step : Result A E) (value : B) → P value → IfOk (result_and step (Ok value)) P
and_holds P (Ok done) value holds = holds
and_holds P (Err fault) value holds = tt
