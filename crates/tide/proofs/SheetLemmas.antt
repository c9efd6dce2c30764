-- A fact of some sheets holds of equal ones, and four sheets that were pushed are these.
use Rattle.std.proofs.Common.{◌≡◌, List, [], ◌∷◌, ◌++◌, map, refl, subst}
use Rattle.report_sheets.specs.Sheets.{SheetSpec}

pub over_sheets : (P : List SheetSpec → Type 0) (sheets others : List SheetSpec) → P sheets → sheets ≡ others → P others
over_sheets P sheets others holds same = subst P same holds

pub four_sheets : {A : Type 0} (m : A → SheetSpec) (none one two three four : List A) (a b c d : A)
    (first second third fourth : SheetSpec)
    → none ≡ [] → one ≡ none ++ a ∷ [] → two ≡ one ++ b ∷ [] → three ≡ two ++ c ∷ [] → four ≡ three ++ d ∷ []
    → m a ≡ first → m b ≡ second → m c ≡ third → m d ≡ fourth → map m four ≡ first ∷ second ∷ third ∷ fourth ∷ []
four_sheets m none one two three four a b c d first second third fourth n o t h f x y z w = rw (f, h, t, o, n, x, y, z, w) refl
