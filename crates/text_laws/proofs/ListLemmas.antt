-- Lists that are mapped from one list.
use Rattle.std.proofs.Common.{◌≡◌, List, [], ◌∷◌, ◌++◌, map, refl, ap}
use Rattle.std.specs.List.{flat_map, AllZip}

pub flat_map-map : {X Y A : Type 0} (f : Y → List A) (g : X → Y) (xs : List X) → flat_map f (map g xs) ≡ flat_map (λ x. f (g x)) xs
flat_map-map f g [] = refl
flat_map-map f g (x ∷ xs) = ap (λ rest. f (g x) ++ rest) (flat_map-map f g xs)

pub AllZip-maps : {X A B : Type 0} (R : A → B → Type 0) (f : X → A) (g : X → B) → ((x : X) → R (f x) (g x))
    → (xs : List X) → AllZip R (map f xs) (map g xs)
AllZip-maps R f g each [] = tt
AllZip-maps R f g each (x ∷ xs) = (each x, AllZip-maps R f g each xs)

pub map-same : {X Y : Type 0} (f : X → X) (g : Y → X) → ((y : Y) → f (g y) ≡ g y) → (ys : List Y) → map f (map g ys) ≡ map g ys
map-same f g each [] = refl
map-same f g each (y ∷ ys) = cc (each y, map-same f g each ys)
