-- Where the value of a compound option is from.
use Rattle.std.proofs.Common.{◌≡◌, Bool, true, false, if◌then◌else◌, Option, Some, None, refl}
use Rattle.std.specs.Option.{option_map, option_or}
use Rattle.std.proofs.lemmas.Option.{same_Some}

pub option_map_some : {A B P : Type 0} (f : A → B) (o : Option A) (y : B) → option_map f o ≡ Some y
    → ((x : A) → o ≡ Some x → f x ≡ y → P) → P
option_map_some f None y e k = absurd cc
option_map_some f (Some x) y e k = k x refl (same_Some _ _ e)

-- if one of two options, the second only if the first is None, has a value, it is the value of one
-- of the two
pub option_or_some : {A P : Type 0} (o p : Option A) (y : A) → option_or o p ≡ Some y → (o ≡ Some y → P) → (p ≡ Some y → P) → P
option_or_some None p y e first second = second e
option_or_some (Some x) p y e first second = first e

-- if a choice between None and an option has a value, the option was chosen and has this value
pub cond_none : {A : Type 0} (b : Bool) (o : Option A) (y : A) → (if b then None else o) ≡ Some y → (b ≡ false) × (o ≡ Some y)
cond_none true o y e = absurd cc
cond_none false o y e = (refl, e)
