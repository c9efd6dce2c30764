use Rattle.std.proofs.Common.{◌≡◌, ◌++◌, ◌∷◌, [], sym, rules}
use Rattle.std.specs.Prelude.{FitsSigned}
use Rattle.std.specs.Int.{w64}
use Rattle.std.proofs.lemmas.Int.{to_z-of_z}
use Rattle.harmonics_text.proofs.Values.{pushed_is}
use Rattle.harmonics_text.proofs.table.push_number.Goals as goal

pub returns : goal.returns
returns c =
    let v = c.in_ok-number.field-0 in
    let f : FitsSigned w64 v = search rules in
    let e : c.push.new.self ≡ c.args.values.now ++ v ∷ [] = simp to_z-of_z at c.in_ok-push.ensures in
    pushed_is c.args.scale c.args.values.now c.args.token.now v _ (sym c.in_ok-number.ensures) e
