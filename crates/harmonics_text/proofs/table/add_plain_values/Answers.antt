use Rattle.std.proofs.Common.{◌≡◌, ◌++◌, ◌∷◌, [], rules, arith}
use Rattle.std.specs.Prelude.{FitsSigned}
use Rattle.std.specs.Int.{w64}
use Rattle.std.proofs.lemmas.Int.{to_z-of_z}
use Rattle.harmonics_text.proofs.Values.{pushed_is, values_goes_on}
use Rattle.harmonics_text.proofs.table.add_plain_values.Goals as goal

pub plain-preserved : goal.plain-preserved
plain-preserved c =
    let v = c.in-Some.number in
    let f : FitsSigned w64 v = search rules in
    let e : c.push.new.self ≡ c.plain.table.values ++ v ∷ [] = simp to_z-of_z at c.in_ok-push-in-Some.ensures in
    let h = c.in-Some.ensures in
    record {
      so_far =
          values_goes_on c.args.scale c.args.table.now c.args.text.now c.plain.table.remaining c.plain.table.values c.push.new.self
          c.plain.rest.now h.token c.in-Some.after.now c.plain.invariant.so_far h.first (omega arith)
          (pushed_is c.args.scale c.plain.table.values h.token v c.push.new.self h.read e);
      index = c.plain.invariant.index;
    }
