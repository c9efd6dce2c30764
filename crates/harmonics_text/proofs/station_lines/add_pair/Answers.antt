use Rattle.std.proofs.Common.{◌≡◌, ◌++◌, ◌∷◌, [], length, get_or, ap, sym, rules}
use Rattle.std.specs.Prelude.{FitsSigned}
use Rattle.std.specs.Int.{w64}
use Rattle.std.proofs.lemmas.Int.{to_z-of_z}
use Rattle.harmonics_text.proofs.Values.{pair_added, element_is}
use Rattle.harmonics_text.proofs.Steps.{unnamed}
use Rattle.harmonics_book.specs.declared.book.Constituent.{Constituent}
use Rattle.harmonics_text.proofs.station_lines.add_pair.Goals as goal

pub returns-clause-exact : goal.returns-clause-exact
returns-clause-exact c =
    let a = c.in_ok-amplitude.amplitude in
    let e = c.in_ok-amplitude.epoch in
    let fa : FitsSigned w64 a = search rules in
    let fe : FitsSigned w64 e = search rules in
    let pa : c.push.new.self ≡ c.args.station.now.amplitude ++ a ∷ [] = simp to_z-of_z at c.in_ok-push.ensures in
    let pe : c.push-2.new.self ≡ c.args.station.now.epoch ++ e ∷ [] = simp to_z-of_z at c.in_ok-push-2.ensures in
    let read = get_or c.as_slice.result.now c.len.result c.index-as_slice-len.result in
    let named : read.name ≡ (get_or c.args.book.now.constituents (length c.args.station.now.amplitude) unnamed).name =
    ap (λ (k : Constituent). k.name) (element_is _ c.args.book.now.constituents _
    (length c.args.station.now.amplitude) _ unnamed c.as_slice.ensures c.len.ensures c.requires) in
    pair_added c.args.book.now c.args.station.now c.args.text.now read.name (a, e) _ _ named (sym c.in_ok-amplitude.ensures) pa pe
