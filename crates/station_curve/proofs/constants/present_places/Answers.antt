use Rattle.std.proofs.Common.{◌≡◌, ◌^◌, ◌<◌, [], ◌∷◌, ◌++◌, pos, length, get_or, ap, sym, ◌∙◌, arith, lit<}
use mir.Syntax.{w64}
use mir.Val.{of_z}
use Rattle.station_curve.proofs.BookValues.{station_amplitude}
use Rattle.station_curve.proofs.Present.{place-absent, place-present, places-few, all_places}
use Rattle.station_curve.proofs.Products.{zero_of_bits}
use Rattle.station_curve.proofs.constants.present_places.Goals as goal
use Rattle.station_curve.proofs.constants.present_places.Goals.{then-as_slice-k-ne0+in_ok-push, else-as_slice-k-ne0}

pub loop-k-preserved : goal.loop-k-preserved
loop-k-preserved c =
    let b = c.args.book.now in
    let s = c.args.station.now in
    let k = c.loop-k.k in
    let in_list : k < length b.constituents = rw c.count-k-end.ensures.value at c.loop-k-test.true in
    let small = station_amplitude (length b.constituents) s k c.requires.station in_list in
    elim c.if-as_slice-k-ne0.branch [
      | then-as_slice-k-ne0+in_ok-push w ↦
          let some : get_or s.amplitude k (pos 0) ≡ pos 0 → ⊥ = λ e. rw c.as_slice.ensures at w.if-as_slice-k-ne0.true (ap (of_z w64) e) in
          ap (λ v. v.items) w.places-is ∙ w.in_ok-push.ensures.items ∙ ap (λ xs. xs ++ k ∷ []) c.loop-k.invariant
          ∙ sym (place-present b s k in_list some)
      | else-as_slice-k-ne0 w ↦
          let none = zero_of_bits (get_or s.amplitude k (pos 0)) (10 ^ 10) small (lit< tt)
          (rw c.as_slice.ensures at w.if-as_slice-k-ne0.false) in
          ap (λ v. v.items) w.places-is ∙ c.loop-k.invariant ∙ sym (place-absent b s k in_list none)
    ]

pub returns-clause-places : goal.returns-clause-places
returns-clause-places c =
    let ended : c.loop-k.k ≡ c.count-k-end.result = omega arith in
    c.loop-k.invariant ∙ all_places c.args.book.now c.args.station.now c.loop-k.k (ended ∙ c.count-k-end.ensures.value)

pub returns-clause-count_bound : goal.returns-clause-count_bound
returns-clause-count_bound c =
    let few = places-few c.args.book.now c.args.station.now c.loop-k.places.items (returns-clause-places c) in
    omega (arith, few, c.count-k-end.ensures.value, c.count-k-end.ensures.count_bound)
