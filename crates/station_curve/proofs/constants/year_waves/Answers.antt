use Rattle.std.proofs.Common.{◌≡◌, ◌^◌, ◌<◌, [], ◌∷◌, ◌++◌, pos, length, get_or, ap, sym, ◌∙◌, arith, lit<}
use Rattle.std.specs.Prelude.{unsigned_abs, filter}
use mir.Syntax.{w64}
use mir.Val.{of_z}
use Rattle.station_curve.specs.Schureman.{amplitude_of, speed_of}
use Rattle.station_curve.proofs.Present.{place-in_book, present-waves, absent_more, present_more, all_waves}
use Rattle.station_curve.proofs.Products.{cast_small, zero_of_bits}
use Rattle.station_curve.proofs.WavesOf.{wave_amount, wave_steepness, is_wave}
use Rattle.station_curve.proofs.constants.year_waves.Goals as goal
use Rattle.station_curve.proofs.constants.year_waves.Goals.{then-amplitude-ne0+in_ok-push, else-amplitude-ne0}
use Rattle.station_curve.specs.Workings.Prepared.{is_present}

pub amplitude-amplitude-requires-clause-place : goal.amplitude-amplitude-requires-clause-place
amplitude-amplitude-requires-clause-place c = place-in_book c.args.book.now c.args.station.now c.args.present.now c.loop-place.place-index c.requires.present (omega (arith, c.loop-place-test.true))

pub speed-requires : goal.speed-requires
speed-requires c = record { place = place-in_book c.args.book.now c.args.station.now c.args.present.now c.loop-place.place-index c.requires.present (omega (arith, c.loop-place-test.true)) }

pub phase-requires-clause-place : goal.phase-requires-clause-place
phase-requires-clause-place c = place-in_book c.args.book.now c.args.station.now c.args.present.now c.loop-place.place-index c.requires.present (omega (arith, c.loop-place-test.true))

pub new-requires-clause-amplitude : goal.new-requires-clause-amplitude
new-requires-clause-amplitude c =
    let in_book = place-in_book c.args.book.now c.args.station.now c.args.present.now c.loop-place.place-index
    c.requires.present (omega (arith, c.loop-place-test.true)) in
    let same = cast_small w64 c.amplitude-amplitude.result (10 ^ 11) c.amplitude-amplitude.ensures.size (lit< tt) in
    rw (same, c.amplitude-amplitude.ensures.value) (wave_amount c.args.book.now c.args.station.now c.args.year
    (get_or c.args.present.now c.loop-place.place-index 0) in_book c.requires.within)

pub new-requires-clause-steepness : goal.new-requires-clause-steepness
new-requires-clause-steepness c =
    let k = get_or c.args.present.now c.loop-place.place-index 0 in
    let in_book = place-in_book c.args.book.now c.args.station.now c.args.present.now c.loop-place.place-index
    c.requires.present (omega (arith, c.loop-place-test.true)) in
    let same = cast_small w64 c.amplitude-amplitude.result (10 ^ 11) c.amplitude-amplitude.ensures.size (lit< tt) in
    let steep = wave_steepness c.args.book.now c.args.station.now c.args.year k in_book c.requires.within in
    let speed : unsigned_abs (speed_of c.args.book.now k) ≡ c.speed.result = ap unsigned_abs (sym c.speed.ensures.value) in
    rw (same, c.amplitude-amplitude.ensures.value) (rw speed at steep)

pub loop-place-preserved : goal.loop-place-preserved
loop-place-preserved c =
    let b = c.args.book.now in
    let s = c.args.station.now in
    let places = c.args.present.now in
    let i = c.loop-place.place-index in
    let k = get_or places i 0 in
    let in_list : i < length places = omega (arith, c.loop-place-test.true) in
    let same = cast_small w64 c.amplitude-amplitude.result (10 ^ 11) c.amplitude-amplitude.ensures.size (lit< tt) in
    let value = c.amplitude-amplitude.ensures.value in
    elim c.if-amplitude-ne0.branch [
      | then-amplitude-ne0+in_ok-push w ↦
          let some : amplitude_of b s c.args.year k ≡ pos 0 → ⊥ = λ e. w.if-amplitude-ne0.true (ap (of_z w64) (value ∙ e)) in
          let wave = is_wave b s c.args.year k w.new.result c.amplitude-amplitude.result w.speed.result w.phase.result
          (rw same at w.new.ensures) value w.speed.ensures.value w.phase.ensures.value in
          ap (λ v. v.items) w.waves-is ∙ w.in_ok-push.ensures.items ∙ ap (λ xs. xs ++ w.new.result ∷ []) c.loop-place.invariant
          ∙ sym (present_more b s c.args.year places i w.new.result in_list some wave)
      | else-amplitude-ne0 w ↦
          let none = zero_of_bits c.amplitude-amplitude.result (10 ^ 11) c.amplitude-amplitude.ensures.size
          (lit< tt) w.if-amplitude-ne0.false in
          ap (λ v. v.items) w.waves-is ∙ c.loop-place.invariant ∙ sym (absent_more b s c.args.year places i in_list (sym value ∙ none))
    ]

pub returns : goal.returns
returns c =
    let b = c.args.book.now in
    let s = c.args.station.now in
    let places = c.args.present.now in
    c.loop-place.invariant ∙ ap (filter is_present) (all_waves b s c.args.year places c.loop-place.place-index
    (omega (arith, c.loop-place-test.false, c.loop-place.auto.place-index-end)))
    ∙ present-waves b s c.args.year places c.requires.present
