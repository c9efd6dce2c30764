use Rattle.std.proofs.Common.{◌≡◌, ◌*◌, ◌^◌, ◌<◌, ◌≤◌, get_or, length, ap, ◌∙◌, arith, lit<}
use Rattle.std.specs.Prelude.{unsigned_abs}
use Rattle.std.proofs.lemmas.Nat.{mul-le}
use mir.Syntax.{w64}
use Rattle.station_curve.specs.Schureman.{amplitude_of}
use Rattle.station_curve.specs.Waves.{amount_of, steepness_of}
use Rattle.station_curve.proofs.Present.{place-in_book, present-amount, present-steepness, amount_more, steepness_more, all_waves}
use Rattle.station_curve.proofs.Products.{cast_small}
use Rattle.station_curve.proofs.constants.sums.Goals as goal

pub amplitude-requires-clause-place : goal.amplitude-requires-clause-place
amplitude-requires-clause-place c = place-in_book c.args.book.now c.args.station.now c.args.present.now c.loop-place.place-index c.requires.present (omega (arith, c.loop-place-test.true))

pub speed-requires : goal.speed-requires
speed-requires c = record { place = place-in_book c.args.book.now c.args.station.now c.args.present.now c.loop-place.place-index c.requires.present (omega (arith, c.loop-place-test.true)) }

pub overflow_add-amount : goal.overflow_add-amount
overflow_add-amount c =
    let small = c.amplitude.ensures.size in
    let same = cast_small w64 c.amplitude.result (10 ^ 11) small (lit< tt) in
    let bits = rw same at c.unsigned_abs-size.ensures.value in
    omega (arith, c.loop-place.invariant.few, c.loop-place-test.true, c.requires.count_bound, bits, small)

pub overflow_add-steepness : goal.overflow_add-steepness
overflow_add-steepness c =
    let small = c.amplitude.ensures.size in
    let same = cast_small w64 c.amplitude.result (10 ^ 11) small (lit< tt) in
    let bits = rw same at c.unsigned_abs-size.ensures.value in
    let most : c.unsigned_abs-size.result * c.speed.result ≤ 10 ^ 11 * 3600000000 = mul-le c.unsigned_abs-size.result
    c.speed.result (10 ^ 11) 3600000000 (omega (arith, bits, small)) c.speed.ensures.size in
    rw (c.from.ensures, c.from-in-loop-place.ensures)
    (omega (arith, c.loop-place.invariant.low, c.loop-place-test.true, c.requires.count_bound, most))

pub loop-place-preserved : goal.loop-place-preserved
loop-place-preserved c =
    let b = c.args.book.now in
    let s = c.args.station.now in
    let places = c.args.present.now in
    let i = c.loop-place.place-index in
    let in_list : i < length places = omega (arith, c.loop-place-test.true) in
    let small = c.amplitude.ensures.size in
    let same = cast_small w64 c.amplitude.result (10 ^ 11) small (lit< tt) in
    let bits = rw same at c.unsigned_abs-size.ensures.value in
    let size : c.unsigned_abs-size.result ≡ unsigned_abs (amplitude_of b s c.args.year (get_or places i 0)) =
    bits ∙ ap unsigned_abs c.amplitude.ensures.value in
    let most : c.unsigned_abs-size.result * c.speed.result ≤ 10 ^ 11 * 3600000000 = mul-le c.unsigned_abs-size.result
    c.speed.result (10 ^ 11) 3600000000 (omega (arith, bits, small)) c.speed.ensures.size in
    rw (c.from.ensures, c.from-in-loop-place.ensures) (record {
      amount = amount_more b s c.args.year places i c.loop-place.amount c.unsigned_abs-size.result in_list
          c.loop-place.invariant.amount size;
      steepness = steepness_more b s c.args.year places i c.loop-place.steepness c.unsigned_abs-size.result
          c.speed.result in_list c.loop-place.invariant.steepness size c.speed.ensures.value;
      few = omega (arith, c.loop-place.invariant.few, bits, small);
      low = omega (arith, c.loop-place.invariant.low, most);
    })

pub returns-clause-amount : goal.returns-clause-amount
returns-clause-amount c =
    let b = c.args.book.now in
    let s = c.args.station.now in
    let places = c.args.present.now in
    c.loop-place.invariant.amount ∙ ap amount_of (all_waves b s c.args.year places c.loop-place.place-index
    (omega (arith, c.loop-place-test.false, c.loop-place.auto.place-index-end)))
    ∙ present-amount b s c.args.year places c.requires.present

pub returns-clause-steepness : goal.returns-clause-steepness
returns-clause-steepness c =
    let b = c.args.book.now in
    let s = c.args.station.now in
    let places = c.args.present.now in
    c.loop-place.invariant.steepness ∙ ap steepness_of (all_waves b s c.args.year places c.loop-place.place-index
    (omega (arith, c.loop-place-test.false, c.loop-place.auto.place-index-end)))
    ∙ present-steepness b s c.args.year places c.requires.present
