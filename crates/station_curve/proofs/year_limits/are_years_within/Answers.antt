use Rattle.std.proofs.Common.{◌+◌, ◌*◌, ◌^◌, ◌<◌, ◌≤◌, length, ap, ◌∙◌, arith}
use Rattle.std.proofs.lemmas.Bool.Decides.{nat_tests}
use Rattle.std.proofs.lemmas.Nat.{mul-le}
use Rattle.station_curve.specs.Waves.{amount_of, steepness_of}
use Rattle.station_curve.proofs.Present.{place-in_book, all_waves, present-amount, present-steepness}
use Rattle.station_curve.proofs.WavesOf.{fault_none}
use Rattle.station_curve.proofs.YearLimits.{amount-most, steepness-most}
use Rattle.station_curve.proofs.year_limits.are_years_within.Goals as goal

pub greatest_size-size-requires-clause-place : goal.greatest_size-size-requires-clause-place
greatest_size-size-requires-clause-place c = place-in_book c.args.book.now c.args.station.now c.args.present.now c.loop-place.place-index c.requires.present (omega (arith, c.loop-place-test.true))

pub speed-requires : goal.speed-requires
speed-requires c = record { place = place-in_book c.args.book.now c.args.station.now c.args.present.now c.loop-place.place-index c.requires.present (omega (arith, c.loop-place-test.true)) }

pub loop-place-preserved : goal.loop-place-preserved
loop-place-preserved c =
    let b = c.args.book.now in
    let s = c.args.station.now in
    let places = c.args.present.now in
    let i = c.loop-place.place-index in
    let size = c.greatest_size-size.result in
    let in_list : i < length places = omega (arith, c.loop-place-test.true) in
    let most : size * c.speed.result ≤ (10 ^ 11 + 1) * 3600000000 = mul-le size c.speed.result (10 ^ 11 + 1) 3600000000
    c.greatest_size-size.ensures.size c.speed.ensures.size in
    rw (c.from.ensures, c.from-in-loop-place.ensures) (record {
      amount = λ year in_years. amount-most b s year places i c.loop-place.amount size in_list
          (c.loop-place.invariant.amount year in_years) (c.greatest_size-size.ensures.value year in_years);
      steepness = λ year in_years. steepness-most b s year places i c.loop-place.steepness size c.speed.result in_list
          (c.loop-place.invariant.steepness year in_years) (c.greatest_size-size.ensures.value year in_years) c.speed.ensures.value;
      few = omega (arith, c.loop-place.invariant.few, c.greatest_size-size.ensures.size);
      low = omega (arith, c.loop-place.invariant.low, most);
    })

pub returns-then-amount-le-MOST_AMOUNT : goal.returns-then-amount-le-MOST_AMOUNT
returns-then-amount-le-MOST_AMOUNT c within year in_years =
    let b = c.args.book.now in
    let s = c.args.station.now in
    let places = c.args.present.now in
    let all = all_waves b s year places c.loop-place.place-index
    (omega (arith, c.loop-place-test.false, c.loop-place.auto.place-index-end)) in
    let amount = ap amount_of all ∙ present-amount b s year places c.requires.present in
    let steepness = ap steepness_of all ∙ present-steepness b s year places c.requires.present in
    let low = rw amount at (c.loop-place.invariant.amount year in_years) in
    let flat = rw steepness at (c.loop-place.invariant.steepness year in_years) in
    let most : c.loop-place.steepness ≤ 100000000000000000 = grind (arith, nat_tests, within) in
    fault_none b s year (omega (arith, low, c.if-amount-le-MOST_AMOUNT.true)) (omega (arith, flat, most))
