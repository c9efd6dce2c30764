use Rattle.std.proofs.Common.{◌≡◌, ◌≤◌, ◌+◌, ◌*◌, ◌^◌, ℤ, negsuc, ◌≤ℤ◌, pos, ◌-ℤ◌, get_or, length, ap, ◌∙◌, arith, lit<, lit≤}
use Rattle.std.specs.Prelude.{unsigned_abs}
use Rattle.std.specs.Int.{int_rem_euclid}
use Rattle.std.proofs.lemmas.Int.{ints, to_z_pos}
use mir.Syntax.{w32, w64, w128}
use mir.Val.{to_z, of_z}
use Rattle.fixed_sine.specs.Circle.{circle}
use Rattle.year_blend.specs.Places.{start_of}
use Rattle.station_curve.specs.Schureman.{speed_of, angle_of}
use Rattle.station_curve.proofs.Products.{cast_small, kept_small, small_fits, abs_span, abs_minus, minus, minus_fits, abs_onto}
use Rattle.station_curve.proofs.BookValues.{station_epoch, book_angle, angle_an_hour_before}
use Rattle.station_curve.proofs.constants.phase.Goals as goal

pub overflow_cast-result : goal.overflow_cast-result
overflow_cast-result c = (
  omega (arith, ints, c.reduce.ensures.range.least, c.reduce.ensures.range.below),
  omega (arith, ints, c.reduce.ensures.range.least, c.reduce.ensures.range.below),
)

-- the meridian, and an hour less
hour_before : (meridian minutes : ℤ) → negsuc 958 ≤ℤ meridian → meridian ≤ℤ pos 959 → minutes ≡ to_z w32 (of_z w32 meridian)
    → (minutes ≡ meridian) × (unsigned_abs minutes ≤ 959)
hour_before meridian minutes least most is =
    let small = abs_span meridian 958 least most in
    let same = is ∙ cast_small w32 meridian 959 small (lit< tt) in
    (same, rw same small)

pub overflow_sub-minutes : goal.overflow_sub-minutes
overflow_sub-minutes c =
    let meridian = c.requires.station.meridian in
    let minutes = hour_before c.args.station.now.meridian c.from-minutes.result meridian.least meridian.most c.from-minutes.ensures in
    minus_fits w64 c.from-minutes.result (pos 60) 959 60 minutes.1 (lit≤ tt) (lit< tt)

pub angle-angle-requires-clause-minutes : goal.angle-angle-requires-clause-minutes
angle-angle-requires-clause-minutes c =
    let meridian = c.requires.station.meridian in
    let minutes = hour_before c.args.station.now.meridian c.from-minutes.result meridian.least meridian.most c.from-minutes.ensures in
    rw (minus w64 c.from-minutes.result (pos 60) 959 60 minutes.1 (lit≤ tt) (lit< tt))
    (omega (arith, abs_minus c.from-minutes.result (pos 60) 959 60 minutes.1 (lit≤ tt)))

pub overflow_cast-speed : goal.overflow_cast-speed
overflow_cast-speed c = small_fits w64 (pos c.speed.result) 3600000000 c.speed.ensures.size (lit< tt)

pub angle-angle-requires-clause-speed : goal.angle-angle-requires-clause-speed
angle-angle-requires-clause-speed c = kept_small w64 (pos c.speed.result) 3600000000 c.speed.ensures.size (lit< tt)

pub angle-angle-requires-clause-argument : goal.angle-angle-requires-clause-argument
angle-angle-requires-clause-argument c =
    let place = c.place_in_table.result in
    let small = book_angle c.args.book.now place c.get.ensures.valid c.place_in_table.ensures.within in
    rw (c.as_slice.ensures, c.get.ensures.exact) (kept_small w64 (get_or c.args.book.now.angles place (pos 0)) 7200000000 small (lit< tt))

pub angle-angle-requires-clause-epoch : goal.angle-angle-requires-clause-epoch
angle-angle-requires-clause-epoch c =
    let small = station_epoch (length c.args.book.now.constituents) c.args.station.now c.args.k c.requires.station c.requires.place in
    rw c.as_slice-2.ensures (kept_small w64 (get_or c.args.station.now.epoch c.args.k (pos 0)) 7200000000 small (lit< tt))

pub returns-clause-value : goal.returns-clause-value
returns-clause-value c =
    let b = c.args.book.now in
    let s = c.args.station.now in
    let k = c.args.k in
    let place = c.place_in_table.result in
    let angle = c.angle-angle.result in
    let speed : to_z w64 c.speed.result ≡ speed_of b k =
    to_z_pos w64 c.speed.result (omega (arith, c.speed.ensures.size)) ∙ c.speed.ensures.value in
    let minutes : to_z w64 (of_z w64 (to_z w64 (of_z w64 c.from-minutes.result) -ℤ pos 60)) ≡ s.meridian -ℤ pos 60 =
    (let meridian = c.requires.station.meridian in
    let minutes = hour_before s.meridian c.from-minutes.result meridian.least meridian.most c.from-minutes.ensures in
    minus w64 c.from-minutes.result (pos 60) 959 60 minutes.1 (lit≤ tt) (lit< tt) ∙ ap (λ z. z -ℤ pos 60) minutes.0) in
    let argument : to_z w64 (of_z w64 (get_or c.as_slice.result.now place (pos 0))) ≡ get_or b.angles (k * b.years + c.args.year) (pos 0) =
    rw (c.as_slice.ensures, c.get.ensures.exact) (cast_small w64 (get_or b.angles place (pos 0)) 7200000000
    (book_angle b place c.get.ensures.valid c.place_in_table.ensures.within) (lit< tt))
    ∙ ap (λ p. get_or b.angles p (pos 0)) c.place_in_table.ensures.value in
    let epoch : to_z w64 (of_z w64 (get_or c.as_slice-2.result.now k (pos 0))) ≡ get_or s.epoch k (pos 0) =
    rw c.as_slice-2.ensures (cast_small w64 (get_or s.epoch k (pos 0)) 7200000000
    (station_epoch (length b.constituents) s k c.requires.station c.requires.place) (lit< tt)) in
    let is : angle ≡ angle_of b s c.args.year (start_of b.first_year c.args.year -ℤ pos 60) k =
    c.angle-angle.ensures.value ∙ angle_an_hour_before b s c.args.year k _ _ _ _ speed minutes argument epoch in
    let from : c.from.result ≡ angle = c.from.ensures ∙ cast_small w64 angle (10 ^ 13) c.angle-angle.ensures.size (lit< tt) in
    let wide : to_z w128 (of_z w128 c.from.result) ≡ angle =
    rw from (cast_small w128 angle (10 ^ 13) c.angle-angle.ensures.size (lit< tt)) in
    let small = abs_onto c.reduce.result circle c.reduce.ensures.range.least c.reduce.ensures.range.below in
    ap unsigned_abs (cast_small w64 c.reduce.result circle small (lit< tt) ∙ c.reduce.ensures.value)
    ∙ ap (λ z. unsigned_abs (int_rem_euclid z (pos circle))) (wide ∙ is)
