use Rattle.std.proofs.Common.{◌≡◌, ◌^◌, pos, ◌*ℤ◌, get_or, length, ap, ◌∙◌, lit<}
use mir.Syntax.{w64}
use mir.Val.{to_z, of_z}
use Rattle.decimal_text.specs.Rounding.{rounded_of}
use Rattle.station_curve.proofs.Products.{cast_small, kept_small, zero_of_bits}
use Rattle.station_curve.proofs.BookValues.{station_amplitude, book_factor, no_amplitude}
use Rattle.station_curve.proofs.constants.amplitude.Goals as goal

pub returns-then-amplitude-eq0-clause-value : goal.returns-then-amplitude-eq0-clause-value
returns-then-amplitude-eq0-clause-value c =
    let small = station_amplitude (length c.args.book.now.constituents) c.args.station.now c.args.k c.requires.station c.requires.place in
    let bits = rw c.as_slice.ensures at c.if-amplitude-eq0.true in
    no_amplitude c.args.book.now c.args.station.now c.args.year c.args.k
    (zero_of_bits (get_or c.args.station.now.amplitude c.args.k (pos 0)) (10 ^ 10) small (lit< tt) bits)

pub effective-requires-clause-amplitude : goal.effective-requires-clause-amplitude
effective-requires-clause-amplitude c =
    let small = station_amplitude (length c.args.book.now.constituents) c.args.station.now c.args.k c.requires.station c.requires.place in
    rw c.as_slice.ensures (kept_small w64 (get_or c.args.station.now.amplitude c.args.k (pos 0)) (10 ^ 10) small (lit< tt))

pub effective-requires-clause-factor : goal.effective-requires-clause-factor
effective-requires-clause-factor c =
    let small = book_factor c.args.book.now c.place_in_table.result c.get.ensures.valid c.place_in_table.ensures.within in
    rw (c.as_slice-2.ensures, c.get.ensures.exact) (kept_small w64 (get_or c.args.book.now.factors c.place_in_table.result (pos 0)) (10 ^ 7) small (lit< tt))

pub returns-clause-size : goal.returns-clause-size
returns-clause-size c = kept_small w64 c.effective.result (10 ^ 11) c.effective.ensures.size (lit< tt)

pub returns-clause-value : goal.returns-clause-value
returns-clause-value c =
    let amplitude = get_or c.args.station.now.amplitude c.args.k (pos 0) in
    let place = c.place_in_table.result in
    let factor = get_or c.args.book.now.factors place (pos 0) in
    let h = station_amplitude (length c.args.book.now.constituents) c.args.station.now c.args.k c.requires.station c.requires.place in
    let k = book_factor c.args.book.now place c.get.ensures.valid c.place_in_table.ensures.within in
    let a : to_z w64 (of_z w64 amplitude) ≡ amplitude = cast_small w64 amplitude (10 ^ 10) h (lit< tt) in
    let f : to_z w64 (of_z w64 factor) ≡ factor = cast_small w64 factor (10 ^ 7) k (lit< tt) in
    cast_small w64 c.effective.result (10 ^ 11) c.effective.ensures.size (lit< tt)
    ∙ simp (c.as_slice.ensures, c.as_slice-2.ensures, c.get.ensures.exact, a, f) at c.effective.ensures.value
    ∙ ap (λ p. rounded_of (amplitude *ℤ get_or c.args.book.now.factors p (pos 0)) 1000000) c.place_in_table.ensures.value
