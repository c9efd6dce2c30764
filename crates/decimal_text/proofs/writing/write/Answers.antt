use Rattle.std.proofs.Common.{◌-◌, ◌≤◌, length, length-append, arith}
use Rattle.std.proofs.lemmas.Int.{to_z-of_z}
use mir.Syntax.{w64}
use Rattle.decimal_text.proofs.WritingLemmas.{whole_short, minus_short, written, abs_small}
use Rattle.decimal_text.proofs.RoundTrip.{reads_back}
use Rattle.decimal_text.proofs.writing.write.Goals as goal

pub push_fraction-requires-clause-room : goal.push_fraction-requires-clause-room
push_fraction-requires-clause-room c =
    let size = c.unsigned_abs-size.result in
    let whole : length c.format.result.now ≤ 19 - c.args.places = rw (c.format.ensures.text, c.without_last.ensures)
    (whole_short size c.args.places (omega arith) c.requires.count_bound) in
    let same = to_z-of_z w64 c.args.value c.ranges.value in
    let minus = minus_short c.args.value in
    rw (c.push_str.ensures.bytes, rw same at c.push_minus.ensures, c.requires.empty) (simp length-append (omega (arith, whole, minus)))

pub returns-clause-exact : goal.returns-clause-exact
returns-clause-exact c =
    let same = to_z-of_z w64 c.args.value c.ranges.value in
    let minus = rw same at c.push_minus.ensures in
    let size = rw same at c.unsigned_abs-size.ensures.value in
    written _ _ _ _ _ c.args.value _ c.args.places c.requires.empty minus size (rw c.without_last.ensures at c.format.ensures.text)
    c.push_str.ensures.bytes c.push_fraction.ensures

pub returns-clause-reads_back : goal.returns-clause-reads_back
returns-clause-reads_back c few =
    rw (returns-clause-exact c) (reads_back c.args.value c.args.places (abs_small c.args.value c.ranges.value) few)
