use Rattle.std.proofs.Common.{◌≡◌, ◌+◌, ◌-◌, ◌/◌, ◌<◌, pos, get_or, sym, ap, arith}
use Rattle.std.proofs.lemmas.Int.{ints}
use Rattle.fixed_sine.specs.Table.{sines}
use Rattle.fixed_sine.proofs.CircleLemmas.{quarter_of_size}
use Rattle.fixed_sine.proofs.QuarterLemmas.{quarter_of-entries, quarter_of-ninety}
use Rattle.fixed_sine.proofs.sine.quarter.Goals as goal

pub returns-then-degrees-lt90-clause-value : goal.returns-then-degrees-lt90-clause-value
returns-then-degrees-lt90-clause-value c =
    let k = c.args.place / 600000000 in
    let row = c.row_of.ensures in
    let below : c.args.place < 54000000000 = omega arith in
    let rise : get_or sines (k + 1) 0 - get_or sines k 0 ≡ c.row_of.result.rise = omega arith in
    rw (quarter_of-entries c.args.place c.row_of.result.correction below row.correction, rise, ← row.sine)
    (ap pos c.between.ensures)

pub returns-then-degrees-lt90-clause-size : goal.returns-then-degrees-lt90-clause-size
returns-then-degrees-lt90-clause-size c =
    let sine = quarter_of_size c.args.place c.requires in
    omega (arith, ints, returns-then-degrees-lt90-clause-value c, sine.value, sine.most)

pub returns-else-degrees-lt90-clause-value : goal.returns-else-degrees-lt90-clause-value
returns-else-degrees-lt90-clause-value c =
    let ninety : c.args.place ≡ 54000000000 = omega arith in rw ninety (sym quarter_of-ninety)
