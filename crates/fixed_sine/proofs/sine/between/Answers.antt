use Rattle.std.proofs.Common.{◌-◌, refl}
use Rattle.fixed_sine.proofs.QuarterLemmas.{factored}
use Rattle.fixed_sine.proofs.sine.between.Goals as goal

pub returns : goal.returns
returns c =
    let product = factored c.args.r (600000000 - c.args.r) c.args.row.rise c.args.row.correction in
    rw (c.from-3.ensures, c.from-4.ensures, c.from-5.ensures, c.from.ensures, c.from-2.ensures, product) refl
