use Rattle.std.proofs.Common.{Some, sym, ap, ◌∙◌, arith}
use Rattle.station_curve.specs.declared.fault.CurveFault.TheVariants.{TooLarge, TooSteep}
use Rattle.station_curve.proofs.ReadyYears.{calendar_cast}
use Rattle.station_curve.proofs.WavesOf.{fault_large, fault_steep, fault_none}
use Rattle.station_curve.proofs.constants.check_year.Goals as goal

pub returns-then-amount-gt-MOST_AMOUNT : goal.returns-then-amount-gt-MOST_AMOUNT
returns-then-amount-gt-MOST_AMOUNT c =
    let calendar = calendar_cast c.calendar_year-year.result c.calendar_year-year.ensures.reach ∙ c.calendar_year-year.ensures.value in
    fault_large c.args.book.now c.args.station.now c.args.year
    (omega (arith, c.if-amount-gt-MOST_AMOUNT.true, c.sums-amount.ensures.amount))
    ∙ ap (λ y. Some (TooLarge y)) (sym calendar)

pub returns-then-steepness-gt-MOST_STEEPNESS : goal.returns-then-steepness-gt-MOST_STEEPNESS
returns-then-steepness-gt-MOST_STEEPNESS c =
    let calendar = calendar_cast c.calendar_year-year.result c.calendar_year-year.ensures.reach ∙ c.calendar_year-year.ensures.value in
    fault_steep c.args.book.now c.args.station.now c.args.year
    (omega (arith, c.if-amount-gt-MOST_AMOUNT.false, c.sums-amount.ensures.amount))
    (omega (arith, c.if-steepness-gt-MOST_STEEPNESS.true, c.sums-amount.ensures.steepness))
    ∙ ap (λ y. Some (TooSteep y)) (sym calendar)

pub returns : goal.returns
returns c =
    fault_none c.args.book.now c.args.station.now c.args.year
    (omega (arith, c.if-amount-gt-MOST_AMOUNT.false, c.sums-amount.ensures.amount))
    (omega (arith, c.if-steepness-gt-MOST_STEEPNESS.false, c.sums-amount.ensures.steepness))
