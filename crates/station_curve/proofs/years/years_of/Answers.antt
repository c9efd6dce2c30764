use Rattle.std.proofs.Common.{◌≡◌, inl, inr, ap, arith}
use Rattle.harmonics_book.specs.declared.book.Book.{Book}
use Rattle.station_curve.proofs.ReadyYears.{ready_none, ready_more, some_more, fault_stays}
use Rattle.station_curve.proofs.years.years_of.Goals as goal

pub loop-year-init : goal.loop-year-init
loop-year-init c = rw c.in_ok-years.ensures.items
    (ready_none c.args.book.now c.args.station.now c.args.minute_range.first c.args.minute_range.last)

pub loop-year-preserved : goal.loop-year-preserved
loop-year-preserved c =
    rw c.in_ok-push-in-Ok.ensures.items (ready_more c.args.book.now c.args.station.now c.args.minute_range.first
    c.args.minute_range.last c.loop-year.year c.loop-year.years.items _ c.loop-year.invariant c.in-Ok.ensures)

pub returns-in-Err : goal.returns-in-Err
returns-in-Err c = elim c.in-Err.ensures [
  | inl lacks ↦ inl lacks
  | inr found ↦ inr (fault_stays c.args.book.now c.args.station.now c.loop-year.year c.args.book.now.years c.in-Err.fault
      (some_more c.args.book.now c.args.station.now c.loop-year.year c.in-Err.fault c.loop-year.invariant.within found)
      (rw c.get-2.ensures.exact at c.loop-year-test.true))
]

pub returns : goal.returns
returns c =
    let count : c.get-2.result.now.years ≡ c.args.book.now.years = ap (λ (b : Book). b.years) c.get-2.ensures.exact in
    let all : c.loop-year.year ≡ c.args.book.now.years = omega (arith, c.loop-year-test.false, c.loop-year.auto.year-end, count) in
    rw all at c.loop-year.invariant
