use Rattle.std.proofs.Common.{◌≡◌, codes, pos, negsuc, ◌+ℤ◌, ◌*ℤ◌, Some, Ok, ℤ, ap, ap₂, lit≤}
use Rattle.decimal_text.specs.Decimal.{read_of, decimal_of, after_point, made_of, scaled_or_bad, scaled}
use Rattle.jiff_core.specs.Calendar.{days_from_civil}
use Rattle.zone_time.specs.Moments.{has_form, moment_of}
use Rattle.zone_time.proofs.ClosedLemmas.{days_from_civil-closed}
use Rattle.question.specs.declared.command.Command.TheVariants as command
use Rattle.question.specs.declared.layout.Layout.TheVariants.{Csv}
use Rattle.question.specs.declared.question.ZoneWord.TheVariants.{Fixed}
use Rattle.question.specs.Forms.{some_text, parse_number, mark_of, clock_of, offset_of, zone_of}
use Rattle.question.specs.Layouts.{layout_of}
use Rattle.question.specs.Questions.{question_of, with_items, with_item}
use Rattle.question.specs.Worked.{bare}
use Rattle.question.proofs.worked.worked_questions.Goals as goal

tenth_of_january : days_from_civil (pos 2000) 1 10 *ℤ pos 1440 +ℤ pos 0 ≡ pos 15791040
tenth_of_january = rw (days_from_civil-closed 2000 1 10 (lit≤ tt) (lit≤ tt) (lit≤ tt))

eleventh_of_january : days_from_civil (pos 2000) 1 11 *ℤ pos 1440 +ℤ pos 0 ≡ pos 15792480
eleventh_of_january = rw (days_from_civil-closed 2000 1 11 (lit≤ tt) (lit≤ tt) (lit≤ tt))

zero : days_from_civil (pos 1970) 1 1 *ℤ pos 1440 +ℤ pos 0 ≡ pos 0
zero = rw (days_from_civil-closed 1970 1 1 (lit≤ tt) (lit≤ tt) (lit≤ tt))

before_zero : days_from_civil (pos 1969) 12 31 *ℤ pos 1440 +ℤ pos 1439 ≡ negsuc 0
before_zero = rw (days_from_civil-closed 1969 12 31 (lit≤ tt) (lit≤ tt) (lit≤ tt))

pub returns-clause-predict : goal.returns-clause-predict
unfolding question_of with_items with_item some_text moment_of has_form
returns-clause-predict c = ap₂ (λ (begin end : ℤ). Ok (record (bare command.Predict) {
  file = Some (codes "pier.txt");
  station = Some (codes "Pier");
  begin = Some begin;
  end = Some end;
})) tenth_of_january eleventh_of_january

pub returns-clause-calendar : goal.returns-clause-calendar
unfolding question_of with_items with_item some_text moment_of has_form mark_of read_of decimal_of after_point made_of scaled_or_bad scaled zone_of offset_of clock_of parse_number
returns-clause-calendar c = ap₂ (λ (begin end : ℤ). Ok (record (bare command.Calendar) {
  file = Some (codes "a=b");
  offsets = Some (codes "o");
  station = Some (codes "=");
  begin = Some begin;
  end = Some end;
  mark = Some (negsuc 499999);
  zone = Fixed (negsuc 29);
})) before_zero zero

pub returns-clause-heights_asked : goal.returns-clause-heights_asked
unfolding question_of with_items with_item some_text moment_of has_form parse_number layout_of
returns-clause-heights_asked c = ap (λ (moment : ℤ). Ok (record (bare command.Heights) {
  station = Some (codes "Pier");
  begin = Some moment;
  end = Some moment;
  step = pos 44640;
  layout = Csv;
})) tenth_of_january
