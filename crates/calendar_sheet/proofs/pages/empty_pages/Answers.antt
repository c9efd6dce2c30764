use Rattle.std.proofs.Common.{rules}
use Rattle.std.proofs.lemmas.List.{map-append}
use Rattle.calendar_sheet.specs.Calendars.{days_from}
use Rattle.calendar_sheet.proofs.DayLemmas.{days_from-more}
use Rattle.calendar_sheet.proofs.pages.empty_pages.Goals as goal

pub loop-index-init : goal.loop-index-init
unfolding days_from
loop-index-init c = search rules

pub loop-index-preserved : goal.loop-index-preserved
loop-index-preserved c = rw (days_from-more c.args.days.first c.loop-index.index, map-append) (search rules)
