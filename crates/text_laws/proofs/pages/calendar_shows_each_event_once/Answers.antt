use Rattle.text_laws.proofs.PageLemmas.{shown, none-shown}
use Rattle.text_laws.proofs.pages.calendar_shows_each_event_once.Goals as goal

pub returns-clause-shown : goal.returns-clause-shown
returns-clause-shown c = shown

pub returns-clause-no_minute : goal.returns-clause-no_minute
returns-clause-no_minute c = none-shown
