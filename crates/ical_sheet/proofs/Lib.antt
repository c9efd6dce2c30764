mod CalendarLemmas
mod ContentLemmas
mod EscapingLemmas
mod LineLemmas
mod PieceLemmas
mod UnfoldingLemmas
mod WorkedLemmas
mod IdentifierLemmas
