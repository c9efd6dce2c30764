mod DayLemmas
mod PageLemmas
