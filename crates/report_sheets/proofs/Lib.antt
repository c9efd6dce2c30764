mod WordLemmas
mod PageLemmas
mod RangeLemmas
mod TallyLemmas
