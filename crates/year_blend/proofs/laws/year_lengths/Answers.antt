use Rattle.year_blend.proofs.YearLemmas.{year_length, year_start_of_low, year_start_of_high}
use Rattle.year_blend.proofs.laws.year_lengths.Goals as goal

pub returns-clause-lengths : goal.returns-clause-lengths
returns-clause-lengths c = λ y reach. year_length y reach.least

pub returns-clause-least : goal.returns-clause-least
returns-clause-least c = λ y reach. year_start_of_low y reach.least

pub returns-clause-most : goal.returns-clause-most
returns-clause-most c = λ y reach. year_start_of_high y reach.least reach.most
