use Rattle.slope_agreement.proofs.YearGaps.{agreement_same, book_gap, book_gap_before}
use Rattle.slope_agreement.proofs.laws.predicted_agreements.Goals as goal

pub returns-clause-value : goal.returns-clause-value
returns-clause-value c = agreement_same

pub returns-clause-law : goal.returns-clause-law
returns-clause-law c = book_gap

pub returns-clause-before : goal.returns-clause-before
returns-clause-before c = book_gap_before
