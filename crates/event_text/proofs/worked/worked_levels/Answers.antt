use Rattle.std.proofs.Common.{lit<}
use Rattle.std.proofs.lemmas.Fmt.{decimal_digit, decimal-digits_of}
use Rattle.decimal_text.specs.Rounding.{rounded_of}
use Rattle.decimal_text.specs.Writing.{write_of, last_digits}
use Rattle.event_text.specs.Lines.{padded}
use Rattle.event_text.proofs.worked.worked_levels.Goals as goal

pub returns-clause-half : goal.returns-clause-half
unfolding padded rounded_of write_of last_digits
returns-clause-half c = rw (decimal_digit 0 (lit< tt))

pub returns-clause-below_half : goal.returns-clause-below_half
unfolding padded rounded_of write_of last_digits
returns-clause-below_half c = rw (decimal_digit 0 (lit< tt))

pub returns-clause-negative_half : goal.returns-clause-negative_half
unfolding padded rounded_of write_of last_digits
returns-clause-negative_half c = rw (decimal_digit 0 (lit< tt))

pub returns-clause-no_sign : goal.returns-clause-no_sign
unfolding padded rounded_of write_of last_digits
returns-clause-no_sign c = rw (decimal_digit 0 (lit< tt))

pub returns-clause-half_of_more : goal.returns-clause-half_of_more
unfolding padded rounded_of write_of last_digits
returns-clause-half_of_more c = rw (decimal_digit 2 (lit< tt))

pub returns-clause-padded_left : goal.returns-clause-padded_left
unfolding padded rounded_of write_of last_digits
returns-clause-padded_left c = rw (decimal-digits_of 12 (lit< tt) (lit< tt))
