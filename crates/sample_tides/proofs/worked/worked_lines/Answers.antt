use Rattle.std.proofs.Common.{lit<, refl}
use Rattle.std.proofs.lemmas.Fmt.{decimal_digit, decimal-digits_of}
use Rattle.decimal_text.specs.Writing.{write_of, last_digits}
use Rattle.sample_tides.specs.Generator.{next, scaled_to}
use Rattle.sample_tides.specs.Parts.{append, moved}
use Rattle.sample_tides.specs.File.{heading, constituent, name_of, value, hundredths, meridian, level, datum, constants}
use Rattle.sample_tides.proofs.worked.worked_lines.Goals as goal

pub returns-clause-first_lines : goal.returns-clause-first_lines
unfolding write_of last_digits next scaled_to append moved heading constituent name_of
returns-clause-first_lines c =
    rw (decimal_digit 0 (lit< tt), decimal_digit 6 (lit< tt), decimal-digits_of 27 (lit< tt) (lit< tt))

pub returns-clause-argument : goal.returns-clause-argument
unfolding write_of last_digits next scaled_to append moved value
returns-clause-argument c = rw (decimal-digits_of 237 (lit< tt) (lit< tt))

pub returns-clause-factor : goal.returns-clause-factor
unfolding write_of last_digits next scaled_to append moved value
returns-clause-factor c = rw (decimal_digit 0 (lit< tt))

pub returns-clause-station : goal.returns-clause-station
unfolding write_of last_digits next scaled_to append moved name_of hundredths meridian level constants
returns-clause-station c =
    rw (decimal_digit 3 (lit< tt), decimal_digit 6 (lit< tt), decimal_digit 2 (lit< tt), decimal-digits_of 29 (lit< tt) (lit< tt))

pub returns-clause-currents : goal.returns-clause-currents
unfolding append datum
returns-clause-currents c = refl

pub returns-clause-absent : goal.returns-clause-absent
unfolding append constants
returns-clause-absent c = refl
