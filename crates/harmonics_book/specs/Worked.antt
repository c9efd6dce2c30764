-- An example of a book, which other examples use: one constituent, three years and one station
-- (this project).
use Rattle.std.specs.Prelude.{pos, [], ◌∷◌, codes}
use Rattle.harmonics_book.specs.declared.book.Book.{Book}
use Rattle.harmonics_book.specs.declared.book.Units.TheVariants.{Feet}

-- an example of a book, for the years 1999 to 2001: the one constituent S2, with a period of 12
-- hours (30 degrees an hour), equilibrium arguments of 0 and node factors of 1, and the one station
-- Pier, where it has an amplitude of 1 foot and an epoch of 0; the datum is 0
abbrev pub pier_book : Book
pier_book = record {
  constituents = record { name = codes "S2"; speed = pos 300000000 } ∷ [];
  first_year = pos 1999;
  years = 3;
  angles = pos 0 ∷ pos 0 ∷ pos 0 ∷ [];
  factors = pos 1000000 ∷ pos 1000000 ∷ pos 1000000 ∷ [];
  stations = record {
    name = codes "Pier";
    meridian = pos 0;
    zone = codes "UTC";
    datum = pos 0;
    units = Feet;
    amplitude = pos 1000000 ∷ [];
    epoch = pos 0 ∷ [];
  } ∷ [];
}
