-- The node factors of a constituent, one for each year.
use Rattle.std.specs.Prelude.{ℕ, ◌*◌, List, ℤ, take, drop}
use Rattle.harmonics_book.specs.declared.book.Book.{Book}

-- the node factors, in millionths, of the constituent with index k, one for each year of the book
abbrev pub factors_of : Book → ℕ → List ℤ
factors_of b k = take b.years (drop (k * b.years) b.factors)
