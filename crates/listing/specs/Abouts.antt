-- The facts about a station (this project).
use Rattle.std.specs.Prelude.{ℕ, ℤ, List, ◌++◌, codes, decimal}
use Rattle.std.specs.Fmt.{signed_decimal}
use Rattle.event_text.specs.Lines.{text_of_unit}
use Rattle.harmonics_book.specs.declared.book.Units.{Units}

-- two lines: the station's `name`, and the word `reference` with the name of its reference station
abbrev pub names_of : List ℕ → List ℕ → List ℕ
names_of name reference = name ++ codes "\nreference " ++ reference ++ codes "\n"

-- Three lines: the unit, the number of constituents, and `agreement`, a bound on the difference between
-- the station's slope and the changes of its level from one minute to the next. About 1.4257 * 10^35
-- units of `agreement` are one unit of level a minute.
abbrev pub facts_of : Units → ℕ → ℤ → List ℕ
facts_of units constituents agreement =
    codes "units " ++ text_of_unit units
    ++ (codes "\nconstituents " ++ decimal constituents) ++ (codes "\nagreement " ++ signed_decimal agreement ++ codes "\n")

-- the five lines that the command `about` prints about the station `name`: the name, its reference
-- station, the unit, the number of constituents, and `agreement`, a bound on the difference between
-- slope and changes of level
unfoldable pub about_text_of : List ℕ → List ℕ → Units → ℕ → ℤ → List ℕ
about_text_of name reference units constituents agreement = names_of name reference ++ facts_of units constituents agreement
