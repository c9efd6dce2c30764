-- A harmonics file of made-up constants: 37 constituents, the years 2000 to 2029 and 200 stations
-- (this project). A part of it appends text, with numbers drawn from a generator.
use Rattle.std.specs.Prelude.{ℕ, ◌+◌, ◌%◌, ◌==◌, nat_le, if◌then◌else◌, List, [], ◌++◌, pos, ◌-ℤ◌, codes, decimal}
use Rattle.decimal_text.specs.Writing.{write_of}
use Rattle.sample_tides.specs.Parts.{Part, append, line, draw, ◌>>=◌, ◌>>◌, each}

-- the name of constituent k, counted from 1: M2, S2, N2, K1, O1, and then `C` with the number
unfoldable pub name_of : ℕ → List ℕ
name_of k =
    if k == 1 then codes "M2"
    else if k == 2 then codes "S2"
    else if k == 3 then codes "N2"
    else if k == 4 then codes "K1"
    else if k == 5 then codes "O1"
    else codes "C" ++ decimal k

-- the least speed of the made-up constituent k, in ten-millionths of a degree an hour: 27 degrees
-- an hour (about two tides a day) if k is even, else 13 (about one)
abbrev pub slowest_of : ℕ → ℕ
slowest_of k = if k % 2 == 0 then 270000000 else 130000000

-- the line of the made-up constituent k: its name, and a speed in degrees an hour, drawn from the
-- least speed to less than 4 degrees an hour above it
unfoldable pub constituent : ℕ → Part
constituent k = do
  more ← draw 40000000
  line (name_of k ++ codes " " ++ write_of (pos (slowest_of k + more)) 7)

-- n / 100 as a decimal with two decimal places
unfoldable pub hundredths : ℕ → List ℕ
hundredths n = write_of (pos n) 2

-- `value least bound places`: a decimal with `places` decimal places, drawn from the numbers
-- `least` to `least + bound - 1` over 10 ^ places
unfoldable pub value : (least bound places : ℕ) → Part
value least bound places = do
  more ← draw bound
  append (write_of (pos (least + more)) places)

-- `values one`: a line with 30 values, one for each year; `one` is the part that appends a value
unfoldable pub values : Part → Part
values one = do
  one
  each 1 29 (λ year. do append (codes " "); one)
  append (codes "\n")

-- `table one`: for each constituent a line with its name and a line with 30 values, and the line
-- `*END*` after them; `one` is the part that appends a value
unfoldable pub table : Part → Part
table one = do
  each 1 37 (λ k. do line (name_of k); values one)
  line (codes "*END*")

-- the line of a station's meridian, local time less universal time: a drawn number of hours from
-- -12 to 12, both included, and the zone UTC
unfoldable pub meridian : Part
meridian = do
  hours ← draw 25
  line (write_of (pos hours -ℤ pos 12) 0 ++ codes ":00 :UTC")

-- the line of a tide station's datum: a drawn mean level from 0.00 to 10.00 feet, both included
unfoldable pub level : Part
level = do
  feet ← draw 1001
  line (hundredths feet ++ codes " feet")

-- the line of the datum of station i, counted from 1: 0 knots if i is a multiple of 5, else a drawn
-- mean level in feet
unfoldable pub datum : ℕ → Part
datum i = if i % 5 == 0 then line (codes "0.00 knots") else level

-- a station's line for constituent k, counted from 1: a drawn amplitude in hundredths of its unit,
-- below 3 for k up to 5 and below 0.3 for the others, and a drawn epoch from 0.00 to 359.99
-- degrees; absent if k is a multiple of 7
unfoldable pub constants : ℕ → Part
constants k =
    if k % 7 == 0 then line (codes "x 0 0")
    else do
      amplitude ← draw (if nat_le k 5 then 300 else 30)
      epoch ← draw 36000
      line (name_of k ++ codes " " ++ hundredths amplitude ++ codes " " ++ hundredths epoch)

-- the lines of station i, counted from 1: its name, its meridian, its datum, and one line for each
-- constituent
unfoldable pub station : ℕ → Part
station i = do
  line (codes "Station " ++ decimal i)
  meridian
  datum i
  each 1 37 constants

-- the first lines: a comment with the seed, the number of constituents, and the five constituents
-- that aren't made up
unfoldable pub heading : ℕ → Part
heading seed = do
  line (codes "# sample tides, seed " ++ decimal seed)
  line (codes "37")
  line (codes "M2 28.9841042")
  line (codes "S2 30.0000000")
  line (codes "N2 28.4397295")
  line (codes "K1 15.0410686")
  line (codes "O1 13.9430356")

-- the whole file: the constituents, the first year, the number of years, the equilibrium arguments,
-- the number of years, the node factors, and the stations
unfoldable pub file : ℕ → Part
file seed = do
  heading seed
  each 6 32 constituent
  line (codes "2000")
  line (codes "30")
  table (value 0 36000 2)
  line (codes "30")
  table (value 8000 4001 4)
  each 1 200 station

-- the bytes of the sample file for a seed, the first state of the generator
unfoldable pub sample_of : ℕ → List ℕ
sample_of seed = (file seed (record { text = []; state = seed })).text
