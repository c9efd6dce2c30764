-- Small books and their stations, with tides that another program computed (this project).
use Rattle.std.specs.Prelude.{[], ◌∷◌, codes, ℤ, pos, negsuc}
use Rattle.harmonics_book.specs.declared.book.Units.{Units}
use Rattle.harmonics_book.specs.declared.book.Units.TheVariants.{Feet}
use Rattle.harmonics_book.specs.declared.book.Station.{Station}
use Rattle.harmonics_book.specs.declared.book.Book.{Book}
use Rattle.station_curve.specs.Waves.{WaveSpec}

-- a book for 1999 to 2001 with one constituent, S2, and node factors of 1. `speed` is the constituent's
-- speed in ten-millionths of a degree an hour; its equilibrium argument, in ten-millionths of a degree,
-- is 0 in 1999, and `argument` in 2000 and 2001
abbrev pub small_book : ℤ → ℤ → Book
small_book speed argument = record {
  constituents = record { name = codes "S2"; speed = speed } ∷ [];
  first_year = pos 1999;
  years = 3;
  angles = pos 0 ∷ argument ∷ argument ∷ [];
  factors = pos 1000000 ∷ pos 1000000 ∷ pos 1000000 ∷ [];
  stations = [];
}

-- a station of `small_book` with one amplitude, `amplitude`, in millionths of the unit `units`; its
-- epoch and mean level are 0, and its meridian is Greenwich
abbrev pub small_station : ℤ → Units → Station
small_station amplitude units = record {
  name = codes "Pier";
  meridian = pos 0;
  zone = codes "UTC";
  datum = pos 0;
  units = units;
  amplitude = amplitude ∷ [];
  epoch = pos 0 ∷ [];
}

-- a wave with an amplitude of one unit (1,000,000 millionths) that turns by half a degree a minute,
-- and has phase 0 one hour before the year begins
abbrev pub small_wave : WaveSpec
small_wave = record { amplitude = pos 1000000; speed = 300000000; phase = 0 }

-- a book for 1999 to 2001 with one constituent: a tide of 12 hours, highest at noon and at midnight,
-- the same in all years
abbrev pub pier_book : Book
pier_book = small_book (pos 300000000) (pos 0)

-- a book for 1999 to 2001 with one constituent: a tide of 12 hours, highest at noon and at midnight in
-- 1999, and 60 degrees (two hours) earlier from 2000 on
abbrev pub shifted_book : Book
shifted_book = small_book (pos 300000000) (pos 600000000)

-- the station of `pier_book` and `shifted_book`: an amplitude of one foot, a mean level of 0, at
-- Greenwich
abbrev pub pier : Station
pier = small_station (pos 1000000) Feet

-- a book for 2000 and 2001 with two constituents, M2 and S2, and their equilibrium arguments and node
-- factors in each year
abbrev pub harbour_book : Book
harbour_book = record {
  constituents = record { name = codes "M2"; speed = pos 289841042 } ∷ record { name = codes "S2"; speed = pos 300000000 } ∷ [];
  first_year = pos 2000;
  years = 2;
  angles = pos 1205000000 ∷ pos 302500000 ∷ pos 0 ∷ negsuc 104999999 ∷ [];
  factors = pos 985000 ∷ pos 1012345 ∷ pos 1000000 ∷ pos 500000 ∷ [];
  stations = [];
}

-- the station of `harbour_book`, five hours west of Greenwich, with a mean level of 2.5 feet:
-- amplitudes of 1.234 feet (M2) and 0.4 feet (S2), epochs of 45 and 300 degrees
abbrev pub harbour : Station
harbour = record {
  name = codes "Harbour";
  meridian = negsuc 299;
  zone = codes "America/New_York";
  datum = pos 2500000;
  units = Feet;
  amplitude = pos 1234000 ∷ pos 400000 ∷ [];
  epoch = pos 450000000 ∷ pos 3000000000 ∷ [];
}
