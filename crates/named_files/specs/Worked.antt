-- The files of examples (this project).
use Rattle.std.specs.Prelude.{Some, None}
use Rattle.harmonics_text.specs.Worked.{file_of, pier_lines}
use Rattle.tide_fault.specs.declared.slot.Slot.TheVariants.{File, Offsets, Zone, Certificate}
use Rattle.named_files.specs.Readings.{Folders}

-- folders in which the harmonics file, under any name, has the harmonic constants of an example, and in
-- which there are no other files
abbrev pub pier_alone : Folders
pier_alone File name = Some (file_of pier_lines)
pier_alone Offsets name = None
pier_alone Zone name = None
pier_alone Certificate name = None
