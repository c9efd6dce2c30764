-- Runs with a small file, for examples (this project).
use Rattle.std.specs.Prelude.{ℕ, pos, if◌then◌else◌, List, codes, Some, Result}
use Rattle.std.specs.List.{slice_split}
use Rattle.std.specs.Str.{bytes_eq}
use Rattle.harmonics_text.specs.Worked.{file_of, pier_lines}
use Rattle.named_files.specs.declared.run_fault.RunFault.{RunFault}
use Rattle.question.specs.Worked.{is_space}
use Rattle.report_sheets.specs.Sheets.{SheetSpec}
use Rattle.tide_answer.specs.declared.text.Answer.{Answer}
use Rattle.tide_desk.specs.Answers.{answer_of}
use Rattle.tide_edge.specs.FileStates.{Folder}

-- the answer to the arguments in `words`, separated by spaces, at the minute 0, with files that all have
-- the harmonic constants of an example
abbrev pub pier_answer : List SheetSpec → List ℕ → Result Answer RunFault
pier_answer sheets words = answer_of sheets (λ name. Some (file_of pier_lines)) (pos 0) (slice_split is_space words)

-- the text of a certificate of three minutes at the example's station
abbrev pub pier_certificate : List ℕ
pier_certificate =
    codes "tide certificate 2\nstation Pier\nbegin 2000-01-10T11:58Z\nend 2000-01-10T12:01Z\nmark none\ntrack turn\ns\nt high 999962\ns\ndone\n"

-- a folder in which the file `c` is the certificate `pier_certificate`, and each other file has the
-- harmonic constants of an example
abbrev pub pier_with_certificate : Folder
pier_with_certificate name = Some (if bytes_eq name (codes "c") then pier_certificate else file_of pier_lines)
