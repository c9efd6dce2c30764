-- The open file of files in memory (this project).
use Rattle.std.specs.Prelude.{◌≡◌, ℕ, List, [], drop, Option, Some, None}
use Rattle.std.specs.List.{slice_get}
use Rattle.std.specs.Option.{option_map_or}
use Rattle.tide_edge.specs.declared.files.named_file.NamedFile.{NamedFile}
use Rattle.tide_edge.specs.FaultSchedule.{HeldCalls}
use Rattle.tide_edge.specs.Memory.{HeldFiles, files_now}

-- The bytes of the file with index `index`, counted from 0; no bytes if there is no such file.
abbrev pub bytes_at : List NamedFile → ℕ → List ℕ
bytes_at files index = option_map_or (λ file. file.bytes) (slice_get files index) []

-- The unread bytes of the open file: the bytes from byte `at` on of the file with this index,
-- counted from 0; no bytes if no file is open (None).
abbrev pub rest_of : List NamedFile → Option ℕ → ℕ → List ℕ
rest_of files None at = []
rest_of files (Some index) at = drop at (bytes_at files index)

-- The open file of the files in memory `contents` has the index `opened`, counted from 0, and its
-- first `at` bytes were read; no file is open if `opened` is None. The calls counted are
-- `fault_schedule`.
pub record IsOpenAs (contents : HeldFiles) (opened : Option ℕ) (at : ℕ) (fault_schedule : HeldCalls) : Type 0 where
  pub unread_bytes : (files_now contents).state.unread_bytes ≡ rest_of contents.files opened at
  pub made : (files_now contents).fault_schedule ≡ fault_schedule
