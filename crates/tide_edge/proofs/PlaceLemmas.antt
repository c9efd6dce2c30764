-- The index of the first file of a name.
use Rattle.std.proofs.Common.{◌≡◌, ℕ, zero, suc, nat_lt, cond, List, [], ◌∷◌, length, arith, Some, None}
use Rattle.std.proofs.lemmas.Grind.{common_steps}
use Rattle.std.proofs.lemmas.List.Folds.{find_at}
use Rattle.std.specs.List.{position, position_or_len, slice_get}
use Rattle.std.specs.Option.{option_map}
use Rattle.tide_edge.specs.declared.files.named_file.NamedFile.{NamedFile}
use Rattle.std.specs.Str.{bytes_eq}
use Rattle.tide_edge.specs.Memory.{folder_of}
use Rattle.tide_edge.specs.Workings.OpenFile.{bytes_at}

-- the bytes at an index are the bytes of the file with that index
pub bytes_at-slice_get : (files : List NamedFile) (n : ℕ)
    → option_map (λ file. file.bytes) (slice_get files n)
    ≡ option_map (bytes_at files) (cond (nat_lt n (length files)) (Some n) None)
bytes_at-slice_get [] n = grind (arith, common_steps)
bytes_at-slice_get (x ∷ xs) zero = grind (arith, common_steps)
bytes_at-slice_get (x ∷ xs) (suc n) = grind (arith, common_steps, bytes_at-slice_get xs n)

-- the contents found by name are the contents of the file at the index found
pub folder_at_place : (files : List NamedFile) (name : List ℕ)
    → folder_of files name ≡ option_map (bytes_at files) (position (λ file. bytes_eq file.name name) files)
folder_at_place files name =
    rw (find_at (λ (file : NamedFile). bytes_eq file.name name) files)
    (bytes_at-slice_get files (position_or_len (λ (file : NamedFile). bytes_eq file.name name) files))
