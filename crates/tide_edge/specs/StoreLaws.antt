-- If files are observable (the state has their contents), the bytes read after each call of `open`
-- are bytes of the file that it opened (this project).
use Rattle.std.specs.Prelude.{◌≡◌, ◌<◌, ℕ, false, if◌then◌else◌, IsTrue, IsSome, IfSome, All, List, [], ◌++◌, None, unwrap_or}
use Rattle.tide_edge.specs.FileStates.{Folder, FilesState, Opening, FileContents}

-- The contents of the file that the call `o` of `open` opened; no bytes if it opened no file.
abbrev pub content_of : Folder → Opening → List ℕ
content_of folder o = if o.is_open then unwrap_or (folder o.name) [] else []

-- What was read after the call `o` of `open` agrees with the contents of the files: the file's
-- contents are the bytes read and then `left`, which is empty if the end was found; the file that
-- was opened exists. If the files are steady (opening and reading an existing file never fails), a
-- file that wasn't opened doesn't exist, and no read has failed.
pub record IsReadOf (file_contents : FileContents) (left : List ℕ) (o : Opening) : Type 0 where
  pub prefix : content_of file_contents.folder o ≡ o.bytes ++ left
  pub whole : 0 < o.ends → left ≡ []
  pub exists : IsTrue o.is_open → IsSome (file_contents.folder o.name)
  pub absent : IsTrue file_contents.is_steady → o.is_open ≡ false → file_contents.folder o.name ≡ None
  pub steady : IsTrue file_contents.is_steady → o.read_failed ≡ false

-- What was read after the call `o` of `open` agrees with the contents of the files: the bytes read
-- are a prefix of the file's bytes, and all of them if the end was found (`IsReadOf`).
abbrev pub IsOfStore : FileContents → Opening → Type 0
IsOfStore file_contents o = (left : List ℕ) × IsReadOf file_contents left o

-- What was read after each call of `open` agrees with the contents of the files (`IsReadOf`), and
-- the unread bytes of the state are the other bytes of the file that was opened last. Before the
-- first call of `open` no byte is unread and, if the files are steady (calls on existing files never
-- fail), no call has failed.
pub record AreOfStore (s : FilesState) : Type 0 where
  pub earlier : All (IsOfStore s.file_contents) s.open_log.earlier
  pub latest : IfSome s.open_log.latest (λ o. IsReadOf s.file_contents s.unread_bytes o)
  pub unopened : s.open_log.latest ≡ None → (s.unread_bytes ≡ []) × (IsTrue s.file_contents.is_steady → s.faults ≡ 0)

-- The law of files: if they are observable (the state has their contents), what was read after each
-- call of `open` agrees with these contents (`AreOfStore`).
abbrev pub IsLawful : FilesState → Type 0
IsLawful s = IsTrue s.file_contents.is_observable → AreOfStore s
