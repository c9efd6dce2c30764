-- Files in memory are lawful: what was read after each call of `open` agrees with their contents.
use Rattle.std.specs.Prelude.{◌≡◌, ◌<◌, ◌==◌, ◌+◌, ℕ, min, Bool, true, false, if◌then◌else◌, IsTrue, IsSome, IfSome, IfOk, OnOk, OnErr, IsOk, All, List, [], ◌∷◌, ◌++◌, length, take, drop, fold, Option, Some, None, is_none, Result, Ok, Err, is_ok}
use Rattle.std.proofs.Common.{refl, sym, ap, ◌∙◌, append_assoc, take-append-drop, arith}
use Rattle.std.specs.Option.{option_map}
use Rattle.std.proofs.lemmas.Bool.Decides.{Decides-eqb}
use Rattle.std.proofs.lemmas.List.{nil_from_length}
use Rattle.std.proofs.Math.Seq.{drop-nil}
use Rattle.std.proofs.lemmas.List.Elements.{All-append, All-cons, All-nil}
use Rattle.tide_edge.specs.declared.failed.Failed.{Failed}
use Rattle.tide_edge.specs.FaultSchedule.{answer, is_to_fail}
use Rattle.tide_edge.specs.FileStates.{FilesState, Opening, FileContents, IsNoneOpen, begun, files_after_open, files_after_read, just_opened, as_list, opening_after_failure, opening_after_read}
use Rattle.tide_edge.specs.Memory.{FileCall, FilesNow, HeldFiles, Open, Read, after_file_call, before_calls, files_state, folder_of, open_result, read_result}
use Rattle.tide_edge.specs.StoreLaws.{AreOfStore, IsLawful, IsOfStore, IsReadOf}

pub never : {G : Type 0} → false ≡ true → G
never is = cc

-- ---- One call keeps the law

-- What was read after the latest call of `open` agrees with the contents, stated of a list.
pub listed_read : (file_contents : FileContents) (unread_bytes : List ℕ) (latest : Option Opening) → IfSome latest (λ o. IsReadOf file_contents unread_bytes o)
    → All (IsOfStore file_contents) (as_list latest)
listed_read file_contents unread_bytes None is = All-nil (IsOfStore file_contents)
listed_read file_contents unread_bytes (Some o) is = All-cons (IsOfStore file_contents) o [] (unread_bytes, is) (All-nil (IsOfStore file_contents))

-- What was read after a call of `open` agrees with the contents if no byte was read yet.
just_read : (file_contents : FileContents) (name : List ℕ) (result : Result (Unit {0}) Failed) → OnOk result (IsSome (file_contents.folder name))
    → (IsTrue file_contents.is_steady → OnErr result (file_contents.folder name ≡ None))
    → IsReadOf file_contents (begun result (file_contents.folder name)) (just_opened (is_ok result) name)
just_read file_contents name (Ok opened) found absent = record {
  prefix = refl;
  whole = λ some. absurd (omega (arith, some));
  exists = λ _. found;
  absent = λ steady untrue. never (sym untrue);
  steady = λ _. refl;
}
just_read file_contents name (Err failed) found absent = record {
  prefix = refl;
  whole = λ some. absurd (omega (arith, some));
  exists = λ untrue. never untrue;
  absent = λ steady _. absent steady;
  steady = λ _. refl;
}

open_keeps : (s : FilesState) (result : Result (Unit {0}) Failed) (name : List ℕ)
    → OnOk result (IsSome (s.file_contents.folder name))
    → (IsTrue s.file_contents.is_steady → OnErr result (s.file_contents.folder name ≡ None))
    → AreOfStore s → AreOfStore (files_after_open result name s)
open_keeps s result name found absent of = record {
  earlier = All-append (IsOfStore s.file_contents) s.open_log.earlier (as_list s.open_log.latest) of.earlier
      (listed_read s.file_contents s.unread_bytes s.open_log.latest of.latest);
  latest = just_read s.file_contents name result found absent;
  unopened = λ none. absurd cc;
}

ended_by : (count ends : ℕ) (is_zero : Bool) (unread_bytes : List ℕ) → (count == 0) ≡ is_zero → (count ≡ 0 → unread_bytes ≡ [])
    → (0 < ends → unread_bytes ≡ []) → 0 < (if is_zero then ends + 1 else ends) → drop count unread_bytes ≡ []
ended_by count ends true unread_bytes is at_zero ended some = rw (at_zero ((Decides-eqb count 0).0 is)) (drop-nil count)
ended_by count ends false unread_bytes is at_zero ended some = rw (ended some) (drop-nil count)

read_on : (file_contents : FileContents) (unread_bytes : List ℕ) (count : ℕ) (o : Opening) → (count ≡ 0 → unread_bytes ≡ []) → IsReadOf file_contents unread_bytes o
    → IsReadOf file_contents (drop count unread_bytes) (opening_after_read count unread_bytes o)
read_on file_contents unread_bytes count o at_zero is = record {
  prefix = is.prefix ∙ ap (λ l. o.bytes ++ l) (sym (take-append-drop count unread_bytes))
      ∙ sym (append_assoc o.bytes (take count unread_bytes) (drop count unread_bytes));
  whole = ended_by count o.ends (count == 0) unread_bytes refl at_zero is.whole;
  exists = is.exists;
  absent = is.absent;
  steady = is.steady;
}

-- what holds of the latest opening, after a change of it
latest_on : (change : Opening → Opening) (P Q : Opening → Type 0) (latest : Option Opening) → ((o : Opening) → P o → Q (change o))
    → IfSome latest P → IfSome (option_map change latest) Q
latest_on change P Q None on is = tt
latest_on change P Q (Some o) on is = on o is

unmapped : (change : Opening → Opening) (latest : Option Opening) → option_map change latest ≡ None → latest ≡ None
unmapped change None none = refl
unmapped change (Some o) none = absurd cc

read_keeps : (s : FilesState) (result : Result ℕ Failed) → IfOk result (λ count. count ≡ 0 → s.unread_bytes ≡ []) → (IsTrue s.file_contents.is_steady → IsOk result)
    → AreOfStore s → AreOfStore (files_after_read result s.unread_bytes s)
read_keeps s (Ok count) end reads of = record {
  earlier = of.earlier;
  latest = latest_on (opening_after_read count s.unread_bytes) (IsReadOf s.file_contents s.unread_bytes)
      (IsReadOf s.file_contents (drop count s.unread_bytes)) s.open_log.latest (λ o. read_on s.file_contents s.unread_bytes count o end) of.latest;
  unopened = λ none. let before = of.unopened (unmapped (opening_after_read count s.unread_bytes) s.open_log.latest none) in
      (rw before.0 (drop-nil count), before.1);
}
read_keeps s (Err failed) end reads of = record {
  earlier = of.earlier;
  latest = latest_on opening_after_failure (IsReadOf s.file_contents s.unread_bytes) (IsReadOf s.file_contents s.unread_bytes) s.open_log.latest
      (λ o is. record { prefix = is.prefix; whole = is.whole; exists = is.exists; absent = is.absent; steady = λ steady. never (reads steady) }) of.latest;
  unopened = λ none. ((of.unopened (unmapped opening_after_failure s.open_log.latest none)).0, λ steady. never (reads steady));
}

nothing_left : (bytes left : List ℕ) → [] ≡ bytes ++ left → left ≡ []
nothing_left [] left is = sym is
nothing_left (byte ∷ bytes) left is = absurd cc

none_unread : (file_contents : FileContents) (unread_bytes : List ℕ) (latest : Option Opening) → (latest ≡ None → unread_bytes ≡ [])
    → IfSome latest (λ o. IsReadOf file_contents unread_bytes o) → IfSome latest (λ o. o.is_open ≡ false) → unread_bytes ≡ []
none_unread file_contents unread_bytes None unopened is none = unopened refl
none_unread file_contents unread_bytes (Some o) unopened is none = nothing_left o.bytes unread_bytes (rw none at is.prefix)

-- no byte is unread if no file is open
pub none_left : (s : FilesState) → AreOfStore s → IsNoneOpen s.open_log → s.unread_bytes ≡ []
none_left s of none = none_unread s.file_contents s.unread_bytes s.open_log.latest (λ is. (of.unopened is).0) of.latest none

-- ---- The results of calls on files in memory

-- If the files are steady (opening and reading an existing file never fails), no call is to fail.
abbrev IsSafe : FilesNow → Type 0
IsSafe now = IsTrue now.state.file_contents.is_steady → now.fault_schedule.fails ≡ []

safe_call : (now : FilesNow) → IsSafe now → IsTrue now.state.file_contents.is_steady → is_to_fail now.fault_schedule ≡ false
safe_call now safe steady = rw (safe steady) refl

-- a file that is opened exists
found_by : (failed : Bool) (file : Option (List ℕ))
    → OnOk (answer {T = Unit {0}} (is_none (if failed then None else file)) record {}) (IsSome file)
found_by true file = tt
found_by false None = tt
found_by false (Some bytes) = refl

-- a file that couldn't be opened doesn't exist, if the call wasn't to fail
absent_by : (failed : Bool) (file : Option (List ℕ)) → failed ≡ false
    → OnErr (answer {T = Unit {0}} (is_none (if failed then None else file)) record {}) (file ≡ None)
absent_by true file is = never (sym is)
absent_by false None is = refl
absent_by false (Some bytes) is = tt

min_none : (more : ℕ) (unread_bytes : List ℕ) → min (more + 1) (length unread_bytes) ≡ 0 → unread_bytes ≡ []
min_none more [] is = refl
min_none more (byte ∷ unread_bytes) is = absurd (omega (arith, is))

end_by : (failed : Bool) (more : ℕ) (unread_bytes : List ℕ)
    → IfOk (answer failed (min (more + 1) (length unread_bytes))) (λ count. count ≡ 0 → unread_bytes ≡ [])
end_by true more unread_bytes = tt
end_by false more unread_bytes = min_none more unread_bytes

reads_by : (failed : Bool) (count : ℕ) → failed ≡ false → IsOk (answer failed count)
reads_by true count is = never (sym is)
reads_by false count is = refl

-- ---- All calls

call_store : (result : Result ℕ Failed) (buffer : List ℕ) (s : FilesState) → (files_after_read result buffer s).file_contents ≡ s.file_contents
call_store (Ok count) buffer s = refl
call_store (Err failed) buffer s = refl

-- No call on files in memory changes their contents.
pub kept_store : (now : FilesNow) (calls : List FileCall) → (fold after_file_call now calls).state.file_contents ≡ now.state.file_contents
kept_store now [] = refl
kept_store now (Open name ∷ more) = kept_store (after_file_call now (Open name)) more
kept_store now (Read n ∷ more) =
    kept_store (after_file_call now (Read n)) more ∙ call_store (read_result now (n + 1)) now.state.unread_bytes now.state

-- The part of the state of files in memory that no call changes: contracts know the contents
-- (`is_observable`), and the files are steady (calls on existing files never fail) if no call is to
-- fail.
pub memory_store : (contents : HeldFiles)
    → (files_state contents).file_contents ≡ record { is_observable = true; folder = folder_of contents.files; is_steady = length contents.fails == 0 }
memory_store contents = kept_store (before_calls contents) contents.history

lawful_from : (now : FilesNow) (calls : List FileCall) → IsSafe now
    → AreOfStore now.state → AreOfStore (fold after_file_call now calls).state
lawful_from now [] safe of = of
lawful_from now (Open name ∷ more) safe of =
    lawful_from (after_file_call now (Open name)) more safe
    (open_keeps now.state (open_result now name) name
    (found_by (is_to_fail now.fault_schedule) (now.state.file_contents.folder name))
    (λ steady. absent_by (is_to_fail now.fault_schedule) (now.state.file_contents.folder name) (safe_call now safe steady)) of)
lawful_from now (Read n ∷ more) safe of =
    let same = call_store (read_result now (n + 1)) now.state.unread_bytes now.state in
    lawful_from (after_file_call now (Read n)) more (λ steady. safe (rw same at steady))
    (read_keeps now.state (read_result now (n + 1)) (end_by (is_to_fail now.fault_schedule) n now.state.unread_bytes)
    (λ steady. reads_by (is_to_fail now.fault_schedule) (min (n + 1) (length now.state.unread_bytes)) (safe_call now safe steady)) of)

pub memory_of : (contents : HeldFiles) → AreOfStore (files_state contents)
memory_of contents =
    lawful_from (before_calls contents) contents.history (λ steady. nil_from_length contents.fails ((Decides-eqb (length contents.fails) 0).0 steady))
    (record { earlier = All-nil (IsOfStore (before_calls contents).state.file_contents); latest = tt; unopened = λ _. (refl, λ _. refl) })

pub memory_lawful : (contents : HeldFiles) → IsLawful (files_state contents)
memory_lawful contents observable = memory_of contents
