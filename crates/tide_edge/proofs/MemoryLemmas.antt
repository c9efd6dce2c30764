-- Files in memory: the open file after each call.
use Rattle.std.proofs.Common.{◌≡◌, ◌∙◌, ap, sym, ℕ, ◌+◌, Bool, true, false, if◌then◌else◌, List, [], ◌∷◌, ◌++◌, length, drop, min, Option, Some, None, Result, Ok, is_err, refl, subst}
use Rattle.std.specs.Prelude.{is_none, unwrap_or}
use Rattle.std.specs.Option.{option_map}
use Rattle.std.proofs.lemmas.List.{drop-drop}
use Rattle.std.proofs.lemmas.List.Sums.{fold-append}
use Rattle.std.proofs.Math.Seq.{drop-nil}
use Rattle.tide_edge.specs.declared.failed.Failed.{Failed}
use Rattle.tide_edge.specs.declared.files.named_file.NamedFile.{NamedFile}
use Rattle.tide_edge.specs.FaultSchedule.{HeldCalls, after_call, answer, is_to_fail}
use Rattle.tide_edge.specs.Faults.{counted}
use Rattle.tide_edge.specs.FileStates.{FileContents, begun, files_after_open}
use Rattle.tide_edge.specs.Memory.{FileCall, FilesNow, HeldFiles, Open, Read, after_file_call, before_calls, files_now, files_state, folder_of, found, open_result}
use Rattle.tide_edge.specs.Workings.MemoryLaws.{memory_store}
use Rattle.tide_edge.specs.Workings.OpenFile.{IsOpenAs, bytes_at, rest_of}

-- the last call
pub one_more : (contents : HeldFiles) (call : FileCall)
    → files_now (record contents { history = contents.history ++ call ∷ [] }) ≡ after_file_call (files_now contents) call
one_more contents call = fold-append after_file_call (before_calls contents) contents.history (call ∷ [])

succeeds_by : (failed : Bool) → Ok record {} ≡ answer {T = Unit {0}} failed record {} → failed ≡ false
succeeds_by true is = absurd cc
succeeds_by false is = refl

-- the same calls
moved : (files : List NamedFile) (history : List FileCall) (opened : Option ℕ) (at : ℕ) (known new : HeldCalls) → new ≡ known
    → IsOpenAs (record { files = files; fails = known.fails; history = history }) opened at known
    → IsOpenAs (record { files = files; fails = new.fails; history = history }) opened at new
moved files history opened at known new same open_as =
    subst (λ (k : HeldCalls). IsOpenAs (record { files = files; fails = k.fails; history = history }) opened at k) (sym same) open_as

-- ---- `open`

-- what the next `open` finds
found_by : (now : FilesNow) (file_contents : FileContents) (fault_schedule : HeldCalls) (name : List ℕ) → now.state.file_contents ≡ file_contents → now.fault_schedule ≡ fault_schedule
    → found now name ≡ (if is_to_fail fault_schedule then None else file_contents.folder name)
found_by now file_contents fault_schedule name is made = rw (is, made) refl

begun_by : (failed : Bool) (file found : Option (List ℕ)) → found ≡ (if failed then None else file)
    → begun (answer {T = Unit {0}} (is_none found) record {}) file ≡ unwrap_or found []
begun_by true file found is = rw is refl
begun_by false None found is = rw is refl
begun_by false (Some bytes) found is = rw is refl

rest_by : (now : FilesNow) (file_contents : FileContents) (fault_schedule : HeldCalls) (name : List ℕ) (file : Option (List ℕ))
    → now.state.file_contents ≡ file_contents → now.fault_schedule ≡ fault_schedule
    → file ≡ (if is_to_fail fault_schedule then None else file_contents.folder name)
    → (after_file_call now (Open name)).state.unread_bytes ≡ unwrap_or file []
rest_by now file_contents fault_schedule name file is made found =
    rw (is, made, ← found) (begun_by (is_to_fail fault_schedule) (file_contents.folder name) file found)

failed_by : (none : Bool) (fault_schedule : HeldCalls) → after_call (is_err (answer {T = Unit {0}} none record {})) fault_schedule ≡ after_call none fault_schedule
failed_by true fault_schedule = refl
failed_by false fault_schedule = refl

begins : (files : List NamedFile) (index : Option ℕ) → unwrap_or (option_map (bytes_at files) index) [] ≡ rest_of files index 0
begins files None = refl
begins files (Some index) = refl

none_mapped : (files : List NamedFile) (index : Option ℕ) → is_none (option_map (bytes_at files) index) ≡ is_none index
none_mapped files None = refl
none_mapped files (Some index) = refl

module _ (files : List NamedFile) (history later : List FileCall) (opened : Option ℕ) (at : ℕ) (fault_schedule new : HeldCalls) (name : List ℕ)
    (was : IsOpenAs (record { files = files; fails = fault_schedule.fails; history = history }) opened at fault_schedule)
    (is : later ≡ history ++ Open name ∷ []) (index : Option ℕ)
    (finds : option_map (bytes_at files) index ≡ (if is_to_fail fault_schedule then None else folder_of files name))
    (called : new ≡ after_call (is_none index) fault_schedule) where
  abbrev contents : HeldFiles
  contents = record { files = files; fails = fault_schedule.fails; history = history }

  -- the call fails if no file is found
  pub next_result : open_result (files_now contents) name ≡ answer (is_none index) record {}
  next_result =
      ap (λ file. answer (is_none file) record {})
      (found_by (files_now contents) (before_calls contents).state.file_contents fault_schedule name (memory_store contents) was.made ∙ sym finds)
      ∙ ap (λ none. answer none record {}) (none_mapped files index)

  -- the file that is found is open
  pub next_open : IsOpenAs (record { files = files; fails = new.fails; history = later }) index 0 new
  next_open =
      let next : files_now (record { files = files; fails = fault_schedule.fails; history = later }) ≡ after_file_call (files_now contents) (Open name) =
      ap (λ h. files_now (record { files = files; fails = fault_schedule.fails; history = h })) is ∙ one_more contents (Open name) in
      moved files later index 0 (after_call (is_none index) fault_schedule) new called (record {
        unread_bytes = ap (λ now. now.state.unread_bytes) next
            ∙ rest_by (files_now contents) (before_calls contents).state.file_contents fault_schedule name (option_map (bytes_at files) index)
            (memory_store contents) was.made finds
            ∙ begins files index;
        made = ap (λ now. now.fault_schedule) next ∙ rw (next_result, was.made) (failed_by (is_none index) fault_schedule);
      })

-- the state is the one that the trait says
pub open_after : (contents : HeldFiles) (name : List ℕ) (result : Result (Unit {0}) Failed) → result ≡ open_result (files_now contents) name
    → files_state (record contents { history = contents.history ++ Open name ∷ [] }) ≡ files_after_open result name (files_state contents)
open_after contents name result is = rw is (ap (λ now. now.state) (one_more contents (Open name)))

-- ---- `read`

on_by : (now : FilesNow) (fault_schedule : HeldCalls) (more : ℕ) (unread_bytes : List ℕ) → now.fault_schedule ≡ fault_schedule → is_to_fail fault_schedule ≡ false → now.state.unread_bytes ≡ unread_bytes
    → (after_file_call now (Read more)).state.unread_bytes ≡ drop (min (more + 1) (length unread_bytes)) unread_bytes
on_by now fault_schedule more unread_bytes made to_fail left = rw (made, to_fail, left) refl

-- the unread bytes of the open file, some bytes further on
further : (files : List NamedFile) (opened : Option ℕ) (at count : ℕ)
    → drop count (rest_of files opened at) ≡ rest_of files opened (at + count)
further files None at count = drop-nil count
further files (Some index) at count = drop-drop count at (bytes_at files index)

module _ (files : List NamedFile) (history later : List FileCall) (opened : Option ℕ) (at : ℕ) (fault_schedule : HeldCalls) (more : ℕ)
    (was : IsOpenAs (record { files = files; fails = fault_schedule.fails; history = history }) opened at fault_schedule)
    (is : later ≡ history ++ Read more ∷ []) where
  abbrev held_before : HeldFiles
  held_before = record { files = files; fails = fault_schedule.fails; history = history }

  abbrev held_after : HeldCalls → HeldFiles
  held_after new = record { files = files; fails = new.fails; history = later }

  pub read_on : (new : HeldCalls) (count buffer : ℕ) (unread_bytes : List ℕ) → new ≡ after_call (is_to_fail fault_schedule) fault_schedule
      → Ok record {} ≡ answer {T = Unit {0}} (is_to_fail fault_schedule) record {}
      → count ≡ min buffer (length unread_bytes) → unread_bytes ≡ rest_of files opened at → more + 1 ≡ buffer
      → IsOpenAs (held_after new) opened (at + count) new
  read_on new count buffer unread_bytes called answered counted left long =
      let to_fail = succeeds_by (is_to_fail fault_schedule) answered in
      let next : files_now (held_after fault_schedule) ≡ after_file_call (files_now held_before) (Read more) =
      ap (λ h. files_now (record { files = files; fails = fault_schedule.fails; history = h })) is ∙ one_more held_before (Read more) in
      let few : count ≡ min (more + 1) (length (rest_of files opened at)) = rw (← left, long) counted in
      let found : IsOpenAs (held_after (after_call false fault_schedule)) opened (at + count) (after_call false fault_schedule) = record {
        unread_bytes = ap (λ now. now.state.unread_bytes) next
            ∙ on_by (files_now held_before) fault_schedule more (rest_of files opened at) was.made to_fail was.unread_bytes
            ∙ ap (λ n. drop n (rest_of files opened at)) (sym few)
            ∙ further files opened at count;
        made = ap (λ now. now.fault_schedule) next ∙ rw (was.made, to_fail) refl;
      } in
      moved files later opened (at + count) (after_call false fault_schedule) new (called ∙ ap (λ failed. after_call failed fault_schedule) to_fail) found
