-- The effect of opening a file and reading it to its end.
use Rattle.std.proofs.Common.{◌≡◌, ℕ, ◌+◌, ◌-◌, ◌≤◌, ◌<◌, ◌↔◌, suc, length, take, ◌++◌, ◌∷◌, Bool, false, true, if◌then◌else◌, IsTrue, List, [], Option, Some, None, Result, Ok, Err, IsErrAnd, inl, inr, append-nil, append_assoc, arith, refl, sym, ap, subst, ◌∙◌}
use Rattle.std.specs.Prelude.{◌==◌, ◌&&◌, ◌||◌, not, nat_lt, unwrap_or, All, IfSome, IsSome}
use Rattle.std.specs.Option.{option_map_or}
use Rattle.std.proofs.lemmas.List.{length-append, length-take-le}
use Rattle.std.proofs.lemmas.List.Sums.{sum_by-append}
use Rattle.std.proofs.lemmas.Bool.{lt-leb, le-leb}
use Rattle.std.proofs.lemmas.List.Elements.{All-append}
use Rattle.tide_edge.specs.declared.failed.Failed.{Failed}
use Rattle.tide_edge.specs.declared.files.piece.TheConstants.{PIECE}
use Rattle.tide_edge.specs.declared.files.read_all_fault.ReadAllFault.{ReadAllFault}
use Rattle.tide_edge.specs.declared.files.read_all_fault.ReadAllFault.TheVariants.{Failed as ReadFailed, TooLong, NoMemory}
use Rattle.decimal_text.specs.Expected.{Source, Meets, is_outside_fault}
use Rattle.tide_edge.specs.Faults.{faults_after}
use Rattle.tide_edge.specs.FileStates.{FilesState, Opening, Openings, FileContents, files_after_open, files_after_read, just_opened, as_list, opening_after_failure, opening_after_read, openings_of}
use Rattle.tide_edge.specs.StoreLaws.{AreOfStore, IsLawful, IsOfStore, IsReadOf}
use Rattle.tide_edge.specs.Whole.{Allowance, HasPassed, IsOutOfMemory, OpenedOnce, ReadWithin, Shows, both, one_file, source_of, whole}
use Rattle.tide_edge.specs.Workings.MemoryLaws.{listed_read, never}
use Rattle.tide_edge.specs.Workings.Reading.{HasCome, IsSoFar, all_taken, still_open}

-- ---- The contents that agree with what was read

-- too much was read
long_whole : (limit : ℕ) (bytes left : List ℕ) (file : Option (List ℕ)) → limit < length bytes → file ≡ Some (bytes ++ left)
    → whole limit file ≡ Err TooLong
long_whole limit bytes left file over is =
    rw (is, lt-leb (length (bytes ++ left)) limit (rw (length-append bytes left) (omega (arith, over)))) refl

-- the end was found
ended_whole : (limit : ℕ) (bytes left : List ℕ) (file : Option (List ℕ)) → length bytes ≤ limit → file ≡ Some (bytes ++ left)
    → left ≡ [] → whole limit file ≡ Ok bytes
ended_whole limit bytes left file within is none =
    rw (is, none, append-nil bytes, le-leb (length bytes) limit within) refl

or_true : (b c : Bool) → c ≡ true → (b || c) ≡ true
or_true true c is = refl
or_true false c is = is

-- ---- Reading on

ends_few : (is_zero : Bool) → (if is_zero then 0 + 1 else 0) ≤ 1
ends_few true = omega arith
ends_few false = omega arith

longer : (count : ℕ) (bytes buffer : List ℕ) → count ≤ length buffer → length (bytes ++ take count buffer) ≡ length bytes + count
longer count bytes buffer within = rw (length-append bytes (take count buffer), length-take-le count buffer within) refl

-- these bytes of a file were read so far, and then there was one more `read`
module _ (limit : ℕ) (bytes : List ℕ) (before now after : FilesState) (so_far : IsSoFar before now bytes)
    (within : length bytes ≤ limit) where
  -- the file after it
  came : (opening : Opening) (file_contents : after.file_contents ≡ now.file_contents) (accepted : List ℕ) (result : Result (Unit {0}) ReadAllFault)
      → opening.name ≡ so_far.name → after.open_log ≡ record now.open_log { latest = Some opening }
      → after.faults ≡ faults_after (is_outside_fault source_of result) now.faults → opening.ends ≤ 1
      → length opening.bytes ≤ limit + PIECE → (result ≡ Err TooLong) ↔ (limit < length opening.bytes)
      → ((firm : Bool) (file : Option (List ℕ)) → Shows limit firm opening file
      → Meets source_of (IsTrue firm) (whole limit file) (all_taken accepted result))
      → HasCome limit before after accepted result
  came opening file_contents accepted result named open_log faults ends few too_long answer = record {
    opening = opening;
    fresh = rw named so_far.fresh;
    open_log = rw so_far.open_log at open_log;
    ends = ends;
    bytes = few;
    file_contents = file_contents ∙ so_far.file_contents;
    faults = faults ∙ ap (faults_after (is_outside_fault source_of result)) so_far.faults;
    too_long = too_long;
    answer = answer;
  }

  module _ (count : ℕ) (buffer : List ℕ) (is : after ≡ files_after_read (Ok count) buffer now) where
    -- the file after a piece was read
    abbrev last : Opening
    last = opening_after_read count buffer (still_open so_far.name bytes)

    came_on : (accepted : List ℕ) (result : Result (Unit {0}) ReadAllFault) → is_outside_fault source_of result ≡ false
        → length last.bytes ≤ limit + PIECE → (result ≡ Err TooLong) ↔ (limit < length last.bytes)
        → ((firm : Bool) (file : Option (List ℕ)) → Shows limit firm last file
        → Meets source_of (IsTrue firm) (whole limit file) (all_taken accepted result))
        → HasCome limit before after accepted result
    came_on accepted result unfailed few too_long answer =
        came last (ap (λ s. s.file_contents) is) accepted result refl (rw (is, so_far.open_log) refl) (rw (is, unfailed) refl) (ends_few (count == 0)) few
        too_long answer

    -- the end was found
    pub come_whole : count ≡ 0 → HasCome limit before after bytes (Ok record {})
    come_whole none =
        let all : last.bytes ≡ bytes = rw none (append-nil bytes) in
        came_on bytes (Ok record {}) refl (rw all (omega (arith, within)))
        (λ e. absurd cc, λ over. let long = rw all at over in absurd (omega (arith, long, within)))
        (λ firm file shows. let parts = shows.read (rw none refl) in
        ended_whole limit bytes parts.0 file within (rw all at parts.1) (parts.2 (rw none (omega arith))))

    -- more than the limit was read
    pub come_long : length buffer ≡ PIECE → count ≤ length buffer → limit - length bytes < count → HasCome limit before after bytes (Err TooLong)
    come_long piece few over =
        let all = longer count bytes buffer few in
        let long : limit < length last.bytes = rw all (omega (arith, over)) in
        came_on bytes (Err TooLong) refl (rw all (omega (arith, within, piece, few))) (λ e. long, λ l. refl)
        (λ firm file shows. let parts = shows.read (or_true (nat_lt 0 last.ends) (nat_lt limit (length last.bytes)) (le-leb (suc limit) (length last.bytes) long)) in
        long_whole limit last.bytes parts.0 file long parts.1)

    -- memory ran out
    pub come_full : (accepted : List ℕ) (result : Result (Unit {0}) ReadAllFault) → count ≤ length buffer → count ≤ limit - length bytes
        → IsErrAnd result (λ it. it ≡ NoMemory) → HasCome limit before after accepted result
    come_full accepted (Ok done) few under fault = absurd fault
    come_full accepted (Err it) few under fault =
        let short : length last.bytes ≤ limit = rw (longer count bytes buffer few) (omega (arith, within, under)) in
        rw fault
        (came_on accepted (Err NoMemory) refl (omega (arith, short)) (λ e. absurd cc, λ over. absurd (omega (arith, over, short)))
        (λ firm file shows. tt))

  -- a read failed
  pub come_failed : (buffer : List ℕ) (failed : Failed) (result : Result (Unit {0}) ReadAllFault)
      → after ≡ files_after_read (Err failed) buffer now → IsErrAnd result (λ it. it ≡ ReadFailed)
      → HasCome limit before after bytes result
  come_failed buffer failed (Ok done) is fault = absurd fault
  come_failed buffer failed (Err it) is fault =
      rw fault
      (came (opening_after_failure (still_open so_far.name bytes)) (ap (λ s. s.file_contents) is) bytes (Err ReadFailed) refl
      (rw (is, so_far.open_log) refl) (ap (λ s. s.faults) is) (omega arith) (omega (arith, within))
      (λ e. absurd cc, λ over. absurd (omega (arith, over, within)))
      (λ firm file shows f. rw (shows.absent f (lt-leb (suc limit) (length bytes) (omega (arith, within))) refl) refl))

-- ---- Opening and reading

module _ (opened : Unit {0}) (limit : ℕ) (name accepted : List ℕ) (s after : FilesState) (result : Result (Unit {0}) ReadAllFault)
    (come : HasCome limit (files_after_open (Ok opened) name s) after accepted result) where
  latest_is : after.open_log ≡ record { earlier = openings_of s.open_log; latest = Some come.opening }
  latest_is = come.open_log

  pub opened_once : OpenedOnce source_of (whole limit) limit name s.open_log after.open_log (all_taken accepted result)
  opened_once =
      let same : Some (just_opened true name) ≡ Some (just_opened true come.opening.name) = come.fresh in
      let named : come.opening.name ≡ name = sym (ap (λ latest. option_map_or (λ it. it.name) latest []) same) in
      inr (come.opening, named, latest_is, come.answer)

  pub opened_within : ReadWithin (one_file limit) (is_outside_fault source_of result) s after
  opened_within = record {
    open_log = come.opening ∷ [];
    all = ap openings_of latest_is;
    opens = omega arith;
    ends = omega (arith, come.ends);
    bytes = omega (arith, come.bytes);
    file_contents = come.file_contents;
    faults = come.faults;
  }

  pub opened_long : (result ≡ Err TooLong) ↔ HasPassed limit s.open_log after.open_log
  opened_long = (
    λ e. (come.opening, latest_is, come.too_long.0 e),
    λ has.
        let same : Some has.0 ≡ Some come.opening = ap (λ o. o.latest) (sym has.1 ∙ latest_is) in
        let one : has.0 ≡ come.opening = cc in
        come.too_long.1 (subst (λ (o : Opening). limit < length o.bytes) one has.2),
  )

-- the file couldn't be opened
module _ (failed : Failed) (limit : ℕ) (name : List ℕ) (s : FilesState) where
  abbrev unopened : FilesState
  unopened = files_after_open {T = Unit {0}} (Err failed) name s

  pub unopened_once : OpenedOnce source_of (whole limit) limit name s.open_log unopened.open_log (Err ReadFailed)
  unopened_once = inr (just_opened false name, refl, refl, λ firm file shows f. rw (shows.absent f refl refl) refl)

  pub unopened_within : ReadWithin (one_file limit) true s unopened
  unopened_within = record {
    open_log = just_opened false name ∷ [];
    all = refl;
    opens = omega arith;
    ends = omega arith;
    bytes = omega arith;
    file_contents = refl;
    faults = refl;
  }

  pub unopened_short : HasPassed limit s.open_log unopened.open_log → ⊥
  unopened_short has =
      let same : Some (just_opened false name) ≡ Some has.0 = ap (λ o. o.latest) has.1 in
      let one : just_opened false name ≡ has.0 = cc in
      let over : limit < length {A = ℕ} [] = subst (λ (o : Opening). limit < length o.bytes) (sym one) has.2 in
      omega (arith, over)

-- If `result` meets the expected result for one call of `open` (`OpenedOnce`), so does `other`,
-- which is made from it: it meets its own expected result whenever `result` does, and is out of
-- memory whenever `result` is.
pub once_as : {T E S F : Type 0} (source : E → Source) (expected : Option (List ℕ) → Result T E) (also : F → Source)
    (expected_also : Option (List ℕ) → Result S F) (limit : ℕ) (name : List ℕ) (before after : Openings) (result : Result T E)
    (other : Result S F)
    → ((firm : Bool) (file : Option (List ℕ)) → Meets source (IsTrue firm) (expected file) result
    → Meets also (IsTrue firm) (expected_also file) other)
    → (IsOutOfMemory source result → IsOutOfMemory also other)
    → OpenedOnce source expected limit name before after result → OpenedOnce also expected_also limit name before after other
once_as source expected also expected_also limit name before after result other says also_memory once =
    elim once [
      | inl none ↦ inl (none.0, also_memory none.1)
      | inr one ↦ inr (one.0, one.1, one.2, λ firm file shows. says firm file (one.3 firm file shows))
    ]

-- ---- Within an allowance

-- If nothing is called, files are read within any limit on opened files and read bytes.
pub read_none : (allowed : Allowance) (s : FilesState) → ReadWithin allowed false s s
read_none allowed s = record {
  open_log = [];
  all = sym (append-nil (openings_of s.open_log));
  opens = omega arith;
  ends = omega arith;
  bytes = omega arith;
  file_contents = refl;
  faults = refl;
}

-- If the calls of `open` are extended by `first` and then by `second`, they are extended by both in
-- order.
pub go_on : (before between after : Openings) (first second : List Opening) → openings_of between ≡ openings_of before ++ first
    → openings_of after ≡ openings_of between ++ second → openings_of after ≡ openings_of before ++ (first ++ second)
go_on before between after first second is next =
    next ∙ ap (λ o. o ++ second) is ∙ append_assoc (openings_of before) first second

-- Two readings of files in turn, each within its limit on opened files and read bytes, are one
-- reading within the sum of the limits. The first doesn't fail.
pub read_then : (a b : Allowance) (failed : Bool) (before between after : FilesState)
    → ReadWithin a false before between → ReadWithin b failed between after → ReadWithin (both a b) failed before after
read_then a b failed before between after first second = record {
  open_log = first.open_log ++ second.open_log;
  all = go_on before.open_log between.open_log after.open_log first.open_log second.open_log first.all second.all;
  opens = rw (length-append first.open_log second.open_log) (omega (arith, first.opens, second.opens));
  ends = rw (sum_by-append (λ (o : Opening). o.ends) first.open_log second.open_log) (omega (arith, first.ends, second.ends));
  bytes = rw (sum_by-append (λ (o : Opening). length o.bytes) first.open_log second.open_log) (omega (arith, first.bytes, second.bytes));
  file_contents = second.file_contents ∙ first.file_contents;
  faults = second.faults ∙ ap (faults_after failed) first.faults;
}

-- ---- By the law of files

content_some : (file : Option (List ℕ)) (bytes left : List ℕ) → IsSome file → unwrap_or file [] ≡ bytes ++ left
    → file ≡ Some (bytes ++ left)
content_some (Some content) bytes left is prefix = ap Some prefix
content_some None bytes left is prefix = never is

is_opened : (is_open more : Bool) → IsTrue (is_open && more) → is_open ≡ true
is_opened true more t = refl
is_opened false more t = never t

absent_as : (is_open failed : Bool) (G : Type 0) → (is_open ≡ false → G) → failed ≡ false → IsTrue (not is_open || failed) → G
absent_as false failed G absent reads t = absent refl
absent_as true true G absent reads t = never (sym reads)
absent_as true false G absent reads t = never t

-- By the law of files, what was read after a call of `open` agrees with the file's contents
-- (`Shows`), if `firm` is true only for steady files (calls on existing files never fail).
pub shows_by_law : (limit : ℕ) (firm : Bool) (file_contents : FileContents) (o : Opening) → (IsTrue firm → IsTrue file_contents.is_steady) → IsOfStore file_contents o
    → Shows limit firm o (file_contents.folder o.name)
shows_by_law limit firm file_contents o steady (left, is) = record {
  read = λ t. let opened = is_opened o.is_open (nat_lt 0 o.ends || nat_lt limit (length o.bytes)) t in
      (left, content_some (file_contents.folder o.name) o.bytes left (is.exists opened) (rw opened at is.prefix), is.whole);
  absent = λ f out why. absent_as o.is_open o.read_failed (file_contents.folder o.name ≡ None) (is.absent (steady f)) (is.steady (steady f)) why;
}

-- By the law of files, what was read after each call of `open`, earlier ones and the latest, agrees
-- with the contents of the files.
pub all_of_store : (s : FilesState) → AreOfStore s → All (IsOfStore s.file_contents) (openings_of s.open_log)
all_of_store s of =
    All-append (IsOfStore s.file_contents) s.open_log.earlier (as_list s.open_log.latest) of.earlier
    (listed_read s.file_contents s.unread_bytes s.open_log.latest of.latest)

memory_meets : {T E : Type 0} (source : E → Source) (firm : Type 0) (expected result : Result T E) → IsOutOfMemory source result
    → Meets source firm expected result
memory_meets source firm expected (Ok value) out = absurd out
memory_meets source firm expected (Err fault) out = rw out tt

-- If the files are observable (the state has their contents), the result of reading one file
-- (`OpenedOnce`) meets the expected one for the contents that the file has in the state.
pub own_once : {T E : Type 0} (source : E → Source) (expected : Option (List ℕ) → Result T E) (limit : ℕ) (name : List ℕ)
    (before after : FilesState) (result : Result T E) → after.file_contents ≡ before.file_contents → IsLawful after
    → OpenedOnce source expected limit name before.open_log after.open_log result → IsTrue before.file_contents.is_observable
    → Meets source (IsTrue before.file_contents.is_steady) (expected (before.file_contents.folder name)) result
own_once source expected limit name before after result file_contents lawful (inl (same, out)) t =
    memory_meets source (IsTrue before.file_contents.is_steady) (expected (before.file_contents.folder name)) result out
own_once source expected limit name before after result file_contents lawful (inr (opening, named, is, answer)) t =
    let of = lawful (rw file_contents t) in
    let latest : IfSome (Some opening) (λ o. IsReadOf after.file_contents after.unread_bytes o) = rw is at of.latest in
    let shows = shows_by_law limit before.file_contents.is_steady before.file_contents opening (λ f. f) (after.unread_bytes, rw file_contents at latest) in
    answer before.file_contents.is_steady (before.file_contents.folder name)
    (subst (λ (n : List ℕ). Shows limit before.file_contents.is_steady opening (before.file_contents.folder n)) named shows)
