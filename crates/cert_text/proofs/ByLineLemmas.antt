-- Bytes read by a part (a reader of some lines) that reads a whole text: the result follows the
-- grammar if the part meets `IsReaderOf`.
use Rattle.std.proofs.Common.{◌≡◌, ℕ, suc, ◌+◌, ◌≤◌, List, [], ◌++◌, length, take, drop, Result, Ok, Err, inl, inr, refl, sym, ap, ◌∙◌, subst, append-nil, append_assoc, take-append-drop, length-append, arith}
use Rattle.std.proofs.lemmas.Bool.{cases_order}
use Rattle.std.proofs.lemmas.List.{length-take-le, take_at}
use Rattle.std.proofs.lemmas.List.Concat.{flat_map-append}
use Rattle.decimal_text.specs.Expected.{EqualsUnlessNoMemory}
use Rattle.cert_text.specs.declared.fault.CertFault.{CertFault}
use Rattle.cert_text.specs.declared.fault.CertFault.TheVariants.{NoMemory, NotACertificate}
use Rattle.cert_text.specs.Texts.{ended, joined, IsTextBy, BeginsBy, IsFaultBy, RefusedBy, ReadsBy}
use Rattle.cert_text.specs.ByLine.{Place, Part, handed, ◌>>=◌, lines_in, last_in, place_at, without_place, read_by, is_out_of_memory, Takes, TakesExactly}
use Rattle.cert_text.proofs.CutLemmas.{AreFree, are_free_prefix, lines_in-joined, bytes_of_lines}
use Rattle.cert_text.proofs.PartLemmas.{Lines, at, Whole, Broken, IsReader}

-- ---- the line of a fault

-- at most one number meets `IsFaultBy` for given bytes
pub one_fault_line : {C : Type 0} (spells : C → Lines → Type 0) (bytes : List ℕ) (m n : ℕ)
    → IsFaultBy spells bytes m → IsFaultBy spells bytes n → m ≡ n
one_fault_line spells bytes m n hm hn =
    elim (cases_order m n) [
      | inl e ↦ e
      | inr other ↦ elim other [ inl lt ↦ absurd (hm.none (hn.least m lt)) | inr gt ↦ absurd (hn.none (hm.least n gt)) ]
    ]

-- if a function has read `part` and then does what `next` does for its value, it does what the two
-- parts in sequence do, unless memory runs out
pub then_takes : {A B : Type 0} (part : Part A) (next : A → Part B) (old here new : Place) (value : A) (result : Result B CertFault)
    → part old ≡ Ok (value, here) → Takes (next value) here new result → Takes (part >>= next) old new result
then_takes part next old here new value (Ok decoded) h k = ap (handed next) h ∙ k
then_takes part next old here new value (Err fault) h k = λ m. ap (handed next) h ∙ k m

-- if a function has read `part` and then does what `next` does for its value, it does what the two
-- parts in sequence do
pub then_takes_exactly : {A B : Type 0} (part : Part A) (next : A → Part B) (old here new : Place) (value : A) (result : Result B CertFault)
    → part old ≡ Ok (value, here) → TakesExactly (next value) here new result → TakesExactly (part >>= next) old new result
then_takes_exactly part next old here new value (Ok decoded) h k = ap (handed next) h ∙ k
then_takes_exactly part next old here new value (Err fault) h k = ap (handed next) h ∙ k

-- a function that does what a part does, unless memory runs out, has the same value or fault,
-- unless memory ran out
pub returned_by : {C : Type 0} (part : Part C) (old new : Place) (result : Result C CertFault) → Takes part old new result
    → EqualsUnlessNoMemory is_out_of_memory (without_place (part old)) result
returned_by part old new (Ok c) h = ap without_place h
returned_by part old new (Err NoMemory) h = tt
returned_by part old new (Err (NotACertificate line)) h = ap without_place (h refl)

same_Ok : {C : Type 0} (c d : C) (x : Result C CertFault) → x ≡ Ok c → x ≡ Ok d → c ≡ d
same_Ok c d x h k = cc

-- `IsReaderOf spells part`: the part follows the grammar `spells` for any bytes, it returns the
-- value that the lines of a text spell, and no line of the grammar contains an LF
pub record IsReaderOf {C : Type 0} (spells : C → Lines → Type 0) (part : Part C) : Type 0 where
  pub reader : IsReader spells part
  pub lines_read : (c : C) (lines : Lines) → spells c lines → (left : Place) × (part (at 0 lines []) ≡ Ok (c, left))
  pub free : (c : C) (lines : Lines) → spells c lines → AreFree lines

module _ {C : Type 0} (spells : C → Lines → Type 0) (part : Part C) (reads : IsReaderOf spells part) where
  one_spelling : (c d : C) (lines : Lines) → spells c lines → spells d lines → c ≡ d
  one_spelling c d lines hc hd =
      let tc = reads.lines_read c lines hc in let td = reads.lines_read d lines hd in
      same_Ok c d (without_place (part (at 0 lines []))) (ap without_place tc.1) (ap without_place td.1)

  -- the lines in the bytes of a text are the lines that spell its value, and no byte follows the
  -- last LF
  text_lines : (c : C) (bytes : List ℕ) (h : IsTextBy spells c bytes) → (lines_in bytes ≡ h.0) × (last_in bytes ≡ [])
  text_lines c bytes h =
      let cut = lines_in-joined h.0 [] (reads.free c h.0 h.1) in
      let whole = h.2 ∙ sym (append-nil (joined h.0)) in (
        ap (λ (bs : List ℕ). lines_in bs) whole ∙ cut.0 ∙ append-nil h.0,
        ap (λ (bs : List ℕ). last_in bs) whole ∙ cut.1,
      )

  pub one_reading : (c d : C) (bytes : List ℕ) → IsTextBy spells c bytes → IsTextBy spells d bytes → c ≡ d
  one_reading c d bytes hc hd =
      let same = sym (text_lines c bytes hc).0 ∙ (text_lines d bytes hd).0 in
      one_spelling c d hd.0 (subst (spells c) same hc.1) hd.1

  text_taken : (c : C) (bytes : List ℕ) → IsTextBy spells c bytes → (left : Place) × (part (place_at 0 bytes) ≡ Ok (c, left))
  text_taken c bytes h =
      let lines = text_lines c bytes h in
      let lines_read = reads.lines_read c h.0 h.1 in (lines_read.0, rw (lines.0, lines.1) lines_read.1)

  -- ---- a fault

  none_goes_on : (bytes : List ℕ) (b : Broken spells part 0 (lines_in bytes) (last_in bytes)) → BeginsBy spells bytes (1 + b.count) → ⊥
  none_goes_on bytes b begins =
      let lines = begins.lines in let rest = lines_in begins.rest in
      let free = are_free_prefix lines begins.more (reads.free begins.decoded (lines ++ begins.more) begins.spelled) in
      let cut = ap (λ (bs : List ℕ). lines_in bs) begins.prefix ∙ (lines_in-joined lines begins.rest free).0 in
      let same : take (suc b.count) (lines_in bytes) ≡ lines =
      ap (λ (ls : Lines). take (suc b.count) ls) cut ∙ take_at lines rest (suc b.count) (omega (arith, begins.counted)) in
      let lines_read = reads.lines_read begins.decoded (lines ++ begins.more) begins.spelled in
      b.stops begins.more begins.decoded lines_read.0 (omega (arith, ap length cut, length-append lines rest, begins.counted))
      (ap (λ (ls : Lines). part (at 0 (ls ++ begins.more) [])) same ∙ lines_read.1)

  begins_before : (bytes : List ℕ) (b : Broken spells part 0 (lines_in bytes) (last_in bytes)) (count : ℕ)
      → count ≤ b.count → BeginsBy spells bytes count
  begins_before bytes b count h =
      let lines = lines_in bytes in let before = take b.count lines in let after = drop b.count lines in
      let front = take count before in let back = drop count before in
      let apart : front ++ back ≡ before = take-append-drop count before in
      let whole : lines ≡ front ++ (back ++ after) =
      sym (take-append-drop b.count lines) ∙ ap (λ ls. ls ++ after) (sym apart) ∙ append_assoc front back after in
      record {
        decoded = b.decoded;
        lines = front;
        more = back ++ b.more;
        spelled = subst (spells b.decoded) (ap (λ ls. ls ++ b.more) (sym apart) ∙ append_assoc front back b.more) b.spelled;
        counted = length-take-le count before (omega (arith, h, length-take-le b.count lines b.few));
        rest = joined (back ++ after) ++ last_in bytes;
        prefix = bytes_of_lines bytes ∙ ap (λ (ls : Lines). joined ls ++ last_in bytes) whole
            ∙ ap (λ bs. bs ++ last_in bytes) (flat_map-append ended front (back ++ after))
            ∙ append_assoc (joined front) (joined (back ++ after)) (last_in bytes);
      }

  broken_reads : (bytes : List ℕ) (b : Broken spells part 0 (lines_in bytes) (last_in bytes)) → RefusedBy spells bytes (1 + b.count)
  broken_reads bytes b = (
    λ c text.
        let lines_read = text_taken c bytes text in
        let both = sym b.returned ∙ lines_read.1 in absurd cc,
    record {
      none = none_goes_on bytes b;
      least = λ count lt. begins_before bytes b count (omega (arith, lt));
    },
  )

  whole_reads : (bytes : List ℕ) (w : Whole spells part 0 (lines_in bytes) (last_in bytes)) → IsTextBy spells w.decoded bytes
  whole_reads bytes w = (
    lines_in bytes,
    w.spelled,
    bytes_of_lines bytes ∙ ap (λ bs. joined (lines_in bytes) ++ bs) w.over ∙ append-nil (joined (lines_in bytes)),
  )

  -- ---- any bytes

  -- the result of reading any bytes follows the grammar: the value that they are the text of, or
  -- the first line with which no text goes on
  pub reads_bytes : (bytes : List ℕ) → ReadsBy spells bytes (read_by part bytes)
  reads_bytes bytes =
      elim (reads.reader.outcome 0 (lines_in bytes) (last_in bytes)) [
        | inl w ↦ subst (ReadsBy spells bytes) (sym (ap without_place w.returned)) (whole_reads bytes w)
        | inr b ↦ subst (ReadsBy spells bytes) (sym (ap without_place b.returned)) (broken_reads bytes b)
      ]

  -- reading by a part, as defined, never has the fault that memory ran out
  pub never_memory : (bytes : List ℕ) → read_by part bytes ≡ Err NoMemory → ⊥
  never_memory bytes h =
      elim (reads.reader.outcome 0 (lines_in bytes) (last_in bytes)) [
        | inl w ↦ let e = sym (ap without_place w.returned) ∙ h in absurd cc
        | inr b ↦ let e = sym (ap without_place b.returned) ∙ h in absurd cc
      ]

  -- the text of a value reads as this value
  pub text_reads : (c : C) (bytes : List ℕ) → IsTextBy spells c bytes → read_by part bytes ≡ Ok c
  text_reads c bytes text = ap without_place (text_taken c bytes text).1

  -- a result that is the defined result of reading, unless memory ran out, follows the grammar
  pub reads_given : (bytes : List ℕ) (result : Result C CertFault) → EqualsUnlessNoMemory is_out_of_memory (read_by part bytes) result
      → ReadsBy spells bytes result
  reads_given bytes (Ok c) h = subst (ReadsBy spells bytes) h (reads_bytes bytes)
  reads_given bytes (Err NoMemory) h = tt
  reads_given bytes (Err (NotACertificate line)) h = subst (ReadsBy spells bytes) h (reads_bytes bytes)
