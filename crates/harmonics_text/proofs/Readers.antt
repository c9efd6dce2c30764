-- The state between two pieces is that of all bytes so far, and determines their fault and their book.
use Rattle.std.proofs.Common.{◌≡◌, ℕ, suc, ◌+◌, ◌≤◌, true, false, cond, ltb, List, [], ◌∷◌, ◌++◌, length, Option, Some, None, Result, Ok, Err, refl, sym, ap, subst, ◌∙◌, add-zero, arith}
use Rattle.std.specs.Prelude.{codes}
use Rattle.std.specs.Result.{IfOk, result_err}
use Rattle.decimal_text.specs.Expected.{◌>>=◌}
use Rattle.harmonics_book.specs.declared.book.Book.{Book}
use Rattle.harmonics_text.specs.declared.book_parser.BookParser.{BookParser}
use Rattle.harmonics_text.specs.declared.book_parser.BookParser.TheVariants as parsing
use Rattle.harmonics_text.specs.declared.record.Record.TheVariants as records
use Rattle.harmonics_text.specs.declared.progress.Progress.{Progress}
use Rattle.harmonics_text.specs.declared.fault.Why.{Why}
use Rattle.harmonics_text.specs.declared.fault.Why.TheVariants.{CutShort, LineTooLong}
use Rattle.harmonics_text.specs.declared.fault.BookFault.{BookFault}
use Rattle.harmonics_text.specs.declared.fault.BookFault.TheVariants.{NoMemory}
use Rattle.harmonics_text.specs.declared.fault.BookFault.TheVariants as faults
use Rattle.harmonics_book.specs.Books.{IsBook}
use Rattle.harmonics_text.specs.Lines.{cut, is_comment, is_too_long, kept, numbered, is_filled}
use Rattle.harmonics_text.specs.Reading.{At, book_of, ReturnsBook, FailsBook}
use Rattle.harmonics_text.specs.Pieces.{ended_lines, pending_line, pending_length, judged_lines, fault_in, fault_so_far, ReturnsFault}
use Rattle.harmonics_text.specs.Workings.BookParsing.{IsBookParser, after_line, book_in}
use Rattle.harmonics_text.specs.Workings.Readers.{has_lf, IsProgress, nothing_read, on_line, held, with_pending, after_lines, with_bytes, finished, ended, ReturnsAt, reached, Reads, ReadsOn}
use Rattle.harmonics_text.proofs.Ranges.{bind_ok}
use Rattle.harmonics_text.proofs.Resume.{resume, resume_is_book}
use Rattle.harmonics_text.proofs.Steps.{follow}
use Rattle.harmonics_text.proofs.Answer.{left_with, resume_line, resume_end, answer, answer_is_book_of, answer_line, answer_end}
use Rattle.harmonics_text.proofs.Valid.{line_valid}
use Rattle.harmonics_text.proofs.Pieces.{by_lines, cut_last, cut_first, length-ended}
use Rattle.harmonics_text.proofs.Keeping.{held_line, begins, kept_as, held_filled, held_count, with_last, then_bytes, with_line, with_first, in_pieces, on_ok, at_is, at_book, progress_valid, progress_number, progress_pending}

-- ---- the fault so far

after_lines_valid : (ls : List (List ℕ)) (d e : BookParser) (n : ℕ) → IsBookParser d → after_lines d n ls ≡ Ok e → IsBookParser e
unfolding after_lines
after_lines_valid [] d e n valid is = rw (← at_is d e is) valid
after_lines_valid (l ∷ ls) d e n valid is =
    let b = bind_ok (on_line n (after_line d l)) _ e is in
    after_lines_valid ls b.0 e (n + 1) (line_valid d b.0 l valid (on_ok n (after_line d l) b.0 b.1)) b.2

-- the fault of the lines after some lines, or of these
abbrev fault_after : List (List ℕ) → ℕ → Result BookParser At → Option At
fault_after ms m (Ok e) = fault_in (resume e (kept (numbered m ms)))
fault_after ms m (Err fault) = Some fault

parts : (ls ms : List (List ℕ)) (d : BookParser) (n : ℕ) → IsBookParser d
    → fault_in (resume d (kept (numbered n (ls ++ ms)))) ≡ fault_after ms (n + length ls) (after_lines d n ls)
unfolding after_lines
parts [] ms d n valid = rw (add-zero n) refl
parts (l ∷ ls) ms d n valid =
    let shift : n + suc (length ls) ≡ n + 1 + length ls = omega arith in
    let go : (r : Result BookParser Why) → after_line d l ≡ r
    → fault_in (follow n (kept (numbered (n + 1) (ls ++ ms))) r)
    ≡ fault_after ms (n + 1 + length ls) (on_line n r >>= λ e. after_lines e (n + 1) ls) =
    λ r. elim r as (λ r. after_line d l ≡ r → fault_in (follow n (kept (numbered (n + 1) (ls ++ ms))) r)
    ≡ fault_after ms (n + 1 + length ls) (on_line n r >>= λ e. after_lines e (n + 1) ls))
    [ Ok e ↦ λ is. parts ls ms e (n + 1) (line_valid d e l valid is) | Err why ↦ λ is. refl ] in
    rw shift (ap fault_in (resume_line d n l (ls ++ ms) valid) ∙ go (after_line d l) refl)

-- a line that hasn't ended is judged if it is too long
judged_last : (e : BookParser) (m : ℕ) (line : List ℕ) → IsBookParser e
    → fault_in (resume e (kept (numbered m (cond (ltb 4096 (cond (is_comment line) 0 (length line))) (line ∷ []) []))))
    ≡ result_err (with_pending e m line)
unfolding with_pending numbered kept
judged_last e m line valid =
    let none : fault_in (resume e []) ≡ None = rw (resume_end e valid)
    (elim (book_in e) as (λ o. fault_in (left_with o) ≡ None) [ None ↦ refl | Some b ↦ refl ]) in
    let long : (h : Result (List ℕ) Why) → (why : Why) → held line ≡ Err why
    → fault_in (resume e (kept (numbered m (line ∷ [])))) ≡ Some (record { line = m; why = why }) =
    λ h why is. ap fault_in (resume_line e m line [] valid) ∙ rw (← held_line e line, is) refl in
    elim (is_comment line) as (λ c. is_comment line ≡ c
    → fault_in (resume e (kept (numbered m (cond (ltb 4096 (cond c 0 (length line))) (line ∷ []) []))))
    ≡ result_err (on_line m (cond c (kept_as (codes "#")) (cond (is_too_long line) (Err LineTooLong) (Ok line))) >>= begins e m)) [
      | true ↦ λ c. none
      | false ↦ λ c. elim (is_too_long line)
          as (λ o. is_too_long line ≡ o → fault_in (resume e (kept (numbered m (cond o (line ∷ []) []))))
          ≡ result_err (on_line m (cond o (Err LineTooLong) (kept_as line)) >>= begins e m)) [
            | true ↦ λ o. long (held line) LineTooLong (rw (c, o) refl)
            | false ↦ λ o. none
          ] refl
    ] refl

fault_is : (xs : List ℕ) → fault_so_far xs ≡ result_err (with_bytes parsing.Count 1 xs)
unfolding fault_so_far judged_lines pending_length with_bytes
fault_is xs =
    let ls = ended_lines xs in
    let line = pending_line xs in
    let ms = cond (ltb 4096 (cond (is_comment line) 0 (length line))) (line ∷ []) [] in
    let go : (r : Result BookParser At) → after_lines parsing.Count 1 ls ≡ r
    → fault_after ms (1 + length ls) r ≡ result_err (r >>= λ e. with_pending e (1 + length ls) line) =
    λ r. elim r as (λ r. after_lines parsing.Count 1 ls ≡ r
    → fault_after ms (1 + length ls) r ≡ result_err (r >>= λ e. with_pending e (1 + length ls) line))
    [ Ok e ↦ λ is. judged_last e (1 + length ls) line (after_lines_valid ls parsing.Count e 1 tt is) | Err fault ↦ λ is. refl ] in
    sym (ap fault_in (resume_is_book (kept (numbered 1 (ls ++ ms))))) ∙ parts ls ms parsing.Count 1 tt
    ∙ go (after_lines parsing.Count 1 ls) refl

-- ---- the book

answer_last : (z : List ℕ) (d : BookParser) (n : ℕ) → has_lf z ≡ false → IsBookParser d → answer d n (cut z) ≡ (with_bytes d n z >>= ended)
unfolding cut with_pending ended
answer_last [] d n none valid = rw (with_last d n [] none) (answer_end d n valid)
answer_last (b ∷ bs) d n none valid =
    let z = b ∷ bs in
    let more = λ (m : ℕ) (e : BookParser). finished m (book_in e) in
    let end : (r : Result BookParser Why) → after_line d z ≡ r
    → (on_line n r >>= λ e. answer e (n + 1) []) ≡ (on_line n r >>= more (n + 1)) =
    λ r. elim r
    as (λ r. after_line d z ≡ r → (on_line n r >>= λ e. answer e (n + 1) []) ≡ (on_line n r >>= more (n + 1)))
    [ Ok e ↦ λ is. answer_end e (n + 1) (line_valid d e z valid is) | Err why ↦ λ is. refl ] in
    let begun : (h : Result (List ℕ) Why) → held z ≡ h
    → (on_line n (h >>= after_line d) >>= more (n + 1)) ≡ ((on_line n h >>= begins d n) >>= ended) =
    λ h. elim h as (λ h. held z ≡ h → (on_line n (h >>= after_line d) >>= more (n + 1)) ≡ ((on_line n h >>= begins d n) >>= ended))
    [ Ok k ↦ λ is. rw (held_filled b bs k is) refl | Err why ↦ λ is. refl ] in
    rw (cut_last b bs none, with_last d n z none) (answer_line d n z [] valid ∙ end (after_line d z) refl
    ∙ ap (λ (r : Result BookParser Why). on_line n r >>= more (n + 1)) (sym (held_line d z)) ∙ begun (held z) refl)

book_from : (xs : List ℕ) (d : BookParser) (n : ℕ) → IsBookParser d → answer d n (cut xs) ≡ (with_bytes d n xs >>= ended)
unfolding with_line
book_from =
    by_lines (λ xs. (d : BookParser) (n : ℕ) → IsBookParser d → answer d n (cut xs) ≡ (with_bytes d n xs >>= ended))
    (λ z none d n valid. answer_last z d n none valid)
    (λ z r none rest d n valid.
    let go : (s : Result BookParser Why) → after_line d z ≡ s → (on_line n s >>= λ e. answer e (n + 1) (cut r))
    ≡ (((on_line n s >>= λ (e : BookParser). Ok (record { parser = e; number = n + 1; pending = [] })) >>= then_bytes r) >>= ended) =
    λ s. elim s as (λ s. after_line d z ≡ s → (on_line n s >>= λ e. answer e (n + 1) (cut r))
    ≡ (((on_line n s >>= λ (e : BookParser). Ok (record { parser = e; number = n + 1; pending = [] })) >>= then_bytes r) >>= ended))
    [ Ok e ↦ λ is. rest e (n + 1) (line_valid d e z valid is) | Err why ↦ λ is. refl ] in
    rw (cut_first z r none, with_first d n z r none) (answer_line d n z (cut r) valid ∙ go (after_line d z) refl))

book_is : (xs : List ℕ) → book_of xs ≡ (with_bytes parsing.Count 1 xs >>= ended)
book_is xs = sym (answer_is_book_of xs) ∙ book_from xs parsing.Count 1 tt

-- ---- the reader

pub reads_nothing : Reads (Ok nothing_read) []
unfolding with_bytes after_lines with_pending ended_lines pending_line cut
reads_nothing = refl

pub reads_valid : (bytes : List ℕ) (p : Progress) → Reads (Ok p) bytes → IsProgress p
reads_valid bytes p h = progress_valid bytes parsing.Count 1 p tt h

pub reads_number : (bytes : List ℕ) (p : Progress) → Reads (Ok p) bytes → p.number ≤ 1 + length bytes
reads_number bytes p h = omega (arith, progress_number bytes parsing.Count 1 p h, length-ended bytes)

pub reads_more : (bytes piece : List ℕ) (before after : Result Progress BookFault) → Reads before bytes
    → ReadsOn before piece after → Reads after (bytes ++ piece)
reads_more bytes piece (Ok p) after h on = subst (ReturnsAt after) (sym (in_pieces piece bytes parsing.Count 1 ∙ rw h refl)) on
reads_more bytes piece (Err faults.NoMemory) after h on = rw on tt
reads_more bytes piece (Err (faults.At line why)) after h on = rw on (in_pieces piece bytes parsing.Count 1 ∙ rw h refl)

pub reads_fault : (bytes : List ℕ) (p : Progress) (fault : Option BookFault) (answer : Result (Unit {0}) BookFault)
    → Reads (reached p fault) bytes → fault ≡ result_err answer → ReturnsFault answer (fault_so_far bytes)
reads_fault bytes p fault (Ok x) h is =
    let all : Reads (Ok p) bytes = rw is at h in
    fault_is bytes ∙ rw all refl
reads_fault bytes p fault (Err faults.NoMemory) h is = tt
reads_fault bytes p fault (Err (faults.At line why)) h is =
    let all : Reads (Err (faults.At line why)) bytes = rw is at h in
    fault_is bytes ∙ rw all refl

pub reads_pending : (bytes : List ℕ) (p : Progress) → Reads (Ok p) bytes
    → (cond (is_comment p.pending) 0 (length p.pending) ≡ pending_length bytes)
    × (cond (is_comment p.pending) 0 (length p.pending) ≤ 4096)
unfolding pending_length
reads_pending bytes p h = held_count (pending_line bytes) p.pending (progress_pending bytes parsing.Count 1 p h)

pub reads_book : (bytes : List ℕ) (p : Progress) (r : Result Book BookFault) → Reads (Ok p) bytes
    → ReturnsAt r (ended p) → ReturnsBook r (book_of bytes)
reads_book bytes p (Ok b) h returned = book_is bytes ∙ rw h returned
reads_book bytes p (Err faults.NoMemory) h returned = tt
reads_book bytes p (Err (faults.At line why)) h returned = book_is bytes ∙ rw h returned

pub fails_book : (bytes : List ℕ) (fault : BookFault) → Reads (Err fault) bytes → FailsBook fault (book_of bytes)
fails_book bytes faults.NoMemory h = tt
fails_book bytes (faults.At line why) h = book_is bytes ∙ rw h refl

abbrev some_book : Book → Option Book
some_book b = Some b

some_is : (b c : Book) → some_book b ≡ some_book c → b ≡ c
some_is b c e = cc

book_in_valid : (d : BookParser) (b : Book) → IsBookParser d → book_in d ≡ Some b → IsBook b
book_in_valid (parsing.Stations b records.Nothing) c valid e = rw (← some_is b c e) valid.0
book_in_valid (parsing.Stations b (records.Name name)) c valid e = absurd cc
book_in_valid (parsing.Stations b (records.LocalTime name index)) c valid e = absurd cc
book_in_valid (parsing.Stations b (records.Constants constants)) c valid e = absurd cc
book_in_valid _ c valid e = absurd cc

finished_valid : (n : ℕ) (o : Option Book) (b : Book) → ((c : Book) → o ≡ Some c → IsBook c) → finished n o ≡ Ok b → IsBook b
finished_valid n None b h e = absurd cc
finished_valid n (Some c) b h e = rw (← at_book c b e) (h c refl)

ended_valid : (p : Progress) (b : Book) → IsBookParser p.parser → ended p ≡ Ok b → IsBook b
unfolding ended
ended_valid p b valid e =
    elim (is_filled p.pending) as (λ f. cond f (on_line p.number (after_line p.parser p.pending)
    >>= λ d. finished (p.number + 1) (book_in d)) (finished p.number (book_in p.parser)) ≡ Ok b → IsBook b) [
      | true ↦ λ h.
          let d = bind_ok (on_line p.number (after_line p.parser p.pending)) _ b h in
          finished_valid (p.number + 1) (book_in d.0) b (λ c. book_in_valid d.0 c
          (line_valid p.parser d.0 p.pending valid (on_ok p.number (after_line p.parser p.pending) d.0 d.1))) d.2
      | false ↦ λ h. finished_valid p.number (book_in p.parser) b (λ c. book_in_valid p.parser c valid) h
    ] e

pub book_valid : (bytes : List ℕ) (r : Result Book BookFault) → ReturnsBook r (book_of bytes) → IfOk r IsBook
book_valid bytes (Err fault) returned = tt
book_valid bytes (Ok b) returned =
    let p = bind_ok (with_bytes parsing.Count 1 bytes) ended b (sym (book_is bytes) ∙ returned) in
    ended_valid p.0 b (progress_valid bytes parsing.Count 1 p.0 tt p.1).parser p.2

-- ---- the fault so far and the book

err_is : {T : Type 0} (r : Result T At) (fault : At) → result_err r ≡ Some fault → r ≡ Err fault
err_is (Ok x) fault e = absurd cc
err_is (Err f) fault e = cc

pub fault_remains : (bytes more : List ℕ) (fault : At) → fault_so_far bytes ≡ Some fault → book_of (bytes ++ more) ≡ Err fault
fault_remains bytes more fault e =
    let so_far : with_bytes parsing.Count 1 bytes ≡ Err fault =
    err_is (with_bytes parsing.Count 1 bytes) fault (sym (fault_is bytes) ∙ e) in
    book_is (bytes ++ more) ∙ rw (in_pieces more bytes parsing.Count 1, so_far) refl

abbrev some_fault : At → Option At
some_fault fault = Some fault

abbrev fault_of_book : At → Result Book At
fault_of_book fault = Err fault

same_fault : (e f : At) → fault_of_book e ≡ fault_of_book f → e ≡ f
same_fault e f is = cc

finished_line : (n : ℕ) (o : Option Book) (fault : At) → finished n o ≡ Err fault → n ≡ fault.line
finished_line n None fault e = ap (λ (a : At). a.line) (same_fault (record { line = n; why = CutShort }) fault e)
finished_line n (Some b) fault e = absurd cc

on_line_line : (n : ℕ) (r : Result BookParser Why) (fault : At)
    → (on_line n r >>= λ d. finished (n + 1) (book_in d)) ≡ Err fault → n ≤ fault.line
on_line_line n (Ok d) fault e = omega (arith, finished_line (n + 1) (book_in d) fault e)
on_line_line n (Err why) fault e = omega (arith, ap (λ (a : At). a.line) (same_fault (record { line = n; why = why }) fault e))

ended_line : (p : Progress) (fault : At) → ended p ≡ Err fault → p.number ≤ fault.line
unfolding ended
ended_line p fault e =
    elim (is_filled p.pending) as (λ f. cond f (on_line p.number (after_line p.parser p.pending) >>= λ d.
    finished (p.number + 1) (book_in d)) (finished p.number (book_in p.parser)) ≡ Err fault → p.number ≤ fault.line) [
      | true ↦ on_line_line p.number (after_line p.parser p.pending) fault
      | false ↦ λ h. omega (arith, finished_line p.number (book_in p.parser) fault h)
    ] e

pub fault_reported : (bytes : List ℕ) (fault : At) → book_of bytes ≡ Err fault → fault.line ≤ length (ended_lines bytes)
    → fault_so_far bytes ≡ Some fault
fault_reported bytes fault e le =
    fault_is bytes ∙ elim (with_bytes parsing.Count 1 bytes)
    as (λ r. with_bytes parsing.Count 1 bytes ≡ r → (r >>= ended) ≡ Err fault → result_err r ≡ Some fault) [
      | Ok p ↦ λ is h. absurd (omega (arith, progress_number bytes parsing.Count 1 p is, ended_line p fault h, le))
      | Err f ↦ λ is h. ap (λ (a : At). some_fault a) (same_fault f fault h)
    ] refl (sym (book_is bytes) ∙ e)
