-- The state between two pieces, and the effect of further bytes, wherever these are cut.
use Rattle.std.proofs.Common.{◌≡◌, ℕ, suc, ◌+◌, ◌≤◌, true, false, cond, List, [], ◌∷◌, ◌++◌, length, length-append, ◌≢◌, Result, Ok, Err, refl, sym, ap, subst, ◌∙◌, append_assoc, add-zero, arith}
use Rattle.std.specs.Prelude.{codes, MatchResult}
use Rattle.std.specs.Result.{result_and}
use Rattle.decimal_text.specs.Expected.{◌>>=◌}
use Rattle.harmonics_book.specs.declared.book.Book.{Book}
use Rattle.harmonics_text.specs.declared.book_parser.BookParser.{BookParser}
use Rattle.harmonics_text.specs.declared.progress.Progress.{Progress}
use Rattle.harmonics_text.specs.declared.fault.Why.{Why}
use Rattle.harmonics_text.specs.declared.fault.Why.TheVariants.{LineTooLong}
use Rattle.harmonics_text.specs.declared.fault.LineFault.{LineFault}
use Rattle.harmonics_text.specs.declared.fault.LineFault.TheVariants as lines
use Rattle.harmonics_text.specs.declared.fault.BookFault.{BookFault}
use Rattle.harmonics_text.specs.declared.fault.BookFault.TheVariants.{NoMemory}
use Rattle.harmonics_text.specs.declared.fault.BookFault.TheVariants as faults
use Rattle.harmonics_text.specs.Lines.{is_lf, is_comment, is_too_long, is_filled}
use Rattle.harmonics_text.specs.Reading.{At}
use Rattle.harmonics_text.specs.Pieces.{ended_lines, pending_line}
use Rattle.harmonics_text.specs.Workings.BookParsing.{IsBookParser, Fails, placed, after_line, book_in}
use Rattle.harmonics_text.specs.Workings.Readers.{has_lf, IsProgress, on_line, held, with_pending, after_lines, with_bytes, finished, ended, FailsAt, ReturnsAt}
use Rattle.std.proofs.lemmas.Bool.{lt-ltb, ltb-true, ltb-false}
use Rattle.std.proofs.lemmas.List.Folds.{list_any-append}
use Rattle.harmonics_text.proofs.Ranges.{bind_ok}
use Rattle.harmonics_text.proofs.Valid.{line_valid}
use Rattle.harmonics_text.proofs.Pieces.{by_lines, ended_none, ended_first, pending_none, pending_first}

-- ---- the kept bytes of a line

pub held_line : (d : BookParser) (line : List ℕ) → (held line >>= after_line d) ≡ after_line d line
unfolding after_line
held_line d line =
    elim (is_comment line) as (λ c. is_comment line ≡ c
    → (cond c (Ok (codes "#")) (cond (is_too_long line) (Err LineTooLong) (Ok line)) >>= after_line d) ≡ after_line d line) [
      | true ↦ λ c. rw c refl
      | false ↦ λ c. elim (is_too_long line)
          as (λ o. is_too_long line ≡ o → (cond o (Err LineTooLong) (Ok line) >>= after_line d) ≡ after_line d line)
          [ true ↦ λ o. rw (c, o) refl | false ↦ λ o. refl ] refl
    ] refl

abbrev Total : Type 0
Total = Result Progress At

abbrev pub begins : BookParser → ℕ → List ℕ → Total
begins d n begun = Ok (record { parser = d; number = n; pending = begun })

abbrev pub kept_as : List ℕ → Result (List ℕ) Why
kept_as k = Ok k

kept_is : (j k : List ℕ) → kept_as j ≡ kept_as k → j ≡ k
kept_is j k e = cc

long_more : (z l : List ℕ) → is_too_long z ≡ true → is_too_long (z ++ l) ≡ true
long_more z l e = lt-ltb 4096 (length (z ++ l)) (omega (arith, ltb-true 4096 (length z) e, length-append z l))

-- further bytes of a line that is too long
held_long : (z l : List ℕ) (why : Why) → held z ≡ Err why → held (z ++ l) ≡ Err why
held_long [] l why e = absurd cc
held_long (b ∷ bs) l why e =
    elim (is_comment (b ∷ bs))
    as (λ c. cond c (kept_as (codes "#")) (cond (is_too_long (b ∷ bs)) (Err LineTooLong) (Ok (b ∷ bs))) ≡ Err why
    → cond c (kept_as (codes "#")) (cond (is_too_long (b ∷ bs ++ l)) (Err LineTooLong) (Ok (b ∷ bs ++ l))) ≡ Err why) [
      | true ↦ λ h. absurd cc
      | false ↦
          elim (is_too_long (b ∷ bs)) as (λ o. is_too_long (b ∷ bs) ≡ o → cond o (Err LineTooLong) (kept_as (b ∷ bs))
          ≡ Err why → cond (is_too_long (b ∷ bs ++ l)) (Err LineTooLong) (kept_as (b ∷ bs ++ l)) ≡ Err why)
          [ true ↦ λ o h. rw (long_more (b ∷ bs) l o) h | false ↦ λ o h. absurd cc ] refl
    ] e

-- further bytes of a line can be appended to its kept bytes
held_more : (z l begun : List ℕ) → held z ≡ Ok begun → held (begun ++ l) ≡ held (z ++ l)
held_more [] l begun e = rw (← kept_is [] begun e) refl
held_more (b ∷ bs) l begun e =
    elim (is_comment (b ∷ bs))
    as (λ c. cond c (kept_as (codes "#")) (cond (is_too_long (b ∷ bs)) (Err LineTooLong) (Ok (b ∷ bs))) ≡ Ok begun
    → is_comment (b ∷ bs) ≡ c → held (begun ++ l)
    ≡ cond c (kept_as (codes "#")) (cond (is_too_long (b ∷ bs ++ l)) (Err LineTooLong) (Ok (b ∷ bs ++ l)))) [
      | true ↦ λ h c. rw (← kept_is (codes "#") begun h) refl
      | false ↦ λ h c. elim (is_too_long (b ∷ bs)) as (λ o. cond o (Err LineTooLong) (kept_as (b ∷ bs)) ≡ Ok begun
          → held (begun ++ l) ≡ cond (is_too_long (b ∷ bs ++ l)) (Err LineTooLong) (kept_as (b ∷ bs ++ l)))
          [ true ↦ λ k. absurd cc | false ↦ λ k. rw (← kept_is (b ∷ bs) begun k, c) refl ] h
    ] e refl

pub held_filled : (b : ℕ) (bs begun : List ℕ) → held (b ∷ bs) ≡ Ok begun → is_filled begun ≡ true
held_filled b bs begun e =
    elim (is_comment (b ∷ bs))
    as (λ c. cond c (kept_as (codes "#")) (cond (is_too_long (b ∷ bs)) (Err LineTooLong) (Ok (b ∷ bs))) ≡ Ok begun
    → is_filled begun ≡ true) [
      | true ↦ λ h. rw (← kept_is (codes "#") begun h) refl
      | false ↦ elim (is_too_long (b ∷ bs)) as (λ o. cond o (Err LineTooLong) (kept_as (b ∷ bs)) ≡ Ok begun
          → is_filled begun ≡ true) [ true ↦ λ h. absurd cc | false ↦ λ h. rw (← kept_is (b ∷ bs) begun h) refl ]
    ] e

pub held_count : (line begun : List ℕ) → held line ≡ Ok begun
    → (cond (is_comment begun) 0 (length begun) ≡ cond (is_comment line) 0 (length line))
    × (cond (is_comment begun) 0 (length begun) ≤ 4096)
held_count line begun e =
    elim (is_comment line) as (λ c. is_comment line ≡ c
    → cond c (kept_as (codes "#")) (cond (is_too_long line) (Err LineTooLong) (Ok line)) ≡ Ok begun
    → (cond (is_comment begun) 0 (length begun) ≡ cond c 0 (length line)) × (cond (is_comment begun) 0 (length begun) ≤ 4096)) [
      | true ↦ λ c h. rw (← kept_is (codes "#") begun h) (refl, omega arith)
      | false ↦ λ c. elim (is_too_long line) as (λ o. is_too_long line ≡ o → cond o (Err LineTooLong) (kept_as line)
          ≡ Ok begun → (cond (is_comment begun) 0 (length begun) ≡ length line) × (cond (is_comment begun) 0 (length begun) ≤ 4096))
          [ true ↦ λ o h. absurd cc | false ↦ λ o h. rw (← kept_is line begun h, c) (refl, ltb-false 4096 (length line) o) ] refl
    ] refl e

held_lf : (z begun : List ℕ) → has_lf z ≡ false → held z ≡ Ok begun → has_lf begun ≡ false
held_lf z begun none e =
    elim (is_comment z) as (λ c. cond c (kept_as (codes "#")) (cond (is_too_long z) (Err LineTooLong) (Ok z)) ≡ Ok begun
    → has_lf begun ≡ false) [
      | true ↦ λ h. rw (← kept_is (codes "#") begun h) refl
      | false ↦ elim (is_too_long z) as (λ o. cond o (Err LineTooLong) (kept_as z) ≡ Ok begun → has_lf begun ≡ false)
          [ true ↦ λ h. absurd cc | false ↦ λ h. rw (← kept_is z begun h) none ]
    ] e

after_long : (d : BookParser) (z l : List ℕ) (why : Why) → held z ≡ Err why → after_line d (z ++ l) ≡ Err why
after_long d z l why e = sym (held_line d (z ++ l)) ∙ rw (held_long z l why e) refl

after_more : (d : BookParser) (z l begun : List ℕ) → held z ≡ Ok begun → after_line d (begun ++ l) ≡ after_line d (z ++ l)
after_more d z l begun e = sym (held_line d (begun ++ l))
    ∙ ap (λ (r : Result (List ℕ) Why). r >>= after_line d) (held_more z l begun e) ∙ held_line d (z ++ l)

-- ---- bytes by their lines

pub with_last : (d : BookParser) (n : ℕ) (z : List ℕ) → has_lf z ≡ false → with_bytes d n z ≡ with_pending d n z
unfolding with_bytes after_lines
with_last d n z none = rw (ended_none z none, pending_none z none, add-zero n) refl

abbrev pub then_bytes : List ℕ → Progress → Result Progress At
then_bytes r p = with_bytes p.parser p.number r

-- the state after a line that has ended
unfoldable pub with_line : BookParser → ℕ → List ℕ → Total
with_line d n line = on_line n (after_line d line) >>= λ e. Ok (record { parser = e; number = n + 1; pending = [] })

pub with_first : (d : BookParser) (n : ℕ) (z r : List ℕ) → has_lf z ≡ false
    → with_bytes d n (z ++ 10 ∷ r) ≡ (with_line d n z >>= then_bytes r)
unfolding with_bytes with_line after_lines
with_first d n z r none =
    let shift : n + suc (length (ended_lines r)) ≡ n + 1 + length (ended_lines r) = omega arith in
    let go : (s : Result BookParser At) → ((s >>= λ e. after_lines e (n + 1) (ended_lines r))
    >>= λ e. with_pending e (n + 1 + length (ended_lines r)) (pending_line r))
    ≡ ((s >>= λ (e : BookParser). Ok (record { parser = e; number = n + 1; pending = [] })) >>= then_bytes r) =
    λ s. elim s as (λ s. ((s >>= λ e. after_lines e (n + 1) (ended_lines r))
    >>= λ e. with_pending e (n + 1 + length (ended_lines r)) (pending_line r))
    ≡ ((s >>= λ (e : BookParser). Ok (record { parser = e; number = n + 1; pending = [] })) >>= then_bytes r))
    [ Ok e ↦ refl | Err at ↦ refl ] in
    rw (ended_first z r none, pending_first z r, shift) (go (on_line n (after_line d z)))

-- of the begin of the first line only the kept bytes matter
with_held : (d : BookParser) (n : ℕ) (z : List ℕ) → has_lf z ≡ false → (ys : List ℕ)
    → with_bytes d n (z ++ ys) ≡ (on_line n (held z) >>= λ begun. with_bytes d n (begun ++ ys))
unfolding with_pending with_line
with_held d n z none =
    let Goal : List ℕ → Result (List ℕ) Why
    → Type 0 = λ ys h. with_bytes d n (z ++ ys) ≡ (on_line n h >>= λ begun. with_bytes d n (begun ++ ys)) in
    let no : (begun l : List ℕ) → held z ≡ Ok begun → has_lf l ≡ false
    → has_lf (begun ++ l) ≡ false = λ begun l e last. rw (list_any-append, held_lf z begun none e, last) refl in
    let none_in : (l : List ℕ) → has_lf l ≡ false → has_lf (z ++ l) ≡ false = λ l last. rw (list_any-append, none, last) refl in
    by_lines (λ ys. Goal ys (held z))
    (λ l last. elim (held z) as (λ h. held z ≡ h → Goal l h) [
      | Ok begun ↦ λ e. with_last d n (z ++ l) (none_in l last)
          ∙ rw (← held_more z l begun e) (sym (with_last d n (begun ++ l) (no begun l e last)))
      | Err why ↦ λ e. with_last d n (z ++ l) (none_in l last) ∙ rw (held_long z l why e) refl
    ] refl)
    (λ l r first rest. rw (← append_assoc z l (10 ∷ r)) (with_first d n (z ++ l) r (none_in l first) ∙ elim (held z) as (λ h. held z ≡ h
    → (with_line d n (z ++ l) >>= then_bytes r) ≡ (on_line n h >>= λ begun. with_bytes d n (begun ++ (l ++ 10 ∷ r)))) [
      | Ok begun ↦ λ e. rw (← append_assoc begun l (10 ∷ r), ← after_more d z l begun e)
          (sym (with_first d n (begun ++ l) r (no begun l e first)))
      | Err why ↦ λ e. rw (after_long d z l why e) refl
    ] refl))

-- ---- wherever the bytes are cut

abbrev and_on : List ℕ → Progress → Result Progress At
and_on ys p = with_bytes p.parser p.number (p.pending ++ ys)

bind_assoc : {A B C E : Type 0} (r : Result A E) (f : A → Result B E) (g : B → Result C E) (h : A → Result C E)
    → ((x : A) → h x ≡ (f x >>= g)) → (r >>= h) ≡ ((r >>= f) >>= g)
bind_assoc (Ok x) f g h e = e x
bind_assoc (Err d) f g h e = refl

pub in_pieces : (ys xs : List ℕ) (d : BookParser) (n : ℕ) → with_bytes d n (xs ++ ys) ≡ (with_bytes d n xs >>= and_on ys)
unfolding with_pending
in_pieces ys =
    by_lines (λ xs. (d : BookParser) (n : ℕ) → with_bytes d n (xs ++ ys) ≡ (with_bytes d n xs >>= and_on ys))
    (λ z none d n. with_held d n z none ys ∙ bind_assoc (on_line n (held z)) (begins d n) (and_on ys) _ (λ begun. refl)
    ∙ ap (λ (r : Result Progress At). r >>= and_on ys) (sym (with_last d n z none)))
    (λ z r none rest d n. rw (append_assoc z (10 ∷ r) ys) (with_first d n z (r ++ ys) none
    ∙ bind_assoc (with_line d n z) (then_bytes r) (and_on ys) (then_bytes (r ++ ys)) (λ p. rest p.parser p.number)
    ∙ ap (λ (s : Result Progress At). s >>= and_on ys) (sym (with_first d n z r none))))

-- ---- the invariant between two pieces

pub on_ok : {A : Type 0} (n : ℕ) (r : Result A Why) (x : A) → on_line n r ≡ Ok x → r ≡ Ok x
on_ok n (Ok y) x e = cc
on_ok n (Err why) x e = absurd cc

abbrev at : {A : Type 0} → A → Result A At
at x = Ok x

pub at_is : {A : Type 0} (x y : A) → at x ≡ at y → x ≡ y
at_is x y e = cc

pub at_book : (b c : Book) → at b ≡ at c → b ≡ c
at_book b c e = cc

pub progress_valid : (xs : List ℕ) (d : BookParser) (n : ℕ) (p : Progress) → IsBookParser d → with_bytes d n xs ≡ Ok p → IsProgress p
unfolding with_pending with_line
progress_valid =
    by_lines (λ xs. (d : BookParser) (n : ℕ) (p : Progress) → IsBookParser d → with_bytes d n xs ≡ Ok p → IsProgress p)
    (λ z none d n p valid e.
    let b = bind_ok (on_line n (held z)) _ p (sym (with_last d n z none) ∙ e) in
    rw (← at_is _ p b.2) record { parser = valid; pending = held_lf z b.0 none (on_ok n (held z) b.0 b.1) })
    (λ z r none rest d n p valid e.
    let q = bind_ok (with_line d n z) (then_bytes r) p (sym (with_first d n z r none) ∙ e) in
    let l = bind_ok (on_line n (after_line d z)) _ q.0 q.1 in
    let next : IsBookParser q.0.parser = rw (← at_is _ q.0 l.2) (line_valid d l.0 z valid (on_ok n (after_line d z) l.0 l.1)) in
    rest q.0.parser q.0.number p next q.2)

pub progress_number : (xs : List ℕ) (d : BookParser) (n : ℕ) (p : Progress) → with_bytes d n xs ≡ Ok p
    → p.number ≡ n + length (ended_lines xs)
unfolding with_bytes with_pending
progress_number xs d n p e =
    let b = bind_ok (after_lines d n (ended_lines xs)) _ p e in
    let k = bind_ok (on_line (n + length (ended_lines xs)) (held (pending_line xs))) _ p b.2 in
    ap (λ (q : Progress). q.number) (sym (at_is _ p k.2))

pub progress_pending : (xs : List ℕ) (d : BookParser) (n : ℕ) (p : Progress) → with_bytes d n xs ≡ Ok p
    → held (pending_line xs) ≡ Ok p.pending
unfolding with_bytes with_pending
progress_pending xs d n p e =
    let b = bind_ok (after_lines d n (ended_lines xs)) _ p e in
    let m = n + length (ended_lines xs) in
    let k = bind_ok (on_line m (held (pending_line xs))) _ p b.2 in
    on_ok m (held (pending_line xs)) k.0 k.1 ∙ ap (λ (q : Progress). kept_as q.pending) (at_is _ p k.2)

-- ---- the steps of the code

pub line_is : (d : BookParser) (n : ℕ) (line rest : List ℕ) (r : Result BookParser Why) → has_lf line ≡ false
    → after_line d line ≡ r → with_bytes d n (line ++ 10 ∷ rest)
    ≡ ((on_line n r >>= λ (e : BookParser). at (record { parser = e; number = n + 1; pending = [] })) >>= then_bytes rest)
unfolding with_line
line_is d n line rest r one is = with_first d n line rest one ∙ rw is refl

pub line_on : (d : BookParser) (n : ℕ) (rest next after : List ℕ) (total : Total)
    → (rest ≡ next ++ 10 ∷ after) × (has_lf next ≡ false) → with_bytes d n rest ≡ total
    → with_bytes d n (next ++ 10 ∷ after) ≡ total
line_on d n rest next after total cut_is so_far = ap (with_bytes d n) (sym cut_is.0) ∙ so_far

pub line_ends : (d : BookParser) (n : ℕ) (rest : List ℕ) (total : Total) → has_lf rest ≡ false
    → with_bytes d n rest ≡ total → total ≡ with_pending d n rest
line_ends d n rest total last so_far = sym so_far ∙ with_last d n rest last

pub line_fails : (d : BookParser) (n : ℕ) (line rest : List ℕ) (total : Total) (fault : LineFault) → has_lf line ≡ false
    → Fails fault (after_line d line) → with_bytes d n (line ++ 10 ∷ rest) ≡ total → FailsAt (placed n fault) total
line_fails d n line rest total lines.NoMemory one fails so_far = tt
line_fails d n line rest total (lines.Bad why) one fails so_far = sym so_far ∙ line_is d n line rest (Err why) one fails

pub piece_rest : (d : BookParser) (n : ℕ) (begun rest : List ℕ) (r : Result Progress BookFault) → has_lf begun ≡ false
    → has_lf rest ≡ false → ReturnsAt r (with_pending d n (begun ++ rest))
    → ReturnsAt r (with_bytes d n (begun ++ rest))
piece_rest d n begun rest r none last returned =
    let no : has_lf (begun ++ rest) ≡ false = rw (list_any-append, none, last) refl in
    subst (ReturnsAt r) (sym (with_last d n (begun ++ rest) no)) returned

-- a line with its last bytes, after its kept bytes or as it is in the piece
abbrev ended_as : List ℕ → List ℕ → Result (List ℕ) Why
ended_as begun last = cond (is_filled begun) (held (begun ++ last)) (kept_as [])

abbrev pub whole : List ℕ → List ℕ → List ℕ
whole kept last = cond (is_filled kept) kept last

pub record IsWhole (begun last line : List ℕ) : Type 0 where
  pub one : has_lf line ≡ false
  pub same : (d : BookParser) → after_line d line ≡ after_line d (begun ++ last)

pub whole_is : (begun last kept : List ℕ) → has_lf begun ≡ false → has_lf last ≡ false → ended_as begun last ≡ Ok kept
    → IsWhole begun last (whole kept last)
whole_is [] last kept none one e = rw (← kept_is [] kept e) record { one = one; same = λ d. refl }
whole_is (b ∷ bs) last kept none one e =
    let both : has_lf (b ∷ bs ++ last) ≡ false = rw (list_any-append is_lf (b ∷ bs) last, none, one) refl in
    let is : held (b ∷ bs ++ last) ≡ Ok kept = e in
    rw (held_filled b (bs ++ last) kept e) record {
      one = held_lf (b ∷ bs ++ last) kept both e;
      same = λ d. ap (λ (r : Result (List ℕ) Why). r >>= after_line d) (sym is) ∙ held_line d (b ∷ bs ++ last);
    }

piece_is : (d : BookParser) (n : ℕ) (begun piece last rest line : List ℕ) → has_lf begun ≡ false
    → (piece ≡ last ++ 10 ∷ rest) × (has_lf last ≡ false) → IsWhole begun last line
    → with_bytes d n (begun ++ piece) ≡ with_bytes d n (line ++ 10 ∷ rest)
unfolding with_line
piece_is d n begun piece last rest line none cut_is w =
    let both : has_lf (begun ++ last) ≡ false = rw (list_any-append, none, cut_is.1) refl in
    rw (cut_is.0, ← append_assoc begun last (10 ∷ rest))
    (with_first d n (begun ++ last) rest both ∙ rw (← w.same d) (sym (with_first d n line rest w.one)))

pub piece_returned : (d e : BookParser) (n m : ℕ) (begun piece last rest line after : List ℕ)
    (r : Result Progress BookFault) → has_lf begun ≡ false → (piece ≡ last ++ 10 ∷ rest) × (has_lf last ≡ false)
    → IsWhole begun last line → with_bytes d n (line ++ 10 ∷ rest) ≡ with_pending e m after
    → ReturnsAt r (with_pending e m after) → ReturnsAt r (with_bytes d n (begun ++ piece))
piece_returned d e n m begun piece last rest line after r none cut_is w is returned =
    subst (ReturnsAt r) (sym (piece_is d n begun piece last rest line none cut_is w ∙ is)) returned

pub piece_fails : (d : BookParser) (n : ℕ) (begun piece last rest line : List ℕ) (fault : BookFault)
    → has_lf begun ≡ false → (piece ≡ last ++ 10 ∷ rest) × (has_lf last ≡ false) → IsWhole begun last line
    → FailsAt fault (with_bytes d n (line ++ 10 ∷ rest)) → FailsAt fault (with_bytes d n (begun ++ piece))
piece_fails d n begun piece last rest line fault none cut_is w fails =
    subst (FailsAt fault) (sym (piece_is d n begun piece last rest line none cut_is w)) fails

pub end_fails : (d : BookParser) (n : ℕ) (begun piece last rest : List ℕ) (fault : LineFault) → has_lf begun ≡ false
    → (piece ≡ last ++ 10 ∷ rest) × (has_lf last ≡ false) → Fails fault (ended_as begun last)
    → FailsAt (placed n fault) (with_bytes d n (begun ++ piece))
end_fails d n begun piece last rest lines.NoMemory none cut_is fails = tt
end_fails d n [] piece last rest (lines.Bad why) none cut_is fails = absurd cc
end_fails d n (b ∷ bs) piece last rest (lines.Bad why) none cut_is fails =
    let both : has_lf (b ∷ bs ++ last) ≡ false = rw (list_any-append is_lf (b ∷ bs) last, none, cut_is.1) refl in
    let bad : after_line d (b ∷ bs ++ last) ≡ Err why = sym (held_line d (b ∷ bs ++ last)) ∙ rw fails refl in
    rw (cut_is.0, ← append_assoc (b ∷ bs) last (10 ∷ rest)) (line_is d n (b ∷ bs ++ last) rest (Err why) both bad)

-- the result if the file ends within a line

abbrev complete : Progress → Result Book At
complete q = finished q.number (book_in q.parser)

filled : (xs : List ℕ) → xs ≢ [] → is_filled xs ≡ true
filled [] some = absurd (some refl)
filled (x ∷ xs) some = refl

ended_is : (p : Progress) → IsProgress p → p.pending ≢ [] → ended p ≡ (with_bytes p.parser p.number (p.pending ++ 10 ∷ []) >>= complete)
unfolding ended with_pending
ended_is p valid some =
    let n = p.number in
    let go : (r : Result BookParser Why) → (on_line n r >>= λ d. finished (n + 1) (book_in d))
    ≡ (((on_line n r >>= λ (e : BookParser). at (record { parser = e; number = n + 1; pending = [] })) >>= then_bytes [])
    >>= complete) =
    λ r. elim r as (λ r. (on_line n r >>= λ d. finished (n + 1) (book_in d))
    ≡ (((on_line n r >>= λ (e : BookParser). at (record { parser = e; number = n + 1; pending = [] })) >>= then_bytes []) >>= complete))
    [ Ok e ↦ ap (λ (t : Total). t >>= complete) (sym (with_last e (n + 1) [] refl)) | Err why ↦ refl ] in
    rw (filled p.pending some) (go (after_line p.parser p.pending) ∙ ap (λ (t : Total). t >>= complete)
    (sym (line_is p.parser n p.pending [] (after_line p.parser p.pending) valid.pending refl)))

pub end_returned : (p : Progress) (e : BookParser) (m : ℕ) (after : List ℕ) → IsProgress p → p.pending ≢ []
    → length after ≤ 0 → with_bytes p.parser p.number (p.pending ++ 10 ∷ []) ≡ with_pending e m after
    → finished m (book_in e) ≡ ended p
unfolding with_pending
end_returned p e m [] valid some none is = sym (ended_is p valid some ∙ ap (λ (t : Total). t >>= complete) is)
end_returned p e m (b ∷ bs) valid some none is = absurd (omega (arith, none))

pub end_returned_fault : (p : Progress) (fault : BookFault) → IsProgress p → p.pending ≢ []
    → FailsAt fault (with_bytes p.parser p.number (p.pending ++ 10 ∷ [])) → FailsAt fault (ended p)
end_returned_fault p faults.NoMemory valid some fails = tt
end_returned_fault p (faults.At line why) valid some fails = ended_is p valid some ∙ rw fails refl

-- the last line, and then the book
pub end_then : (p q : Progress) (read : Result (Unit {0}) BookFault) (book : Result Book BookFault)
    → MatchResult read (λ _. finished q.number (book_in q.parser) ≡ ended p) (λ fault. FailsAt fault (ended p))
    → ReturnsAt book (finished q.number (book_in q.parser)) → ReturnsAt (result_and read book) (ended p)
end_then p q (Ok x) book is returned = subst (ReturnsAt book) is returned
end_then p q (Err fault) book fails returned = fails
