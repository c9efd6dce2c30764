-- The pieces of a span don't depend on the limit on the number of halvings or of blocks, if it is
-- large enough; and the cells of a span are the cells of its pieces.
use Rattle.std.proofs.Common.{◌≡◌, ℕ, zero, suc, ◌-◌, ◌/◌, ◌≤◌, ◌<◌, ℤ, pos, ◌+ℤ◌, ◌≤ℤ◌, ◌<ℤ◌, Bool, true, false, cond, nat_le, List, [], ◌∷◌, ◌++◌, length, map, refl, sym, ap, ◌∙◌, arith}
use Rattle.std.proofs.lemmas.Bool.Decides.{nat_tests}
use Rattle.std.proofs.lemmas.Int.{ints}
use Rattle.std.proofs.lemmas.List.{map-append}
use Rattle.curve_law.specs.declared.cell.Cell.TheVariants.{Quiet}
use Rattle.curve_law.specs.CurveSpec.{CurveSpec}
use Rattle.curve_law.specs.declared.quiet.TheConstants.{MOST_MINUTES}
use Rattle.curve_law.specs.Pieces.{Interval, interval, stays_whole, halves_within, pieces_of_block, blocks_within, pieces_of}
use Rattle.curve_law.specs.Cover.{is_quiet, unit_cell, cell_of, split, cover}

-- a fact that is proved both if a test is true and if it is false
pub by_test : {P : Type 0} (b : Bool) → (b ≡ true → P) → (b ≡ false → P) → P
by_test true is isn = is refl
by_test false is isn = isn refl

-- one step of the halving rule: the whole interval if it isn't halved, otherwise `halves`, the
-- pieces of both halves
abbrev pub halved : (ℤ → ℕ → Bool) → ℤ → ℕ → List Interval → List Interval
halved test a n halves = cond (stays_whole test a n) (interval a n ∷ []) halves

halved-more : (test : ℤ → ℕ → Bool) (a : ℤ) (n : ℕ) → stays_whole test a n ≡ false → 2 ≤ n
halved-more test a n halve = grind (arith, nat_tests)

halved-same : (test : ℤ → ℕ → Bool) (a : ℤ) (n : ℕ) (xs ys : List Interval) → (2 ≤ n → xs ≡ ys)
    → halved test a n xs ≡ halved test a n ys
halved-same test a n xs ys same = by_test (stays_whole test a n)
    (λ whole. rw whole refl)
    (λ halve. ap (halved test a n) (same (halved-more test a n halve)))

append-same : {A : Type 0} {xs xs' ys ys' : List A} → xs ≡ xs' → ys ≡ ys' → xs ++ ys ≡ xs' ++ ys'
append-same e f = cc

one_test : {A : Type 0} (b : Bool) (x y : A) → elim b [ true ↦ x | false ↦ y ] ≡ cond b x y
one_test true x y = refl
one_test false x y = refl

pub halves_within-step : (d n : ℕ) (test : ℤ → ℕ → Bool) (a : ℤ) → halves_within (suc d) test a n
    ≡ halved test a n (halves_within d test a (n / 2) ++ halves_within d test (a +ℤ pos (n / 2)) (n - n / 2))
unfolding halves_within
halves_within-step d n test a = one_test (stays_whole test a n) _ _

-- one step of the rule for blocks: the pieces of the only block, or the pieces of the first block
-- followed by `rest`
abbrev pub blocked : (ℤ → ℕ → Bool) → ℤ → ℕ → List Interval → List Interval
blocked test a n rest = cond (nat_le n MOST_MINUTES) (pieces_of_block test a n) (pieces_of_block test a MOST_MINUTES ++ rest)

pub blocks_within-step : (d n : ℕ) (test : ℤ → ℕ → Bool) (a : ℤ) → blocks_within (suc d) test a n
    ≡ blocked test a n (blocks_within d test (a +ℤ pos MOST_MINUTES) (n - MOST_MINUTES))
unfolding blocks_within
blocks_within-step d n test a = one_test (nat_le n MOST_MINUTES) _ _

halves_within-more : (d e n : ℕ) (test : ℤ → ℕ → Bool) (a : ℤ) → 1 ≤ n → n ≤ d → n ≤ e
    → halves_within d test a n ≡ halves_within e test a n
halves_within-more zero e n test a some few also = absurd (omega arith)
halves_within-more (suc d) zero n test a some few also = absurd (omega arith)
halves_within-more (suc d) (suc e) n test a some few also =
    halves_within-step d n test a
    ∙ halved-same test a n _ _ (λ two.
    append-same
    (halves_within-more d e (n / 2) test a (omega arith) (omega arith) (omega arith))
    (halves_within-more d e (n - n / 2) test (a +ℤ pos (n / 2)) (omega arith) (omega arith) (omega arith)))
    ∙ sym (halves_within-step e n test a)

block-none : (test : ℤ → ℕ → Bool) (a : ℤ) → pieces_of_block test a 0 ≡ []
unfolding pieces_of_block halves_within
block-none test a = refl

-- if the n minutes aren't halved, they are the only piece of their block
pub block-whole : (test : ℤ → ℕ → Bool) (a : ℤ) (n : ℕ) → 1 ≤ n → stays_whole test a n ≡ true
    → pieces_of_block test a n ≡ interval a n ∷ []
unfolding pieces_of_block
block-whole test a zero some whole = absurd (omega arith)
block-whole test a (suc n) some whole = halves_within-step n (suc n) test a ∙ rw whole refl

-- if the n minutes are halved, their pieces are the pieces of the first half and then of the second
pub block-halves : (test : ℤ → ℕ → Bool) (a : ℤ) (n : ℕ) → stays_whole test a n ≡ false
    → pieces_of_block test a n ≡ pieces_of_block test a (n / 2) ++ pieces_of_block test (a +ℤ pos (n / 2)) (n - n / 2)
unfolding pieces_of_block
block-halves test a zero halve = absurd (let two = halved-more test a 0 halve in omega arith)
block-halves test a (suc n) halve =
    let two = halved-more test a (suc n) halve in
    let first = halves_within-more n (suc n / 2) (suc n / 2) test a (omega arith) (omega arith) (omega arith) in
    let second = halves_within-more n (suc n - suc n / 2) (suc n - suc n / 2) test (a +ℤ pos (suc n / 2)) (omega arith)
    (omega arith) (omega arith) in
    halves_within-step n (suc n) test a ∙ rw (halve, first, second) refl

blocks_within-more : (d e n : ℕ) (test : ℤ → ℕ → Bool) (a : ℤ) → n ≤ d → n ≤ e → blocks_within d test a n ≡ blocks_within e test a n
unfolding blocks_within
blocks_within-more zero zero n test a few also = refl
blocks_within-more zero (suc e) zero test a few also = sym (block-none test a)
blocks_within-more zero (suc e) (suc n) test a few also = absurd (omega arith)
blocks_within-more (suc d) zero zero test a few also = block-none test a
blocks_within-more (suc d) zero (suc n) test a few also = absurd (omega arith)
blocks_within-more (suc d) (suc e) n test a few also =
    blocks_within-step d n test a
    ∙ ap (blocked test a n) (blocks_within-more d e (n - MOST_MINUTES) test (a +ℤ pos MOST_MINUTES) (omega arith) (omega arith))
    ∙ sym (blocks_within-step e n test a)

-- a span of no minutes has no pieces
pub pieces-none : (test : ℤ → ℕ → Bool) (a : ℤ) → pieces_of test a 0 ≡ []
unfolding pieces_of blocks_within
pieces-none test a = refl

-- a span of at most 1,024 minutes is one block
pub pieces-last : (test : ℤ → ℕ → Bool) (a : ℤ) (n : ℕ) → n ≤ MOST_MINUTES → pieces_of test a n ≡ pieces_of_block test a n
unfolding pieces_of
pieces-last test a zero few = pieces-none test a ∙ sym (block-none test a)
pieces-last test a (suc n) few =
    let e : nat_le (suc n) MOST_MINUTES ≡ true = grind (arith, nat_tests) in
    blocks_within-step n (suc n) test a ∙ rw e refl

-- the pieces of a longer span are the pieces of its first 1,024 minutes, and then of the rest
pub pieces-block : (test : ℤ → ℕ → Bool) (a : ℤ) (n : ℕ) → MOST_MINUTES < n → pieces_of test a n
    ≡ pieces_of_block test a MOST_MINUTES ++ pieces_of test (a +ℤ pos MOST_MINUTES) (n - MOST_MINUTES)
unfolding pieces_of
pieces-block test a zero more = absurd (omega arith)
pieces-block test a (suc n) more =
    let e : nat_le (suc n) MOST_MINUTES ≡ false = grind (arith, nat_tests) in
    let rest = blocks_within-more n (suc n - MOST_MINUTES) (suc n - MOST_MINUTES) test (a +ℤ pos MOST_MINUTES) (omega arith) (omega arith) in
    blocks_within-step n (suc n) test a ∙ rw e (ap (λ pieces. pieces_of_block test a MOST_MINUTES ++ pieces) rest)

-- ---- consecutive pieces, none of which is halved

-- `AreWhole test a end pieces`: the pieces follow each other without gaps from minute `a` up to
-- `end`, and each has at least one minute and isn't halved
unfoldable pub AreWhole : (ℤ → ℕ → Bool) → ℤ → ℤ → List Interval → Type 0
AreWhole test a end [] = a ≡ end
AreWhole test a end (piece ∷ pieces) =
    (piece.begin ≡ a) × (1 ≤ piece.minutes) × (stays_whole test a piece.minutes ≡ true)
    × AreWhole test (a +ℤ pos piece.minutes) end pieces

whole-append : (test : ℤ → ℕ → Bool) (a b end : ℤ) (xs ys : List Interval) → AreWhole test a b xs → AreWhole test b end ys
    → AreWhole test a end (xs ++ ys)
unfolding AreWhole
whole-append test a b end [] ys first second = rw first second
whole-append test a b end (x ∷ xs) ys first second =
    (first.0, first.1, first.2, whole-append test (a +ℤ pos x.minutes) b end xs ys first.3 second)

whole-none : (test : ℤ → ℕ → Bool) (a : ℤ) → AreWhole test a (a +ℤ pos 0) []
unfolding AreWhole
whole-none test a = omega (arith, ints)

whole-one : (test : ℤ → ℕ → Bool) (a : ℤ) (n : ℕ) → 1 ≤ n → stays_whole test a n ≡ true → AreWhole test a (a +ℤ pos n) (interval a n ∷ [])
unfolding AreWhole
whole-one test a n some whole = (refl, some, whole, refl)

block-whole-within : (d n : ℕ) (test : ℤ → ℕ → Bool) (a : ℤ) → n ≤ d → AreWhole test a (a +ℤ pos n) (pieces_of_block test a n)
block-whole-within d zero test a few = rw (block-none test a) (whole-none test a)
block-whole-within zero (suc n) test a few = absurd (omega arith)
block-whole-within (suc d) (suc n) test a few = by_test (stays_whole test a (suc n))
    (λ whole. rw (block-whole test a (suc n) (omega arith) whole) (whole-one test a (suc n) (omega arith) whole))
    (λ halve.
    let two = halved-more test a (suc n) halve in
    let all : a +ℤ pos (suc n / 2) +ℤ pos (suc n - suc n / 2) ≡ a +ℤ pos (suc n) = omega (arith, ints) in
    rw (block-halves test a (suc n) halve) (whole-append test a (a +ℤ pos (suc n / 2)) _ _ _
    (block-whole-within d (suc n / 2) test a (omega arith))
    (rw all at (block-whole-within d (suc n - suc n / 2) test (a +ℤ pos (suc n / 2)) (omega arith)))))

pieces-whole-within : (d n : ℕ) (test : ℤ → ℕ → Bool) (a : ℤ) → n ≤ d → AreWhole test a (a +ℤ pos n) (pieces_of test a n)
pieces-whole-within zero n test a few =
    let none : n ≡ 0 = omega arith in rw (none, pieces-none test a) (whole-none test a)
pieces-whole-within (suc d) n test a few = by_test (nat_le n MOST_MINUTES)
    (λ last. rw (pieces-last test a n (grind (arith, nat_tests))) (block-whole-within n n test a (omega arith)))
    (λ more.
    let many : MOST_MINUTES < n = grind (arith, nat_tests) in
    let all : a +ℤ pos MOST_MINUTES +ℤ pos (n - MOST_MINUTES) ≡ a +ℤ pos n = omega (arith, ints) in
    rw (pieces-block test a n many) (whole-append test a (a +ℤ pos MOST_MINUTES) _ _ _
    (block-whole-within MOST_MINUTES MOST_MINUTES test a (omega arith))
    (rw all at (pieces-whole-within d (n - MOST_MINUTES) test (a +ℤ pos MOST_MINUTES) (omega arith)))))

-- the pieces of a span follow each other without gaps over the whole span, and none is halved
pub pieces-whole : (test : ℤ → ℕ → Bool) (a : ℤ) (n : ℕ) → AreWhole test a (a +ℤ pos n) (pieces_of test a n)
pieces-whole test a n = pieces-whole-within n n test a (omega arith)

-- such pieces are at most as many as the minutes from `a` up to `end`
pub whole-few : (test : ℤ → ℕ → Bool) (a end : ℤ) (pieces : List Interval) → AreWhole test a end pieces → (a +ℤ pos (length pieces)) ≤ℤ end
unfolding AreWhole
whole-few test a end [] whole = omega (arith, ints)
whole-few test a end (piece ∷ pieces) whole =
    let some = whole.1 in
    let rest = whole-few test (a +ℤ pos piece.minutes) end pieces whole.3 in
    omega (arith, ints)

-- a block has at most as many pieces as minutes
pub block-few : (test : ℤ → ℕ → Bool) (a : ℤ) (n : ℕ) → length (pieces_of_block test a n) ≤ n
block-few test a n =
    let few = whole-few test a (a +ℤ pos n) _ (block-whole-within n n test a (omega arith)) in omega (arith, ints)

-- a span has at most as many pieces as minutes
pub pieces-few : (test : ℤ → ℕ → Bool) (a : ℤ) (n : ℕ) → length (pieces_of test a n) ≤ n
pieces-few test a n = let few = whole-few test a (a +ℤ pos n) _ (pieces-whole test a n) in omega (arith, ints)

whole-some : (test : ℤ → ℕ → Bool) (a end : ℤ) (pieces : List Interval) → AreWhole test a end pieces → a <ℤ end → 1 ≤ length pieces
unfolding AreWhole
whole-some test a end [] whole some = absurd (omega (arith, ints))
whole-some test a end (piece ∷ pieces) whole some = omega arith

-- a block of at least one minute has at least one piece
pub block-some : (test : ℤ → ℕ → Bool) (a : ℤ) (n : ℕ) → 1 ≤ n → 1 ≤ length (pieces_of_block test a n)
block-some test a n some =
    whole-some test a (a +ℤ pos n) _ (block-whole-within n n test a (omega arith)) (omega (arith, ints))

-- ---- the cells of a span

pub split-one : (c : CurveSpec) (a : ℤ) → split c a 1 ≡ unit_cell c.track a ∷ []
unfolding split pieces_of_block halves_within
split-one c a = refl

pub split-quiet : (c : CurveSpec) (a : ℤ) (n : ℕ) → is_quiet c a n ≡ true → split c a n ≡ Quiet n ∷ []
unfolding split is_quiet
split-quiet c a n quiet =
    let more : nat_le n 1 ≡ false = grind (arith, nat_tests) in
    let whole : stays_whole (is_quiet c) a n ≡ true = rw (more, quiet) refl in
    rw (block-whole (is_quiet c) a n (grind (arith, nat_tests)) whole) (rw more refl)

pub split-halves : (c : CurveSpec) (a : ℤ) (n : ℕ) → 2 ≤ n → is_quiet c a n ≡ false
    → split c a n ≡ split c a (n / 2) ++ split c (a +ℤ pos (n / 2)) (n - n / 2)
unfolding split
split-halves c a n two loud =
    let more : nat_le n 1 ≡ false = grind (arith, nat_tests) in
    let halve : stays_whole (is_quiet c) a n ≡ false = rw (more, loud) refl in
    ap (map (cell_of c)) (block-halves (is_quiet c) a n halve) ∙ map-append (cell_of c) _ _

pub cover-none : (c : CurveSpec) (a : ℤ) → cover c a 0 ≡ []
unfolding cover pieces_of blocks_within
cover-none c a = refl

pub cover-last : (c : CurveSpec) (a : ℤ) (n : ℕ) → n ≤ MOST_MINUTES → cover c a n ≡ split c a n
unfolding cover split
cover-last c a n few = ap (map (cell_of c)) (pieces-last (is_quiet c) a n few)

pub cover-block : (c : CurveSpec) (a : ℤ) (n : ℕ) → MOST_MINUTES < n
    → cover c a n ≡ split c a MOST_MINUTES ++ cover c (a +ℤ pos MOST_MINUTES) (n - MOST_MINUTES)
unfolding cover split
cover-block c a n more = ap (map (cell_of c)) (pieces-block (is_quiet c) a n more) ∙ map-append (cell_of c) _ _
