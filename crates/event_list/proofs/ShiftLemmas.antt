-- Moving events, event by event.
use Rattle.std.proofs.Common.{◌≡◌, ℕ, ◌+◌, ◌<◌, ◌≤◌, ℤ, true, false, cond, List, [], ◌∷◌, length, get_or, drop, refl, sym, ap, ◌∙◌, arith}
use Rattle.std.specs.Prelude.{sum_by}
use Rattle.std.proofs.lemmas.List.Sums.{sum_by-cons}
use Rattle.std.proofs.lemmas.List.{at_drop_more, at_drop_all}
use Rattle.curve_law.specs.declared.event.Event.{Event}
use Rattle.station_table.specs.declared.basis.Basis.{Basis}
use Rattle.curve_law.proofs.CoverLemmas.{by_test}
use Rattle.event_list.specs.Order.{ordered}
use Rattle.event_list.specs.Shifts.{moved, is_within, moved_within, shifted_of}
use Rattle.event_list.proofs.OrderLemmas.{ordered-same, sum-ordered}

pub moved-kept : (b : Basis) (begin end : ℤ) (es : List Event) (k : ℕ) (d e : Event) → k < length es
    → e ≡ moved b (get_or es k d) → is_within begin end e ≡ true
    → moved_within b begin end (drop k es) ≡ e ∷ moved_within b begin end (drop (k + 1) es)
moved-kept b begin end es k d e within is kept =
    let test = rw is at kept in at_drop_more (moved_within b begin end) es k d within ∙ rw (is, test)

pub moved-dropped : (b : Basis) (begin end : ℤ) (es : List Event) (k : ℕ) (d e : Event) → k < length es
    → e ≡ moved b (get_or es k d) → is_within begin end e ≡ false
    → moved_within b begin end (drop k es) ≡ moved_within b begin end (drop (k + 1) es)
moved-dropped b begin end es k d e within is kept =
    let test = rw is at kept in at_drop_more (moved_within b begin end) es k d within ∙ rw test

pub moved-done : (b : Basis) (begin end : ℤ) (es : List Event) (k : ℕ) → length es ≤ k → moved_within b begin end (drop k es) ≡ []
moved-done b begin end es k past = at_drop_all (moved_within b begin end) es k past

-- an event moved, or dropped if it is outside the span
abbrev moved_part : Basis → ℤ → ℤ → (Event → ℕ) → Event → ℕ
moved_part b begin end f e = cond (is_within begin end (moved b e)) (f (moved b e)) 0

sum-moved : (b : Basis) (begin end : ℤ) (f : Event → ℕ) (es : List Event)
    → sum_by f (moved_within b begin end es) ≡ sum_by (moved_part b begin end f) es
sum-moved b begin end f [] = refl
sum-moved b begin end f (e ∷ es) =
    let rest = sum-moved b begin end f es in
    let all = sum_by-cons (moved_part b begin end f) e es in
    by_test (is_within begin end (moved b e))
    (λ kept.
    let part : moved_part b begin end f e ≡ f (moved b e) = rw kept in
    let list : moved_within b begin end (e ∷ es) ≡ moved b e ∷ moved_within b begin end es = rw kept in
    let sum : f (moved b e) + sum_by f (moved_within b begin end es) ≡ sum_by (moved_part b begin end f) (e ∷ es) = omega arith in
    ap (sum_by f) list ∙ sum_by-cons f (moved b e) (moved_within b begin end es) ∙ sum)
    (λ dropped.
    let part : moved_part b begin end f e ≡ 0 = rw dropped in
    let list : moved_within b begin end (e ∷ es) ≡ moved_within b begin end es = rw dropped in
    let sum : sum_by f (moved_within b begin end es) ≡ sum_by (moved_part b begin end f) (e ∷ es) = omega arith in
    ap (sum_by f) list ∙ sum)

-- the order of the events doesn't matter for the order of the moved ones
pub shifted-ordered : (b : Basis) (begin end : ℤ) (es : List Event)
    → shifted_of b begin end (ordered es) ≡ ordered (moved_within b begin end es)
unfolding shifted_of
shifted-ordered b begin end es =
    ordered-same (moved_within b begin end (ordered es)) (moved_within b begin end es)
    (λ f. sum-moved b begin end f (ordered es) ∙ sum-ordered (moved_part b begin end f) es ∙ sym (sum-moved b begin end f es))
