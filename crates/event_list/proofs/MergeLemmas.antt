-- The first event left in three sorted lists is the earliest of their first events.
use Rattle.std.proofs.Common.{◌≡◌, ℕ, ◌+◌, ℤ, true, false, List, [], ◌∷◌, ◌++◌, drop, length, refl, sym, ap, ◌∙◌, arith}
use Rattle.std.specs.Prelude.{pos, ◌+ℤ◌, All, IfSome, sum_by, Option, Some, None}
use Rattle.std.proofs.lemmas.List.Elements.{All-nil, All-cons, All-weaker, All-append}
use Rattle.std.proofs.lemmas.List.Sums.{sum_by-cons, sum_by-append}
use Rattle.curve_law.specs.declared.cell.Cell.{Cell}
use Rattle.curve_law.specs.declared.cell.Cell.TheVariants as cells
use Rattle.curve_law.specs.declared.event.Event.{Event}
use Rattle.curve_law.proofs.CoverLemmas.{by_test}
use Rattle.event_list.specs.declared.leading.Leading.TheVariants.{Turn, Slack, Mark}
use Rattle.event_list.specs.Merging.{Pending, searched, looked, looked_event, leads, ReturnsNext}
use Rattle.event_list.specs.Order.{comes_before, ordered}
use Rattle.event_list.specs.Workings.Coming.{first_of, IsLeading, IsAscending, Strand, MergeInvariant, merging_of}
use Rattle.event_list.proofs.OrderLemmas.{comes_before-asym, comes_before-trans, All-ordered, sum-ordered, ordered-ascending, ordered-is, ordered-same}

-- an optional event that doesn't come before another
abbrev NotBefore : Event → Event → Type 0
NotBefore e d = comes_before d e ≡ false

same_some : {A : Type 0} (x y : A) → Some x ≡ Some y → x ≡ y
same_some x y e = cc

leads-least : (e : Event) (b : Option Event) → leads (Some e) b ≡ true → IfSome b (NotBefore e)
leads-least e None is = tt
leads-least e (Some d) is = by_test (comes_before d e)
    (λ before. let never : false ≡ true = sym (rw before) ∙ is in cc)
    (λ after. after)

leads-none : (b : Option Event) → leads None b ≡ true → b ≡ None
leads-none None is = refl
leads-none (Some d) is = cc

pub leads-total : (a b : Option Event) → leads a b ≡ false → leads b a ≡ true
leads-total None None not = cc
leads-total None (Some e) not = refl
leads-total (Some d) None not = cc
leads-total (Some d) (Some e) not = by_test (comes_before e d)
    (λ before. rw (comes_before-asym e d before))
    (λ after. let never : true ≡ false = sym (rw after) ∙ not in cc)

pub leads-trans : (a b c : Option Event) → leads a b ≡ true → leads b c ≡ true → leads a c ≡ true
leads-trans a b None first second = refl
leads-trans a None (Some f) first second = cc
leads-trans None (Some e) (Some f) first second = cc
leads-trans (Some d) (Some e) (Some f) first second =
    rw (comes_before-trans f e d (leads-least e (Some f) second) (leads-least d (Some e) first))

first-none : (es : List Event) → first_of es ≡ None → es ≡ []
first-none [] is = refl
first-none (e ∷ es) is = cc

first-all : (e : Event) (es : List Event) → IsAscending es → IfSome (first_of es) (NotBefore e) → All (NotBefore e) es
unfolding IsAscending
first-all e [] up least = All-nil (NotBefore e)
first-all e (d ∷ ds) up least = All-cons (NotBefore e) d ds least
    (All-weaker (NotBefore d) (NotBefore e) (λ c h. comes_before-trans c d e h least) ds up.0)

pub drop-ascending : (es : List Event) → IsAscending es → IsAscending (drop 1 es)
unfolding IsAscending
drop-ascending [] up = up
drop-ascending (e ∷ es) up = up.1

-- an event that no other comes before is the first
least-first : (e : Event) (es ws : List Event) → All (NotBefore e) ws
    → ((f : Event → ℕ) → sum_by f es ≡ f e + sum_by f ws) → ordered es ≡ e ∷ ordered ws
unfolding IsAscending
least-first e es ws least same =
    sym (ordered-is es (e ∷ ordered ws) (All-ordered (NotBefore e) ws least, ordered-ascending ws)
    (λ f. omega (arith, same f, sum_by-cons f e (ordered ws), sum-ordered f ws)))

sum-three : (f : Event → ℕ) (xs ys zs : List Event) → sum_by f (xs ++ (ys ++ zs)) ≡ sum_by f xs + (sum_by f ys + sum_by f zs)
sum-three f xs ys zs = omega (arith, sum_by-append f xs (ys ++ zs), sum_by-append f ys zs)

-- the event returned of three sorted lists: the first of all of them, or none if none has one
abbrev pub TakesFirst : List Event → List Event → List Event → Option Event → List Event → List Event → List Event → Type 0
TakesFirst xs ys zs None us vs ws = (xs ≡ []) × (ys ≡ []) × (zs ≡ []) × (ordered (us ++ (vs ++ ws)) ≡ [])
TakesFirst xs ys zs (Some e) us vs ws = ordered (xs ++ (ys ++ zs)) ≡ e ∷ ordered (us ++ (vs ++ ws))

takes-first : (xs ys zs : List Event) → IsAscending xs → IsAscending ys → IsAscending zs
    → leads (first_of xs) (first_of ys) ≡ true → leads (first_of xs) (first_of zs) ≡ true
    → TakesFirst xs ys zs (first_of xs) (drop 1 xs) ys zs
unfolding IsAscending ordered
takes-first [] ys zs up-xs up-ys up-zs second third =
    let no_ys = first-none ys (leads-none (first_of ys) second) in
    let no_zs = first-none zs (leads-none (first_of zs) third) in
    (refl, no_ys, no_zs, rw (no_ys, no_zs))
takes-first (e ∷ xs) ys zs up-xs up-ys up-zs second third =
    let least-ys = first-all e ys up-ys (leads-least e (first_of ys) second) in
    let least-zs = first-all e zs up-zs (leads-least e (first_of zs) third) in
    least-first e (e ∷ xs ++ (ys ++ zs)) (xs ++ (ys ++ zs)) (All-append (NotBefore e) xs (ys ++ zs) up-xs.0
    (All-append (NotBefore e) ys zs least-ys least-zs)) (λ f. sum_by-cons f e (xs ++ (ys ++ zs)))

second-first : (xs ys zs : List Event) → ordered (ys ++ (xs ++ zs)) ≡ ordered (xs ++ (ys ++ zs))
second-first xs ys zs = ordered-same (ys ++ (xs ++ zs)) (xs ++ (ys ++ zs)) (λ f. omega (arith, sum-three f ys xs zs, sum-three f xs ys zs))

third-first : (xs ys zs : List Event) → ordered (zs ++ (xs ++ ys)) ≡ ordered (xs ++ (ys ++ zs))
third-first xs ys zs = ordered-same (zs ++ (xs ++ ys)) (xs ++ (ys ++ zs)) (λ f. omega (arith, sum-three f zs xs ys, sum-three f xs ys zs))

takes-second : (xs ys zs : List Event) (o : Option Event) → TakesFirst ys xs zs o (drop 1 ys) xs zs
    → TakesFirst xs ys zs o xs (drop 1 ys) zs
takes-second xs ys zs None takes = (takes.1, takes.0, takes.2, sym (second-first xs (drop 1 ys) zs) ∙ takes.3)
takes-second xs ys zs (Some e) takes = sym (second-first xs ys zs) ∙ takes ∙ ap (λ es. e ∷ es) (second-first xs (drop 1 ys) zs)

takes-third : (xs ys zs : List Event) (o : Option Event) → TakesFirst zs xs ys o (drop 1 zs) xs ys → TakesFirst xs ys zs o xs ys (drop 1 zs)
takes-third xs ys zs None takes = (takes.1, takes.2, takes.0, sym (third-first xs ys (drop 1 zs)) ∙ takes.3)
takes-third xs ys zs (Some e) takes = sym (third-first xs ys zs) ∙ takes ∙ ap (λ es. e ∷ es) (third-first xs ys (drop 1 zs))

-- the invariant of a track after its search has run, or its first event was returned
pub record Looks (old new : Strand) (rest : List Event) : Type 0 where
  pub remaining : new.remaining ≡ rest
  pub all : new.all ≡ old.all
  pub counted : new.cells + length new.pending.cells ≡ new.all
  pub done : old.remaining ≡ [] → new.cells ≡ new.all

pub looks-taken : (t0 t1 t2 : Strand) → Looks t0 t1 t0.remaining → t2.remaining ≡ drop 1 t1.remaining → t2.all ≡ t1.all
    → t2.cells + length t2.pending.cells ≡ t2.all → (t1.remaining ≡ [] → t2.cells ≡ t2.all) → Looks t0 t2 (drop 1 t0.remaining)
looks-taken t0 t1 t2 looks rest all counted done = record {
  remaining = rest ∙ ap (drop 1) looks.remaining;
  all = all ∙ looks.all;
  counted = counted;
  done = λ none. done (looks.remaining ∙ none);
}

returned : (t s m t' s' m' : Strand) (o : Option Event) (us vs ws : List Event)
    → TakesFirst t.remaining s.remaining m.remaining o us vs ws → Looks t t' us → Looks s s' vs → Looks m m' ws
    → ReturnsNext (merging_of t s m) o (merging_of t' s' m')
unfolding ordered
returned t s m t' s' m' None us vs ws takes turn slack mark = (
  rw (takes.0, takes.1, takes.2),
  rw (turn.remaining, slack.remaining, mark.remaining) takes.3,
  omega (arith, turn.done takes.0, slack.done takes.1, mark.done takes.2),
)
returned t s m t' s' m' (Some e) us vs ws takes turn slack mark =
    rw (turn.remaining, slack.remaining, mark.remaining) takes

pub returned-turn : (t s m t' s' m' : Strand) → MergeInvariant t s m
    → IsLeading Turn (first_of t.remaining) (first_of s.remaining) (first_of m.remaining) → Looks t t' (drop 1 t.remaining)
    → Looks s s' s.remaining → Looks m m' m.remaining → ReturnsNext (merging_of t s m) (first_of t.remaining) (merging_of t' s' m')
returned-turn t s m t' s' m' merge_invariant lead turn slack mark =
    returned t s m t' s' m' (first_of t.remaining) (drop 1 t.remaining) s.remaining m.remaining (takes-first t.remaining s.remaining m.remaining
    merge_invariant.turn merge_invariant.slack merge_invariant.mark lead.0 lead.1) turn slack mark

pub returned-slack : (t s m t' s' m' : Strand) → MergeInvariant t s m
    → IsLeading Slack (first_of t.remaining) (first_of s.remaining) (first_of m.remaining) → Looks t t' t.remaining
    → Looks s s' (drop 1 s.remaining) → Looks m m' m.remaining
    → ReturnsNext (merging_of t s m) (first_of s.remaining) (merging_of t' s' m')
returned-slack t s m t' s' m' merge_invariant lead turn slack mark =
    returned t s m t' s' m' (first_of s.remaining) t.remaining (drop 1 s.remaining) m.remaining
    (takes-second t.remaining s.remaining m.remaining (first_of s.remaining) (takes-first s.remaining t.remaining m.remaining merge_invariant.slack
    merge_invariant.turn merge_invariant.mark lead.0 lead.1)) turn slack mark

pub returned-mark : (t s m t' s' m' : Strand) → MergeInvariant t s m
    → IsLeading Mark (first_of t.remaining) (first_of s.remaining) (first_of m.remaining) → Looks t t' t.remaining → Looks s s' s.remaining
    → Looks m m' (drop 1 m.remaining) → ReturnsNext (merging_of t s m) (first_of m.remaining) (merging_of t' s' m')
returned-mark t s m t' s' m' merge_invariant lead turn slack mark =
    returned t s m t' s' m' (first_of m.remaining) t.remaining s.remaining (drop 1 m.remaining)
    (takes-third t.remaining s.remaining m.remaining (first_of m.remaining) (takes-first m.remaining t.remaining s.remaining merge_invariant.mark
    merge_invariant.turn merge_invariant.slack lead.0 lead.1)) turn slack mark

-- the invariant of the tracks afterwards
pub merge_invariant-after : (t s m t' s' m' : Strand) (us vs ws : List Event) → MergeInvariant t s m → IsAscending us
    → IsAscending vs → IsAscending ws → Looks t t' us → Looks s s' vs → Looks m m' ws → MergeInvariant t' s' m'
merge_invariant-after t s m t' s' m' us vs ws merge_invariant up-us up-vs up-ws turn slack mark =
    let few = merge_invariant.few in
    record {
      turn = rw turn.remaining up-us;
      slack = rw slack.remaining up-vs;
      mark = rw mark.remaining up-ws;
      turn_counted = turn.counted;
      slack_counted = slack.counted;
      mark_counted = mark.counted;
      few = rw (turn.all, slack.all, mark.all) few;
    }

-- ---- how far the searches have run

searched-again : (a : ℤ) (cells : List Cell) → looked (searched a cells) ≡ searched a cells
unfolding searched
searched-again a [] = refl
searched-again a (cells.Quiet n ∷ cells) = searched-again (a +ℤ pos n) cells
searched-again a (cells.Still ∷ cells) = searched-again (a +ℤ pos 1) cells
searched-again a (cells.Turn kind level ∷ cells) = refl

-- a search with a pending event doesn't run again
again : (found : Option Event) (w : Pending) → found ≡ w.found → looked (looked_event found w) ≡ looked_event found w
again None w is = searched-again w.at w.cells
again (Some e) w is = ap (λ o. looked_event o w) (sym is)

pub looked-again : (w : Pending) → looked (looked w) ≡ looked w
looked-again w = again w.found w refl
