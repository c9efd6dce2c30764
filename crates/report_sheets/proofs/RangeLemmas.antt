-- The first event that no event is beyond, found one event after the other.
use Rattle.std.proofs.Common.{◌≡◌, ◌∙◌, ℤ, Bool, true, false, List, [], ◌∷◌, ◌++◌, length, Option, Some, None, refl, sym, ap, arith, append_assoc, append-nil, ℕ, ◌+◌, ◌<◌, take, get_or, cond}
use Rattle.std.specs.Prelude.{All, find, filter}
use Rattle.std.specs.List.{list_all}
use Rattle.std.proofs.lemmas.Int.{ints}
use Rattle.std.proofs.lemmas.List.{get_or_at, length-append}
use Rattle.std.proofs.lemmas.List.Elements.{All-nil, All-cons, All-head, All-tail, All-append, All-push, All-weaker, All-filter, filter_more}
use Rattle.std.proofs.lemmas.List.Folds.{list_all_at}
use Rattle.std.proofs.lemmas.List.Sums.{list_all-from_AllPass}
use Rattle.curve_law.specs.declared.event.Event.{Event}
use Rattle.report_sheets.specs.declared.extreme.Extreme.{Extreme}
use Rattle.report_sheets.specs.declared.extreme.Extreme.TheVariants.{Highest, Lowest}
use Rattle.report_sheets.specs.Ranges.{reaches, is_of, first_of, extreme_of}
use Rattle.report_sheets.specs.Workings.{better_of}

-- no level is beyond itself
reaches_itself : (extreme : Extreme) (a : ℤ) → reaches extreme a a ≡ true
reaches_itself Highest a = grind (arith, ints)
reaches_itself Lowest a = grind (arith, ints)

-- of two levels one isn't beyond the other
reaches_back : (extreme : Extreme) (a b : ℤ) → reaches extreme a b ≡ false → reaches extreme b a ≡ true
reaches_back Highest a b below = grind (arith, ints)
reaches_back Lowest a b below = grind (arith, ints)

-- a level that is beyond one which reaches a third is beyond the third too
reaches_on : (extreme : Extreme) (a b c : ℤ) → reaches extreme b a ≡ true → reaches extreme b c ≡ false → reaches extreme a c ≡ false
reaches_on Highest a b c near below = grind (arith, ints)
reaches_on Lowest a b c near below = grind (arith, ints)

-- the most extreme event: it is beyond all events before it, and no event is beyond it
pub record IsFirst (extreme : Extreme) (events : List Event) (best : Event) : Type 0 where
  pub before : List Event
  pub after : List Event
  pub parts : events ≡ before ++ best ∷ after
  pub passed : All (λ event. reaches extreme event.level best.level ≡ false) before
  pub others : All (λ event. reaches extreme best.level event.level ≡ true) after

-- the most extreme event so far, if there is one
abbrev pub IsBest : Extreme → List Event → Option Event → Type 0
IsBest extreme events None = events ≡ []
IsBest extreme events (Some best) = IsFirst extreme events best

-- the most extreme event reaches all events
all_reached : (extreme : Extreme) (events : List Event) (best : Event) → (first : IsFirst extreme events best)
    → All (λ event. reaches extreme best.level event.level ≡ true) (first.before ++ best ∷ first.after)
all_reached extreme events best first =
    let P : Event → Type 0 = λ event. reaches extreme best.level event.level ≡ true in
    All-append P first.before (best ∷ first.after)
    (All-weaker (λ event. reaches extreme event.level best.level ≡ false) P
    (λ event. reaches_back extreme event.level best.level) first.before first.passed)
    (All-cons P best first.after (reaches_itself extreme best.level) first.others)

-- the first event of all
best_alone : (extreme : Extreme) (events : List Event) (event : Event) → events ≡ [] → IsFirst extreme (events ++ event ∷ []) event
best_alone extreme events event none = record {
  before = [];
  after = [];
  parts = ap (λ list. list ++ event ∷ []) none;
  passed = All-nil (λ other. reaches extreme other.level event.level ≡ false);
  others = All-nil (λ other. reaches extreme event.level other.level ≡ true);
}

-- one more event, which is beyond the most extreme one
best_passed : (extreme : Extreme) (events : List Event) (best event : Event) → IsFirst extreme events best
    → reaches extreme best.level event.level ≡ false
    → IsFirst extreme (events ++ event ∷ []) event
best_passed extreme events best event first beyond =
    let P : Event → Type 0 = λ other. reaches extreme other.level event.level ≡ false in
    record {
      before = first.before ++ best ∷ first.after;
      after = [];
      parts = ap (λ list. list ++ event ∷ []) first.parts;
      passed = All-weaker (λ other. reaches extreme best.level other.level ≡ true) P
          (λ other near. reaches_on extreme other.level best.level event.level near beyond)
          (first.before ++ best ∷ first.after) (all_reached extreme events best first);
      others = All-nil (λ other. reaches extreme event.level other.level ≡ true);
    }

-- one more event, which isn't
best_kept : (extreme : Extreme) (events : List Event) (best event : Event) → IsFirst extreme events best
    → reaches extreme best.level event.level ≡ true
    → IsFirst extreme (events ++ event ∷ []) best
best_kept extreme events best event first near = record {
  before = first.before;
  after = first.after ++ event ∷ [];
  parts = ap (λ list. list ++ event ∷ []) first.parts ∙ append_assoc first.before (best ∷ first.after) (event ∷ []);
  passed = first.passed;
  others = All-push (λ other. reaches extreme best.level other.level ≡ true) first.after event first.others near;
}

best_of-more : (extreme : Extreme) (events : List Event) (best : Option Event) (event : Event) → IsBest extreme events best
    → IsBest extreme (events ++ event ∷ []) (better_of extreme best event)
best_of-more extreme events None event none = best_alone extreme events event none
best_of-more extreme events (Some best) event first =
    elim (reaches extreme best.level event.level) as (λ near. reaches extreme best.level event.level ≡ near
    → IsBest extreme (events ++ event ∷ []) (cond near (Some best) (Some event))) [
      | true ↦ best_kept extreme events best event first
      | false ↦ best_passed extreme events best event first
    ] refl

-- one more event, of the kind or of another
pub best_more : (extreme : Extreme) (events : List Event) (i : ℕ) (best after : Option Event) (d : Event) → i < length events
    → IsBest extreme (filter (λ event. is_of extreme event.kind) (take i events)) best
    → is_of extreme (get_or events i d).kind ≡ true → after ≡ better_of extreme best (get_or events i d)
    → IsBest extreme (filter (λ event. is_of extreme event.kind) (take (i + 1) events)) after
best_more extreme events i best after d within so_far shown next =
    rw (filter_more (λ event. is_of extreme event.kind) events i d within, shown, next)
    (best_of-more extreme (filter (λ event. is_of extreme event.kind) (take i events)) best (get_or events i d) so_far)

pub best_same : (extreme : Extreme) (events : List Event) (i : ℕ) (best after : Option Event) (d : Event) → i < length events
    → IsBest extreme (filter (λ event. is_of extreme event.kind) (take i events)) best
    → is_of extreme (get_or events i d).kind ≡ false → after ≡ best
    → IsBest extreme (filter (λ event. is_of extreme event.kind) (take (i + 1) events)) after
best_same extreme events i best after d within so_far hidden same =
    rw (filter_more (λ event. is_of extreme event.kind) events i d within, hidden, append-nil, same)
    so_far

find_past : (p : Event → Bool) (before after : List Event) (best : Event) → All (λ event. p event ≡ false) before
    → p best ≡ true → find p (before ++ best ∷ after) ≡ Some best
find_past p [] after best none is = rw is
find_past p (x ∷ before) after best none is =
    rw (All-head (λ event. p event ≡ false) x before none)
    (find_past p before after best (All-tail (λ event. p event ≡ false) x before none) is)

first_of-parts : (extreme : Extreme) (events : List Event) (best : Event) → IsFirst extreme events best
    → Some best ≡ first_of extreme events
first_of-parts extreme events best first =
    let all = first.before ++ best ∷ first.after in
    let test : Event → Bool = λ event. list_all (λ other. reaches extreme event.level other.level) all in
    let fails : (event : Event) → reaches extreme event.level best.level ≡ false → test event ≡ false =
    λ event below. list_all_at (λ other. reaches extreme event.level other.level) all (length first.before) best
    (simp length-append (omega arith))
    (ap (λ other. reaches extreme event.level other.level)
    (get_or_at first.before best first.after best (length first.before) refl) ∙ below) in
    rw first.parts
    (sym (find_past test first.before first.after best
    (All-weaker (λ event. reaches extreme event.level best.level ≡ false) (λ event. test event ≡ false) fails first.before first.passed)
    (list_all-from_AllPass (λ other. reaches extreme best.level other.level) all (all_reached extreme events best first))))

-- the most extreme of all events is the first that no event is beyond
pub best_is : (extreme : Extreme) (events : List Event) (best : Option Event) → IsBest extreme events best → best ≡ first_of extreme events
best_is extreme events None none = rw none refl
best_is extreme events (Some best) first = first_of-parts extreme events best first

-- a fact that holds of each event holds of the one that is found
find-holds : (P : Event → Type 0) (p : Event → Bool) (events : List Event) (event : Event) → All P events
    → Some event ≡ find p events → P event
find-holds P p [] event all is = cc
find-holds P p (x ∷ events) event all is =
    elim (p x) as (λ found. Some event ≡ cond found (Some x) (find p events) → P event) [
      | true ↦ λ same. let e : event ≡ x = (cc) in rw e (All-head P x events all)
      | false ↦ λ later. find-holds P p events event (All-tail P x events all) later
    ] is

pub extreme-holds : (P : Event → Type 0) (extreme : Extreme) (events : List Event) (event : Event) → All P events
    → Some event ≡ extreme_of extreme events → P event
extreme-holds P extreme events event all is =
    let shown = filter (λ e. is_of extreme e.kind) events in
    find-holds P (λ e. list_all (λ other. reaches extreme e.level other.level) shown) shown event
    (All-filter (λ e. is_of extreme e.kind) P events all) is
