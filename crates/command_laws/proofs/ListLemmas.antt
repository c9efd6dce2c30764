-- Lists of events of which some are kept.
use Rattle.std.proofs.Common.{◌≡◌, ℕ, ◌+◌, ℤ, Bool, true, false, cond, List, [], ◌∷◌, get_or, refl, sym, ap, ◌∙◌, arith}
use Rattle.std.specs.Prelude.{All, filter, sum_by}
use Rattle.std.proofs.lemmas.List.Elements.{All-head, All-tail, All-filter, All-map}
use Rattle.std.proofs.lemmas.List.Sums.{sum_by-cons}
use Rattle.curve_law.specs.declared.event.Event.{Event}
use Rattle.curve_law.specs.Track.{Track, event_at, has_event, minutes, plain_list}
use Rattle.curve_law.proofs.CoverLemmas.{by_test}
use Rattle.event_list.specs.Order.{comes_before, ordered}
use Rattle.event_list.specs.Workings.Coming.{IsAscending}
use Rattle.event_list.proofs.OrderLemmas.{ordered-ascending, ordered-is, sum-ordered}

-- a fact of each event of a track holds of the events of its list
pub plain_list-all : (P : Event → Type 0) (t : Track) → ((m : ℤ) → P (event_at t m)) → (a : ℤ) (n : ℕ) → All P (plain_list t a n)
unfolding plain_list
plain_list-all P t each a n = All-map P (event_at t) (filter (has_event t) (minutes a n))
    (λ k m within. each (get_or (filter (has_event t) (minutes a n)) k m))

-- ---- some are kept

module _ (test : Event → Bool) where
  pub filter-all : (es : List Event) → All (λ e. test e ≡ true) es → filter test es ≡ es
  filter-all [] all = refl
  filter-all (e ∷ es) all =
      rw (All-head (λ d. test d ≡ true) e es all) (ap (λ ds. e ∷ ds) (filter-all es (All-tail (λ d. test d ≡ true) e es all)))

  pub filter-none : (es : List Event) → All (λ e. test e ≡ false) es → filter test es ≡ []
  filter-none [] all = refl
  filter-none (e ∷ es) all =
      rw (All-head (λ d. test d ≡ false) e es all) (filter-none es (All-tail (λ d. test d ≡ false) e es all))

  filter-ascending : (es : List Event) → IsAscending es → IsAscending (filter test es)
  unfolding IsAscending
  filter-ascending [] up = tt
  filter-ascending (e ∷ es) up = by_test (test e)
      (λ kept. rw kept (All-filter test (λ d. comes_before d e ≡ false) es up.0, filter-ascending es up.1))
      (λ dropped. rw dropped (filter-ascending es up.1))

  -- the weight of an event if it is kept
  abbrev kept_part : (Event → ℕ) → Event → ℕ
  kept_part f e = cond (test e) (f e) 0

  sum-filter : (f : Event → ℕ) (es : List Event) → sum_by f (filter test es) ≡ sum_by (kept_part f) es
  sum-filter f [] = refl
  sum-filter f (e ∷ es) =
      let rest = sum-filter f es in
      let all = sum_by-cons (kept_part f) e es in
      by_test (test e)
      (λ kept.
      let part : kept_part f e ≡ f e = rw kept refl in
      let list : filter test (e ∷ es) ≡ e ∷ filter test es = rw kept refl in
      let sum : f e + sum_by f (filter test es) ≡ sum_by (kept_part f) (e ∷ es) = omega arith in
      ap (sum_by f) list ∙ sum_by-cons f e (filter test es) ∙ sum)
      (λ dropped.
      let part : kept_part f e ≡ 0 = rw dropped refl in
      let list : filter test (e ∷ es) ≡ filter test es = rw dropped refl in
      let sum : sum_by f (filter test es) ≡ sum_by (kept_part f) (e ∷ es) = omega arith in
      ap (sum_by f) list ∙ sum)

  -- sorting before and after the filter has the same result
  pub filter-ordered : (es : List Event) → filter test (ordered es) ≡ ordered (filter test es)
  filter-ordered es =
      ordered-is (filter test es) (filter test (ordered es)) (filter-ascending (ordered es) (ordered-ascending es))
      (λ f. sum-filter f es ∙ sym (sum-ordered (kept_part f) es) ∙ sym (sum-filter f (ordered es)))

pub ascending-ordered : (es : List Event) → IsAscending es → ordered es ≡ es
ascending-ordered es up = sym (ordered-is es es up (λ f. refl))
