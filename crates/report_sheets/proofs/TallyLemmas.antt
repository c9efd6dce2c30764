-- Counts of names, one event after the other.
use Rattle.std.proofs.Common.{◌≡◌, ◌∙◌, ℕ, ◌+◌, ◌<◌, List, [], ◌∷◌, ◌++◌, length, get_or, set, take, sym, ap, slice_index, ◌==◌, append-nil, append_assoc}
use Rattle.std.specs.List.{flat_map}
use Rattle.std.proofs.lemmas.Bool.{cases_eq, eq-eqb, ne_eqb}
use Rattle.std.proofs.lemmas.List.{get_or-set_same, get_or-set_other, take_more}
use Rattle.std.proofs.lemmas.List.Concat.{flat_map-append}
use Rattle.std.proofs.lemmas.List.Sums.{count_by_more_yes, count_by_more_no}
use Rattle.curve_law.specs.declared.event.Event.{Event}
use Rattle.event_text.specs.Words.{word_of}
use Rattle.event_text.specs.declared.event_word.EventWord.{EventWord}
use Rattle.harmonics_book.specs.declared.book.Units.{Units}
use Rattle.report_sheets.specs.Tallies.{count_at, count_line, names, word_index}
use Rattle.std.proofs.Common.{⊎_elim}

-- one more count at the index of an event's name
pub count_at-more : (units : Units) (events : List Event) (i : ℕ) (d : Event) (counts : List ℕ) (at index : ℕ)
    → i < length events → at < length counts
    → at ≡ word_index (word_of units (get_or events i d).kind (get_or events i d).level)
    → get_or counts at 0 ≡ count_at units (take i events) at
    → get_or counts index 0 ≡ count_at units (take i events) index
    → get_or (set counts at (get_or counts at 0 + 1)) index 0 ≡ count_at units (take (i + 1) events) index
count_at-more units events i d counts at index within inside is here there =
    let p : ℕ → Event → _ = λ q event. word_index (word_of units event.kind event.level) == q in
    ⊎_elim
    (λ same. rw (← same) (get_or-set_same counts at (get_or counts at 0 + 1) 0 inside ∙ ap (λ n. n + 1) here
    ∙ sym (count_by_more_yes (p at) events i d within (eq-eqb _ _ (sym is)))))
    (λ other. get_or-set_other counts at index (get_or counts at 0 + 1) 0 (λ e. other (sym e)) ∙ there
    ∙ sym (count_by_more_no (p index) events i d within (ne_eqb _ _ (λ e. other (is ∙ e)))))
    (cases_eq at index)

-- the line of one more name
pub lines_more : (counts start text after : List ℕ) (i index : ℕ) (d : EventWord) → i < 10
    → index ≡ word_index (get_or names i d)
    → text ≡ start ++ flat_map (λ word. count_line (slice_index counts (word_index word)) word) (take i names)
    → after ≡ text ++ count_line (slice_index counts index) (get_or names i d)
    → after ≡ start ++ flat_map (λ word. count_line (slice_index counts (word_index word)) word) (take (i + 1) names)
lines_more counts start text after i index d within is so_far next =
    let f : EventWord → List ℕ = λ word. count_line (slice_index counts (word_index word)) word in
    let one : flat_map f (get_or names i d ∷ []) ≡ f (get_or names i d) = append-nil (f (get_or names i d)) in
    rw (
      take_more names i d within,
      flat_map-append f (take i names) (get_or names i d ∷ []),
      one,
      ← append_assoc start (flat_map f (take i names)) (f (get_or names i d)),
      ← so_far,
      ← is,
    )
    next
