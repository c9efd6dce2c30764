-- The waves of a year by the constituents with an amplitude: each absent one would be a wave without
-- amplitude.
use Rattle.std.proofs.Common.{◌≡◌, ℕ, ◌+◌, ◌*◌, ◌<◌, ◌≤◌, Bool, true, false, List, [], ◌∷◌, ◌++◌, length, nat_eq, append-nil, get_or, take, ℤ, pos, refl, sym, ap, ◌∙◌, arith}
use Rattle.std.specs.Prelude.{unsigned_abs, not, filter, map, cond, All}
use Rattle.std.proofs.Math.Seq.{take-length}
use Rattle.std.proofs.lemmas.Bool.{eqb-true, ne_eqb}
use Rattle.std.proofs.lemmas.Int.{ints}
use Rattle.std.proofs.lemmas.List.{get_or-map, length-map}
use Rattle.std.proofs.lemmas.List.Elements.{All-filter, filter_more}
use Rattle.std.proofs.lemmas.List.FromFn.{get_or-range_with_len, length-range_with_len}
use Rattle.std.proofs.lemmas.List.Sums.{sum_by_more, length-filter, count_by-le-length}
use Rattle.harmonics_book.specs.declared.book.Station.{Station}
use Rattle.harmonics_book.specs.declared.book.Book.{Book}
use Rattle.station_curve.specs.Waves.{WaveSpec, amount_of, steepness_of}
use Rattle.station_curve.specs.Schureman.{constituents_of, amplitude_of, speed_of}
use Rattle.station_curve.specs.Curves.{wave_of, waves_of}
use Rattle.station_curve.specs.Workings.Prepared.{has_amplitude, present_in, is_present}
use Rattle.station_curve.proofs.BookValues.{no_amplitude}
use Rattle.station_curve.proofs.WithinLimits.{amount-present, steepness-present}

-- the waves of the constituents with these indices
abbrev pub waves_at : Book → Station → ℕ → List ℕ → List WaveSpec
waves_at b s year places = map (wave_of b s year) places

zero_size : (z : ℤ) → unsigned_abs z ≡ 0 → z ≡ pos 0
zero_size z h = omega (arith, ints, h)

-- ---- the indices

pub place-in_book : (b : Book) (s : Station) (places : List ℕ) (i : ℕ) → places ≡ present_in b s → i < length places
    → get_or places i 0 < length b.constituents
place-in_book b s places i is in_list =
    let count = length b.constituents in
    let all : All (λ k. k < count) (constituents_of b) =
    λ j d h. let in_range : j < count = omega (arith, h, length-range_with_len 0 count) in
    let at = get_or-range_with_len 0 count j d in_range in
    omega (arith, at, in_range)
    in
    rw is (All-filter (has_amplitude s) (λ k. k < count) (constituents_of b) all i 0 (rw is at in_list))

pub places-few : (b : Book) (s : Station) (places : List ℕ) → places ≡ present_in b s → length places ≤ length b.constituents
places-few b s places is =
    rw (is, length-filter (has_amplitude s) (constituents_of b))
    (let few = count_by-le-length (has_amplitude s) (constituents_of b) in
    omega (arith, few, length-range_with_len 0 (length b.constituents)))

place-more : (b : Book) (s : Station) (k : ℕ) → k < length b.constituents
    → filter (has_amplitude s) (take (k + 1) (constituents_of b))
    ≡ filter (has_amplitude s) (take k (constituents_of b)) ++ cond (has_amplitude s k) (k ∷ []) []
place-more b s k in_list =
    let count = length b.constituents in
    let more = filter_more (has_amplitude s) (constituents_of b) k 0 (omega (arith, in_list, length-range_with_len 0 count)) in
    let at : get_or (constituents_of b) k 0 ≡ k = omega (arith, get_or-range_with_len 0 count k 0 in_list) in
    more ∙ ap (λ j. filter (has_amplitude s) (take k (constituents_of b)) ++ cond (has_amplitude s j) (j ∷ []) []) at

pub place-present : (b : Book) (s : Station) (k : ℕ) → k < length b.constituents
    → (get_or s.amplitude k (pos 0) ≡ pos 0 → ⊥) → filter (has_amplitude s) (take (k + 1) (constituents_of b))
    ≡ filter (has_amplitude s) (take k (constituents_of b)) ++ k ∷ []
place-present b s k in_list some =
    let size : nat_eq (unsigned_abs (get_or s.amplitude k (pos 0))) 0 ≡ false =
    ne_eqb (unsigned_abs (get_or s.amplitude k (pos 0))) 0 (λ e. some (zero_size (get_or s.amplitude k (pos 0)) e)) in
    place-more b s k in_list
    ∙ ap (λ t. filter (has_amplitude s) (take k (constituents_of b)) ++ cond (not t) (k ∷ []) []) size

pub place-absent : (b : Book) (s : Station) (k : ℕ) → k < length b.constituents → get_or s.amplitude k (pos 0) ≡ pos 0
    → filter (has_amplitude s) (take (k + 1) (constituents_of b))
    ≡ filter (has_amplitude s) (take k (constituents_of b))
place-absent b s k in_list none =
    place-more b s k in_list
    ∙ ap (λ z. filter (has_amplitude s) (take k (constituents_of b)) ++ cond (not (nat_eq (unsigned_abs z) 0)) (k ∷ []) []) none
    ∙ append-nil (filter (has_amplitude s) (take k (constituents_of b)))

pub all_places : (b : Book) (s : Station) (n : ℕ) → n ≡ length b.constituents
    → filter (has_amplitude s) (take n (constituents_of b)) ≡ present_in b s
all_places b s n e =
    ap (λ k. filter (has_amplitude s) (take k (constituents_of b))) (e ∙ sym (length-range_with_len 0 (length b.constituents)))
    ∙ ap (filter (has_amplitude s)) (take-length (constituents_of b))

-- ---- absent ones are left out

kept-first : (b : Book) (s : Station) (year k : ℕ) (ks : List ℕ)
    → filter is_present (waves_at b s year (filter (has_amplitude s) ks)) ≡ filter is_present (waves_at b s year ks)
    → (absent : Bool) → nat_eq (unsigned_abs (get_or s.amplitude k (pos 0))) 0 ≡ absent
    → filter is_present (waves_at b s year (filter (has_amplitude s) (k ∷ ks)))
    ≡ filter is_present (waves_at b s year (k ∷ ks))
kept-first b s year k ks rest false e = rw e (ap (λ ws. cond (is_present (wave_of b s year k)) (wave_of b s year k ∷ ws) ws) rest)
kept-first b s year k ks rest true e =
    let nothing = zero_size (get_or s.amplitude k (pos 0)) (eqb-true (unsigned_abs (get_or s.amplitude k (pos 0))) 0 e) in
    let absent : is_present (wave_of b s year k) ≡ false =
    ap (λ z. not (nat_eq (unsigned_abs z) 0)) (sym (no_amplitude b s year k nothing)) in
    rw (e, absent) rest

kept : (b : Book) (s : Station) (year : ℕ) (ks : List ℕ)
    → filter is_present (waves_at b s year (filter (has_amplitude s) ks)) ≡ filter is_present (waves_at b s year ks)
kept b s year [] = refl
kept b s year (k ∷ ks) =
    kept-first b s year k ks (kept b s year ks) (nat_eq (unsigned_abs (get_or s.amplitude k (pos 0))) 0) refl

pub present-waves : (b : Book) (s : Station) (year : ℕ) (places : List ℕ) → places ≡ present_in b s
    → filter is_present (waves_at b s year places) ≡ filter is_present (waves_of b s year)
unfolding waves_of
present-waves b s year places is = rw is (kept b s year (constituents_of b))

pub present-amount : (b : Book) (s : Station) (year : ℕ) (places : List ℕ) → places ≡ present_in b s
    → amount_of (waves_at b s year places) ≡ amount_of (waves_of b s year)
present-amount b s year places is =
    sym (amount-present (waves_at b s year places)) ∙ ap amount_of (present-waves b s year places is) ∙ amount-present (waves_of b s year)

pub present-steepness : (b : Book) (s : Station) (year : ℕ) (places : List ℕ) → places ≡ present_in b s
    → steepness_of (waves_at b s year places) ≡ steepness_of (waves_of b s year)
present-steepness b s year places is =
    sym (steepness-present (waves_at b s year places)) ∙ ap steepness_of (present-waves b s year places is)
    ∙ steepness-present (waves_of b s year)

-- ---- one more of them

length-waves_at : (b : Book) (s : Station) (year : ℕ) (places : List ℕ) → length (waves_at b s year places) ≡ length places
length-waves_at b s year places = length-map places (wave_of b s year)

wave-at : (b : Book) (s : Station) (year : ℕ) (places : List ℕ) (i : ℕ) (d : WaveSpec) → i < length places
    → get_or (waves_at b s year places) i d ≡ wave_of b s year (get_or places i 0)
wave-at b s year places i d in_list = get_or-map (wave_of b s year) places i 0 d in_list

pub all_waves : (b : Book) (s : Station) (year : ℕ) (places : List ℕ) (n : ℕ) → n ≡ length places
    → take n (waves_at b s year places) ≡ waves_at b s year places
all_waves b s year places n e =
    ap (λ k. take k (waves_at b s year places)) (e ∙ sym (length-waves_at b s year places)) ∙ take-length (waves_at b s year places)

pub amount_more : (b : Book) (s : Station) (year : ℕ) (places : List ℕ) (i amount size : ℕ) → i < length places → amount
    ≡ amount_of (take i (waves_at b s year places)) → size ≡ unsigned_abs (amplitude_of b s year (get_or places i 0))
    → amount + size ≡ amount_of (take (i + 1) (waves_at b s year places))
amount_more b s year places i amount size in_list is_amount is_size =
    let d = wave_of b s year 0 in
    let more = sum_by_more (λ h. unsigned_abs h.amplitude) (waves_at b s year places) i d
    (omega (arith, in_list, length-waves_at b s year places)) in
    let last : unsigned_abs (get_or (waves_at b s year places) i d).amplitude ≡ size =
    ap (λ h. unsigned_abs h.amplitude) (wave-at b s year places i d in_list) ∙ sym is_size in
    omega (arith, more, last, is_amount)

pub steepness_more : (b : Book) (s : Station) (year : ℕ) (places : List ℕ) (i steepness size speed : ℕ)
    → i < length places → steepness ≡ steepness_of (take i (waves_at b s year places))
    → size ≡ unsigned_abs (amplitude_of b s year (get_or places i 0)) → pos speed ≡ speed_of b (get_or places i 0)
    → steepness + size * speed ≡ steepness_of (take (i + 1) (waves_at b s year places))
steepness_more b s year places i steepness size speed in_list is_steepness is_size is_speed =
    let d = wave_of b s year 0 in
    let k = get_or places i 0 in
    let more = sum_by_more (λ h. unsigned_abs h.amplitude * h.speed) (waves_at b s year places) i d
    (omega (arith, in_list, length-waves_at b s year places)) in
    let speed_is : unsigned_abs (speed_of b k) ≡ speed = ap unsigned_abs (sym is_speed) in
    let last : unsigned_abs (get_or (waves_at b s year places) i d).amplitude
    * (get_or (waves_at b s year places) i d).speed ≡ size * speed =
    ap (λ h. unsigned_abs h.amplitude * h.speed) (wave-at b s year places i d in_list)
    ∙ ap (λ n. n * unsigned_abs (speed_of b k)) (sym is_size) ∙ ap (λ n. size * n) speed_is in
    omega (arith, more, last, is_steepness)

pub absent_more : (b : Book) (s : Station) (year : ℕ) (places : List ℕ) (i : ℕ) → i < length places
    → amplitude_of b s year (get_or places i 0) ≡ pos 0 → filter is_present (take (i + 1) (waves_at b s year places))
    ≡ filter is_present (take i (waves_at b s year places))
absent_more b s year places i in_list nothing =
    let d = wave_of b s year 0 in
    let before = filter is_present (take i (waves_at b s year places)) in
    let more = filter_more is_present (waves_at b s year places) i d (omega (arith, in_list, length-waves_at b s year places)) in
    let absent : is_present (get_or (waves_at b s year places) i d) ≡ false =
    ap is_present (wave-at b s year places i d in_list) ∙ ap (λ z. not (nat_eq (unsigned_abs z) 0)) nothing in
    more ∙ ap (λ t. before ++ cond t (get_or (waves_at b s year places) i d ∷ []) []) absent ∙ append-nil before

pub present_more : (b : Book) (s : Station) (year : ℕ) (places : List ℕ) (i : ℕ) (wave : WaveSpec) → i < length places
    → (amplitude_of b s year (get_or places i 0) ≡ pos 0 → ⊥) → wave ≡ wave_of b s year (get_or places i 0)
    → filter is_present (take (i + 1) (waves_at b s year places))
    ≡ filter is_present (take i (waves_at b s year places)) ++ wave ∷ []
present_more b s year places i wave in_list some is =
    let d = wave_of b s year 0 in
    let k = get_or places i 0 in
    let before = filter is_present (take i (waves_at b s year places)) in
    let more = filter_more is_present (waves_at b s year places) i d (omega (arith, in_list, length-waves_at b s year places)) in
    let here = wave-at b s year places i d in_list in
    let size : nat_eq (unsigned_abs (amplitude_of b s year k)) 0 ≡ false =
    ne_eqb (unsigned_abs (amplitude_of b s year k)) 0 (λ e. some (zero_size (amplitude_of b s year k) e)) in
    let present : is_present (get_or (waves_at b s year places) i d) ≡ true = ap is_present here ∙ ap not size in
    more ∙ ap (λ t. before ++ cond t (get_or (waves_at b s year places) i d ∷ []) []) present
    ∙ ap (λ w. before ++ w ∷ []) (here ∙ sym is)
