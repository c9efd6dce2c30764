-- The readings of a lawful clock.
use Rattle.std.proofs.Common.{◌≡◌, ◌∙◌, ap, sym, ℕ, suc, Bool, true, false, if◌then◌else◌, List, [], ◌∷◌, ◌++◌, length, length-append, take, drop, arith, Option, Some, None, Result, Ok, Err}
use Rattle.std.specs.Bool.{IsTrue}
use Rattle.std.specs.Prelude.{ℤ}
use Rattle.std.proofs.Math.Seq.{drop-append_seam, take-append_seam}
use Rattle.tide_edge.specs.declared.failed.Failed.{Failed}
use Rattle.tide_edge.specs.Clocks.{ClockState, IsLawful, clock_after, held_reading, held_readings, next_minute}
use Rattle.tide_edge.specs.Workings.HeldClocks.{held_length}

-- ---- One reading earlier

-- if the readings with a last one are the first that a clock has, so are those before it, and the last
module _ (minute_at : ℕ → ℤ) (fails_at : ℕ → Bool) (readings : List (Option ℤ)) (last : Option ℤ)
    (is : readings ++ last ∷ [] ≡ held_readings minute_at fails_at (length (readings ++ last ∷ []))) where
  abbrev held : List (Option ℤ)
  held = held_readings minute_at fails_at (length readings)

  abbrev next : Option ℤ
  next = held_reading minute_at fails_at (length readings)

  split : readings ++ last ∷ [] ≡ held ++ next ∷ []
  split =
      let long : length (readings ++ last ∷ []) ≡ suc (length readings) = omega (arith, length-append readings (last ∷ [])) in
      is ∙ ap (held_readings minute_at fails_at) long

  all_before : readings ≡ held
  all_before =
      sym (take-append_seam readings (last ∷ []))
      ∙ ap (take (length readings)) split
      ∙ ap (λ n. take n (held ++ next ∷ [])) (sym (held_length minute_at fails_at (length readings)))
      ∙ take-append_seam held (next ∷ [])

  last_is : last ≡ next
  last_is =
      let same : last ∷ [] ≡ next ∷ [] =
      sym (drop-append_seam readings (last ∷ []))
      ∙ ap (drop (length readings)) split
      ∙ ap (λ n. drop n (held ++ next ∷ [])) (sym (held_length minute_at fails_at (length readings)))
      ∙ drop-append_seam held (next ∷ []) in
      cc

some_is : (fails : Bool) (minute next : ℤ) → Some minute ≡ (if fails then None else Some next) → minute ≡ next
some_is true minute next is = absurd (cc)
some_is false minute next is = cc

-- a clock was lawful before a reading if it is after it
pub lawful_before : (result : Result ℤ Failed) (s : ClockState) → IsLawful (clock_after result s) → IsLawful s
lawful_before (Ok minute) s law t = all_before s.minute_at s.fails_at s.readings (Some minute) (law t)
lawful_before (Err failed) s law t = all_before s.minute_at s.fails_at s.readings None (law t)

-- a minute that an observable clock has returned was its next one
pub returned_next : (minute : ℤ) (s : ClockState) → IsLawful (clock_after (Ok minute) s) → IsTrue s.is_observable → minute ≡ next_minute s
returned_next minute s law t =
    some_is (s.fails_at (length s.readings)) minute (next_minute s) (last_is s.minute_at s.fails_at s.readings (Some minute) (law t))
