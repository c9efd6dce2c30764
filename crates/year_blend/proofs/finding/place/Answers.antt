use Rattle.std.proofs.Common.{◌≡◌, ◌-ℤ◌, FitsSigned, true, false, ℕ, ℤ, to_z, of_z, w32, w64, inl, inr, refl, ◌∙◌, rules, arith}
use Rattle.std.proofs.lemmas.Int.{ints, to_z-of_z}
use Rattle.year_blend.specs.Places.{start_of, year_at}
use Rattle.year_blend.proofs.PlaceLemmas.{domain_small, place_of-only, IsNearest, nearest_plain}
use Rattle.year_blend.proofs.finding.place.Goals as goal
use Rattle.year_blend.proofs.finding.place.Goals.{then-rem_euclid, else-rem_euclid}

pub minutes_from-x-requires-clause-minute : goal.minutes_from-x-requires-clause-minute
minutes_from-x-requires-clause-minute c =
    rw (to_z-of_z w64 c.args.m c.ranges.m)
    (domain_small c.args.first_year c.args.years c.args.m c.requires.years c.requires.domain)

-- a distance from a new year without casts
plain_distance : (first_year m x : ℤ) (n : ℕ) → FitsSigned w32 first_year → FitsSigned w64 m → FitsSigned w64 x
    → x ≡ to_z w64 (of_z w64 m) -ℤ start_of (to_z w32 (of_z w32 first_year)) n
    → to_z w64 (of_z w64 x) ≡ m -ℤ start_of first_year n
plain_distance first_year m x n first_fits fits x_fits distance =
    to_z-of_z w64 x x_fits
    ∙ rw (to_z-of_z w64 m fits, to_z-of_z w32 first_year first_fits) at distance

pub returns-then-is_blend-clause-rule : goal.returns-then-is_blend-clause-rule
returns-then-is_blend-clause-rule c =
    let tests = c.if-is_blend.ensures.0 refl in
    record {
      later = tests.0;
      inner = tests.1;
      distance = plain_distance _ _ _ _ c.ranges.first_year c.ranges.m (search rules) c.minutes_from-x.ensures;
      above = tests.2;
      below = tests.3;
    }

pub returns-then-is_blend-clause-value : goal.returns-then-is_blend-clause-value
returns-then-is_blend-clause-value c =
    place_of-only c.args.first_year c.args.years c.args.m c.requires.years c.requires.domain _ (returns-then-is_blend-clause-rule c)

pub returns-else-is_blend-clause-rule : goal.returns-else-is_blend-clause-rule
returns-else-is_blend-clause-rule c =
    let minute = to_z-of_z w64 c.args.m c.ranges.m in
    let year = rw (minute, to_z-of_z w32 c.args.first_year c.ranges.first_year) at c.year_among-year.ensures.value in
    let remainder = rw minute at c.rem_euclid.ensures.value in
    let nearest : IsNearest c.args.m (year_at c.args.first_year c.args.years c.args.m) c.if-rem_euclid.nearest =
    elim c.if-rem_euclid.branch [
      | then-rem_euclid w ↦ inl (omega (arith, ints), w.nearest-is ∙ year)
      | else-rem_euclid w ↦ inr (omega (arith, ints), omega arith)
    ]
    in
    rw year
    (nearest_plain c.args.first_year c.args.years c.args.m c.if-rem_euclid.nearest
    (to_z w64 (of_z w64 c.minutes_from-x.result)) c.requires.years c.requires.domain nearest
    (plain_distance _ _ _ _ c.ranges.first_year c.ranges.m (search rules) c.minutes_from-x.ensures)
    (λ tests. let wrong : false ≡ true = c.if-is_blend.ensures.1 tests in cc))

pub returns-else-is_blend-clause-value : goal.returns-else-is_blend-clause-value
returns-else-is_blend-clause-value c =
    place_of-only c.args.first_year c.args.years c.args.m c.requires.years c.requires.domain _ (returns-else-is_blend-clause-rule c)
