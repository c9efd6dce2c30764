use Rattle.std.proofs.Common.{◌≡◌, ◌∙◌, ◌≤◌, ℤ, ◌+ℤ◌, unsigned_abs, arith, to_z, of_z, w32, w64}
use Rattle.std.proofs.lemmas.Int.{to_z-of_z}
use mir.Val.{SFits}
use Rattle.jiff_core.proofs.SignedLemmas.{signed_arith}
use Rattle.zone_time.specs.declared.local.Label.TheVariants.{Minutes}
use Rattle.zone_time.specs.Locals.{IsLocal}
use Rattle.zone_time.specs.Zones.{InZoneYears}
use Rattle.zone_time.proofs.zone_clock.ZoneClock.local.Goals as goal

narrow : (utc_offset : ℤ) → unsigned_abs utc_offset ≤ 1560 → SFits w32 utc_offset
narrow utc_offset short = omega (arith, signed_arith, short)

sum_is : (minute utc_offset converted : ℤ) → SFits w64 minute → InZoneYears minute → unsigned_abs utc_offset ≤ 1560
    → converted ≡ to_z w32 (of_z w32 utc_offset)
    → to_z w64 (of_z w64 (to_z w64 (of_z w64 minute) +ℤ to_z w64 (of_z w64 converted))) ≡ minute +ℤ utc_offset
sum_is minute utc_offset converted fits within short is =
    let same : converted ≡ utc_offset = is ∙ to_z-of_z w32 utc_offset (narrow utc_offset short) in
    rw (
      to_z-of_z w64 minute fits,
      same,
      to_z-of_z w64 utc_offset (omega (arith, signed_arith, short)),
      to_z-of_z w64 (minute +ℤ utc_offset) (omega (arith, signed_arith, within, short)),
    )

fixed_written : (minute utc_offset : ℤ) → InZoneYears minute → unsigned_abs utc_offset ≤ 1560
    → IsLocal (record { minute = minute +ℤ utc_offset; label = Minutes utc_offset })
fixed_written minute utc_offset within short = record {
  minute = record { first = omega (arith, signed_arith, within, short); last = omega (arith, signed_arith, within, short) };
  label = short;
}

pub returns-in-Fixed-clause-exact : goal.returns-in-Fixed-clause-exact
returns-in-Fixed-clause-exact c =
    let utc_offset = c.in-Fixed.utc_offset in let short = rw c.in-Fixed.is at c.self.invariant in
    rw (
      ← c.self.view_is,
      c.in-Fixed.is,
      sum_is c.args.minute utc_offset c.from.result c.ranges.minute c.requires short c.from.ensures,
      to_z-of_z w32 utc_offset (narrow utc_offset short),
    )

pub returns-in-Fixed-clause-written : goal.returns-in-Fixed-clause-written
returns-in-Fixed-clause-written c =
    let utc_offset = c.in-Fixed.utc_offset in let short = rw c.in-Fixed.is at c.self.invariant in
    rw (sum_is c.args.minute utc_offset c.from.result c.ranges.minute c.requires short c.from.ensures, to_z-of_z w32 utc_offset (narrow utc_offset short))
    (fixed_written c.args.minute utc_offset c.requires short)
