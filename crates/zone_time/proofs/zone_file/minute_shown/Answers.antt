use Rattle.std.proofs.Common.{◌≡◌, ◌∙◌, ℤ, pos, ◌+ℤ◌, ◌-ℤ◌, ◌*ℤ◌, arith, to_z, of_z, w32, w64}
use Rattle.std.specs.Int.{int_div_euclid}
use Rattle.std.proofs.lemmas.Int.{to_z-of_z}
use mir.Val.{SFits}
use Rattle.jiff_core.specs.Calendar.{IsWithin}
use Rattle.jiff_core.proofs.SignedLemmas.{signed_arith}
use Rattle.zone_time.specs.Zones.{InZoneYears}
use Rattle.zone_time.proofs.zone_file.minute_shown.Goals as goal

minute_fits : (minute : ℤ) → InZoneYears minute → SFits w64 (minute *ℤ pos 60)
minute_fits minute within = omega (arith, signed_arith, within)

second_fits : (minute utc_offset : ℤ) → InZoneYears minute → IsWithin 93599 utc_offset → SFits w64 ((minute *ℤ pos 60) +ℤ utc_offset)
second_fits minute utc_offset within short = omega (arith, signed_arith, within, short)

second_is : (minute utc_offset converted : ℤ) → SFits w64 minute → SFits w32 utc_offset → InZoneYears minute → IsWithin 93599 utc_offset
    → converted ≡ to_z w32 (of_z w32 utc_offset)
    → to_z w64 (of_z w64 (to_z w64 (of_z w64 minute) *ℤ pos 60)) +ℤ to_z w64 (of_z w64 converted) ≡ (minute *ℤ pos 60) +ℤ utc_offset
second_is minute utc_offset converted wide narrow within short is =
    let same : converted ≡ utc_offset = is ∙ to_z-of_z w32 utc_offset narrow in
    rw (
      to_z-of_z w64 minute wide,
      to_z-of_z w64 (minute *ℤ pos 60) (minute_fits minute within),
      same,
      to_z-of_z w64 utc_offset (omega (arith, signed_arith, short)),
    )

pub overflow_mul-second : goal.overflow_mul-second
overflow_mul-second c = rw (to_z-of_z w64 c.args.minute c.ranges.minute) (minute_fits c.args.minute c.requires.minute)

pub overflow_add-second : goal.overflow_add-second
overflow_add-second c =
    rw (second_is c.args.minute c.args.utc_offset c.from.result c.ranges.minute c.ranges.utc_offset c.requires.minute c.requires.utc_offset c.from.ensures)
    (second_fits c.args.minute c.args.utc_offset c.requires.minute c.requires.utc_offset)

shown_is : (shown minute utc_offset second : ℤ) → SFits w64 shown → InZoneYears minute
    → IsWithin 93599 utc_offset → second ≡ (minute *ℤ pos 60) +ℤ utc_offset → shown ≡ int_div_euclid (to_z w64 (of_z w64 second)) (pos 60)
    → to_z w64 (of_z w64 shown) ≡ int_div_euclid ((minute *ℤ pos 60) +ℤ utc_offset) (pos 60)
shown_is shown minute utc_offset second fits within short is quotient =
    rw (
      to_z-of_z w64 shown fits,
      quotient,
      is,
      to_z-of_z w64 ((minute *ℤ pos 60) +ℤ utc_offset) (second_fits minute utc_offset within short),
    )

near : (shown minute utc_offset : ℤ) → IsWithin 93599 utc_offset → shown ≡ int_div_euclid ((minute *ℤ pos 60) +ℤ utc_offset) (pos 60)
    → IsWithin 1560 (shown -ℤ minute)
near shown minute utc_offset short is = rw is (omega (arith, signed_arith, short), omega (arith, signed_arith, short))

pub returns-clause-value : goal.returns-clause-value
returns-clause-value c =
    shown_is c.div_euclid.result c.args.minute c.args.utc_offset _ (record { sfits = c.div_euclid.type_inv }) c.requires.minute c.requires.utc_offset
    (second_is c.args.minute c.args.utc_offset c.from.result c.ranges.minute c.ranges.utc_offset c.requires.minute c.requires.utc_offset c.from.ensures)
    c.div_euclid.ensures

pub returns-clause-in_range : goal.returns-clause-in_range
returns-clause-in_range c =
    near _ c.args.minute c.args.utc_offset c.requires.utc_offset (shown_is c.div_euclid.result c.args.minute c.args.utc_offset _ (record { sfits = c.div_euclid.type_inv })
    c.requires.minute c.requires.utc_offset (second_is c.args.minute c.args.utc_offset c.from.result c.ranges.minute c.ranges.utc_offset
    c.requires.minute c.requires.utc_offset c.from.ensures) c.div_euclid.ensures)
