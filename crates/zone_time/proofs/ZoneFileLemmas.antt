-- The clock of a zone file shows what `jiff` computes for the zone, and the file's rule gives the
-- clock type of the table's last row exactly if `jiff`'s condition holds.
use Rattle.std.proofs.Common.{◌≡◌, ℕ, zero, suc, ◌+◌, ◌-◌, ℤ, true, false, cond, int_le, ◌==◌, List, [], ◌∷◌, get_or, length, map, Option, Some, None, refl, ap, ◌∙◌, arith, vec_len}
use Rattle.std.proofs.lemmas.Bool.Decides.{nat_tests}
use Rattle.std.specs.List.{prefix_len}
use Rattle.std.specs.Option.{option_map}
use Rattle.jiff_core.specs.Timestamp.{nanos_of_seconds}
use Rattle.jiff_core.specs.declared.offset.Offset.{Offset}
use Rattle.jiff_core.proofs.SignedLemmas.{signed_arith}
use Rattle.jiff_tz.specs.declared.info.Dst.TheVariants.{Yes}
use Rattle.jiff_tz.specs.declared.info.OffsetInfo.{OffsetInfo}
use Rattle.jiff_tz.specs.declared.posix.Dst.{Dst}
use Rattle.jiff_tz.specs.declared.posix.DayTime.{DayTime}
use Rattle.jiff_tz.specs.declared.posix.TimeZone.{TimeZone}
use Rattle.jiff_tz.specs.declared.tzif.Tzif.{Tzif}
use Rattle.jiff_tz.specs.declared.tzif.transition.Transition.{Transition}
use Rattle.jiff_tz.specs.declared.tzif.transition.LocalTimeType.{LocalTimeType}
use Rattle.jiff_tz.specs.Abbreviation.{abbreviation_text}
use Rattle.jiff_tz.specs.PosixRule as Posix
use Rattle.jiff_tz.specs.PosixRule.{match_some, rule_nanos, utc_window, in_window, dst_at_by}
use Rattle.jiff_tz.specs.PosixText.{day_time_view, dst_view, tz_view}
use Rattle.jiff_tz.specs.Tzif as Table
use Rattle.jiff_tz.specs.Tzif.{tzif_view, floor_second, count_at}
use Rattle.jiff_tz.specs.TzifText.{TypeText, transition_text}
use Rattle.jiff_tz.specs.Year.{year_of_nanos}
use Rattle.zone_time.specs.ZoneFiles.{rule_moment, daylight_of, standard_time, rule_type_by, rule_type, ahead_after, seconds_ahead}

-- the clock type (offset, daylight saving flag and abbreviation) that `jiff` computes by a rule
abbrev pub info_view : OffsetInfo → TypeText
info_view info = record { seconds = info.offset.seconds; dst = info.dst; name = abbreviation_text info.abbreviation }

rule_moment-rule_nanos : (year : ℤ) (d : DayTime) (utc_offset : ℤ) → rule_moment year (day_time_view d) utc_offset ≡ rule_nanos year d utc_offset
unfolding rule_moment rule_nanos
rule_moment-rule_nanos year d utc_offset = refl

daylight_of-utc_window : (d : Dst) (year : ℤ) (standard : Offset)
    → daylight_of (dst_view d) year standard.seconds ≡ utc_window d year standard
unfolding daylight_of utc_window rule_moment rule_nanos
daylight_of-utc_window d year standard = refl

rule_type_by-info : (tz : TimeZone) (dst : Option Dst) (n : ℤ) → rule_type_by (tz_view tz) (option_map dst_view dst) n
    ≡ info_view (match_some (dst_at_by tz.std_offset dst n) (Posix.std_info tz) Posix.dst_info)
rule_type_by-info tz None n = refl
rule_type_by-info tz (Some d) n =
    rw (daylight_of-utc_window d (year_of_nanos n) tz.std_offset)
    (elim (in_window (utc_window d (year_of_nanos n) tz.std_offset) n)
    as (λ v. cond v (record { seconds = d.offset.seconds; dst = Yes; name = abbreviation_text d.abbrev }) (standard_time (tz_view tz))
    ≡ info_view (match_some (cond v (Some d) None) (Posix.std_info tz) Posix.dst_info)) [ true ↦ refl | false ↦ refl ])

pub rule_type-info_at : (tz : TimeZone) (second : ℤ)
    → rule_type (tz_view tz) second ≡ info_view (Posix.info_at tz (nanos_of_seconds second))
unfolding rule_type
rule_type-info_at tz second = rule_type_by-info tz tz.dst (nanos_of_seconds second)

info_at-offset : (tz : TimeZone) (n : ℤ) → (Posix.info_at tz n).offset ≡ Posix.offset_at tz n
info_at-offset tz n =
    elim (Posix.dst_at tz n) as (λ o. (match_some o (Posix.std_info tz) Posix.dst_info).offset
    ≡ match_some o tz.std_offset (λ d. d.offset)) [ None ↦ refl | Some d ↦ refl ]

rule_type-seconds : (tz : TimeZone) (second : ℤ)
    → (rule_type (tz_view tz) second).seconds ≡ (Posix.offset_at tz (nanos_of_seconds second)).seconds
rule_type-seconds tz second =
    ap (λ t. t.seconds) (rule_type-info_at tz second) ∙ ap (λ o. o.seconds) (info_at-offset tz (nanos_of_seconds second))

-- the number of rows no later than a second
abbrev rows_by : ℤ → List Transition → ℕ
rows_by second rows = prefix_len (λ t. int_le t.second second) rows

-- the clock type after some rows
abbrev type_after : LocalTimeType → List Transition → Transition → ℕ → LocalTimeType
type_after first rows none count = cond (count == 0) first (get_or rows (count - 1) none).after

type_after-cons : (first : LocalTimeType) (row : Transition) (rows : List Transition) (none : Transition) (count : ℕ)
    → type_after first (row ∷ rows) none (1 + count) ≡ type_after row.after rows none count
type_after-cons first row rows none zero = refl
type_after-cons first row rows none (suc count) =
    let more : (1 + suc count == 0) ≡ false = grind (arith, nat_tests) in
    let some : (suc count == 0) ≡ false = grind (arith, nat_tests) in
    let place : 1 + suc count - 1 ≡ suc count = omega arith in
    let last : suc count - 1 ≡ count = omega arith in
    rw (more, some, place, last)

ahead_after-rows : (o : Option TimeZone) (first : LocalTimeType) (rows : List Transition) (none : Transition) (second : ℤ)
    → ahead_after (option_map tz_view o) first.offset.seconds (map transition_text rows) second
    ≡ (match_some (cond (rows_by second rows == length rows) o None) (type_after first rows none (rows_by second rows)).offset
    (λ tz. Posix.offset_at tz (nanos_of_seconds second))).seconds
unfolding ahead_after
ahead_after-rows None first [] none second = refl
ahead_after-rows (Some tz) first [] none second = rule_type-seconds tz second
ahead_after-rows o first (row ∷ rows) none second =
    let count = rows_by second rows in
    let whole : (1 + count == suc (length rows)) ≡ (count == length rows) = grind (arith, nat_tests) in
    let some : (0 == suc (length rows)) ≡ false = grind (arith, nat_tests) in
    elim (int_le row.second second)
    as (λ v. cond v (ahead_after (option_map tz_view o) row.after.offset.seconds (map transition_text rows) second) first.offset.seconds
    ≡ (match_some (cond (cond v (1 + count) 0 == suc (length rows)) o None) (type_after first (row ∷ rows) none
    (cond v (1 + count) 0)).offset (λ tz. Posix.offset_at tz (nanos_of_seconds second))).seconds) [
      | true ↦ rw (whole, type_after-cons first row rows none count) (ahead_after-rows o row.after rows none second)
      | false ↦ rw some
    ]

floor_second-nanos : (second : ℤ) → floor_second (nanos_of_seconds second) ≡ second
floor_second-nanos second = omega (arith, signed_arith)

pub seconds_ahead-offset_at : (z : Tzif) (second : ℤ)
    → seconds_ahead (tzif_view z) second ≡ (Table.offset_at z (nanos_of_seconds second)).seconds
seconds_ahead-offset_at z second =
    let whole : vec_len z.transitions ≡ length z.transitions.items = z.transitions.ok.0 in
    rw (floor_second-nanos second, whole) (ahead_after-rows z.posix_tz z.first z.transitions.items (Table.no_transition z) second)
