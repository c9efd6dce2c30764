-- The clock of a zone file (RFC 9636, with the terms of `jiff`). A zone file has a table of rows,
-- each of which gives the clock type (offset, daylight saving flag and abbreviation) from some
-- second on, and it may have a rule, POSIX's TZ, for the time after the last row.
use Rattle.std.specs.Prelude.{
  ℤ,
  pos,
  ◌+ℤ◌,
  ◌-ℤ◌,
  ◌*ℤ◌,
  int_le,
  int_lt,
  Bool,
  true,
  not,
  ◌&&◌,
  ◌||◌,
  if◌then◌else◌,
  List,
  [],
  ◌∷◌,
  Option,
  Some,
  None,
}
use Rattle.std.specs.Int.{int_div_euclid}
use Rattle.std.specs.Ordering.{int_eq}
use Rattle.std.specs.Str.{bytes_eq}
use Rattle.jiff_core.specs.Timestamp.{nanos_of_seconds}
use Rattle.jiff_tz.specs.declared.info.Dst.{Dst}
use Rattle.jiff_tz.specs.declared.info.Dst.TheVariants.{Yes, No}
use Rattle.jiff_tz.specs.declared.posix.Day.{Day}
use Rattle.jiff_tz.specs.Flag.{is_dst}
use Rattle.jiff_tz.specs.PosixRule.{
  match_some,
  clamp_to,
  nanos_per_day,
  first_nanosecond,
  last_nanosecond,
  rule_day,
  in_window,
  saturating_add,
  int_same,
}
use Rattle.jiff_tz.specs.PosixText.{DstText, TzText}
use Rattle.jiff_tz.specs.TzifReader.{TzifText}
use Rattle.jiff_tz.specs.TzifText.{TypeText, TransitionText}
use Rattle.jiff_tz.specs.Year.{year_of_nanos}

-- `rule_moment year moment utc_offset`: the instant at which a rule's change happens in `year`, in
-- nanoseconds since 1970-01-01T00:00Z. `moment` is the day and the seconds after midnight on a
-- clock that is `utc_offset` seconds ahead of universal time. The result is limited to the first
-- and last nanosecond of the year; it is the last if the year doesn't have the day.
unfoldable pub rule_moment : ℤ → Day × ℤ → ℤ → ℤ
rule_moment year moment utc_offset = match_some (rule_day year moment.0) (last_nanosecond year) (λ day.
    clamp_to (first_nanosecond year) (last_nanosecond year) (day *ℤ nanos_per_day +ℤ nanos_of_seconds (moment.1 -ℤ utc_offset)))

-- `daylight_of dst year standard`: the instants at which daylight saving time begins and ends in
-- `year`, in nanoseconds since 1970-01-01T00:00Z. It begins by a clock `standard` seconds ahead of
-- universal time, and ends by the clock of daylight saving time. If it begins with the year and its
-- end plus `standard` is outside the year, it ends with the year's last nanosecond.
unfoldable pub daylight_of : DstText → ℤ → ℤ → ℤ × ℤ
daylight_of dst year standard =
    let start : ℤ = rule_moment year dst.start standard in
    let finish : ℤ = rule_moment year dst.finish dst.seconds in
    let shifted : ℤ = saturating_add finish (nanos_of_seconds standard) in
    if int_same start (first_nanosecond year)
    && (int_lt shifted (first_nanosecond year) || int_lt (last_nanosecond year) shifted)
    then (start, last_nanosecond year)
    else (start, finish)

-- the clock type (offset, daylight saving flag and abbreviation) of standard time by a rule
abbrev pub standard_time : TzText → TypeText
standard_time rule = record { seconds = rule.std_seconds; dst = No; name = rule.std_name }

-- `rule_type_by rule dst nanos`: the clock type (offset, daylight saving flag and abbreviation) at
-- `nanos` nanoseconds since 1970-01-01T00:00Z: daylight saving time if `dst` is present and holds
-- then, and otherwise the standard time of `rule`
abbrev pub rule_type_by : TzText → Option DstText → ℤ → TypeText
rule_type_by rule None nanos = standard_time rule
rule_type_by rule (Some dst) nanos =
    if in_window (daylight_of dst (year_of_nanos nanos) rule.std_seconds) nanos
    then record { seconds = dst.seconds; dst = Yes; name = dst.name }
    else standard_time rule

-- `rule_type rule second`: the clock type (offset, daylight saving flag and abbreviation) by `rule`
-- at `second`, counted from 1970-01-01T00:00Z
unfoldable pub rule_type : TzText → ℤ → TypeText
rule_type rule second = rule_type_by rule rule.dst (nanos_of_seconds second)

-- `ahead_after rule utc_offset rows second`: the seconds by which a clock is ahead of universal
-- time at `second`, counted from 1970-01-01T00:00Z. It is `utc_offset` before the first of `rows`,
-- then the offset of the latest row at or before `second`; from the last row on, or if there is no
-- row, `rule` applies if there is one.
unfoldable pub ahead_after : Option TzText → ℤ → List TransitionText → ℤ → ℤ
ahead_after rule utc_offset [] second = match_some rule utc_offset (λ found. (rule_type found second).seconds)
ahead_after rule utc_offset (row ∷ rows) second =
    if int_le row.second second then ahead_after rule row.after.seconds rows second else utc_offset

-- `seconds_ahead file second`: the seconds by which the clock of a zone file is ahead of universal
-- time at `second`, counted from 1970-01-01T00:00Z; negative if it is behind
abbrev pub seconds_ahead : TzifText → ℤ → ℤ
seconds_ahead file second = ahead_after file.rule file.first.seconds file.transitions second

-- `clock_minute file minute`: the minute that the clock of a zone file shows at the start of
-- `minute`, counted from 1970-01-01T00:00Z, with seconds rounded down. The result counts from
-- 1970-01-01 00:00 on that clock.
unfoldable pub clock_minute : TzifText → ℤ → ℤ
clock_minute file minute =
    int_div_euclid ((minute *ℤ pos 60) +ℤ seconds_ahead file (minute *ℤ pos 60)) (pos 60)

-- `same_flag a b`: the two flags are equal; each says whether a clock is on daylight saving time
abbrev pub same_flag : Dst → Dst → Bool
same_flag Yes flag = is_dst flag
same_flag No flag = not (is_dst flag)

-- `same_type a b`: the two clock types have the same offset in seconds, the same daylight saving
-- flag and the same abbreviation
abbrev pub same_type : TypeText → TypeText → Bool
same_type a b = int_eq a.seconds b.seconds && same_flag a.dst b.dst && bytes_eq a.name b.name

-- `goes_on rule rows`: true if `rule`, at the second at which the last row of the table `rows`
-- begins, gives the same clock type (offset, daylight saving flag and abbreviation) as this row, or
-- if the table has no row
unfoldable pub goes_on : TzText → List TransitionText → Bool
goes_on rule [] = true
goes_on rule (row ∷ []) = same_type (rule_type rule row.second) row.after
goes_on rule (row ∷ next ∷ rows) = goes_on rule (next ∷ rows)

-- true if the zone file has no rule, or if its rule, at the second at which the last row of its
-- table begins, gives the same clock type (offset, daylight saving flag and abbreviation) as this
-- row; also true if the table has no row
unfoldable pub is_consistent : TzifText → Bool
is_consistent file = match_some file.rule true (λ rule. goes_on rule file.transitions)
