-- The highest and the lowest water (this project).
use Rattle.std.specs.Prelude.{ℕ, ℤ, int_le, Bool, true, false, Option, Some, None, List, [], ◌++◌, codes, filter, find}
use Rattle.std.specs.List.{list_all}
use Rattle.curve_law.specs.declared.event.Event.{Event}
use Rattle.curve_law.specs.declared.kind.Kind.{Kind}
use Rattle.curve_law.specs.declared.kind.Kind.TheVariants.{High, Low}
use Rattle.event_text.specs.Lines.{level_text, text_of_unit}
use Rattle.harmonics_book.specs.declared.book.Units.{Units}
use Rattle.zone_time.specs.Moments.{moment_text}
use Rattle.report_sheets.specs.declared.extreme.Extreme.{Extreme}
use Rattle.report_sheets.specs.declared.extreme.Extreme.TheVariants.{Highest, Lowest}
use Rattle.report_sheets.specs.declared.head.Head.{Head}
use Rattle.report_sheets.specs.Sheets.{SheetSpec}

-- the extreme occurs at events of this kind: the highest level at high waters, the lowest at low waters
abbrev pub is_of : Extreme → Kind → Bool
is_of Highest High = true
is_of Lowest Low = true
is_of _ _ = false

-- `level` is at least as extreme as `other`: at or above it for Highest, at or below it for Lowest
abbrev pub reaches : Extreme → ℤ → ℤ → Bool
reaches Highest level other = int_le other level
reaches Lowest level other = int_le level other

-- the first of `events` with a level at least as extreme as the levels of all, or None if there are no
-- events
abbrev pub first_of : Extreme → List Event → Option Event
first_of extreme events = find (λ event. list_all (λ other. reaches extreme event.level other.level) events) events

-- for Highest the first of the highest high waters, for Lowest the first of the lowest low waters; None
-- if there are none
abbrev pub extreme_of : Extreme → List Event → Option Event
extreme_of extreme events = first_of extreme (filter (λ event. is_of extreme event.kind) events)

-- the beginning of the line of the highest or the lowest water
abbrev pub label_of : Extreme → List ℕ
label_of Highest = codes "Highest "
label_of Lowest = codes "Lowest "

-- the line of the highest or the lowest water, such as `Highest 1.00 feet 2000-01-10T11:59Z`, in
-- universal time; no line if there is no such event (None)
abbrev pub range_line : Extreme → Units → Option Event → List ℕ
range_line extreme units None = []
range_line extreme units (Some event) =
    label_of extreme ++ level_text event.level ++ codes " " ++ text_of_unit units ++ codes " " ++ moment_text event.minute ++ codes "\n"

-- a line with the station's name, and the lines of its highest high water and its lowest low water
-- among `events`
unfoldable pub ranges_of : Head → List Event → List ℕ
ranges_of head events =
    head.name ++ codes "\n" ++ range_line Highest head.units (extreme_of Highest events)
    ++ range_line Lowest head.units (extreme_of Lowest events)

-- the sheet called `range`, which shows the highest and the lowest water and accepts at most `limit`
-- events
abbrev pub range_sheet : ℕ → SheetSpec
range_sheet limit = record { word = codes "range"; limit = limit; layout = ranges_of }
