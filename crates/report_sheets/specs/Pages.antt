-- The text of a report (this project).
use Rattle.std.specs.Prelude.{ℕ, Bool, not, List, Option, take, filter, position}
use Rattle.std.specs.List.{flat_map, list_any}
use Rattle.std.specs.Str.{bytes_eq}
use Rattle.curve_law.specs.declared.event.Event.{Event}
use Rattle.report_sheets.specs.declared.head.Head.{Head}
use Rattle.report_sheets.specs.Sheets.{SheetSpec}

-- the page of a report that `sheet` writes: its layout for `head` and the first `sheet.limit` of
-- `events`
unfoldable pub page_of : Head → List Event → SheetSpec → List ℕ
page_of head events sheet = sheet.layout head (take sheet.limit events)

-- the word of `sheet` is one of the words in `wanted`
abbrev pub is_wanted : List (List ℕ) → SheetSpec → Bool
is_wanted wanted sheet = list_any (λ word. bytes_eq word sheet.word) wanted

-- the text of a report: the pages of those `sheets` that have a word in `wanted`, one after the other,
-- in the order of `sheets`
unfoldable pub pages_of : List SheetSpec → List (List ℕ) → Head → List Event → List ℕ
pages_of sheets wanted head events = flat_map (page_of head events) (filter (is_wanted wanted) sheets)

-- `word` is the word of one of `sheets`
abbrev pub has_sheet : List SheetSpec → List ℕ → Bool
has_sheet sheets word = list_any (λ sheet. bytes_eq word sheet.word) sheets

-- the index, counted from 0, of the first word in `wanted` that isn't the word of one of `sheets`, or
-- None if each is
unfoldable pub missing_of : List SheetSpec → List (List ℕ) → Option ℕ
missing_of sheets wanted = position (λ word. not (has_sheet sheets word)) wanted
