-- The pages of one more sheet.
use Rattle.std.proofs.Common.{◌≡◌, ℕ, true, false, List, [], ◌∷◌, ◌++◌, map, append-nil}
use Rattle.std.proofs.lemmas.List.{map-append}
use Rattle.std.proofs.lemmas.List.Concat.{flat_map-append}
use Rattle.std.proofs.lemmas.List.Elements.{filter-append}
use Rattle.curve_law.specs.declared.event.Event.{Event}
use Rattle.report_sheets.specs.declared.head.Head.{Head}
use Rattle.report_sheets.specs.Sheets.{SheetSpec}
use Rattle.report_sheets.specs.Pages.{is_wanted, page_of, pages_of}

pub pages_more : {Y : Type 0} (h : Y → SheetSpec) (ys : List Y) (y : Y) (wanted : List (List ℕ)) (head : Head) (events : List Event)
    → is_wanted wanted (h y) ≡ true
    → pages_of (map h (ys ++ y ∷ [])) wanted head events ≡ pages_of (map h ys) wanted head events ++ page_of head events (h y)
unfolding pages_of
pages_more h ys y wanted head events is =
    rw (map-append h ys (y ∷ []), filter-append (is_wanted wanted) (map h ys) (h y ∷ []), flat_map-append, is, append-nil)

pub pages_kept : {Y : Type 0} (h : Y → SheetSpec) (ys : List Y) (y : Y) (wanted : List (List ℕ)) (head : Head) (events : List Event)
    → is_wanted wanted (h y) ≡ false
    → pages_of (map h (ys ++ y ∷ [])) wanted head events ≡ pages_of (map h ys) wanted head events
unfolding pages_of
pages_kept h ys y wanted head events is =
    rw (map-append h ys (y ∷ []), filter-append (is_wanted wanted) (map h ys) (h y ∷ []), flat_map-append, is, append-nil)
