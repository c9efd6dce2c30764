-- The lines of one more event.
use Rattle.std.proofs.Common.{◌≡◌, ◌<◌, length, codes, refl, arith, append-nil, List, [], ◌∷◌, ◌++◌, ap, ◌∙◌}
use Rattle.std.specs.List.{flat_map}
use Rattle.std.proofs.lemmas.List.Concat.{flat_map-append}
use Rattle.curve_law.specs.declared.event.Event.{Event}
use Rattle.report_sheets.specs.declared.head.Head.{Head}
use Rattle.ical_sheet.specs.Calendars.{calendar_of, event_lines, first_lines}
use Rattle.ical_sheet.specs.Folding.{folded}

-- the lines of all events are those of one event after the other
lines-each : (head : Head) (events : List Event) → flat_map folded (flat_map (event_lines head) events)
    ≡ flat_map (λ event. flat_map folded (event_lines head event)) events
lines-each head [] = refl
lines-each head (event ∷ events) =
    flat_map-append folded (event_lines head event) (flat_map (event_lines head) events)
    ∙ ap (λ text. flat_map folded (event_lines head event) ++ text) (lines-each head events)

-- a calendar without events, and one with some
pub calendar_of-none : (head : Head) (events : List Event) → length events ≡ 0 → calendar_of head events ≡ []
unfolding calendar_of
calendar_of-none head [] h = refl
calendar_of-none head (event ∷ events) h = absurd (omega (arith, h))

pub calendar_of-some : (head : Head) (events : List Event) → 0 < length events
    → calendar_of head events ≡ flat_map folded first_lines
    ++ flat_map (λ event. flat_map folded (event_lines head event)) events ++ folded (codes "END:VCALENDAR")
unfolding calendar_of
calendar_of-some head [] h = absurd (omega (arith, h))
calendar_of-some head (event ∷ events) h =
    flat_map-append folded (first_lines ++ flat_map (event_lines head) (event ∷ events)) (codes "END:VCALENDAR" ∷ [])
    ∙ ap (λ text. text ++ flat_map folded (codes "END:VCALENDAR" ∷ []))
    (flat_map-append folded first_lines (flat_map (event_lines head) (event ∷ events)))
    ∙ simp (append-nil, lines-each)
