-- Lines by the clocks of two zones.
use Rattle.std.proofs.Common.{◌≡◌, ℕ, ℤ, Bool, List, [], ◌∷◌, ◌++◌, map, All, refl, sym, ap, ◌∙◌, append_assoc, append-nil, arith}
use Rattle.std.specs.Prelude.{codes}
use Rattle.std.proofs.lemmas.Int.{ints}
use Rattle.std.proofs.lemmas.List.Elements.{All-nil, All-cons}
use Rattle.curve_law.specs.declared.event.Event.{Event}
use Rattle.event_text.specs.Lines.{text_of_unit, level_text, padded, height_line_of, event_line_of, event_line_in}
use Rattle.event_text.specs.Words.{word_of, word_text}
use Rattle.harmonics_book.specs.declared.book.Units.{Units}
use Rattle.listing.specs.declared.row.Row.{Row}
use Rattle.listing.specs.Listings.{clock_text_of, direction_of, highest_line_of, highest_text_of, now_line_of, plain_events_of, plain_heights_of, row_line_in}
use Rattle.text_laws.specs.Labels.{minute_of, DifferInLabel, DifferInLabelAfter}
use Rattle.text_laws.specs.Lines.{AreListings, AreListingsAfter, IsLevel, IsLine, listing_of}
use Rattle.text_laws.proofs.LineLemmas.{event-lines, highest-line, now-line, row-lines}
use Rattle.text_laws.proofs.ListLemmas.{flat_map-map, AllZip-maps}
use Rattle.zone_time.specs.declared.local.Local.{Local}
use Rattle.zone_time.specs.declared.zone.Zone.{Zone}
use Rattle.zone_time.specs.declared.zone.Zone.TheVariants.{Utc, Fixed, File}
use Rattle.zone_time.specs.Locals.{local_text}
use Rattle.zone_time.specs.Zones.{local_in}

pub minute_of-local_in : (zone : Zone) (minute : ℤ) → minute_of (local_in zone minute) ≡ minute
minute_of-local_in Utc minute = omega (arith, ints)
minute_of-local_in (Fixed utc_offset) minute = omega (arith, ints)
minute_of-local_in (File file) minute = omega (arith, ints)

-- the rest of a line after the local time
abbrev level_rest : Units → ℤ → List ℕ
level_rest units level = codes "  " ++ padded 9 (level_text level) ++ codes " " ++ text_of_unit units

abbrev event_name : Units → Event → List ℕ
event_name units event = codes "  " ++ word_text (word_of units event.kind event.level) ++ codes "\n"

abbrev event_rest : Units → Event → List ℕ
event_rest units event = level_rest units event.level ++ event_name units event

regroup : (a b c d e f g h : List ℕ) → a ++ b ++ c ++ d ++ e ++ f ++ g ++ h ≡ a ++ (b ++ c ++ d ++ e ++ (f ++ g ++ h))
regroup a b c d e f g h = simp append_assoc refl

event_line-rest : (local : Local) (units : Units) (event : Event)
    → event_line_of local event units ≡ local_text local ++ event_rest units event
unfolding event_line_of height_line_of
event_line-rest local units event =
    regroup (local_text local) (codes "  ") (padded 9 (level_text event.level)) (codes " ") (text_of_unit units)
    (codes "  ") (word_text (word_of units event.kind event.level)) (codes "\n")

row_line-rest : (local : Local) (units : Units) (row : Row) → height_line_of local row.level units ++ codes "\n"
    ≡ local_text local ++ (level_rest units row.level ++ codes "\n")
unfolding height_line_of
row_line-rest local units row = simp append_assoc refl

pub events-labels : (name : List ℕ) (units : Units) (events : List Event) (zone other : Zone) → All (λ event. IsLevel event.level) events
    → AreListings name (DifferInLabel zone other) (plain_events_of name units events zone) (plain_events_of name units events other)
unfolding plain_events_of
events-labels name units events zone other small = record {
  lines = map (event_line_in zone units) events;
  others = map (event_line_in other units) events;
  text_is = ap (λ (rest : List ℕ). name ++ codes "\n" ++ rest) (sym (flat_map-map (λ line. line) (event_line_in zone units) events));
  other_is = ap (λ (rest : List ℕ). name ++ codes "\n" ++ rest) (sym (flat_map-map (λ line. line) (event_line_in other units) events));
  single = event-lines zone units events small;
  single_there = event-lines other units events small;
  related = AllZip-maps (DifferInLabel zone other) (event_line_in zone units) (event_line_in other units) (λ event. record {
    minute = event.minute;
    rest = event_rest units event;
    here = event_line-rest (local_in zone event.minute) units event;
    there = event_line-rest (local_in other event.minute) units event;
  }) events;
}

pub heights-labels : (name : List ℕ) (units : Units) (rows : List Row) (zone other : Zone) → All (λ row. IsLevel row.level) rows
    → AreListings name (DifferInLabel zone other) (plain_heights_of name units rows zone) (plain_heights_of name units rows other)
unfolding plain_heights_of
heights-labels name units rows zone other small = record {
  lines = map (row_line_in zone units) rows;
  others = map (row_line_in other units) rows;
  text_is = ap (λ (rest : List ℕ). name ++ codes "\n" ++ rest) (sym (flat_map-map (λ line. line) (row_line_in zone units) rows));
  other_is = ap (λ (rest : List ℕ). name ++ codes "\n" ++ rest) (sym (flat_map-map (λ line. line) (row_line_in other units) rows));
  single = row-lines zone units rows small;
  single_there = row-lines other units rows small;
  related = AllZip-maps (DifferInLabel zone other) (row_line_in zone units) (row_line_in other units) (λ row. record {
    minute = row.minute;
    rest = level_rest units row.level ++ codes "\n";
    here = row_line-rest (local_in zone row.minute) units row;
    there = row_line-rest (local_in other row.minute) units row;
  }) rows;
}

-- ---- a line with words before its local time

now_line-rest : (zone : Zone) (units : Units) (now level : ℤ) (rising : Bool) → now_line_of zone units now level rising
    ≡ codes "Now " ++ local_text (local_in zone now) ++ (level_rest units level ++ codes "  " ++ direction_of rising ++ codes "\n")
unfolding height_line_of
now_line-rest zone units now level rising = simp append_assoc refl

highest_line-rest : (zone : Zone) (units : Units) (minute level : ℤ) → highest_line_of zone units minute level
    ≡ codes "Highest " ++ local_text (local_in zone minute) ++ (level_rest units level ++ codes "\n")
unfolding height_line_of
highest_line-rest zone units minute level = simp append_assoc refl

-- the text of `clock` as a list of lines
clock_text-lines : (name : List ℕ) (units : Units) (now level : ℤ) (rising : Bool) (events : List Event) (zone : Zone)
    → clock_text_of name units now level rising events zone
    ≡ listing_of name (now_line_of zone units now level rising ∷ map (event_line_in zone units) events)
unfolding clock_text_of
clock_text-lines name units now level rising events zone =
    append_assoc (name ++ codes "\n") (now_line_of zone units now level rising) _
    ∙ ap (λ (rest : List ℕ). name ++ codes "\n" ++ (now_line_of zone units now level rising ++ rest))
    (sym (flat_map-map (λ line. line) (event_line_in zone units) events))

pub clock-labels : (name : List ℕ) (units : Units) (now level : ℤ) (rising : Bool) (events : List Event) (zone other : Zone)
    → IsLevel level → All (λ event. IsLevel event.level) events
    → AreListingsAfter name (DifferInLabelAfter (codes "Now ") zone other) (DifferInLabel zone other)
    (clock_text_of name units now level rising events zone) (clock_text_of name units now level rising events other)
clock-labels name units now level rising events zone other fits small = record {
  first = now_line_of zone units now level rising;
  first_there = now_line_of other units now level rising;
  lines = map (event_line_in zone units) events;
  others = map (event_line_in other units) events;
  text_is = clock_text-lines name units now level rising events zone;
  other_is = clock_text-lines name units now level rising events other;
  single = All-cons IsLine (now_line_of zone units now level rising) (map (event_line_in zone units) events)
      (now-line zone units now level rising fits) (event-lines zone units events small);
  single_there = All-cons IsLine (now_line_of other units now level rising) (map (event_line_in other units) events)
      (now-line other units now level rising fits) (event-lines other units events small);
  first_related = record {
    minute = now;
    rest = level_rest units level ++ codes "  " ++ direction_of rising ++ codes "\n";
    here = now_line-rest zone units now level rising;
    there = now_line-rest other units now level rising;
  };
  related = AllZip-maps (DifferInLabel zone other) (event_line_in zone units) (event_line_in other units) (λ event. record {
    minute = event.minute;
    rest = event_rest units event;
    here = event_line-rest (local_in zone event.minute) units event;
    there = event_line-rest (local_in other event.minute) units event;
  }) events;
}

-- the text of `highest` as a list of one line
highest_text-lines : (name : List ℕ) (units : Units) (minute level : ℤ) (zone : Zone)
    → highest_text_of name units minute level zone ≡ listing_of name (highest_line_of zone units minute level ∷ [])
unfolding highest_text_of
highest_text-lines name units minute level zone =
    ap (λ (line : List ℕ). name ++ codes "\n" ++ line) (sym (append-nil (highest_line_of zone units minute level)))

pub highest-labels : (name : List ℕ) (units : Units) (minute level : ℤ) (zone other : Zone) → IsLevel level
    → AreListings name (DifferInLabelAfter (codes "Highest ") zone other)
    (highest_text_of name units minute level zone) (highest_text_of name units minute level other)
highest-labels name units minute level zone other fits = record {
  lines = highest_line_of zone units minute level ∷ [];
  others = highest_line_of other units minute level ∷ [];
  text_is = highest_text-lines name units minute level zone;
  other_is = highest_text-lines name units minute level other;
  single = All-cons IsLine (highest_line_of zone units minute level) [] (highest-line zone units minute level fits) (All-nil IsLine);
  single_there = All-cons IsLine (highest_line_of other units minute level) [] (highest-line other units minute level fits) (All-nil IsLine);
  related = AllZip-maps (DifferInLabelAfter (codes "Highest ") zone other)
      (λ (at : Zone). highest_line_of zone units minute level) (λ (at : Zone). highest_line_of other units minute level)
      (λ at. record {
        minute = minute;
        rest = level_rest units level ++ codes "\n";
        here = highest_line-rest zone units minute level;
        there = highest_line-rest other units minute level;
      }) (zone ∷ []);
}
