-- Lines that are appended one after the other.
use Rattle.std.proofs.Common.{◌≡◌, ℕ, ◌+◌, ◌<◌, List, [], ◌∷◌, ◌++◌, map, length, get_or, take, Result, Ok, Err, ◌∙◌, append_assoc, append-nil}
use Rattle.std.specs.Prelude.{OnOk}
use Rattle.std.specs.declared.alloc.AllocError.{AllocError}
use Rattle.std.proofs.lemmas.List.{take_more, map-append}
use Rattle.std.proofs.lemmas.List.Concat.{flat_map-append}
use Rattle.curve_law.specs.declared.cell.Cell.{Cell}
use Rattle.cert_text.specs.declared.track_name.TrackName.{TrackName}
use Rattle.cert_text.specs.Lines.{heading_of, cell_line_of, track_lines_of, ended, joined}

pub line-appended : (old new text bytes line : List ℕ) → new ≡ old ++ text → text ≡ bytes → bytes ≡ line → new ≡ old ++ line
line-appended old new text bytes line appended is written = cc

pub three-joined : (result : Result (Unit {0}) AllocError) (old a b new text x y z : List ℕ) → a ≡ old ++ ended x → b ≡ a ++ ended y
    → text ≡ ended z → OnOk result (new ≡ b ++ text) → OnOk result (new ≡ old ++ joined (x ∷ y ∷ z ∷ []))
three-joined (Ok done) old a b new text x y z first second is third =
    rw (third, is, second, first) (simp (append_assoc, append-nil))
three-joined (Err fault) old a b new text x y z first second is third = tt

pub five-joined : (result : Result (Unit {0}) AllocError) (old a b new text v w x y z : List ℕ) → a ≡ old ++ ended v
    → b ≡ a ++ joined (w ∷ x ∷ y ∷ []) → text ≡ ended z → OnOk result (new ≡ b ++ text)
    → OnOk result (new ≡ old ++ joined (v ∷ w ∷ x ∷ y ∷ z ∷ []))
five-joined (Ok done) old a b new text v w x y z first middle is last =
    rw (last, is, middle, first) (simp (append_assoc, append-nil))
five-joined (Err fault) old a b new text v w x y z first middle is last = tt

pub heading-joined : (track : TrackName) (old new : List ℕ) → new ≡ old ++ ended (heading_of track)
    → new ≡ old ++ joined (track_lines_of track [])
heading-joined track old new e = e ∙ simp append-nil

-- appending the line of the cell at index `i` to the heading of a track and the lines of its first
-- `i` cells makes the lines of its first `i + 1` cells
pub cell-joined : (track : TrackName) (cells : List Cell) (i : ℕ) (default : Cell) (old now new : List ℕ) → i < length cells
    → now ≡ old ++ joined (track_lines_of track (take i cells)) → new ≡ now ++ ended (cell_line_of (get_or cells i default))
    → new ≡ old ++ joined (track_lines_of track (take (i + 1) cells))
cell-joined track cells i default old now new lt so_far more =
    let cell = get_or cells i default in
    rw (
      take_more cells i default lt,
      map-append cell_line_of (take i cells) (cell ∷ []),
      flat_map-append ended (map cell_line_of (take i cells)) (cell_line_of cell ∷ []),
      more,
      so_far,
    ) (simp (append_assoc, append-nil))

pub five-appended : (none a b c d e v w x y z : List ℕ) → none ≡ [] → a ≡ none ++ v → b ≡ a ++ w → c ≡ b ++ x → d ≡ c ++ y
    → e ≡ d ++ z → e ≡ v ++ w ++ x ++ y ++ z
five-appended none a b c d e v w x y z start first second third fourth fifth = rw (fifth, fourth, third, second, first, start)
