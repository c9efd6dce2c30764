-- The length in bytes of a certificate's text and of its lines.
use Rattle.std.proofs.Common.{◌≡◌, ℕ, ◌+◌, ◌*◌, ◌<◌, ◌≤◌, List, [], ◌∷◌, ◌++◌, codes, map, length, get_or, Option, Some, None, ℤ, pos, ◌⊎◌, inl, inr, refl, sym, ap, ◌∙◌, append_assoc, length-append, lit<, arith}
use Rattle.std.specs.Prelude.{unsigned_abs, unwrap_or, decimal, All, IfSome}
use Rattle.std.specs.Fmt.{signed_decimal}
use Rattle.std.specs.List.{AllByRecursion}
use Rattle.std.proofs.lemmas.List.Concat.{flat_map-append}
use Rattle.std.proofs.lemmas.List.Elements.{recursion_from_All}
use Rattle.curve_law.specs.declared.cell.Cell.{Cell}
use Rattle.curve_law.specs.declared.cell.Cell.TheVariants as cells
use Rattle.curve_law.specs.declared.kind.Kind.{Kind}
use Rattle.curve_law.specs.declared.kind.Kind.TheVariants.{High, Low, FloodBegins, EbbBegins, MarkRising, MarkFalling}
use Rattle.zone_time.specs.Moments.{moment_text}
use Rattle.cert_text.specs.declared.certificate.Certificate.{Certificate}
use Rattle.cert_text.specs.declared.track_name.TrackName.{TrackName}
use Rattle.cert_text.specs.declared.track_name.TrackName.TheVariants.{Turn, Slack, Mark}
use Rattle.cert_text.specs.Tracks.{track_word, kind_word}
use Rattle.cert_text.specs.Certificates.{IsMark, IsCell, IsCellOf, IsCertificate, HasUsualLevel, HasUsualLevels, cell_count}
use Rattle.cert_text.specs.Lines.{title_of, station_line_of, begin_line_of, end_line_of, mark_line_of, heading_of, prefix_of, cell_line_of, last_line, head_lines_of, track_lines_of, lines_if_there, ended, joined, certificate_text}
use Rattle.cert_text.proofs.NumberLemmas.{length-number, length-signed}
use Rattle.cert_text.proofs.TextLemmas.{length-moment_text}

-- ---- parts

pub joined-parts : (c : Certificate)
    → certificate_text c ≡ joined (head_lines_of c) ++ joined (track_lines_of Turn c.tracks.turn)
    ++ joined (lines_if_there Slack c.tracks.slack) ++ joined (lines_if_there Mark c.tracks.mark) ++ ended last_line
unfolding certificate_text last_line
joined-parts c =
    let turn = track_lines_of Turn c.tracks.turn in let slack = lines_if_there Slack c.tracks.slack in
    let crossings = lines_if_there Mark c.tracks.mark in
    flat_map-append ended (head_lines_of c) (turn ++ (slack ++ (crossings ++ last_line ∷ [])))
    ∙ ap (λ bs. joined (head_lines_of c) ++ bs) (flat_map-append ended turn (slack ++ (crossings ++ last_line ∷ []))
    ∙ ap (λ bs. joined turn ++ bs) (flat_map-append ended slack (crossings ++ last_line ∷ [])
    ∙ ap (λ bs. joined slack ++ bs) (flat_map-append ended crossings (last_line ∷ []))))
    ∙ sym (append_assoc (joined (head_lines_of c)) (joined turn) (joined slack ++ (joined crossings ++ ended last_line)))
    ∙ sym (append_assoc (joined (head_lines_of c) ++ joined turn) (joined slack) (joined crossings ++ ended last_line))
    ∙ sym (append_assoc (joined (head_lines_of c) ++ joined turn ++ joined slack) (joined crossings) (ended last_line))

-- ---- lengths of lines

pub length-ended : (line : List ℕ) → length (ended line) ≡ length line + 1
length-ended line = length-append line (10 ∷ [])

title_short : (v : ℕ) → (v ≡ 1) ⊎ (v ≡ 2) → length (title_of v) ≡ 18
unfolding title_of
title_short v (inl one) = rw one refl
title_short v (inr two) = rw two refl

pub station_short : (name : List ℕ) → length name ≤ 400 → length (station_line_of name) ≤ 408
unfolding station_line_of
station_short name h = omega (arith, length-append (codes "station ") name, h)

pub begin_short : (m : ℤ) → length (begin_line_of m) ≡ 23
unfolding begin_line_of
begin_short m = omega (arith, length-append (codes "begin ") (moment_text m), length-moment_text m)

pub end_short : (m : ℤ) → length (end_line_of m) ≡ 21
unfolding end_line_of
end_short m = omega (arith, length-append (codes "end ") (moment_text m), length-moment_text m)

mark_short : (mark : Option ℤ) → IfSome mark IsMark → length (mark_line_of mark) ≤ 20
unfolding mark_line_of
mark_short None h = omega arith
mark_short (Some z) h = omega (arith, length-append (codes "mark ") (signed_decimal z), length-signed z (omega (arith, h)))

heading_short : (track : TrackName) → length (heading_of track) ≤ 11
unfolding heading_of track_word
heading_short Turn = omega arith
heading_short Slack = omega arith
heading_short Mark = omega arith

prefix_short : (kind : Kind) → length (prefix_of kind) ≤ 8
unfolding kind_word
prefix_short High = omega arith
prefix_short Low = omega arith
prefix_short FloodBegins = omega arith
prefix_short EbbBegins = omega arith
prefix_short MarkRising = omega arith
prefix_short MarkFalling = omega arith

pub cell_short : (c : Cell) → IsCell c → length (ended (cell_line_of c)) ≤ 24
unfolding cell_line_of
cell_short (cells.Quiet n) h = omega (
  arith,
  length-ended (codes "q " ++ decimal n),
  length-append (codes "q ") (decimal n),
  length-signed (pos n) (omega (arith, h.1)),
)
cell_short cells.Still h = omega arith
cell_short (cells.Turn kind level) h = omega (
  arith,
  length-ended (prefix_of kind ++ signed_decimal level),
  length-append (prefix_of kind) (signed_decimal level),
  prefix_short kind,
  length-signed level h,
)

-- ---- lengths of texts

-- one more line before others adds its length and 1 for its LF
pub joined-cons : (line : List ℕ) (lines : List (List ℕ)) → length (joined (line ∷ lines)) ≡ length line + 1 + length (joined lines)
joined-cons line lines = omega (arith, length-append (ended line) (joined lines), length-ended line)

-- `IsShort most cell`: the cell's line with its LF has at most `most` bytes
abbrev IsShort : ℕ → Cell → Type 0
IsShort most c = length (ended (cell_line_of c)) ≤ most

cells_short : (most : ℕ) (cs : List Cell) → AllByRecursion (IsShort most) cs → length (joined (map cell_line_of cs)) ≤ most * length cs
cells_short most [] h = omega arith
cells_short most (c ∷ cs) h =
    omega (arith, joined-cons (cell_line_of c) (map cell_line_of cs), length-ended (cell_line_of c), h.0, cells_short most cs h.1)

track_short : (most : ℕ) (track : TrackName) (cs : List Cell) → All (IsShort most) cs
    → length (joined (track_lines_of track cs)) ≤ 12 + most * length cs
track_short most track cs h =
    omega (
      arith,
      joined-cons (heading_of track) (map cell_line_of cs),
      heading_short track,
      cells_short most cs (recursion_from_All (IsShort most) cs h),
    )

there_short : (most : ℕ) (track : TrackName) (o : Option (List Cell)) → IfSome o (All (IsShort most))
    → length (joined (lines_if_there track o)) ≤ 12 + most * length (unwrap_or o [])
there_short most track None h = omega arith
there_short most track (Some cs) h = track_short most track cs h

head_short : (c : Certificate) → IsCertificate c → length (joined (head_lines_of c)) ≤ 495
head_short c h =
    omega (
      arith,
      joined-cons (title_of c.version) (station_line_of c.station ∷ begin_line_of c.begin ∷ end_line_of c.end ∷ mark_line_of c.mark ∷ []),
      joined-cons (station_line_of c.station) (begin_line_of c.begin ∷ end_line_of c.end ∷ mark_line_of c.mark ∷ []),
      joined-cons (begin_line_of c.begin) (end_line_of c.end ∷ mark_line_of c.mark ∷ []),
      joined-cons (end_line_of c.end) (mark_line_of c.mark ∷ []),
      joined-cons (mark_line_of c.mark) [],
      title_short c.version h.version,
      station_short c.station h.station.short,
      begin_short c.begin,
      end_short c.end,
      mark_short c.mark h.mark,
    )

pub last_short : length (ended last_line) ≡ 5
unfolding last_line
last_short = refl

-- if the line of each cell has at most `most` bytes with its LF, the text has at most 536 bytes and
-- `most` for each cell
tracks_short : (most : ℕ) (c : Certificate) → IsCertificate c → All (IsShort most) c.tracks.turn
    → IfSome c.tracks.slack (All (IsShort most)) → IfSome c.tracks.mark (All (IsShort most))
    → length (certificate_text c) ≤ 536 + most * cell_count c
tracks_short most c h turn_short slack_short crossings_short =
    let head = joined (head_lines_of c) in let turn = joined (track_lines_of Turn c.tracks.turn) in
    let slack = joined (lines_if_there Slack c.tracks.slack) in let crossings = joined (lines_if_there Mark c.tracks.mark) in
    omega (
      arith,
      ap length (joined-parts c),
      length-append (head ++ turn ++ slack ++ crossings) (ended last_line),
      length-append (head ++ turn ++ slack) crossings,
      length-append (head ++ turn) slack,
      length-append head turn,
      head_short c h,
      track_short most Turn c.tracks.turn turn_short,
      there_short most Slack c.tracks.slack slack_short,
      there_short most Mark c.tracks.mark crossings_short,
      last_short,
    )

cell_of_track : (track : TrackName) (c : Cell) → IsCellOf track c → IsCell c
cell_of_track track (cells.Quiet n) h = h
cell_of_track track cells.Still h = h
cell_of_track track (cells.Turn kind level) h = h.1

track_cells : (track : TrackName) (cs : List Cell) → All (IsCellOf track) cs → All (IsShort 24) cs
track_cells track cs h = λ k d few. cell_short (get_or cs k d) (cell_of_track track (get_or cs k d) (h k d few))

cells_there : (track : TrackName) (o : Option (List Cell)) → IfSome o (All (IsCellOf track)) → IfSome o (All (IsShort 24))
cells_there track None h = h
cells_there track (Some cs) h = track_cells track cs h

pub text_short : (c : Certificate) → IsCertificate c → length (certificate_text c) ≤ 536 + 24 * cell_count c
text_short c h =
    tracks_short 24 c h (track_cells Turn c.tracks.turn h.turn) (cells_there Slack c.tracks.slack h.slack)
    (cells_there Mark c.tracks.mark h.crossings)

-- ---- certificates with usual levels

length-level : (z : ℤ) → unsigned_abs z ≤ 11000000000 → length (signed_decimal z) ≤ 12
length-level z h = length-number 11 z (lit< tt) (omega arith) (omega (arith, h))

pub usual_cell_short : (c : Cell) → IsCell c → HasUsualLevel c → length (ended (cell_line_of c)) ≤ 21
unfolding cell_line_of
usual_cell_short (cells.Quiet n) h usual = omega (
  arith,
  length-ended (codes "q " ++ decimal n),
  length-append (codes "q ") (decimal n),
  length-signed (pos n) (omega (arith, h.1)),
)
usual_cell_short cells.Still h usual = omega arith
usual_cell_short (cells.Turn kind level) h usual = omega (
  arith,
  length-ended (prefix_of kind ++ signed_decimal level),
  length-append (prefix_of kind) (signed_decimal level),
  prefix_short kind,
  length-level level usual,
)

usual_cells : (track : TrackName) (cs : List Cell) → All (IsCellOf track) cs → All HasUsualLevel cs → All (IsShort 21) cs
usual_cells track cs h usual = λ k d few. usual_cell_short (get_or cs k d) (cell_of_track track (get_or cs k d) (h k d few)) (usual k d few)

usual_there : (track : TrackName) (o : Option (List Cell)) → IfSome o (All (IsCellOf track))
    → IfSome o (All HasUsualLevel) → IfSome o (All (IsShort 21))
usual_there track None h usual = h
usual_there track (Some cs) h usual = usual_cells track cs h usual

pub usual_short : (c : Certificate) → IsCertificate c → HasUsualLevels c → length (certificate_text c) ≤ 536 + 21 * cell_count c
usual_short c h usual =
    tracks_short 21 c h (usual_cells Turn c.tracks.turn h.turn usual.turn)
    (usual_there Slack c.tracks.slack h.slack usual.slack) (usual_there Mark c.tracks.mark h.crossings usual.crossings)

pub usual_fits : (c : Certificate) → IsCertificate c → HasUsualLevels c → cell_count c ≤ 15819840 → length (certificate_text c) < 333000000
usual_fits c h usual few = omega (arith, usual_short c h usual, few)
