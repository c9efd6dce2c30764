-- The lines of a certificate spell it, and no other lines do.
use Rattle.std.proofs.Common.{◌≡◌, ℕ, List, [], ◌∷◌, map, Option, Some, None, ℤ, ◌⊎◌, inl, inr, refl, ap, ◌∙◌}
use Rattle.std.specs.Prelude.{is_some, All, IfSome}
use Rattle.std.specs.List.{AllByRecursion, AllZip}
use Rattle.std.proofs.lemmas.List.Elements.{recursion_from_All, All-from_recursion}
use Rattle.curve_law.specs.declared.cell.Cell.{Cell}
use Rattle.curve_law.specs.declared.cell.Cell.TheVariants as cells
use Rattle.cert_text.specs.declared.certificate.Certificate.{Certificate}
use Rattle.cert_text.specs.declared.track_name.TrackName.{TrackName}
use Rattle.cert_text.specs.declared.track_name.TrackName.TheVariants.{Turn, Slack, Mark}
use Rattle.cert_text.specs.Certificates.{IsMark, IsCellOf, IsCertificate}
use Rattle.cert_text.specs.Lines.{title_of, station_line_of, begin_line_of, end_line_of, mark_line_of, heading_of, cell_line_of, last_line, track_lines_of, lines_if_there, body_lines_of, lines_of}
use Rattle.cert_text.specs.Spelling.{SpellsVersion, SpellsMark, SpellsCell, SpellsTrack, SpellsSlack, SpellsCrossings, Spells}

-- ---- a certificate's lines spell it

version_spelled : (v : ℕ) → (v ≡ 1) ⊎ (v ≡ 2) → SpellsVersion v (title_of v)
unfolding title_of
version_spelled v (inl one) = inl (one, rw one refl)
version_spelled v (inr two) = inr (two, rw two refl)

mark_spelled : (mark : Option ℤ) → IfSome mark IsMark → SpellsMark mark (mark_line_of mark)
unfolding mark_line_of
mark_spelled None h = refl
mark_spelled (Some z) h = (h, refl)

cell_spelled : (track : TrackName) (c : Cell) → IsCellOf track c → SpellsCell track c (cell_line_of c)
unfolding cell_line_of
cell_spelled track (cells.Quiet n) h = (h.0, h.1, refl)
cell_spelled track cells.Still h = refl
cell_spelled track (cells.Turn kind level) h = (h.0, h.1, refl)

cells_spelled : (track : TrackName) (cs : List Cell) → AllByRecursion (IsCellOf track) cs
    → AllZip (SpellsCell track) cs (map cell_line_of cs)
cells_spelled track [] h = tt
cells_spelled track (c ∷ cs) h = (cell_spelled track c h.0, cells_spelled track cs h.1)

track_spelled : (track : TrackName) (cs : List Cell) → All (IsCellOf track) cs → SpellsTrack track cs (track_lines_of track cs)
unfolding heading_of
track_spelled track cs h = (refl, cells_spelled track cs (recursion_from_All (IsCellOf track) cs h))

slack_spelled : (o : Option (List Cell)) → IfSome o (All (IsCellOf Slack)) → SpellsSlack o (lines_if_there Slack o)
slack_spelled None h = refl
slack_spelled (Some cs) h = track_spelled Slack cs h

crossings_spelled : (mark : Option ℤ) (o : Option (List Cell)) → is_some o ≡ is_some mark
    → IfSome o (All (IsCellOf Mark)) → SpellsCrossings mark o (lines_if_there Mark o)
crossings_spelled None None e h = refl
crossings_spelled (Some mark) (Some cs) e h = track_spelled Mark cs h
crossings_spelled None (Some cs) e h = absurd cc
crossings_spelled (Some mark) None e h = absurd cc

pub spells-lines_of : (c : Certificate) → IsCertificate c → Spells c (lines_of c)
unfolding station_line_of begin_line_of end_line_of last_line
spells-lines_of c h = (
  version_spelled c.version h.version,
  (h.station, refl),
  (h.begin, refl),
  (h.end, refl),
  mark_spelled c.mark h.mark,
  record {
    turn = track_lines_of Turn c.tracks.turn;
    slack = lines_if_there Slack c.tracks.slack;
    crossings = lines_if_there Mark c.tracks.mark;
    turn_spelled = track_spelled Turn c.tracks.turn h.turn;
    slack_spelled = slack_spelled c.tracks.slack h.slack;
    crossings_spelled = crossings_spelled c.mark c.tracks.mark h.marked h.crossings;
    all = refl;
  },
)

-- ---- and no others

version_is : (v : ℕ) (line : List ℕ) → SpellsVersion v line → ((v ≡ 1) ⊎ (v ≡ 2)) × (line ≡ title_of v)
unfolding title_of
version_is v line (inl one) = (inl one.0, one.1 ∙ rw one.0 refl)
version_is v line (inr two) = (inr two.0, two.1 ∙ rw two.0 refl)

mark_is : (mark : Option ℤ) (line : List ℕ) → SpellsMark mark line → IfSome mark IsMark × (line ≡ mark_line_of mark)
unfolding mark_line_of
mark_is None line h = (tt, h)
mark_is (Some z) line h = (h.0, h.1)

cell_is : (track : TrackName) (c : Cell) (line : List ℕ) → SpellsCell track c line → IsCellOf track c × (line ≡ cell_line_of c)
unfolding cell_line_of
cell_is track (cells.Quiet n) line h = ((h.0, h.1), h.2)
cell_is track cells.Still line h = (tt, h)
cell_is track (cells.Turn kind level) line h = ((h.0, h.1), h.2)

cells_are : (track : TrackName) (cs : List Cell) (lines : List (List ℕ)) → AllZip (SpellsCell track) cs lines
    → AllByRecursion (IsCellOf track) cs × (lines ≡ map cell_line_of cs)
cells_are track [] [] h = (tt, refl)
cells_are track [] (l ∷ ls) h = absurd h
cells_are track (c ∷ cs) [] h = absurd h
cells_are track (c ∷ cs) (l ∷ ls) h =
    let one = cell_is track c l h.0 in let more = cells_are track cs ls h.1 in
    ((one.0, more.0), ap (λ x. x ∷ ls) one.1 ∙ ap (λ xs. cell_line_of c ∷ xs) more.1)

track_is : (track : TrackName) (cs : List Cell) (lines : List (List ℕ)) → SpellsTrack track cs lines
    → All (IsCellOf track) cs × (lines ≡ track_lines_of track cs)
unfolding heading_of
track_is track cs [] h = absurd h
track_is track cs (l ∷ ls) h =
    let more = cells_are track cs ls h.1 in
    (All-from_recursion (IsCellOf track) cs more.0, ap (λ x. x ∷ ls) h.0 ∙ ap (λ xs. heading_of track ∷ xs) more.1)

slack_is : (o : Option (List Cell)) (lines : List (List ℕ)) → SpellsSlack o lines
    → IfSome o (All (IsCellOf Slack)) × (lines ≡ lines_if_there Slack o)
slack_is None lines h = (tt, h)
slack_is (Some cs) lines h = track_is Slack cs lines h

crossings_are : (mark : Option ℤ) (o : Option (List Cell)) (lines : List (List ℕ)) → SpellsCrossings mark o lines
    → (is_some o ≡ is_some mark) × IfSome o (All (IsCellOf Mark)) × (lines ≡ lines_if_there Mark o)
crossings_are None None lines h = (refl, tt, h)
crossings_are (Some mark) (Some cs) lines h = let is = track_is Mark cs lines h in (refl, is.0, is.1)
crossings_are None (Some cs) lines h = absurd h
crossings_are (Some mark) None lines h = absurd h

pub lines_of-spelled : (c : Certificate) (lines : List (List ℕ)) → Spells c lines → IsCertificate c × (lines ≡ lines_of c)
unfolding station_line_of begin_line_of end_line_of last_line
lines_of-spelled c [] h = absurd h
lines_of-spelled c (v ∷ []) h = absurd h
lines_of-spelled c (v ∷ s ∷ []) h = absurd h
lines_of-spelled c (v ∷ s ∷ b ∷ []) h = absurd h
lines_of-spelled c (v ∷ s ∷ b ∷ e ∷ []) h = absurd h
lines_of-spelled c (v ∷ s ∷ b ∷ e ∷ m ∷ ls) h =
    let version = version_is c.version v h.0 in
    let mark = mark_is c.mark m h.4 in
    let turn = track_is Turn c.tracks.turn h.5.turn h.5.turn_spelled in
    let slack = slack_is c.tracks.slack h.5.slack h.5.slack_spelled in
    let crossings = crossings_are c.mark c.tracks.mark h.5.crossings h.5.crossings_spelled in
    let body : ls ≡ body_lines_of c.tracks.turn c.tracks.slack c.tracks.mark = h.5.all ∙ rw (turn.1, slack.1, crossings.2) refl in (
      record {
        version = version.0;
        station = h.1.0;
        begin = h.2.0;
        end = h.3.0;
        mark = mark.0;
        turn = turn.0;
        slack = slack.0;
        crossings = crossings.1;
        marked = crossings.0;
      },
      rw (version.1, h.1.1, h.2.1, h.3.1, mark.1, body) refl,
    )
