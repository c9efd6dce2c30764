-- Reading bytes returns the certificate that they are the text of, or the first line with which no
-- certificate goes on.
use Rattle.std.proofs.Common.{◌≡◌, ℕ, ◌+◌, true, false, List, [], ◌∷◌, ◌++◌, codes, Option, Some, None, ℤ, pos, Result, Ok, Err, inl, refl, sym, ap, ◌∙◌, subst}
use Rattle.std.specs.Prelude.{is_some, IfOk}
use Rattle.curve_law.specs.declared.cell.Cell.{Cell}
use Rattle.curve_law.specs.declared.tracks.Tracks.{Tracks}
use Rattle.zone_time.specs.Moments.{moment_text}
use Rattle.cert_text.specs.declared.certificate.Certificate.{Certificate}
use Rattle.cert_text.specs.declared.fault.CertFault.{CertFault}
use Rattle.cert_text.specs.declared.track_name.TrackName.{TrackName}
use Rattle.cert_text.specs.declared.track_name.TrackName.TheVariants.{Turn, Slack, Mark}
use Rattle.cert_text.specs.Tracks.{track_word}
use Rattle.cert_text.specs.Certificates.{IsCertificate}
use Rattle.cert_text.specs.Lines.{heading_of, last_line, lines_of, joined, certificate_text}
use Rattle.cert_text.specs.Spelling.{SpellsCell, SpellsTrack, SpellsSlack, SpellsCrossings, SpellsTracks, Spells, IsTextOf, Reads}
use Rattle.cert_text.specs.ByLine.{Place, Part, ◌>>=◌, returned, line_of, is_word, is_next, items_of, part_if, part_after, end_of_text}
use Rattle.cert_text.specs.Workings.LineReading.{version_of, station_of, moment_after, mark_of, cell_of}
use Rattle.cert_text.specs.Readings.{track_part, last_part, tracks_part, certificate_part}
use Rattle.cert_text.proofs.PartLemmas.{Lines, at, IsReader, StartsWith, line_starts, then_starts, line_reader, Mean, all_zip, items_reader, IsPast, items_read, choice_reader, end_reader, mapped_reader, bytes_eq-same, word_is, word_read}
use Rattle.cert_text.proofs.ByLineLemmas.{IsReaderOf}
use Rattle.cert_text.proofs.CutLemmas.{AreFree}
use Rattle.cert_text.proofs.FreeLemmas.{lines_free}
use Rattle.cert_text.proofs.GrammarLemmas.{spells-lines_of, lines_of-spelled}
use Rattle.cert_text.proofs.LineLemmas.{x_is_name, moment_zero, version_is, version_read, station_is, station_read, moment_is, moment_read, mark_is, mark_read, cell_is, cell_read, heading_no_cell, last_no_cell}

-- ---- parts that begin with a line

-- a part that reads one line and goes on with `next` is a reader of the grammar if `next` is one
-- for each accepted line, and there is such a line
pub then_reader : {A C : Type 0} (spells : C → Lines → Type 0) (item_of : List ℕ → Option A) (next : A → Part C) (line : List ℕ)
    (value : A) → item_of line ≡ Some value
    → ((line : List ℕ) (value : A) → item_of line ≡ Some value → IsReader (λ c more. spells c (line ∷ more)) (next value))
    → IsReader spells (line_of item_of >>= next)
then_reader spells item_of next = line_reader spells (line_of item_of >>= next) item_of next (line_starts item_of next)

-- a part that reads a line of `word` and a moment and goes on with `next` is a reader of the
-- grammar if `next` is one after each such line
pub moment_reader : {C : Type 0} (spells : C → Lines → Type 0) (word : List ℕ) (next : ℤ → Part C)
    → ((line : List ℕ) (m : ℤ) → moment_after word line ≡ Some m → IsReader (λ c more. spells c (line ∷ more)) (next m))
    → IsReader spells (line_of (moment_after word) >>= next)
moment_reader spells word next =
    then_reader spells (moment_after word) next (word ++ moment_text (pos 0)) (pos 0)
    (moment_read word (pos 0) (word ++ moment_text (pos 0)) (moment_zero, refl))

-- a part that reads the line of a station and goes on with `next` is a reader of the grammar if
-- `next` is one after each such line
pub station_reader : {C : Type 0} (spells : C → Lines → Type 0) (next : List ℕ → Part C)
    → ((line name : List ℕ) → station_of line ≡ Some name → IsReader (λ c more. spells c (line ∷ more)) (next name))
    → IsReader spells (line_of station_of >>= next)
station_reader spells next =
    then_reader spells station_of next (codes "station x") (codes "x") (station_read (codes "x") (codes "station x") (x_is_name, refl))

-- `last_tail value`: a part (a reader of some lines) that reads the line `done`, checks that no
-- byte follows, and has this value
abbrev pub last_tail : {C : Type 0} → C → Part C
last_tail value = last_part >>= λ last. returned value

pub last_reader : {C : Type 0} (spells : C → Lines → Type 0) (value : C) → spells value (last_line ∷ []) → IsReader spells (last_tail value)
last_reader spells value h =
    line_reader spells (last_tail value) (is_word last_line) (λ last. end_of_text >>= λ end. returned value)
    (then_starts last_part (is_word last_line) (λ last. end_of_text) (λ last. returned value)
    (line_starts (is_word last_line) (λ last. end_of_text))) last_line tt (word_read last_line) (λ line last is.
    end_reader (λ c more. spells c (line ∷ more)) value (subst (λ l. spells value (l ∷ [])) (sym (word_is last_line line last is)) h))

-- ---- tracks

track_spelled : (track : TrackName) (cells : List Cell) (line : List ℕ) (lines : Lines) (value : Unit {0})
    → is_word (heading_of track) line ≡ Some value → Mean (cell_of track) cells lines → SpellsTrack track cells (line ∷ lines)
unfolding heading_of
track_spelled track cells line lines value is all = (
  word_is (heading_of track) line value is,
  all_zip (λ cell line. cell_of track line ≡ Some cell) (SpellsCell track) (λ cell line got. cell_is track line cell got) cells lines all,
)

abbrev mark_tail : Option ℤ → List Cell → Option (List Cell) → Part Tracks
mark_tail mark turn slack =
    part_if (is_some mark) (track_part Mark) >>= λ crossings. last_tail (record { turn = turn; slack = slack; mark = crossings })

abbrev slack_tail : Option ℤ → List Cell → Part Tracks
slack_tail mark turn = part_after (heading_of Slack) (track_part Slack) >>= λ slack. mark_tail mark turn slack

abbrev cells_of : TrackName → Unit {0} → Part (List Cell)
cells_of track heading = items_of (cell_of track)

track_starts : (track : TrackName) → StartsWith (track_part track) (is_word (heading_of track)) (cells_of track)
track_starts track = line_starts (is_word (heading_of track)) (cells_of track)

mark_reader : (mark : Option ℤ) (turn : List Cell) (slack : Option (List Cell)) (spells : Tracks → Lines → Type 0)
    → ((crossings : Option (List Cell)) (lines : Lines) → SpellsCrossings mark crossings lines
    → spells (record { turn = turn; slack = slack; mark = crossings }) (lines ++ last_line ∷ []))
    → IsReader spells (mark_tail mark turn slack)
mark_reader None turn slack spells put = last_reader spells (record { turn = turn; slack = slack; mark = None }) (put None [] refl)
mark_reader (Some z) turn slack spells put =
    line_reader spells (mark_tail (Some z) turn slack) (is_word (heading_of Mark))
    (λ heading. items_of (cell_of Mark) >>= λ cells. last_tail (record { turn = turn; slack = slack; mark = Some cells }))
    (then_starts (part_if true (track_part Mark)) (is_word (heading_of Mark)) (λ heading. cells_of Mark heading >>= λ cells. returned (Some cells))
    (λ crossings. last_tail (record { turn = turn; slack = slack; mark = crossings }))
    (then_starts (track_part Mark) (is_word (heading_of Mark)) (cells_of Mark) (λ cells. returned (Some cells)) (track_starts Mark)))
    (heading_of Mark) tt (word_read (heading_of Mark)) (λ line value is.
    items_reader (λ c more. spells c (line ∷ more)) (cell_of Mark)
    (λ cells. last_tail (record { turn = turn; slack = slack; mark = Some cells })) (λ cells lines all.
    last_reader (λ c more. spells c (line ∷ (lines ++ more))) (record { turn = turn; slack = slack; mark = Some cells })
    (put (Some cells) (line ∷ lines) (track_spelled Mark cells line lines value is all))))

slack_reader : (mark : Option ℤ) (turn : List Cell) (spells : Tracks → Lines → Type 0)
    → ((slack crossings : Option (List Cell)) (lines more : Lines) → SpellsSlack slack lines → SpellsCrossings mark crossings more
    → spells (record { turn = turn; slack = slack; mark = crossings }) (lines ++ (more ++ last_line ∷ [])))
    → IsReader spells (slack_tail mark turn)
slack_reader mark turn spells put =
    choice_reader spells (heading_of Slack) (track_part Slack) (items_of (cell_of Slack)) (mark_tail mark turn) (track_starts Slack)
    (mark_reader mark turn None spells (λ crossings more h. put None crossings [] more refl h)) (λ line is.
    items_reader (λ c more. spells c (line ∷ more)) (cell_of Slack) (λ cells. mark_tail mark turn (Some cells)) (λ cells lines all.
    mark_reader mark turn (Some cells) (λ c more. spells c (line ∷ (lines ++ more))) (λ crossings more h.
    put (Some cells) crossings (line ∷ lines) more
    (track_spelled Slack cells line lines tt (ap (is_word (heading_of Slack)) is ∙ word_read (heading_of Slack)) all) h)))

tracks_reader : (mark : Option ℤ) → IsReader (SpellsTracks mark) (tracks_part mark)
unfolding last_line
tracks_reader mark =
    line_reader (SpellsTracks mark) (tracks_part mark) (is_word (heading_of Turn)) (λ heading. cells_of Turn heading >>= slack_tail mark)
    (then_starts (track_part Turn) (is_word (heading_of Turn)) (cells_of Turn) (slack_tail mark) (track_starts Turn))
    (heading_of Turn) tt (word_read (heading_of Turn)) (λ line value is.
    items_reader (λ c more. SpellsTracks mark c (line ∷ more)) (cell_of Turn) (slack_tail mark) (λ cells lines all.
    slack_reader mark cells (λ c more. SpellsTracks mark c (line ∷ (lines ++ more))) (λ slack crossings slacks marks hs hm.
    record {
      turn = line ∷ lines;
      slack = slacks;
      crossings = marks;
      turn_spelled = track_spelled Turn cells line lines value is all;
      slack_spelled = hs;
      crossings_spelled = hm;
      all = refl;
    })))

-- ---- the whole certificate

abbrev tracks_tail : ℕ → List ℕ → ℤ → ℤ → Option ℤ → Part Certificate
tracks_tail version station begin end mark = tracks_part mark >>= λ tracks.
    returned (record { version = version; station = station; begin = begin; end = end; mark = mark; tracks = tracks })

abbrev end_tail : ℕ → List ℕ → ℤ → ℤ → Part Certificate
end_tail version station begin end = line_of mark_of >>= tracks_tail version station begin end

abbrev begin_tail : ℕ → List ℕ → ℤ → Part Certificate
begin_tail version station begin = line_of (moment_after (codes "end ")) >>= end_tail version station begin

abbrev station_tail : ℕ → List ℕ → Part Certificate
station_tail version station = line_of (moment_after (codes "begin ")) >>= begin_tail version station

abbrev version_tail : ℕ → Part Certificate
version_tail version = line_of station_of >>= station_tail version

certificate_reader : IsReader Spells certificate_part
certificate_reader =
    then_reader Spells version_of version_tail (codes "tide certificate 1") 1
    (version_read 1 (codes "tide certificate 1") (inl (refl, refl))) (λ v version v_is.
    station_reader (λ c more. Spells c (v ∷ more)) (station_tail version) (λ s station s_is.
    moment_reader (λ c more. Spells c (v ∷ s ∷ more)) (codes "begin ") (begin_tail version station) (λ b begin b_is.
    moment_reader (λ c more. Spells c (v ∷ s ∷ b ∷ more)) (codes "end ") (end_tail version station begin) (λ e end e_is.
    then_reader (λ c more. Spells c (v ∷ s ∷ b ∷ e ∷ more)) mark_of (tracks_tail version station begin end) (codes "mark none") None
    (mark_read None (codes "mark none") refl) (λ m mark m_is.
    mapped_reader (SpellsTracks mark) (λ c more. Spells c (v ∷ s ∷ b ∷ e ∷ m ∷ more)) (tracks_part mark)
    (λ tracks. record { version = version; station = station; begin = begin; end = end; mark = mark; tracks = tracks })
    (λ tracks lines h. (
      version_is v version v_is,
      station_is s station s_is,
      moment_is (codes "begin ") b begin b_is,
      moment_is (codes "end ") e end e_is,
      mark_is m mark m_is,
      h,
    )) (tracks_reader mark))))))

-- ---- the lines of a certificate are taken

last_past : (track : TrackName) → IsPast (cell_of track) (codes "done" ∷ [])
unfolding last_line
last_past track = last_no_cell track

track_past : (track other : TrackName) (cells : List Cell) (lines rest : Lines) → SpellsTrack other cells lines
    → IsPast (cell_of track) (lines ++ rest)
unfolding heading_of
track_past track other cells [] rest h = absurd h
track_past track other cells (line ∷ lines) rest h = rw h.0 (heading_no_cell track other)

crossings_past : (track : TrackName) (mark : Option ℤ) (crossings : Option (List Cell)) (lines : Lines)
    → SpellsCrossings mark crossings lines → IsPast (cell_of track) (lines ++ codes "done" ∷ [])
crossings_past track None None lines h = rw h (last_past track)
crossings_past track (Some z) (Some cells) lines h = track_past track Mark cells lines (codes "done" ∷ []) h
crossings_past track None (Some cells) lines h = absurd h
crossings_past track (Some z) None lines h = absurd h

slack_past : (track : TrackName) (slack : Option (List Cell)) (lines rest : Lines) → SpellsSlack slack lines
    → IsPast (cell_of track) rest → IsPast (cell_of track) (lines ++ rest)
slack_past track None lines rest h past = rw h past
slack_past track (Some cells) lines rest h past = track_past track Slack cells lines rest h

track_taken : (track : TrackName) (cells : List Cell) (lines rest : Lines) (n : ℕ) → SpellsTrack track cells lines
    → IsPast (cell_of track) rest → (m : ℕ) × (track_part track (at n (lines ++ rest) []) ≡ Ok (cells, at m rest []))
unfolding heading_of
track_taken track cells [] rest n h past = absurd h
track_taken track cells (line ∷ lines) rest n h past =
    let cells_are = all_zip (SpellsCell track) (λ cell line. cell_of track line ≡ Some cell) (cell_read track) cells lines h.1 in
    let read = items_read (cell_of track) cells lines rest (n + 1) [] cells_are past in
    (read.0, rw (h.0, bytes_eq-same (codes "track " ++ track_word track), read.1) refl)

mark_taken : (mark : Option ℤ) (turn : List Cell) (slack crossings : Option (List Cell)) (lines : Lines) (n : ℕ)
    → SpellsCrossings mark crossings lines → (left : Place) × (mark_tail mark turn slack (at n (lines ++ codes "done" ∷ []) [])
    ≡ Ok (record { turn = turn; slack = slack; mark = crossings }, left))
unfolding last_line
mark_taken None turn slack None lines n h = (at (n + 1) [] [], rw h refl)
mark_taken (Some z) turn slack (Some cells) lines n h =
    let lines_read = track_taken Mark cells lines (codes "done" ∷ []) n h (last_past Mark) in
    (at (lines_read.0 + 1) [] [], rw lines_read.1 refl)
mark_taken None turn slack (Some cells) lines n h = absurd h
mark_taken (Some z) turn slack None lines n h = absurd h

not_slack : (mark : Option ℤ) (crossings : Option (List Cell)) (lines : Lines) → SpellsCrossings mark crossings lines
    → is_next (heading_of Slack) (lines ++ codes "done" ∷ []) ≡ false
unfolding heading_of track_word
not_slack None None lines h = rw h refl
not_slack (Some z) (Some cells) [] h = absurd h
not_slack (Some z) (Some cells) (line ∷ lines) h = rw h.0 refl
not_slack None (Some cells) lines h = absurd h
not_slack (Some z) None lines h = absurd h

is_slack : (cells : List Cell) (lines rest : Lines) → SpellsTrack Slack cells lines → is_next (heading_of Slack) (lines ++ rest) ≡ true
unfolding heading_of
is_slack cells [] rest h = absurd h
is_slack cells (line ∷ lines) rest h = rw h.0 (bytes_eq-same (codes "track " ++ track_word Slack))

slack_taken : (mark : Option ℤ) (turn : List Cell) (slack crossings : Option (List Cell)) (lines more : Lines) (n : ℕ)
    → SpellsSlack slack lines → SpellsCrossings mark crossings more
    → (left : Place) × (slack_tail mark turn (at n (lines ++ (more ++ codes "done" ∷ [])) [])
    ≡ Ok (record { turn = turn; slack = slack; mark = crossings }, left))
slack_taken mark turn None crossings lines more n none h =
    let lines_read = mark_taken mark turn None crossings more n h in
    (lines_read.0, rw (none, not_slack mark crossings more h) lines_read.1)
slack_taken mark turn (Some cells) crossings lines more n some h =
    let rest = more ++ codes "done" ∷ [] in
    let track = track_taken Slack cells lines rest n some (crossings_past Slack mark crossings more h) in
    let lines_read = mark_taken mark turn (Some cells) crossings more track.0 h in
    (lines_read.0, rw (is_slack cells lines rest some, track.1) lines_read.1)

tracks_taken : (mark : Option ℤ) (tracks : Tracks) (lines : Lines) (n : ℕ) → SpellsTracks mark tracks lines
    → (left : Place) × (tracks_part mark (at n lines []) ≡ Ok (tracks, left))
tracks_taken mark tracks lines n h =
    let past = slack_past Turn tracks.slack h.slack (h.crossings ++ codes "done" ∷ []) h.slack_spelled
    (crossings_past Turn mark tracks.mark h.crossings h.crossings_spelled) in
    let track = track_taken Turn tracks.turn h.turn (h.slack ++ (h.crossings ++ codes "done" ∷ [])) n h.turn_spelled past in
    let lines_read = slack_taken mark tracks.turn tracks.slack tracks.mark h.slack h.crossings track.0 h.slack_spelled h.crossings_spelled in
    (lines_read.0, rw (h.all, track.1) lines_read.1)

certificate_taken : (c : Certificate) (lines : Lines) → Spells c lines
    → (left : Place) × (certificate_part (at 0 lines []) ≡ Ok (c, left))
certificate_taken c [] h = absurd h
certificate_taken c (v ∷ []) h = absurd h
certificate_taken c (v ∷ s ∷ []) h = absurd h
certificate_taken c (v ∷ s ∷ b ∷ []) h = absurd h
certificate_taken c (v ∷ s ∷ b ∷ e ∷ []) h = absurd h
certificate_taken c (v ∷ s ∷ b ∷ e ∷ m ∷ lines) h =
    let tracks = tracks_taken c.mark c.tracks lines 5 h.5 in (
      tracks.0,
      rw (
        version_read c.version v h.0,
        station_read c.station s h.1,
        moment_read (codes "begin ") c.begin b h.2,
        moment_read (codes "end ") c.end e h.3,
        mark_read c.mark m h.4,
        tracks.1,
      ) refl,
    )

-- if each line of a certificate reads as its value, one position after the other, the whole reads
-- as the certificate with these values
pub certificate_by : (old p q r s t new : Place) (version : ℕ) (station name : List ℕ) (begin end : ℤ) (mark : Option ℤ) (tracks : Tracks)
    → line_of version_of old ≡ Ok (version, p) → line_of station_of p ≡ Ok (name, q)
    → line_of (moment_after (codes "begin ")) q ≡ Ok (begin, r) → line_of (moment_after (codes "end ")) r ≡ Ok (end, s)
    → line_of mark_of s ≡ Ok (mark, t) → tracks_part mark t ≡ Ok (tracks, new) → station ≡ name
    → certificate_part old
    ≡ Ok (record { version = version; station = station; begin = begin; end = end; mark = mark; tracks = tracks }, new)
certificate_by old p q r s t new version station name begin end mark tracks first second third fourth fifth sixth copied =
    rw (first, second, third, fourth, fifth, sixth, copied) refl

-- ---- texts of certificates

pub reader : IsReaderOf Spells certificate_part
reader = record {
  reader = certificate_reader;
  lines_read = certificate_taken;
  free = λ c lines h. let is = lines_of-spelled c lines h in subst AreFree (sym is.1) (lines_free c is.0);
}

pub text_of-itself : (c : Certificate) → IsCertificate c → IsTextOf c (certificate_text c)
unfolding certificate_text
text_of-itself c h = (lines_of c, spells-lines_of c h, refl)

pub text_is : (c : Certificate) (bytes : List ℕ) → IsTextOf c bytes → IsCertificate c × (certificate_text c ≡ bytes)
unfolding certificate_text
text_is c bytes h =
    let is = lines_of-spelled c h.0 h.1 in
    (is.0, ap (λ (ls : List (List ℕ)). joined ls) (sym is.1) ∙ sym h.2)

pub valid_given : (bytes : List ℕ) (result : Result Certificate CertFault) → Reads bytes result → IfOk result IsCertificate
valid_given bytes (Ok c) h = (text_is c bytes h).0
valid_given bytes (Err fault) h = tt
