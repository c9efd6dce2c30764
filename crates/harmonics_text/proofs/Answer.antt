-- The result of a parser state over the lines of a file from some line on, skipped lines included.
use Rattle.std.proofs.Common.{◌≡◌, ℕ, zero, suc, ◌+◌, ◌<◌, ◌≤◌, Bool, true, false, cond, ltb, List, [], ◌∷◌, length, drop, Option, Some, None, Result, Ok, Err, refl, ap, ◌∙◌, add-zero, arith}
use Rattle.std.specs.Prelude.{not, ◌&&◌, ◌||◌}
use Rattle.std.specs.List.{list_all}
use Rattle.std.proofs.Math.Seq.{drop-cons}
use Rattle.std.proofs.lemmas.Bool.{lt-ltb}
use Rattle.harmonics_book.specs.declared.book.Book.{Book}
use Rattle.harmonics_text.specs.declared.fault.Why.{Why}
use Rattle.harmonics_text.specs.declared.fault.Why.TheVariants.{LineTooLong}
use Rattle.harmonics_text.specs.declared.scale.Scale.{Scale}
use Rattle.harmonics_text.specs.declared.scale.Scale.TheVariants.{Angle, Factor}
use Rattle.harmonics_text.specs.declared.heading.Heading.{Heading}
use Rattle.harmonics_text.specs.declared.table.Table.{Table}
use Rattle.harmonics_text.specs.declared.record.Record.{Record}
use Rattle.harmonics_text.specs.declared.record.Record.TheVariants as records
use Rattle.harmonics_text.specs.declared.book_parser.BookParser.{BookParser}
use Rattle.harmonics_text.specs.declared.book_parser.BookParser.TheVariants as parsing
use Rattle.harmonics_text.specs.Lines.{Line, cut, numbered, kept, is_kept, is_comment, is_too_long, is_blank, without_cr}
use Rattle.decimal_text.specs.Expected.{◌>>=◌}
use Rattle.harmonics_text.specs.Reading.{At, constituents, values, table, stations, cut_short, book_of}
use Rattle.harmonics_text.specs.Workings.BookParsing.{IsBookParser, after_text, after_line, book_in, book_at}
use Rattle.harmonics_text.specs.Workings.Readers.{on_line, finished}
use Rattle.harmonics_text.proofs.Resume.{Left, resume_stations, resume_second_end, resume_years_again, resume_first_end, resume_years, resume_first_year, resume_constituents, resume_count, rest_of_table, resume_angles, resume_factors, station_then, constants_then, local_time_then, name_then, resume_record, resume, resume_is_book}
use Rattle.harmonics_text.proofs.Steps.{follow, step, unnamed, at_pair}

-- ---- one line more

pub resume_line : (d : BookParser) (n : ℕ) (text : List ℕ) (texts : List (List ℕ)) → IsBookParser d
    → resume d (kept (numbered n (text ∷ texts))) ≡ follow n (kept (numbered (n + 1) texts)) (after_line d text)
unfolding numbered kept is_kept after_line
resume_line d n text texts h =
    let l : Line = record { number = n; text = text } in
    let ls = kept (numbered (n + 1) texts) in
    let next = after_text d (without_cr text) in
    let of_blank : (o b : Bool) → resume d (l ∷ ls) ≡ follow n ls (cond o (Err LineTooLong) next)
    → resume d (cond (o || not b) (l ∷ ls) ls) ≡ follow n ls (cond o (Err LineTooLong) (cond b (Ok d) next)) =
    λ o b. elim o as (λ o. resume d (l ∷ ls) ≡ follow n ls (cond o (Err LineTooLong) next)
    → resume d (cond (o || not b) (l ∷ ls) ls) ≡ follow n ls (cond o (Err LineTooLong) (cond b (Ok d) next))) [
      | true ↦ λ e. e
      | false ↦ elim b as (λ b. resume d (l ∷ ls) ≡ follow n ls next → resume d (cond (not b) (l ∷ ls) ls)
          ≡ follow n ls (cond b (Ok d) next)) [ true ↦ λ e. refl | false ↦ λ e. e ]
    ] in
    let any : (c : Bool)
    → resume d (cond (not c && (is_too_long text || not (list_all is_blank (without_cr text)))) (l ∷ ls) ls)
    ≡ follow n ls (cond c (Ok d) (cond (is_too_long text) (Err LineTooLong) (cond (list_all is_blank (without_cr text)) (Ok d) next))) =
    λ c. elim c
    as (λ c. resume d (cond (not c && (is_too_long text || not (list_all is_blank (without_cr text)))) (l ∷ ls) ls)
    ≡ follow n ls (cond c (Ok d) (cond (is_too_long text) (Err LineTooLong) (cond (list_all is_blank (without_cr text)) (Ok d) next))))
    [ true ↦ refl | false ↦ of_blank (is_too_long text) (list_all is_blank (without_cr text)) (step d n text ls h) ] in
    any (is_comment text)

-- ---- no line is left

abbrev pub left_with : Option Book → Left
left_with (Some b) = Ok b
left_with None = Err None

table_ends : (s : Scale) (h : Heading) (t : Table) → t.index < length h.constituents → rest_of_table s h t [] ≡ Err None
unfolding rest_of_table table values
table_ends s h t lt =
    let left_ends : (remaining : ℕ) → cond (ltb 0 remaining)
    (values s remaining t.values [] >>= λ v. table s h.years (drop (suc t.index) h.constituents) v.0 v.1)
    (table s h.years (drop t.index h.constituents) t.values []) ≡ Err None =
    λ remaining. elim remaining as (λ (remaining : ℕ). cond (ltb 0 remaining) (values s remaining t.values [] >>= λ v. table s h.years
    (drop (suc t.index) h.constituents) v.0 v.1) (table s h.years (drop t.index h.constituents) t.values []) ≡ Err None)
    [ zero ↦ rw (drop-cons h.constituents t.index unnamed lt) refl | suc more ↦ rw (lt-ltb 0 (suc more) (omega arith)) refl ] in
    left_ends t.remaining

constituents_end : (remaining : ℕ) (cs : List Rattle.harmonics_book.specs.declared.book.Constituent.Constituent) → 1 ≤ remaining
    → constituents remaining cs [] ≡ Err None
unfolding constituents
constituents_end zero cs some = absurd (omega (arith, some))
constituents_end (suc remaining) cs some = refl

record_ends : (b : Book) (r : Record) → IsBookParser (parsing.Stations b r) → resume_record b r [] ≡ left_with (book_at b r)
unfolding resume_record resume_stations stations name_then local_time_then station_then constants_then
record_ends b records.Nothing h = refl
record_ends b (records.Name name) h = refl
record_ends b (records.LocalTime name index) h = refl
record_ends b (records.Constants c) h = rw (at_pair b.constituents c.amplitude c.epoch [] h.1.1.some_left) refl

pub resume_end : (d : BookParser) → IsBookParser d → resume d [] ≡ left_with (book_in d)
unfolding resume resume_count resume_constituents resume_first_year resume_years resume_angles resume_first_end
    resume_years_again resume_factors resume_second_end
resume_end parsing.Count h = refl
resume_end (parsing.Constituents remaining earlier) h = rw (constituents_end remaining earlier h.0) refl
resume_end (parsing.FirstYear cs) h = refl
resume_end (parsing.Years cs year) h = refl
resume_end (parsing.Angles h t) facts = rw (table_ends Angle h t facts.1) refl
resume_end (parsing.AnglesEnd h angles) facts = refl
resume_end (parsing.YearsAgain h angles) facts = refl
resume_end (parsing.Factors h angles t) facts = rw (table_ends Factor h t facts.2) refl
resume_end (parsing.FactorsEnd h angles factors) facts = refl
resume_end (parsing.Stations b r) facts = record_ends b r facts

finished_is : (n : ℕ) (o : Option Book) → cut_short n (left_with o) ≡ finished n o
finished_is n (Some b) = refl
finished_is n None = refl

-- ---- the result over the lines from some line on

unfoldable pub answer : BookParser → ℕ → List (List ℕ) → Result Book At
answer d n texts = cut_short (n + length texts) (resume d (kept (numbered n texts)))

pub answer_is_book_of : (bytes : List ℕ) → answer parsing.Count 1 (cut bytes) ≡ book_of bytes
unfolding answer book_of
answer_is_book_of bytes = ap (cut_short (1 + length (cut bytes))) (resume_is_book (kept (numbered 1 (cut bytes))))

followed : (n : ℕ) (texts : List (List ℕ)) (r : Result BookParser Why)
    → cut_short (n + 1 + length texts) (follow n (kept (numbered (n + 1) texts)) r)
    ≡ (on_line n r >>= λ d. answer d (n + 1) texts)
unfolding answer
followed n texts (Ok d) = refl
followed n texts (Err why) = refl

pub answer_line : (d : BookParser) (n : ℕ) (text : List ℕ) (texts : List (List ℕ)) → IsBookParser d
    → answer d n (text ∷ texts) ≡ (on_line n (after_line d text) >>= λ d. answer d (n + 1) texts)
unfolding answer
answer_line d n text texts h =
    let end : n + suc (length texts) ≡ n + 1 + length texts = omega arith in
    rw end (ap (cut_short (n + 1 + length texts)) (resume_line d n text texts h) ∙ followed n texts (after_line d text))

pub answer_end : (d : BookParser) (n : ℕ) → IsBookParser d → answer d n [] ≡ finished n (book_in d)
unfolding answer numbered kept
answer_end d n h = rw (add-zero n, resume_end d h) (finished_is n (book_in d))
