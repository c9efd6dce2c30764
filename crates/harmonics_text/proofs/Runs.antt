-- The lines of absent constituents, read together.
use Rattle.std.proofs.Common.{◌≡◌, ℕ, pos, codes, zero, suc, ◌+◌, ◌*◌, ◌<◌, ◌≤◌, Bool, true, false, ltb, nat_eq, List, [], ◌∷◌, ◌++◌, length, length-append, drop, Ok, refl, sym, ap, subst, ◌∙◌, append_assoc, add-zero, add-one, arith}
use Rattle.std.specs.Prelude.{replicate}
use Rattle.std.specs.List.{starts_with}
use Rattle.std.proofs.lemmas.Bool.{eqb-true, eq-eqb, lt-ltb}
use Rattle.std.proofs.lemmas.List.{append-nil, length-replicate, replicate_more}
use Rattle.std.proofs.lemmas.Slice.Eq.{starts_is}
use Rattle.harmonics_book.specs.declared.book.Book.{Book}
use Rattle.harmonics_text.specs.declared.record.Constants.{Constants}
use Rattle.harmonics_text.specs.declared.record.Record.TheVariants as records
use Rattle.harmonics_text.specs.declared.book_parser.BookParser.{BookParser}
use Rattle.harmonics_text.specs.declared.book_parser.BookParser.TheVariants as parsing
use Rattle.decimal_text.specs.Decimal.{after_point, made_of, decimal_of, scaled, scaled_or_bad, read_of}
use Rattle.harmonics_text.specs.Lines.{tokens}
use Rattle.harmonics_text.specs.Rules.{in_scale, parse_number, pair_from, pair_of}
use Rattle.harmonics_text.specs.Workings.BookParsing.{IsBookParser, after_pair, after_record, after_text, after_line}
use Rattle.harmonics_text.specs.Workings.Readers.{has_lf, with_bytes}
use Rattle.harmonics_text.specs.Workings.Absent.{absent_lines, with_absent, HasRead}
use Rattle.harmonics_text.proofs.Keeping.{line_is}
use Rattle.harmonics_text.proofs.Valid.{line_valid}

-- ---- the lines

abbrev absent_line : List ℕ
absent_line = codes "x 0 0" ++ 10 ∷ []

pub absent_none : (xs : List ℕ) → xs ≡ absent_lines 0 ++ xs
unfolding absent_lines
absent_none xs = refl

pub absent_more : (n : ℕ) (xs rest after : List ℕ) (b : Bool) → xs ≡ absent_lines n ++ rest
    → b ≡ starts_with nat_eq rest (codes "x 0 0" ++ 10 ∷ []) → b ≡ true → after ≡ drop 6 rest
    → xs ≡ absent_lines (n + 1) ++ after
unfolding absent_lines
absent_more n xs rest after b so_far is e cut_is =
    let next : rest ≡ absent_line ++ drop 6 rest = (starts_is (λ a b. (eqb-true a b, eq-eqb a b)) rest absent_line b is).0 e in
    rw (add-one n, cut_is) (so_far ∙ ap (λ (ys : List ℕ). absent_lines n ++ ys) next
    ∙ sym (append_assoc (absent_lines n) absent_line (drop 6 rest)))

length-absent : (n : ℕ) → length (absent_lines n) ≡ n * 6
unfolding absent_lines
length-absent zero = refl
length-absent (suc n) = omega (arith, length-append (absent_lines n) absent_line, length-absent n)

-- ---- one line

absent_pair : (name : List ℕ) → pair_of name (codes "x 0 0") ≡ Ok (pos 0, pos 0)
unfolding pair_of pair_from tokens parse_number in_scale read_of decimal_of after_point made_of scaled scaled_or_bad
absent_pair name = refl

abbrev at : Book → Constants → BookParser
at b c = parsing.Stations b (records.Constants c)

abbrev with_one : Constants → Constants
with_one c = record c { amplitude = c.amplitude ++ pos 0 ∷ []; epoch = c.epoch ++ pos 0 ∷ [] }

absent_read : (b : Book) (c : Constants) → length c.amplitude + 1 < length b.constituents
    → after_line (at b c) (codes "x 0 0") ≡ Ok (at b (with_one c))
unfolding after_line after_text after_record after_pair
absent_read b c lt =
    let more : ltb (length (c.amplitude ++ pos 0 ∷ [])) (length b.constituents) ≡ true =
    lt-ltb _ _ (omega (arith, lt, length-append c.amplitude (pos 0 ∷ []))) in
    rw (absent_pair, more) refl

-- ---- all of them

one_more : (k : ℕ) (c : Constants) → with_one (with_absent k c) ≡ with_absent (k + 1) c
one_more k c =
    rw (
      append_assoc c.amplitude (replicate k (pos 0)) (pos 0 ∷ []),
      append_assoc c.epoch (replicate k (pos 0)) (pos 0 ∷ []),
      replicate_more k (pos 0),
    ) refl

none_more : (c : Constants) → with_absent 0 c ≡ c
none_more c = rw (append-nil c.amplitude, append-nil c.epoch) refl

next_read : (k : ℕ) (b : Book) (c : Constants) → length c.amplitude + suc k < length b.constituents
    → after_line (at b (with_absent k c)) (codes "x 0 0") ≡ Ok (at b (with_absent (k + 1) c))
next_read k b c lt =
    let count : length (c.amplitude ++ replicate k (pos 0)) ≡ length c.amplitude + k =
    omega (arith, length-append c.amplitude (replicate k (pos 0)), length-replicate k (pos 0)) in
    absent_read b (with_absent k c) (omega (arith, lt, count)) ∙ ap (λ (d : Constants). Ok (at b d)) (one_more k c)

all_valid : (k : ℕ) (b : Book) (c : Constants) → IsBookParser (at b c) → length c.amplitude + k < length b.constituents
    → IsBookParser (at b (with_absent k c))
all_valid zero b c valid lt = rw (none_more c) valid
all_valid (suc k) b c valid lt =
    let e : k + 1 ≡ suc k = omega arith in
    subst (λ (m : ℕ). IsBookParser (at b (with_absent m c))) e
    (line_valid (at b (with_absent k c)) (at b (with_absent (k + 1) c)) (codes "x 0 0")
    (all_valid k b c valid (omega (arith, lt))) (next_read k b c lt))

all_read : (k : ℕ) (b : Book) (c : Constants) (n : ℕ) (rest : List ℕ) → length c.amplitude + k < length b.constituents
    → with_bytes (at b c) n (absent_lines k ++ rest) ≡ with_bytes (at b (with_absent k c)) (n + k) rest
unfolding absent_lines
all_read zero b c n rest lt = rw (none_more c, add-zero n) refl
all_read (suc k) b c n rest lt =
    let e : k + 1 ≡ suc k = omega arith in
    let m : n + k + 1 ≡ n + (k + 1) = omega arith in
    let goes : with_bytes (at b c) n (absent_lines k ++ (absent_line ++ rest)) ≡ with_bytes (at b (with_absent (k + 1) c)) (n + k + 1) rest =
    all_read k b c n (absent_line ++ rest) (omega (arith, lt))
    ∙ line_is (at b (with_absent k c)) (n + k) (codes "x 0 0") rest (Ok (at b (with_absent (k + 1) c))) refl (next_read k b c lt) in
    rw append_assoc (subst (λ (j : ℕ). with_bytes (at b c) n (absent_lines k ++ (absent_line ++ rest))
    ≡ with_bytes (at b (with_absent j c)) (n + j) rest) e (rw m at goes))

pub absent_shorter : (k : ℕ) (bytes rest : List ℕ) → bytes ≡ absent_lines k ++ rest → k + length rest ≤ length bytes
absent_shorter k bytes rest is = rw is (omega (arith, length-absent k, length-append (absent_lines k) rest))

pub absent_read_all : (b : Book) (c new : Constants) (k : ℕ) (bytes rest : List ℕ) → IsBookParser (at b c)
    → length c.amplitude + k < length b.constituents → bytes ≡ absent_lines k ++ rest → new ≡ with_absent k c
    → HasRead (at b c) (at b new) k bytes rest
absent_read_all b c new k bytes rest valid lt bytes_is new_is =
    rw (bytes_is, new_is) record { valid = all_valid k b c valid lt; same = λ n. all_read k b c n rest lt }

-- a line and the lines of absent constituents after it
pub line_and_absent : (d e f : BookParser) (line rest after : List ℕ) (count : ℕ) → has_lf line ≡ false
    → after_line d line ≡ Ok e → HasRead e f count rest after → HasRead d f (1 + count) (line ++ 10 ∷ rest) after
line_and_absent d e f line rest after count one is h = record {
  valid = h.valid;
  same = λ n. let number : n + 1 + count ≡ n + (1 + count) = omega arith in
      line_is d n line rest (Ok e) one is ∙ h.same (n + 1) ∙ ap (λ (m : ℕ). with_bytes f m after) number;
}
