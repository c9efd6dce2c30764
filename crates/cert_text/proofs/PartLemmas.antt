-- Parts (readers of some lines) for a grammar: from any position each returns the value that the
-- lines spell, or stops at the first line with which no lines of the grammar go on.
use Rattle.std.proofs.Common.{◌≡◌, ℕ, suc, ◌+◌, ◌<◌, ◌≤◌, true, false, List, [], ◌∷◌, ◌++◌, length, take, append-nil, append_assoc, Option, Some, None, Result, Ok, Err, ◌⊎◌, inl, inr, refl, sym, ap, ◌∙◌, subst, arith}
use Rattle.std.specs.List.{AllZip}
use Rattle.std.specs.Option.{option_map}
use Rattle.std.specs.Str.{bytes_eq}
use Rattle.std.proofs.lemmas.Option.{cond_some}
use Rattle.std.proofs.lemmas.Slice.Eq.{bytes_eq-Decides}
use Rattle.cert_text.specs.declared.fault.CertFault.{CertFault}
use Rattle.cert_text.specs.declared.fault.CertFault.TheVariants.{NotACertificate}
use Rattle.cert_text.proofs.OptionLemmas.{option_map_some}
use Rattle.cert_text.specs.ByLine.{Place, Part, handed, ◌>>=◌, returned, line_of, is_word, item_in, first_item, items_at, items_of, part_after, end_of_text}

abbrev pub Lines : Type 0
Lines = List (List ℕ)

-- `at lines_read lines last`: the position after `lines_read` lines, with these unread lines and
-- these bytes after the last LF
abbrev pub at : ℕ → Lines → List ℕ → Place
at lines_read lines last = record { lines_read = lines_read; lines = lines; last = last }

abbrev pub refused : {A : Type 0} → ℕ → Result (A × Place) CertFault
refused line = Err (NotACertificate line)

-- ---- words

pub same_bytes : (xs ys : List ℕ) → bytes_eq xs ys ≡ true → xs ≡ ys
same_bytes xs ys e = (bytes_eq-Decides xs ys).0 e

pub bytes_eq-same : (xs : List ℕ) → bytes_eq xs xs ≡ true
bytes_eq-same xs = (bytes_eq-Decides xs xs).1 refl

pub word_is : (word line : List ℕ) (value : Unit {0}) → is_word word line ≡ Some value → line ≡ word
word_is word line value e = same_bytes line word (cond_some (bytes_eq line word) tt value e).0

pub word_read : (word : List ℕ) → is_word word word ≡ Some tt
word_read word = rw (bytes_eq-same word) refl

-- ---- outcomes

-- `Whole spells part n lines last`: from the position after `n` lines the part returns a value, the
-- unread `lines` spell it, and no byte follows the last LF
pub record Whole {C : Type 0} (spells : C → Lines → Type 0) (part : Part C) (n : ℕ) (lines : Lines) (last : List ℕ) : Type 0 where
  pub decoded : C
  pub left : Place
  pub returned : part (at n lines last) ≡ Ok (decoded, left)
  pub spelled : spells decoded lines
  pub over : last ≡ []

-- `Broken spells part n lines last`: from the position after `n` lines the part stops after `count`
-- of the unread `lines`, with the fault at the next one; these begin the lines of some value, and
-- with the next line the part returns no value
pub record Broken {C : Type 0} (spells : C → Lines → Type 0) (part : Part C) (n : ℕ) (lines : Lines) (last : List ℕ) : Type 0 where
  pub count : ℕ
  pub few : count ≤ length lines
  pub decoded : C
  pub more : Lines
  pub returned : part (at n lines last) ≡ refused (n + 1 + count)
  pub spelled : spells decoded (take count lines ++ more)
  pub stops : (other : Lines) (c : C) (left : Place) → count < length lines
      → part (at n (take (suc count) lines ++ other) []) ≡ Ok (c, left) → ⊥

abbrev pub Outcome : {C : Type 0} → (C → Lines → Type 0) → Part C → ℕ → Lines → List ℕ → Type 0
Outcome spells part n lines last = Whole spells part n lines last ⊎ Broken spells part n lines last

-- `IsReader spells part`: from any position the part returns the value that the unread lines spell,
-- or stops with the fault at the first line that no text has there; and some lines spell a value
pub record IsReader {C : Type 0} (spells : C → Lines → Type 0) (part : Part C) : Type 0 where
  pub decoded : C
  pub lines : Lines
  pub spelled : spells decoded lines
  pub outcome : (n : ℕ) (lines : Lines) (last : List ℕ) → Outcome spells part n lines last

module _ {C : Type 0} (spells : C → Lines → Type 0) (part : Part C) where
  -- if the part goes on with `next` after a line, an outcome of `next` after this line is one of
  -- the part
  pub moved : (next : Part C) (n : ℕ) (line : List ℕ) (lines : Lines) (last : List ℕ)
      → ((more : Lines) (rest : List ℕ) → part (at n (line ∷ more) rest) ≡ next (at (n + 1) more rest))
      → Outcome (λ c more. spells c (line ∷ more)) next (n + 1) lines last → Outcome spells part n (line ∷ lines) last
  moved next n line lines last step (inl w) = inl (record {
    decoded = w.decoded;
    left = w.left;
    returned = step lines last ∙ w.returned;
    spelled = w.spelled;
    over = w.over;
  })
  moved next n line lines last step (inr b) = inr (record {
    count = suc b.count;
    few = omega (arith, b.few);
    decoded = b.decoded;
    more = b.more;
    returned = step lines last ∙ b.returned ∙ ap refused (omega arith);
    spelled = b.spelled;
    stops = λ other c left lt k. b.stops other c left (omega (arith, lt)) (sym (step (take (suc b.count) lines ++ other) []) ∙ k);
  })

  -- the outcome if the part refuses the next line, and some lines spell a value
  pub stopped : (n : ℕ) (line : List ℕ) (lines : Lines) (last : List ℕ) (decoded : C) (more : Lines) → spells decoded more
      → ((more : Lines) (rest : List ℕ) → part (at n (line ∷ more) rest) ≡ refused (n + 1)) → Outcome spells part n (line ∷ lines) last
  stopped n line lines last decoded more spelled step = inr (record {
    count = 0;
    few = omega arith;
    decoded = decoded;
    more = more;
    returned = step lines last ∙ ap refused (omega arith);
    spelled = spelled;
    stops = λ other c left lt k. let no : refused (n + 1) ≡ Ok (c, left) = sym (step other []) ∙ k in absurd cc;
  })

  -- the outcome if no line is left and the part refuses, and some lines spell a value
  pub ended : (n : ℕ) (last : List ℕ) (decoded : C) (more : Lines) → spells decoded more
      → part (at n [] last) ≡ refused (n + 1) → Outcome spells part n [] last
  ended n last decoded more spelled step = inr (record {
    count = 0;
    few = omega arith;
    decoded = decoded;
    more = more;
    returned = step ∙ ap refused (omega arith);
    spelled = spelled;
    stops = λ other c left lt k. absurd (omega (arith, lt));
  })

module _ {C : Type 0} (spells : C → Lines → Type 0) (part other : Part C) where
  -- if two parts do the same at this line, an outcome of one is an outcome of the other
  pub like_at : (n : ℕ) (line : List ℕ) (lines : Lines) (last : List ℕ)
      → ((more : Lines) (rest : List ℕ) → part (at n (line ∷ more) rest) ≡ other (at n (line ∷ more) rest))
      → Outcome spells other n (line ∷ lines) last → Outcome spells part n (line ∷ lines) last
  like_at n line lines last same (inl w) = inl (record {
    decoded = w.decoded;
    left = w.left;
    returned = same lines last ∙ w.returned;
    spelled = w.spelled;
    over = w.over;
  })
  like_at n line lines last same (inr b) = inr (record {
    count = b.count;
    few = b.few;
    decoded = b.decoded;
    more = b.more;
    returned = same lines last ∙ b.returned;
    spelled = b.spelled;
    stops = λ more c left lt k. b.stops more c left lt (sym (same (take b.count lines ++ more) []) ∙ k);
  })

  -- if two parts do the same at the end of the lines, an outcome of one is an outcome of the other
  pub like_ended : (n : ℕ) (last : List ℕ) → part (at n [] last) ≡ other (at n [] last)
      → Outcome spells other n [] last → Outcome spells part n [] last
  like_ended n last same (inl w) =
      inl (record { decoded = w.decoded; left = w.left; returned = same ∙ w.returned; spelled = w.spelled; over = w.over })
  like_ended n last same (inr b) = inr (record {
    count = b.count;
    few = b.few;
    decoded = b.decoded;
    more = b.more;
    returned = same ∙ b.returned;
    spelled = b.spelled;
    stops = λ more c left lt k. absurd (omega (arith, lt));
  })

-- ---- lines

-- `StartsWith part item_of next`: the part reads one line and goes on with `next` for the value
-- that `item_of` has for this line; it refuses a missing line and a line without a value
pub record StartsWith {A C : Type 0} (part : Part C) (item_of : List ℕ → Option A) (next : A → Part C) : Type 0 where
  pub missing : (n : ℕ) (last : List ℕ) → part (at n [] last) ≡ refused (n + 1)
  pub good : (n : ℕ) (line : List ℕ) (value : A) (more : Lines) (last : List ℕ) → item_of line ≡ Some value
      → part (at n (line ∷ more) last) ≡ next value (at (n + 1) more last)
  pub bad : (n : ℕ) (line : List ℕ) (more : Lines) (last : List ℕ) → item_of line ≡ None
      → part (at n (line ∷ more) last) ≡ refused (n + 1)

pub line_starts : {A C : Type 0} (item_of : List ℕ → Option A) (next : A → Part C) → StartsWith (line_of item_of >>= next) item_of next
line_starts item_of next = record {
  missing = λ n last. refl;
  good = λ n line value more last is. rw is refl;
  bad = λ n line more last is. rw is refl;
}

pub then_starts : {A B C : Type 0} (part : Part B) (item_of : List ℕ → Option A) (next : A → Part B) (last : B → Part C)
    → StartsWith part item_of next → StartsWith (part >>= last) item_of (λ value. next value >>= last)
then_starts part item_of next last starts = record {
  missing = λ n rest. ap (handed last) (starts.missing n rest);
  good = λ n line value more rest is. ap (handed last) (starts.good n line value more rest is);
  bad = λ n line more rest is. ap (handed last) (starts.bad n line more rest is);
}

-- a part that begins with one line is a reader of the grammar if what follows each accepted line
-- is, and there is such a line
pub line_reader : {A C : Type 0} (spells : C → Lines → Type 0) (part : Part C) (item_of : List ℕ → Option A) (next : A → Part C)
    → StartsWith part item_of next → (line : List ℕ) (value : A) → item_of line ≡ Some value
    → ((line : List ℕ) (value : A) → item_of line ≡ Some value → IsReader (λ c more. spells c (line ∷ more)) (next value))
    → IsReader spells part
line_reader {A} {C} spells part item_of next starts line value is readers =
    let some = readers line value is in
    record { decoded = some.decoded; lines = line ∷ some.lines; spelled = some.spelled; outcome = outcome } where
      outcome : (n : ℕ) (lines : Lines) (last : List ℕ) → Outcome spells part n lines last
      outcome n [] last =
          let some = readers line value is in
          ended spells part n last some.decoded (line ∷ some.lines) some.spelled (starts.missing n last)
      outcome n (first ∷ lines) last =
          elim (item_of first) as (λ v. item_of first ≡ v → Outcome spells part n (first ∷ lines) last) [
            | Some got ↦ λ e. moved spells part (next got) n first lines last (λ more rest. starts.good n first got more rest e)
                ((readers first got e).outcome (n + 1) lines last)
            | None ↦ λ e.
                let some = readers line value is in
                stopped spells part n first lines last some.decoded (line ∷ some.lines) some.spelled
                (λ more rest. starts.bad n first more rest e)
          ] refl

-- ---- items

-- `Mean item_of items lines`: `item_of` has these items as its values for the lines, one each
abbrev pub Mean : {A : Type 0} → (List ℕ → Option A) → List A → Lines → Type 0
Mean item_of items lines = AllZip (λ item line. item_of line ≡ Some item) items lines

pub all_zip : {A B : Type 0} (R S : A → B → Type 0) → ((x : A) (y : B) → R x y → S x y) → (xs : List A) (ys : List B)
    → AllZip R xs ys → AllZip S xs ys
all_zip R S f [] [] all = tt
all_zip R S f [] (y ∷ ys) all = all
all_zip R S f (x ∷ xs) [] all = all
all_zip R S f (x ∷ xs) (y ∷ ys) all = (f x y all.0, all_zip R S f xs ys all.1)

items_outcome : {A C : Type 0} (item_of : List ℕ → Option A) (lines : Lines) (spells : C → Lines → Type 0) (next : List A → Part C)
    → ((items : List A) (lines : Lines) → Mean item_of items lines → IsReader (λ c more. spells c (lines ++ more)) (next items))
    → (n : ℕ) (last : List ℕ) → Outcome spells (items_of item_of >>= next) n lines last
items_outcome item_of [] spells next readers n last =
    like_ended spells (items_of item_of >>= next) (next []) n last refl ((readers [] [] tt).outcome n [] last)
items_outcome {A} {C} item_of (line ∷ lines) spells next readers n last =
    elim (item_of line) as (λ v. item_of line ≡ v → Outcome spells (items_of item_of >>= next) n (line ∷ lines) last) [
      | Some item ↦ λ is. moved spells (items_of item_of >>= next) (items_of item_of >>= λ items. next (item ∷ items)) n
          line lines last (λ more rest. rw is refl)
          (items_outcome item_of lines (λ c more. spells c (line ∷ more)) (λ items. next (item ∷ items))
          (λ items more all. readers (item ∷ items) (line ∷ more) (is, all)) (n + 1) last)
      | None ↦ λ is. like_at spells (items_of item_of >>= next) (next []) n line lines last (λ more rest. rw is refl)
          ((readers [] [] tt).outcome n (line ∷ lines) last)
    ] refl

-- a part that begins with a list of items is a reader of the grammar if what follows each list is
pub items_reader : {A C : Type 0} (spells : C → Lines → Type 0) (item_of : List ℕ → Option A) (next : List A → Part C)
    → ((items : List A) (lines : Lines) → Mean item_of items lines → IsReader (λ c more. spells c (lines ++ more)) (next items))
    → IsReader spells (items_of item_of >>= next)
items_reader spells item_of next readers =
    let none = readers [] [] tt in
    record {
      decoded = none.decoded;
      lines = none.lines;
      spelled = none.spelled;
      outcome = λ n lines last. items_outcome item_of lines spells next readers n last;
    }

-- `IsPast item_of lines`: there is no further line, or the first one isn't an item
abbrev pub IsPast : {A : Type 0} → (List ℕ → Option A) → Lines → Type 0
IsPast item_of [] = Unit {0}
IsPast item_of (line ∷ lines) = item_of line ≡ None

-- reading items from lines that are all items, followed by a line that isn't one or by none,
-- returns these items
pub items_read : {A : Type 0} (item_of : List ℕ → Option A) (items : List A) (lines rest : Lines) (n : ℕ) (last : List ℕ)
    → Mean item_of items lines → IsPast item_of rest
    → (m : ℕ) × (items_at item_of n (lines ++ rest) last ≡ (items, at m rest last))
items_read item_of [] [] [] n last all past = (n, refl)
items_read item_of [] [] (line ∷ rest) n last all past = (n, rw past refl)
items_read item_of [] (line ∷ lines) rest n last all past = absurd all
items_read item_of (item ∷ items) [] rest n last all past = absurd all
items_read item_of (item ∷ items) (line ∷ lines) rest n last all past =
    let more = items_read item_of items lines rest (n + 1) last all.1 past in (more.0, rw (all.0, more.1) refl)

-- if the next line is an item, the items read are this item and the ones after it
pub items_next : {A : Type 0} (item_of : List ℕ → Option A) (here after : Place) (item : A) → first_item item_of here ≡ Some (item, after)
    → (items_at item_of here.lines_read here.lines here.last
    ≡ (item ∷ (items_at item_of after.lines_read after.lines after.last).0, (items_at item_of after.lines_read after.lines after.last).1))
    × (length after.lines < length here.lines)
items_next {A} item_of here after item = next here.lines_read here.lines here.last where
  next : (n : ℕ) (lines : Lines) (last : List ℕ) → item_in item_of (at n lines last) lines ≡ Some (item, after)
      → (items_at item_of n lines last
      ≡ (item ∷ (items_at item_of after.lines_read after.lines after.last).0, (items_at item_of after.lines_read after.lines after.last).1))
      × (length after.lines < length lines)
  next n [] last e = absurd cc
  next n (line ∷ lines) last e =
      option_map_some (λ item. (item, at (n + 1) lines last)) (item_of line) (item, after) e (λ x found is.
      subst (λ (p : A × Place). (items_at item_of n (line ∷ lines) last
      ≡ (p.0 ∷ (items_at item_of p.1.lines_read p.1.lines p.1.last).0, (items_at item_of p.1.lines_read p.1.lines p.1.last).1))
      × (length p.1.lines < length (line ∷ lines))) is (rw found refl, omega arith))

-- if the next line isn't an item, no items are read
pub items_none : {A : Type 0} (item_of : List ℕ → Option A) (here : Place) → first_item item_of here ≡ None
    → items_at item_of here.lines_read here.lines here.last ≡ ([], here)
items_none {A} item_of here = none here.lines_read here.lines here.last where
  none : (n : ℕ) (lines : Lines) (last : List ℕ) → item_in item_of (at n lines last) lines ≡ None
      → items_at item_of n lines last ≡ ([], at n lines last)
  none n [] last e = refl
  none n (line ∷ lines) last e =
      let f : A → A × Place = λ item. (item, at (n + 1) lines last) in
      elim (item_of line) as (λ v. item_of line ≡ v → option_map f v ≡ None
      → items_at item_of n (line ∷ lines) last ≡ ([], at n (line ∷ lines) last)) [
        | Some item ↦ λ is none. let no : Some (f item) ≡ None = none in absurd cc
        | None ↦ λ is none. rw is refl
      ] refl e

-- if `all` is the items gathered so far and the ones still to be read, this stays so after one more
-- item is read
pub items_gathered : {A : Type 0} (item_of : List ℕ → Option A) (here after : Place) (item : A) (items more : List A) (all : List A × Place)
    → first_item item_of here ≡ Some (item, after)
    → all ≡ (items ++ (items_at item_of here.lines_read here.lines here.last).0, (items_at item_of here.lines_read here.lines here.last).1)
    → more ≡ items ++ item ∷ []
    → all ≡ (more ++ (items_at item_of after.lines_read after.lines after.last).0, (items_at item_of after.lines_read after.lines after.last).1)
items_gathered {A} item_of here after item items more all is so_far pushed =
    let rest = items_at item_of after.lines_read after.lines after.last in
    so_far ∙ ap (λ (found : List A × Place). let x : List A × Place = (items ++ found.0, found.1) in x) (items_next item_of here after item is).0
    ∙ ap (λ xs. let x : List A × Place = (xs, rest.1) in x)
    (sym (ap (λ xs. xs ++ rest.0) pushed ∙ append_assoc items (item ∷ []) rest.0))

abbrev this : {A : Type 0} → A → Result A CertFault
this value = Ok value

pub items_finished : {A : Type 0} (item_of : List ℕ → Option A) (here left : Place) (items : List A) (all : List A × Place)
    → first_item item_of here ≡ None → left ≡ here
    → all ≡ (items ++ (items_at item_of here.lines_read here.lines here.last).0, (items_at item_of here.lines_read here.lines here.last).1)
    → this all ≡ Ok (items, left)
items_finished {A} item_of here left items all none same so_far =
    ap Ok (so_far ∙ rw (items_none item_of here none, append-nil items, same) refl)

-- ---- a part after a heading

-- a part that may be absent, recognised by its heading, is a reader of the grammar with what
-- follows it, if the parts with and without it are
pub choice_reader : {A C : Type 0} (spells : C → Lines → Type 0) (heading : List ℕ) (part rest : Part A) (next : Option A → Part C)
    → StartsWith part (is_word heading) (λ value. rest) → IsReader spells (next None)
    → ((line : List ℕ) → line ≡ heading
    → IsReader (λ c more. spells c (line ∷ more)) ((rest >>= λ value. returned (Some value)) >>= next))
    → IsReader spells (part_after heading part >>= next)
choice_reader {A} {C} spells heading part rest next starts none some =
    record { decoded = none.decoded; lines = none.lines; spelled = none.spelled; outcome = outcome } where
      outcome : (n : ℕ) (lines : Lines) (last : List ℕ) → Outcome spells (part_after heading part >>= next) n lines last
      outcome n [] last = like_ended spells (part_after heading part >>= next) (next None) n last refl (none.outcome n [] last)
      outcome n (line ∷ lines) last =
          elim (bytes_eq line heading)
          as (λ v. bytes_eq line heading ≡ v → Outcome spells (part_after heading part >>= next) n (line ∷ lines) last) [
            | true ↦ λ is. moved spells (part_after heading part >>= next) ((rest >>= λ value. returned (Some value)) >>= next) n
                line lines last
                (λ more end. rw is (ap (λ result. handed next (handed (λ value. returned (Some value)) result))
                (starts.good n line tt more end (rw is refl))))
                ((some line (same_bytes line heading is)).outcome (n + 1) lines last)
            | false ↦ λ is. like_at spells (part_after heading part >>= next) (next None) n line lines last (λ more end. rw is refl)
                (none.outcome n (line ∷ lines) last)
          ] refl

-- ---- the end

-- a part that only checks for the end of the text is a reader of a grammar in which the empty list
-- of lines spells the value
pub end_reader : {C : Type 0} (spells : C → Lines → Type 0) (value : C) → spells value []
    → IsReader spells (end_of_text >>= λ end. returned value)
end_reader {C} spells value spelled = record { decoded = value; lines = []; spelled = spelled; outcome = outcome } where
  outcome : (n : ℕ) (lines : Lines) (last : List ℕ) → Outcome spells (end_of_text >>= λ end. returned value) n lines last
  outcome n [] [] = inl (record { decoded = value; left = at n [] []; returned = refl; spelled = spelled; over = refl })
  outcome n [] (byte ∷ last) = ended spells (end_of_text >>= λ end. returned value) n (byte ∷ last) value [] spelled refl
  outcome n (line ∷ lines) last =
      stopped spells (end_of_text >>= λ end. returned value) n line lines last value [] spelled (λ more rest. refl)

-- ---- another value

-- a reader of one grammar, with its value put into a larger value, is a reader of the grammar of
-- the larger value
pub mapped_reader : {A C : Type 0} (spells : A → Lines → Type 0) (says : C → Lines → Type 0) (part : Part A) (f : A → C)
    → ((value : A) (lines : Lines) → spells value lines → says (f value) lines) → IsReader spells part
    → IsReader says (part >>= λ value. returned (f value))
mapped_reader {A} {C} spells says part f put reader =
    record { decoded = f reader.decoded; lines = reader.lines; spelled = put reader.decoded reader.lines reader.spelled; outcome = outcome } where
      failed : (result : Result (A × Place) CertFault) (c : C) (left : Place) → ((a : A) (l : Place) → result ≡ Ok (a, l) → ⊥)
          → handed (λ value. returned (f value)) result ≡ Ok (c, left) → ⊥
      failed (Ok done) c left never k = never done.0 done.1 refl
      failed (Err fault) c left never k = absurd cc

      mapped : (n : ℕ) (lines : Lines) (last : List ℕ) → Outcome spells part n lines last
          → Outcome says (part >>= λ value. returned (f value)) n lines last
      mapped n lines last (inl w) = inl (record {
        decoded = f w.decoded;
        left = w.left;
        returned = ap (handed (λ value. returned (f value))) w.returned;
        spelled = put w.decoded lines w.spelled;
        over = w.over;
      })
      mapped n lines last (inr b) = inr (record {
        count = b.count;
        few = b.few;
        decoded = f b.decoded;
        more = b.more;
        returned = ap (handed (λ value. returned (f value))) b.returned;
        spelled = put b.decoded (take b.count lines ++ b.more) b.spelled;
        stops = λ other c left lt. failed (part (at n (take (suc b.count) lines ++ other) [])) c left
            (λ a l. b.stops other a l lt);
      })

      outcome : (n : ℕ) (lines : Lines) (last : List ℕ) → Outcome says (part >>= λ value. returned (f value)) n lines last
      outcome n lines last = mapped n lines last (reader.outcome n lines last)
