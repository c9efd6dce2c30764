-- Each request has one row, which further bytes don't change once it is settled.
use Rattle.std.proofs.Common.{◌≡◌, ℕ, ◌+◌, ◌≤◌, Bool, true, false, List, [], ◌∷◌, ◌++◌, length, map, take, drop, length-drop, arith, Option, Some, None, is_none, ap, ◌∙◌, sym, subst, refl}
use Rattle.std.specs.Prelude.{◌&&◌, nat_lt, nat_le, if◌then◌else◌, IsTrue}
use Rattle.std.proofs.lemmas.Grind.{common_steps}
use Rattle.std.proofs.lemmas.Bool.Decides.{nat_tests}
use Rattle.std.proofs.lemmas.List.{take-append-le, drop-append-le}
use Rattle.httparse.proofs.GrammarLemmas.{request_unique}
use Rattle.httparse.specs.Spans.{name_and_value}
use Rattle.http_rows.specs.declared.limits.TheConstants.{MOST_BODY, MOST_HEAD, MOST_LINES}
use Rattle.http_rows.specs.declared.request_rejection.RequestRejection.{RequestRejection}
use Rattle.http_rows.specs.declared.request_rejection.RequestRejection.TheVariants.{HeadTooLarge, HeadCutShort, BadRequest, BodyCutShort}
use Rattle.http_rows.specs.Heads.{line_feeds, Head, head_length, head_end, head_of, ReadsAs}
use Rattle.http_rows.specs.Rows.{unended_row, ReplyRow, rejects, asks, first_row, field_rows, body_rows, field_row, head_row, head_rows, ended_row, path_of, query_of, is_post, is_head, length_of, is_settled_by, is_settled, IsRowAt, IsRow}
use Rattle.http_rows.proofs.EndLemmas.{head_within, end_stays}

-- ---- a request has one row

reads_one : (bytes : List ℕ) (a b : Option Head) → ReadsAs bytes a → ReadsAs bytes b → a ≡ b
reads_one bytes None None x y = refl
reads_one bytes None (Some b) x y = absurd (omega (arith, x y.0 y.1, y.2))
reads_one bytes (Some a) None x y = absurd (omega (arith, y x.0 x.1, x.2))
reads_one bytes (Some a) (Some b) x y =
    let same = request_unique bytes x.0 y.0 [] [] x.1 y.1 in
    ap Some (x.3 ∙ ap (λ h. head_of h.method h.target h.minor (map name_and_value h.fields)) same.0 ∙ sym y.3)

pub one_row_at : (end : Option ℕ) (request : List ℕ) (a b : ReplyRow) → IsRowAt end request a → IsRowAt end request b → a ≡ b
one_row_at None request a b x y = x ∙ sym y
one_row_at (Some end) request a b x y =
    x.2
    ∙ ap (λ read. ended_row (take end request) read (drop end request)) (reads_one (take end request) x.0 y.0 x.1 y.1)
    ∙ sym y.2

-- ---- the first row of two tables

skipped : (holds : Bool) (rejection : RequestRejection) (rest more found : Option RequestRejection)
    → (if holds then Some rejection else rest) ≡ None
    → (rest ≡ None → more ≡ found) → (if holds then Some rejection else more) ≡ found
skipped true rejection rest more found none then_so = absurd (cc)
skipped false rejection rest more found none then_so = then_so none

kept : (holds : Bool) (rejection : RequestRejection) (rest more found : Option RequestRejection)
    → (if holds then Some rejection else rest) ≡ found
    → (rest ≡ found → more ≡ found) → (if holds then Some rejection else more) ≡ found
kept true rejection rest more found is then_so = is
kept false rejection rest more found is then_so = then_so is

first_in_second : (rows last : List (Bool × RequestRejection)) → first_row rows ≡ None → first_row (rows ++ last) ≡ first_row last
first_in_second [] last none = refl
first_in_second (row ∷ rows) last none =
    skipped row.0 row.1 (first_row rows) (first_row (rows ++ last)) (first_row last) none (first_in_second rows last)

first_in_first : (rows last : List (Bool × RequestRejection)) (rejection : RequestRejection) → first_row rows ≡ Some rejection
    → first_row (rows ++ last) ≡ Some rejection
first_in_first [] last rejection is = absurd (cc)
first_in_first (row ∷ rows) last rejection is =
    kept row.0 row.1 (first_row rows) (first_row (rows ++ last)) (Some rejection) is (first_in_first rows last rejection)

-- ---- a settled row is unchanged

cut_later : (post : Bool) (size : ℕ) (rest more : List ℕ) → (post && nat_lt (length rest) size) ≡ false
    → (post && nat_lt (length (rest ++ more)) size) ≡ false
cut_later true size rest more there = grind (arith, common_steps, nat_tests)
cut_later false size rest more there = refl

body_stays : (post : Bool) (size : ℕ) (rest more : List ℕ) → (post && nat_lt (length rest) size) ≡ false
    → (if post then take size (rest ++ more) else []) ≡ (if post then take size rest else [])
body_stays true size rest more there = grind (arith, common_steps, nat_tests)
body_stays false size rest more there = refl

-- the row if no field rejects the request: the body is complete or cut short
abbrev pub row_by : Bool → Head → List ℕ → ReplyRow
row_by cut head rest = field_row (if cut then Some BodyCutShort else None) head rest

row_stays_by : (cut : Bool) (head : Head) (rest more : List ℕ) → (is_post head && nat_lt (length rest) (length_of head)) ≡ cut
    → IsTrue (is_settled (row_by cut head rest))
    → row_by (is_post head && nat_lt (length (rest ++ more)) (length_of head)) head (rest ++ more) ≡ row_by cut head rest
row_stays_by true head rest more is settled = absurd (cc)
row_stays_by false head rest more is settled =
    let there = cut_later (is_post head) (length_of head) rest more is in
    rw there (ap (λ body. asks record { path = path_of head.target; query = query_of head.target; body = body; is_head_request = is_head head })
    (body_stays (is_post head) (length_of head) rest more is))

fields_stay : (rows : List (Bool × RequestRejection)) (first : Option RequestRejection) (head : Head)
    (rest more : List ℕ) → first_row rows ≡ first
    → IsTrue (is_settled (field_row (first_row (rows ++ body_rows head rest)) head rest))
    → field_row (first_row (rows ++ body_rows head (rest ++ more))) head (rest ++ more)
    ≡ field_row (first_row (rows ++ body_rows head rest)) head rest
fields_stay rows (Some rejection) head rest more is settled =
    rw (first_in_first rows (body_rows head rest) rejection is, first_in_first rows (body_rows head (rest ++ more)) rejection is) refl
fields_stay rows None head rest more is settled =
    let now = first_in_second rows (body_rows head rest) is in
    let later = first_in_second rows (body_rows head (rest ++ more)) is in
    rw (now, later) (row_stays_by (is_post head && nat_lt (length rest) (length_of head)) head rest more refl (rw now at settled))

ended_stays : (first : Option RequestRejection) (read : Option Head) (rest more : List ℕ) → IsTrue (is_settled (head_row first read rest))
    → head_row first read (rest ++ more) ≡ head_row first read rest
ended_stays (Some rejection) read rest more settled = refl
ended_stays None None rest more settled = refl
ended_stays None (Some head) rest more settled =
    fields_stay (field_rows head) (first_row (field_rows head)) head rest more refl settled

-- ---- further bytes of a request

longer : (request more : List ℕ) → nat_le MOST_HEAD (length request) ≡ true → nat_le MOST_HEAD (length (request ++ more)) ≡ true
longer request more long = grind (arith, common_steps, nat_tests)

-- a head that hasn't ended is too large, or cut short
abbrev pub unended : Bool → ReplyRow
unended long = rejects (if long then HeadTooLarge else HeadCutShort) false

unended_is : (long : Bool) → head_row (first_row ((long, HeadTooLarge) ∷ (true, HeadCutShort) ∷ [])) None [] ≡ unended long
unended_is true = refl
unended_is false = refl

settled_long : (long : Bool) → IsTrue (is_settled (unended long)) → long ≡ true
settled_long true settled = refl
settled_long false settled = absurd (cc)

long_enough : (request : List ℕ) → nat_le MOST_HEAD (length request) ≡ true → MOST_HEAD ≤ length request
long_enough request long = grind (arith, nat_tests)

ended_within : (most : ℕ) (request : List ℕ) (end : ℕ) → head_length (take most request) ≡ Some end → end ≤ length request
ended_within most request end ends =
    let shorter : length (take most request) ≤ length request = grind (arith, common_steps) in
    omega (arith, head_within (take most request) end ends)

stays_at : (end : Option ℕ) (request more : List ℕ) (row : ReplyRow) → head_end request ≡ end → IsRowAt end request row
    → IsTrue (is_settled row) → IsRow (request ++ more) row
stays_at None request more row ends x settled =
    let before : row ≡ unended (nat_le MOST_HEAD (length request)) = x ∙ unended_is (nat_le MOST_HEAD (length request)) in
    let S : ReplyRow → Type 0 = λ r. IsTrue (is_settled r) in
    let long : nat_le MOST_HEAD (length request) ≡ true = settled_long (nat_le MOST_HEAD (length request)) (subst S before settled) in
    let fits : MOST_HEAD ≤ length request = long_enough request long in
    let later : head_end (request ++ more) ≡ None = ap head_length (take-append-le MOST_HEAD request more fits) ∙ ends in
    let P : Option ℕ → Type 0 = λ e. IsRowAt e (request ++ more) row in
    let same : row ≡ unended_row (request ++ more) =
    before ∙ ap unended (long ∙ sym (longer request more long)) ∙ sym (unended_is (nat_le MOST_HEAD (length (request ++ more)))) in
    subst P (sym later) same
stays_at (Some end) request more row ends x settled =
    let later : head_end (request ++ more) ≡ Some end = end_stays MOST_HEAD request more end ends in
    let fits : end ≤ length request = ended_within MOST_HEAD request end ends in
    let bytes : take end (request ++ more) ≡ take end request = take-append-le end request more fits in
    let rest : drop end (request ++ more) ≡ drop end request ++ more = drop-append-le end request more fits in
    let Q : List ℕ → Type 0 = λ bytes. ReadsAs bytes x.0 in
    let read : ReadsAs (take end (request ++ more)) x.0 = subst Q (sym bytes) x.1 in
    let S : ReplyRow → Type 0 = λ r. IsTrue (is_settled r) in
    let stays = ended_stays (first_row (head_rows (take end request) x.0)) x.0 (drop end request) more (subst S x.2 settled) in
    let same : row ≡ ended_row (take end (request ++ more)) x.0 (drop end (request ++ more)) =
    x.2
    ∙ sym stays
    ∙ ap (λ behind. ended_row (take end request) x.0 behind) (sym rest)
    ∙ ap (λ front. ended_row front x.0 (drop end (request ++ more))) (sym bytes) in
    let P : Option ℕ → Type 0 = λ e. IsRowAt e (request ++ more) row in
    subst P (sym later) (x.0, read, same)

pub settled_stays : (request more : List ℕ) (row : ReplyRow) → IsRow request row → IsTrue (is_settled row) → IsRow (request ++ more) row
settled_stays request more row x settled = stays_at (head_end request) request more row refl x settled

-- ---- a long request is settled

fails : (holds : Bool) (rejection : RequestRejection) (rest : Option RequestRejection) → (if holds then Some rejection else rest) ≡ None
    → (holds ≡ false) × (rest ≡ None)
fails true rejection rest none = absurd (cc)
fails false rejection rest none = (refl, none)

NoneHold : List (Bool × RequestRejection) → Type 0
NoneHold [] = Unit {0}
NoneHold (row ∷ rows) = (row.0 ≡ false) × NoneHold rows

none_hold : (rows : List (Bool × RequestRejection)) → first_row rows ≡ None → NoneHold rows
unfolding NoneHold
none_hold [] none = tt
none_hold (row ∷ rows) none =
    let one = fails row.0 row.1 (first_row rows) none in (one.0, none_hold rows one.1)

-- the last row of the fields: the body is within its limit
small_body : (head : Head) → first_row (field_rows head) ≡ None → (is_post head && nat_lt MOST_BODY (length_of head)) ≡ false
unfolding NoneHold
small_body head none = (none_hold (field_rows head) none).1.1.1.1.1.1.1.0

not_cut : (post : Bool) (size : ℕ) (rest : List ℕ) → (post && nat_lt MOST_BODY size) ≡ false → MOST_BODY ≤ length rest
    → (post && nat_lt (length rest) size) ≡ false
not_cut true size rest small long = grind (arith, nat_tests)
not_cut false size rest small long = refl

AreSettled : List (Bool × RequestRejection) → Type 0
AreSettled [] = Unit {0}
AreSettled (row ∷ rows) = IsTrue (is_settled_by row.1) × AreSettled rows

found_by : (holds : Bool) (rejection found : RequestRejection) (rest : Option RequestRejection)
    → (if holds then Some rejection else rest) ≡ Some found
    → IsTrue (is_settled_by rejection) → (rest ≡ Some found → IsTrue (is_settled_by found)) → IsTrue (is_settled_by found)
found_by true rejection found rest is one later = let same : rejection ≡ found = cc in
    subst (λ (r : RequestRejection). IsTrue (is_settled_by r)) same one
found_by false rejection found rest is one later = later is

found_settled : (rows : List (Bool × RequestRejection)) (found : RequestRejection) → AreSettled rows → first_row rows ≡ Some found
    → IsTrue (is_settled_by found)
unfolding AreSettled
found_settled [] found all is = absurd (cc)
found_settled (row ∷ rows) found all is = found_by row.0 row.1 found (first_row rows) is all.0 (found_settled rows found all.1)

fields_settled : (head : Head) → AreSettled (field_rows head)
unfolding AreSettled
fields_settled head = (refl, (refl, (refl, (refl, (refl, (refl, (refl, (refl, tt))))))))

uncut : (cut : Bool) (head : Head) (rest : List ℕ) → cut ≡ false → IsTrue (is_settled (row_by cut head rest))
uncut true head rest is = absurd (cc)
uncut false head rest is = refl

field_row_long : (first : Option RequestRejection) (head : Head) (rest : List ℕ) → first_row (field_rows head) ≡ first
    → MOST_BODY ≤ length rest
    → IsTrue (is_settled (field_row (first_row (field_rows head ++ body_rows head rest)) head rest))
field_row_long (Some rejection) head rest is long =
    rw (first_in_first (field_rows head) (body_rows head rest) rejection is)
    (found_settled (field_rows head) rejection (fields_settled head) is)
field_row_long None head rest is long =
    rw (first_in_second (field_rows head) (body_rows head rest) is)
    (uncut (is_post head && nat_lt (length rest) (length_of head)) head rest
    (not_cut (is_post head) (length_of head) rest (small_body head is) long))

ended_long : (many : Bool) (read : Option Head) (rest : List ℕ) → MOST_BODY ≤ length rest
    → IsTrue (is_settled (head_row (first_row ((many, HeadTooLarge) ∷ (is_none read, BadRequest) ∷ [])) read rest))
ended_long true read rest long = refl
ended_long false None rest long = refl
ended_long false (Some head) rest long = field_row_long (first_row (field_rows head)) head rest refl long

long_head : (request : List ℕ) → MOST_HEAD + MOST_BODY ≤ length request → nat_le MOST_HEAD (length request) ≡ true
long_head request long = grind (arith, nat_tests)

taken_short : (most : ℕ) (bytes : List ℕ) → length (take most bytes) ≤ most
taken_short most bytes = grind (arith, common_steps)

long_rest : (request : List ℕ) (end : ℕ) → MOST_HEAD + MOST_BODY ≤ length request → end ≤ MOST_HEAD → MOST_BODY ≤ length (drop end request)
long_rest request end long fits = rw (length-drop end request) (omega arith)

ended_early : (most : ℕ) (request : List ℕ) (end : ℕ) → head_length (take most request) ≡ Some end → end ≤ most
ended_early most request end ends = omega (arith, head_within (take most request) end ends, taken_short most request)

long_at : (end : Option ℕ) (request : List ℕ) (row : ReplyRow) → head_end request ≡ end → IsRowAt end request row
    → MOST_HEAD + MOST_BODY ≤ length request
    → IsTrue (is_settled row)
long_at None request row ends x long =
    let is : row ≡ unended true = x ∙ unended_is (nat_le MOST_HEAD (length request)) ∙ ap unended (long_head request long) in
    subst (λ (r : ReplyRow). IsTrue (is_settled r)) (sym is) refl
long_at (Some end) request row ends x long =
    let behind : MOST_BODY ≤ length (drop end request) = long_rest request end long (ended_early MOST_HEAD request end ends) in
    subst (λ (r : ReplyRow). IsTrue (is_settled r)) (sym x.2)
    (ended_long (nat_lt MOST_LINES (line_feeds (take end request))) x.0 (drop end request) behind)

pub long_settled : (request : List ℕ) (row : ReplyRow) → IsRow request row → MOST_HEAD + MOST_BODY ≤ length request
    → IsTrue (is_settled row)
long_settled request row x long = long_at (head_end request) request row refl x long
