-- A name that is found is one that a certificate may have.
use Rattle.std.proofs.Common.{◌≡◌, ◌≢◌, ℕ, ◌+◌, ◌*◌, ◌/◌, ◌%◌, ◌<◌, ◌≤◌, List, [], ◌∷◌, length, Option, Some, None, Result, Ok, Err, All, encode_utf8, encode_utf8_all, refl, inl, inr, arith, length-append}
use lib.Utf8.{encode}
use Rattle.std.proofs.Math.Utf8.{low_scalar}
use Rattle.std.specs.List.{position, position_or_len}
use Rattle.std.specs.Str.{IsUtf8, bytes_eq}
use Rattle.std.proofs.lemmas.Bool.{lt-ltb, le-ltb}
use Rattle.std.proofs.lemmas.List.Elements.{All-nil, All-cons, All-head, All-tail, All-append, All-weaker}
use Rattle.std.proofs.lemmas.Slice.Eq.{bytes_eq-Decides}
use Rattle.std.proofs.lemmas.Str.{IsUtf8-append, IsUtf8-encode, IsUtf8-nil, encode_ascii}
use Rattle.cert_text.specs.Certificates.{IsStationName}
use Rattle.curve_law.proofs.CoverLemmas.{by_test}
use Rattle.decimal_text.specs.Expected.{◌>>=◌}
use Rattle.harmonics_book.specs.declared.book.Book.{Book}
use Rattle.harmonics_book.specs.declared.book.Station.{Station}
use Rattle.harmonics_book.specs.Books.{IsBook, IsName, IsLatinNameByte, IsStation}
use Rattle.station_table.specs.declared.basis.Basis.{Basis}
use Rattle.station_table.specs.declared.finding.FindFault.{FindFault}
use Rattle.station_table.specs.declared.offsets.Offsets.{Offsets}
use Rattle.station_table.specs.Bases.{basis_of, basis_in, station_at, row_at, reference_or}
use Rattle.station_table.specs.Offsets.{IsTable, IsOffsets, IsTableName}
use Rattle.station_span.specs.declared.span_request.SpanRequest.{SpanRequest}
use Rattle.station_span.specs.declared.purpose.Purpose.{Purpose}
use Rattle.tide_fault.specs.declared.refusal.Refusal.{Refusal}
use Rattle.station_span.specs.Sites.{Site, basis_from, site_in}
use Rattle.station_span.proofs.SiteLemmas.{position_within}

-- ---- the names of a harmonics file and of a table

-- a byte of a name in a certificate
abbrev IsPrinted : ℕ → Type 0
IsPrinted b = (32 ≤ b) × (b ≢ 127)

record IsPrintedText (latin text : List ℕ) : Type 0 where
  utf8 : IsUtf8 text
  least : length latin ≤ length text
  most : length text ≤ 2 * length latin
  printed : All IsPrinted text

scalar_text : (c : ℕ) → c < 55296 → IsUtf8 (encode_utf8 c)
scalar_text c low = IsUtf8-encode c (low_scalar c low)

two_bytes : (c : ℕ) → 128 ≤ c → c ≤ 255 → encode_utf8 c ≡ (192 + c / 64) ∷ (128 + c % 64) ∷ []
unfolding encode
two_bytes c least most =
    let wide : c < 2048 = omega arith in
    let low : c / 64 % 64 ≡ c / 64 = omega arith in
    rw (le-ltb c 128 least, lt-ltb c 2048 wide) refl

printed_byte : (c : ℕ) → IsLatinNameByte c → IsPrintedText (c ∷ []) (encode_utf8 c)
printed_byte c (inl ascii) =
    rw (encode_ascii c (omega (arith, ascii.1))) (record {
      utf8 = rw (encode_ascii c (omega (arith, ascii.1))) at (scalar_text c (omega (arith, ascii.1)));
      least = omega arith;
      most = omega arith;
      printed = All-cons IsPrinted c [] (ascii.0, λ e. omega (arith, ascii.1, e)) (All-nil IsPrinted);
    })
printed_byte c (inr wide) =
    rw (two_bytes c wide.0 wide.1) (record {
      utf8 = rw (two_bytes c wide.0 wide.1) at (scalar_text c (omega (arith, wide.1)));
      least = omega arith;
      most = omega arith;
      printed = All-cons IsPrinted (192 + c / 64) ((128 + c % 64) ∷ []) (omega arith, λ e. omega (arith, e))
          (All-cons IsPrinted (128 + c % 64) [] (omega arith, λ e. omega (arith, wide.0, wide.1, e)) (All-nil IsPrinted));
    })

printed_all : (latin : List ℕ) → All IsLatinNameByte latin → IsPrintedText latin (encode_utf8_all latin)
printed_all [] all = record { utf8 = IsUtf8-nil; least = omega arith; most = omega arith; printed = All-nil IsPrinted }
printed_all (c ∷ latin) all =
    let one = printed_byte c (All-head IsLatinNameByte c latin all) in
    let rest = printed_all latin (All-tail IsLatinNameByte c latin all) in
    let least = one.least in
    let most = one.most in
    let rest_least = rest.least in
    let rest_most = rest.most in
    let both = length-append (encode_utf8 c) (encode_utf8_all latin) in
    record {
      utf8 = IsUtf8-append (encode_utf8 c) (encode_utf8_all latin) one.utf8 rest.utf8;
      least = omega (arith, both);
      most = omega (arith, both);
      printed = All-append IsPrinted (encode_utf8 c) (encode_utf8_all latin) one.printed rest.printed;
    }

station_name : (name : List ℕ) → IsName 200 name → IsStationName name
station_name name is =
    let printed = printed_all is.latin is.printable in
    let some = is.some in
    let short = is.short in
    let least = printed.least in
    let most = printed.most in
    rw is.spelled (record { text = printed.utf8; some = omega arith; short = omega arith; printed = printed.printed })

row_name : (name : List ℕ) → IsTableName name → IsStationName name
row_name name is = record { text = is.text; some = is.some; short = is.short; printed = is.printable }

-- ---- a name that an entry has

named_within : (T : Type 0) (name_of : T → List ℕ) (name : List ℕ) (xs : List T)
    → All (λ x. IsStationName (name_of x)) xs → position_or_len (λ x. bytes_eq (name_of x) name) xs < length xs
    → IsStationName name
named_within T name_of name [] all within = absurd (omega arith)
named_within T name_of name (x ∷ xs) all within = by_test (bytes_eq (name_of x) name)
    (λ same.
    let is = (bytes_eq-Decides (name_of x) name).0 same in
    rw (← is) (All-head (λ (y : T). IsStationName (name_of y)) x xs all))
    (λ other.
    let more = rw other at within in
    named_within T name_of name xs (All-tail (λ (y : T). IsStationName (name_of y)) x xs all) (omega (arith, more)))

named_at : (T : Type 0) (name_of : T → List ℕ) (name : List ℕ) (xs : List T) (index : ℕ)
    → All (λ x. IsStationName (name_of x)) xs → position (λ x. bytes_eq (name_of x) name) xs ≡ Some index
    → IsStationName name
named_at T name_of name xs index all is =
    named_within T name_of name xs all (position_within (λ x. bytes_eq (name_of x) name) xs index is).0

-- ---- the name of a station that was found

of_row : (book : Book) (table : List Offsets) (name : List ℕ) (basis : Basis) (index : Option ℕ) → IsTable table
    → row_at table name ≡ index → basis_in book table name ≡ Ok basis → IsStationName name
unfolding basis_in
of_row book table name basis (Some index) is found_station ok =
    named_at Offsets (λ (o : Offsets). o.name) name table index (All-weaker IsOffsets (λ (o : Offsets). IsStationName o.name)
    (λ o row. row_name o.name row.name) table is.each) found_station
of_row book table name basis None is found_station ok = absurd (let none = rw found_station at ok in cc)

of_station : (book : Book) (table : List Offsets) (name : List ℕ) (basis : Basis) (index : Option ℕ) → IsBook book
    → IsTable table → station_at book name ≡ index → reference_or (basis_in book table name) index ≡ Ok basis
    → IsStationName name
of_station book table name basis (Some index) is rows found_station ok =
    named_at Station (λ (s : Station). s.name) name book.stations index (All-weaker (IsStation (length book.constituents))
    (λ (s : Station). IsStationName s.name) (λ s station. station_name s.name station.name) book.stations is.stations) found_station
of_station book table name basis None is rows found_station ok = of_row book table name basis (row_at table name) rows refl ok

pub of_basis : (book : Book) (table : List Offsets) (name : List ℕ) (basis : Basis) → IsBook book → IsTable table
    → basis_of book table name ≡ Ok basis → IsStationName name
unfolding basis_of
of_basis book table name basis is rows ok = of_station book table name basis (station_at book name) is rows refl ok

named_by : (book : Book) (table : List Offsets) (name : List ℕ) (next : Basis → Result Site Refusal) (site : Site)
    (basis : Result Basis FindFault) → IsBook book → IsTable table → basis_of book table name ≡ basis
    → (basis_from basis >>= next) ≡ Ok site → IsStationName name
named_by book table name next site (Ok basis) is rows expected ok = of_basis book table name basis is rows expected
named_by book table name next site (Err fault) is rows expected ok = absurd cc

pub site_name : (purpose : Purpose) (book : Book) (table : List Offsets) (name : List ℕ) (span_request : SpanRequest) (site : Site)
    → IsBook book → IsTable table → site_in purpose book table name span_request ≡ Ok site → IsStationName name
unfolding site_in
site_name purpose book table name span_request site is rows ok = named_by book table name _ site (basis_of book table name) is rows refl ok
