-- A table that was read has valid names, offsets in their ranges, and fewer than 2^32 rows.
use Rattle.std.proofs.Common.{◌≡◌, ℕ, zero, suc, ◌+◌, ◌≤◌, ◌==◌, ℤ, pos, negsuc, Bool, true, false, cond, ◌&&◌, ◌||◌, List, [], ◌∷◌, length, Option, Some, None, Result, Ok, Err, All, nat_le, refl, subst, arith}
use Rattle.std.specs.Prelude.{int_lt, get_or}
use Rattle.std.specs.List.{list_all}
use Rattle.std.specs.Option.{ForSome}
use Rattle.std.specs.Str.{IsUtf8, is_utf8}
use Rattle.std.specs.Str.Parse.{without_leading_sign}
use Rattle.std.proofs.lemmas.Bool.{and_parts, or_parts, not-true, leb-true, eqb-false}
use Rattle.std.proofs.lemmas.Int.{ints}
use Rattle.std.proofs.lemmas.List.Elements.{All-nil, All-cons}
use Rattle.std.proofs.lemmas.List.Sums.{AllPass-from_list_all}
use Rattle.std.proofs.lemmas.Str.{IsUtf8-from_is_utf8}
use Rattle.csv.specs.Machine.{Read, next_record}
use Rattle.csv.specs.Reading.{records, records_from, records_next, default_config, strip_bom}
use Rattle.csv.specs.declared.parser.Config.{Config}
use Rattle.csv.specs.declared.parser.State.{State}
use Rattle.csv.specs.declared.parser.State.TheVariants as st
use Rattle.decimal_text.specs.Decimal.{read_of}
use Rattle.harmonics_book.specs.Books.{IsWithin}
use Rattle.station_table.specs.declared.fault.OffsetWhy.{OffsetWhy}
use Rattle.station_table.specs.declared.fault.OffsetWhy.TheVariants.{BadName, NotUtf8, OutOfRange}
use Rattle.station_table.specs.declared.header.Header.{Header}
use Rattle.station_table.specs.declared.header.Header.TheVariants.{Plain, WithSlack}
use Rattle.station_table.specs.declared.offset.Slack.{Slack}
use Rattle.station_table.specs.declared.offsets.Offsets.{Offsets}
use Rattle.station_table.specs.Fields.{text_of, name_in, name_of, value_of, within, clock_of, or_bad_number, minutes_of_text, decimal_from, millionths_in, add_of, times_of, plus_of}
use Rattle.station_table.specs.Offsets.{IsAdd, IsSlack, IsTableName, IsOffsets, IsTable}
use Rattle.station_table.specs.Table.{field_of, both_or_none, slack_of, counted, offsets_of, at_row, header_of, rows_from, table_in, table_of}
use Rattle.station_table.proofs.RecordLemmas.{shorter}
use Rattle.station_table.proofs.TableLemmas.{row_went_well, rows_count}
use Rattle.decimal_text.proofs.ExpectedLemmas.{then_ok}
use Rattle.decimal_text.specs.Names.{is_name_byte}
use Rattle.decimal_text.specs.declared.limits.TheConstants.{MOST_BYTES}

-- ---- a test that was true

passed : {A E : Type 0} (b : Bool) (x y : A) (e : E) → cond b (Ok x) (Err e) ≡ Ok y → (b ≡ true) × (x ≡ y)
passed true x y e ok = (refl, cc)
passed false x y e ok = absurd cc

not_failed : {A E : Type 0} (b : Bool) (x y : A) (e : E) → cond b (Err e) (Ok x) ≡ Ok y → (b ≡ false) × (x ≡ y)
not_failed true x y e ok = absurd cc
not_failed false x y e ok = (refl, cc)

abbrev read_as : Offsets → Result Offsets OffsetWhy
read_as offsets = Ok offsets

one_value : (x y : Offsets) → read_as x ≡ read_as y → x ≡ y
one_value x y e = cc

-- ---- a field

name_byte : (b : ℕ) → is_name_byte b ≡ true → (32 ≤ b) × (b ≡ 127 → ⊥)
name_byte b is =
    let parts = and_parts _ _ is in (leb-true 32 b parts.0, eqb-false b 127 (not-true _ parts.1))

name_valid : (field name : List ℕ) → name_of field ≡ Ok name → IsTableName name
unfolding name_of text_of name_in
name_valid field name ok =
    let text = then_ok (text_of field) name_in name ok in
    let utf8 = passed (is_utf8 field) field text.0 NotUtf8 text.1 in
    let good = passed (nat_le 1 (length text.0) && nat_le (length text.0) 400 && list_all is_name_byte text.0) text.0 name BadName text.2 in
    let last = and_parts _ _ good.0 in
    let front = and_parts _ _ last.0 in
    let bytes = AllPass-from_list_all is_name_byte text.0 last.1 in
    subst IsTableName good.1 (record {
      text = subst IsUtf8 utf8.1 (IsUtf8-from_is_utf8 field utf8.0);
      some = leb-true 1 (length text.0) front.0;
      short = leb-true (length text.0) 400 front.1;
      printable = λ k d few. name_byte (get_or text.0 k d) (bytes k d few);
    })

within_valid : (least most z v : ℤ) → within least most z ≡ Ok v → IsWithin least most v
unfolding within
within_valid least most z v ok =
    let inside = not_failed (int_lt z least || int_lt most z) z v OutOfRange ok in
    let sides = or_parts (int_lt z least) (int_lt most z) inside.0 in
    let low = sides.0 in
    let high = sides.1 in
    subst (IsWithin least most) inside.1 (record { least = grind (arith, ints); most = grind (arith, ints) })

usual_or : (P : ℤ → Type 0) (b : Bool) (usual v : ℤ) (ruled : Result ℤ OffsetWhy) → P usual
    → ((w : ℤ) → ruled ≡ Ok w → P w) → cond b (Ok usual) ruled ≡ Ok v → P v
usual_or P true usual v ruled own rule ok = let same : usual ≡ v = cc in subst P same own
usual_or P false usual v ruled own rule ok = rule v ok

value_valid : (P : ℤ → Type 0) (usual : ℤ) (rule : List ℕ → Result ℤ OffsetWhy) (field : List ℕ) (v : ℤ) → P usual
    → ((text : List ℕ) (w : ℤ) → rule text ≡ Ok w → P w) → value_of usual rule field ≡ Ok v → P v
unfolding value_of
value_valid P usual rule field v own ruled ok =
    let text = then_ok (text_of field) _ v ok in
    usual_or P (length text.0 == 0) usual v (rule text.0) own (ruled text.0) text.2

minutes_valid : (text : List ℕ) (v : ℤ) → minutes_of_text text ≡ Ok v → IsAdd v
unfolding minutes_of_text
minutes_valid text v ok =
    let n = then_ok (or_bad_number (clock_of (without_leading_sign text))) _ v ok in
    within_valid (negsuc 1439) (pos 1440) _ v n.2

millionths_valid : (least most : ℤ) (text : List ℕ) (v : ℤ) → millionths_in least most text ≡ Ok v → IsWithin least most v
unfolding millionths_in
millionths_valid least most text v ok =
    let n = then_ok (decimal_from (read_of text 6)) (within least most) v ok in
    within_valid least most n.0 v n.2

add_valid : (field : List ℕ) (v : ℤ) → add_of field ≡ Ok v → IsAdd v
unfolding add_of
add_valid field v ok =
    value_valid IsAdd (pos 0) minutes_of_text field v (record { least = omega (arith, ints); most = omega (arith, ints) }) minutes_valid ok

times_valid : (field : List ℕ) (v : ℤ) → times_of field ≡ Ok v → IsWithin (pos 1) (pos 100000000) v
unfolding times_of
times_valid field v ok =
    value_valid (IsWithin (pos 1) (pos 100000000)) (pos 1000000) (millionths_in (pos 1) (pos 100000000)) field v
    (record { least = omega (arith, ints); most = omega (arith, ints) }) (millionths_valid (pos 1) (pos 100000000)) ok

plus_valid : (field : List ℕ) (v : ℤ) → plus_of field ≡ Ok v → IsWithin (negsuc 9999999999) (pos 10000000000) v
unfolding plus_of
plus_valid field v ok =
    value_valid (IsWithin (negsuc 9999999999) (pos 10000000000)) (pos 0) (millionths_in (negsuc 9999999999) (pos 10000000000)) field v
    (record { least = omega (arith, ints); most = omega (arith, ints) }) (millionths_valid (negsuc 9999999999) (pos 10000000000)) ok

-- ---- a row

both_valid : (a b : Bool) (s : Slack) (slack : Option Slack) → IsSlack s → both_or_none a b s ≡ Ok slack → ForSome slack IsSlack
both_valid true true s slack is ok x e = absurd cc
both_valid true false s slack is ok x e = absurd cc
both_valid false true s slack is ok x e = absurd cc
both_valid false false s slack is ok x e = let same : s ≡ x = cc in subst IsSlack same is

no_slack : ForSome None IsSlack
no_slack x e = absurd cc

slack_valid : (header : Header) (fields : List (List ℕ)) (slack : Option Slack) → slack_of header fields ≡ Ok slack → ForSome slack IsSlack
unfolding slack_of
slack_valid Plain fields slack ok = let none : None ≡ slack = cc in subst (λ (s : Option Slack). ForSome s IsSlack) none no_slack
slack_valid WithSlack fields slack ok =
    let flood = then_ok (add_of (field_of fields 8)) _ slack ok in
    let ebb = then_ok (add_of (field_of fields 9)) _ slack flood.2 in
    both_valid _ _ (record { flood_add = flood.0; ebb_add = ebb.0 }) slack
    (record { flood_add = add_valid (field_of fields 8) flood.0 flood.1; ebb_add = add_valid (field_of fields 9) ebb.0 ebb.1 }) ebb.2

row_valid : (header : Header) (fields : List (List ℕ)) (offsets : Offsets) → offsets_of header fields ≡ Ok offsets → IsOffsets offsets
unfolding offsets_of
row_valid header fields offsets ok =
    let all = then_ok (counted header fields) _ offsets ok in
    let name = then_ok (name_of (field_of fields 0)) _ offsets all.2 in
    let reference = then_ok (name_of (field_of fields 1)) _ offsets name.2 in
    let high_add = then_ok (add_of (field_of fields 2)) _ offsets reference.2 in
    let low_add = then_ok (add_of (field_of fields 3)) _ offsets high_add.2 in
    let high_times = then_ok (times_of (field_of fields 4)) _ offsets low_add.2 in
    let low_times = then_ok (times_of (field_of fields 5)) _ offsets high_times.2 in
    let high_plus = then_ok (plus_of (field_of fields 6)) _ offsets low_times.2 in
    let low_plus = then_ok (plus_of (field_of fields 7)) _ offsets high_plus.2 in
    let slack = then_ok (slack_of header fields) _ offsets low_plus.2 in
    let row : Offsets = record {
      name = name.0;
      reference = reference.0;
      high = record { add = high_add.0; times = high_times.0; plus = high_plus.0 };
      low = record { add = low_add.0; times = low_times.0; plus = low_plus.0 };
      slack = slack.0;
    } in
    let same : row ≡ offsets = one_value row offsets slack.2 in
    subst IsOffsets same (record {
      name = name_valid (field_of fields 0) name.0 name.1;
      reference = name_valid (field_of fields 1) reference.0 reference.1;
      high = record {
        add = add_valid (field_of fields 2) high_add.0 high_add.1;
        times = times_valid (field_of fields 4) high_times.0 high_times.1;
        plus = plus_valid (field_of fields 6) high_plus.0 high_plus.1;
      };
      low = record {
        add = add_valid (field_of fields 3) low_add.0 low_add.1;
        times = times_valid (field_of fields 5) low_times.0 low_times.1;
        plus = plus_valid (field_of fields 7) low_plus.0 low_plus.1;
      };
      slack = slack_valid header fields slack.0 slack.1;
    })

-- ---- all rows

rows_valid : (header : Header) (row : ℕ) (records : List (List (List ℕ))) (table : List Offsets)
    → rows_from header row records ≡ Ok table → All IsOffsets table
unfolding rows_from
rows_valid header row [] table ok = let none : [] ≡ table = cc in subst (All IsOffsets) none (All-nil IsOffsets)
rows_valid header row (fields ∷ more) table ok =
    let first = then_ok (at_row row (offsets_of header fields)) _ table ok in
    let rest = then_ok (rows_from header (row + 1) more) _ table first.2 in
    let same : first.0 ∷ rest.0 ≡ table = (let last = rest.2 in cc) in
    subst (All IsOffsets) same
    (All-cons IsOffsets first.0 rest.0
    (row_valid header fields first.0 (row_went_well row (offsets_of header fields) first.0 first.1))
    (rows_valid header (row + 1) more rest.0 rest.1))

in_valid : (records : List (List (List ℕ))) (table : List Offsets) → table_in records ≡ Ok table
    → All IsOffsets table × (length table ≤ length records)
unfolding table_in
in_valid [] table ok = absurd cc
in_valid (names ∷ rows) table ok =
    let header = then_ok (header_of names) _ table ok in
    (rows_valid header.0 2 rows table header.2, omega (arith, rows_count header.0 2 rows table header.2))

-- at most as many records as are read
next_few : (more : State → List ℕ → List (List (List ℕ))) (n : ℕ) (read : Option Read)
    → ((s : State) (xs : List ℕ) → length (more s xs) ≤ n) → length (records_next more read) ≤ suc n
next_few more n None few = omega arith
next_few more n (Some p) few = omega (arith, few p.1 p.2)

records_few : (cfg : Config) (n : ℕ) (s : State) (xs : List ℕ) → length (records_from cfg n s xs) ≤ n
unfolding records_from
records_few cfg zero s xs = omega arith
records_few cfg (suc n) s xs = next_few (records_from cfg n) n (next_record cfg s [] [] xs) (records_few cfg n)

-- the table of a file of at most 400,000,000 bytes has valid names, offsets in their ranges, and
-- fewer than 2^32 rows
pub table_valid : (bytes : List ℕ) (table : List Offsets) → length bytes ≤ MOST_BYTES → table_of bytes ≡ Ok table → IsTable table
unfolding table_of
table_valid bytes table few ok =
    let text = strip_bom bytes in
    let both = in_valid (records default_config text) table ok in
    record {
      few = omega (arith, both.1, records_few default_config (length text + 1) st.StartRecord text, shorter bytes, few);
      each = both.0;
    }
