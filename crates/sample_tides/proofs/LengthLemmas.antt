-- A bound on the length of the file of a seed.
use Rattle.std.proofs.Common.{◌≡◌, lit<, ℕ, zero, suc, ◌+◌, ◌*◌, ◌/◌, ◌%◌, ◌^◌, ◌<◌, ◌≤◌, ◌==◌, nat_le, Bool, true, false, if◌then◌else◌, List, [], ◌++◌, length, length-append, ℤ, pos, negsuc, ◌-ℤ◌, refl, arith}
use Rattle.std.specs.Prelude.{codes, decimal, unsigned_abs}
use Rattle.std.proofs.Math.Nat.{div-le_self}
use Rattle.std.proofs.lemmas.Int.{ints}
use Rattle.std.proofs.lemmas.Nat.{div_below}
use Rattle.std.proofs.lemmas.Fmt.{length-decimal-le}
use Rattle.decimal_text.specs.Writing.{last_digits, minus_of, fraction_of, write_of}
use Rattle.sample_tides.specs.Generator.{next, scaled_to}
use Rattle.sample_tides.specs.Parts.{SampleWriter, Part, append, line, moved, draw, ◌>>=◌, ◌>>◌, each}
use Rattle.sample_tides.specs.File.{name_of, slowest_of, constituent, hundredths, value, values, table, meridian, level, datum, constants, station, heading, file}
use Rattle.decimal_text.specs.declared.limits.TheConstants.{MOST_BYTES}

-- a part appends at most `most` bytes
pub record Grows (most : ℕ) (part : Part) : Type 0 where
  pub fits : (writer : SampleWriter) → length (part writer).text ≤ length writer.text + most

-- ---- texts

joined : (a b : List ℕ) (m n : ℕ) → length a ≤ m → length b ≤ n → length (a ++ b) ≤ m + n
joined a b m n first last = let all = length-append a b in omega arith

pick : (b : Bool) (x y : List ℕ) (most : ℕ) → length x ≤ most → length y ≤ most → length (if b then x else y) ≤ most
pick true x y most short other = short
pick false x y most short other = other

decimal_short : (n : ℕ) → n < 2 ^ 64 → length (decimal n) ≤ 20
decimal_short n small = length-decimal-le 20 n (lit< tt) (omega arith) small

digits_long : (places n : ℕ) → length (last_digits places n) ≡ places
unfolding last_digits
digits_long zero n = refl
digits_long (suc places) n = let more = digits_long places n in omega arith

fraction_short : (places n : ℕ) → places ≤ 7 → length (fraction_of places n) ≤ 8
fraction_short zero n few = omega arith
fraction_short (suc places) n few = let all = digits_long (suc places) n in omega arith

minus_short : (v : ℤ) → length (minus_of v) ≤ 1
minus_short (pos n) = omega arith
minus_short (negsuc n) = omega arith

write_short : (v : ℤ) (places : ℕ) → unsigned_abs v < 2 ^ 64 → places ≤ 7 → length (write_of v places) ≤ 29
unfolding write_of
write_short v places small few =
    let less = div-le_self (unsigned_abs v) (10 ^ places) in
    joined (minus_of v ++ decimal (unsigned_abs v / 10 ^ places)) (fraction_of places (unsigned_abs v)) 21 8
    (joined (minus_of v) (decimal (unsigned_abs v / 10 ^ places)) 1 20 (minus_short v)
    (decimal_short (unsigned_abs v / 10 ^ places) (omega arith))) (fraction_short places (unsigned_abs v) few)

name_short : (k : ℕ) → k < 2 ^ 64 → length (name_of k) ≤ 21
unfolding name_of
name_short k small =
    pick (k == 1) _ _ 21 (omega arith) (pick (k == 2) _ _ 21 (omega arith) (pick (k == 3) _ _ 21 (omega arith)
    (pick (k == 4) _ _ 21 (omega arith)
    (pick (k == 5) _ _ 21 (omega arith) (joined (codes "C") (decimal k) 1 20 (omega arith) (decimal_short k small))))))

-- ---- parts

wider : (m n : ℕ) (part : Part) → m ≤ n → Grows m part → Grows n part
wider m n part few grows = record { fits = λ writer. let own = grows.fits writer in omega arith }

appended : (most : ℕ) (text : List ℕ) → length text ≤ most → Grows most (append text)
unfolding append
appended most text few = record { fits = λ writer. let all = length-append writer.text text in omega arith }

lined : (most : ℕ) (text : List ℕ) → length text ≤ most → Grows (most + 1) (line text)
lined most text few = appended (most + 1) _ (joined text (codes "\n") most 1 few (omega arith))

both : (m n : ℕ) (p q : Part) → Grows m p → Grows n q → Grows (m + n) (p >> q)
both m n p q first last = record {
  fits = λ writer.
      let a = first.fits writer in
      let b = last.fits (p writer) in
      omega arith;
}

below : (high bound most : ℕ) → high < most → 0 < bound → high * bound < bound * most
below high bound most less some = grind (arith, less, some)

scaled_below : (bound state : ℕ) → 0 < bound → scaled_to bound (next state) < bound
unfolding scaled_to next
scaled_below bound state some =
    let x = (state * 6364136223846793005 + 1442695040888963407) % 2 ^ 64 in
    let high : x / 2 ^ 32 < 2 ^ 32 = div_below x (2 ^ 32) (2 ^ 32) (lit< tt) (omega arith) in
    let under : x / 2 ^ 32 * bound < bound * 2 ^ 32 = below (x / 2 ^ 32) bound (2 ^ 32) high some in
    div_below (x / 2 ^ 32 * bound) (2 ^ 32) bound (lit< tt) under

drawn : (bound most : ℕ) (part : ℕ → Part) → 0 < bound → ((x : ℕ) → x < bound → Grows most (part x)) → Grows most (draw bound >>= part)
unfolding moved
drawn bound most part some one = record {
  fits = λ writer.
      (one (scaled_to bound (next writer.state)) (scaled_below bound writer.state some)).fits
      (record { text = writer.text; state = next writer.state });
}

repeated : (first count most : ℕ) (part : ℕ → Part) → ((k : ℕ) → k < first + count → Grows most (part k))
    → Grows (count * most) (each first count part)
unfolding each
repeated first zero most part one = record { fits = λ writer. omega arith }
repeated first (suc more) most part one = record {
  fits = λ writer.
      let before = (repeated first more most part (λ k small. one k (omega arith))).fits writer in
      let last = (one (first + more) (omega arith)).fits (each first more part writer) in
      grind (arith, before, last);
}

either : (b : Bool) (most : ℕ) (p q : Part) → Grows most p → Grows most q → Grows most (if b then p else q)
either true most p q grows other = grows
either false most p q grows other = other

-- ---- the parts of the file

least_small : (b : Bool) → (if b then 270000000 else 130000000) ≤ 270000000
least_small true = omega arith
least_small false = omega arith

slowest_small : (k : ℕ) → slowest_of k ≤ 270000000
unfolding slowest_of
slowest_small k = least_small (k % 2 == 0)

constituent_grows : (k : ℕ) → k < 38 → Grows 52 (constituent k)
unfolding constituent
constituent_grows k few = drawn 40000000 52
    (λ more. line (name_of k ++ codes " " ++ write_of (pos (slowest_of k + more)) 7)) (lit< tt) (λ more below.
    let slow = slowest_small k in
    lined 51 (name_of k ++ codes " " ++ write_of (pos (slowest_of k + more)) 7)
    (joined (name_of k ++ codes " ") (write_of (pos (slowest_of k + more)) 7) 22 29
    (joined (name_of k) (codes " ") 21 1 (name_short k (omega arith)) (omega arith))
    (write_short (pos (slowest_of k + more)) 7 (omega arith) (omega arith))))

hundredths_short : (n : ℕ) → n < 2 ^ 64 → length (hundredths n) ≤ 29
unfolding hundredths
hundredths_short n small = write_short (pos n) 2 small (omega arith)

value_grows : (least bound places : ℕ) → 0 < bound → least + bound < 2 ^ 64 → places ≤ 7 → Grows 29 (value least bound places)
unfolding value
value_grows least bound places some small few = drawn bound 29 _ some (λ more below.
    appended 29 _ (write_short (pos (least + more)) places (omega arith) few))

values_grow : (one : Part) → Grows 29 one → Grows 900 (values one)
unfolding values
values_grow one grows =
    both 29 871 one _ grows (both 870 1 _ _
    (repeated 1 29 30 _ (λ year few. both 1 29 _ one (appended 1 (codes " ") (omega arith)) grows))
    (appended 1 (codes "\n") (omega arith)))

table_grows : (one : Part) → Grows 29 one → Grows 34121 (table one)
unfolding table
table_grows one grows =
    both 34114 7 _ _
    (repeated 1 37 922 _ (λ k few. both 22 900 _ _ (lined 21 (name_of k) (name_short k (omega arith))) (values_grow one grows)))
    (lined 6 (codes "*END*") (omega arith))

hours_small : (hours : ℕ) → hours < 25 → unsigned_abs (pos hours -ℤ pos 12) < 2 ^ 64
hours_small hours few = omega (arith, ints)

meridian_grows : Grows 40 meridian
unfolding meridian
meridian_grows = drawn 25 40 _ (lit< tt) (λ hours below.
    lined 39 _ (joined _ (codes ":00 :UTC") 29 10
    (write_short (pos hours -ℤ pos 12) 0 (hours_small hours below) (omega arith)) (omega arith)))

level_grows : Grows 40 level
unfolding level
level_grows = drawn 1001 40 _ (lit< tt) (λ feet below.
    lined 39 _ (joined _ (codes " feet") 29 10 (hundredths_short feet (omega arith)) (omega arith)))

datum_grows : (i : ℕ) → Grows 40 (datum i)
unfolding datum
datum_grows i = either (i % 5 == 0) 40 _ _ (lined 39 (codes "0.00 knots") (omega arith)) level_grows

bound_some : (b : Bool) → 0 < (if b then 300 else 30)
bound_some true = omega arith
bound_some false = omega arith

bound_small : (b : Bool) → (if b then 300 else 30) ≤ 300
bound_small true = omega arith
bound_small false = omega arith

pair_grows : (k amplitude epoch : ℕ) → k < 38 → amplitude < 2 ^ 64 → epoch < 2 ^ 64
    → Grows 82 (line (name_of k ++ codes " " ++ hundredths amplitude ++ codes " " ++ hundredths epoch))
pair_grows k amplitude epoch few small low =
    lined 81 (name_of k ++ codes " " ++ hundredths amplitude ++ codes " " ++ hundredths epoch)
    (joined (name_of k ++ codes " " ++ hundredths amplitude ++ codes " ") (hundredths epoch) 52 29
    (joined (name_of k ++ codes " " ++ hundredths amplitude) (codes " ") 51 1
    (joined (name_of k ++ codes " ") (hundredths amplitude) 22 29
    (joined (name_of k) (codes " ") 21 1 (name_short k (omega arith)) (omega arith)) (hundredths_short amplitude small))
    (omega arith)) (hundredths_short epoch low))

given_grows : (k : ℕ) → k < 38 → Grows 82 (draw (if nat_le k 5 then 300 else 30) >>= (λ amplitude. draw 36000
    >>= (λ epoch. line (name_of k ++ codes " " ++ hundredths amplitude ++ codes " " ++ hundredths epoch))))
given_grows k few =
    drawn (if nat_le k 5 then 300 else 30) 82 (λ amplitude. draw 36000
    >>= (λ epoch. line (name_of k ++ codes " " ++ hundredths amplitude ++ codes " " ++ hundredths epoch)))
    (bound_some (nat_le k 5)) (λ amplitude below.
    drawn 36000 82 (λ epoch. line (name_of k ++ codes " " ++ hundredths amplitude ++ codes " " ++ hundredths epoch))
    (lit< tt) (λ epoch under.
    let small = bound_small (nat_le k 5) in
    pair_grows k amplitude epoch few (omega arith) (omega arith)))

constants_grow : (k : ℕ) → k < 38 → Grows 82 (constants k)
unfolding constants
constants_grow k few = either (k % 7 == 0) 82 (line (codes "x 0 0")) _ (lined 81 (codes "x 0 0") (omega arith)) (given_grows k few)

station_grows : (i : ℕ) → i < 201 → Grows 3144 (station i)
unfolding station
station_grows i few =
    both 30 3114 _ _ (lined 29 (codes "Station " ++ decimal i)
    (joined (codes "Station ") (decimal i) 9 20 (omega arith) (decimal_short i (omega arith))))
    (both 40 3074 _ _ meridian_grows (both 40 3034 _ _ (datum_grows i) (repeated 1 37 82 constants constants_grow)))

heading_grows : (seed : ℕ) → seed < 2 ^ 64 → Grows 168 (heading seed)
unfolding heading
heading_grows seed small =
    let short : (text : List ℕ) → length text ≤ 20 → Grows 21 (line text) = λ text few. lined 20 text few in
    both 42 126 _ _ (lined 41 (codes "# sample tides, seed " ++ decimal seed)
    (joined (codes "# sample tides, seed ") (decimal seed) 21 20 (omega arith) (decimal_short seed small)))
    (both 21 105 _ _ (short (codes "37") (omega arith)) (both 21 84 _ _ (short (codes "M2 28.9841042") (omega arith))
    (both 21 63 _ _ (short (codes "S2 30.0000000") (omega arith)) (both 21 42 _ _ (short (codes "N2 28.4397295") (omega arith))
    (both 21 21 _ _ (short (codes "K1 15.0410686") (omega arith)) (short (codes "O1 13.9430356") (omega arith)))))))

file_grows : (seed : ℕ) → seed < 2 ^ 64 → Grows MOST_BYTES (file seed)
unfolding file
file_grows seed small =
    let short : (text : List ℕ) → length text ≤ 20 → Grows 21 (line text) = λ text few. lined 20 text few in
    both 168 399999832 _ _ (heading_grows seed small)
    (both 1664 399998168 _ _ (repeated 6 32 52 constituent constituent_grows)
    (both 21 399998147 _ _ (short (codes "2000") (omega arith))
    (both 21 399998126 _ _ (short (codes "30") (omega arith))
    (both 34121 399964005 _ _ (table_grows _ (value_grows 0 36000 2 (lit< tt) (lit< tt) (omega arith)))
    (both 21 399963984 _ _ (short (codes "30") (omega arith))
    (both 34121 399929863 _ _ (table_grows _ (value_grows 8000 4001 4 (lit< tt) (lit< tt) (omega arith)))
    (wider 628800 399929863 _ (omega arith) (repeated 1 200 3144 station station_grows))))))))

pub file_short : (seed : ℕ) → seed < 2 ^ 64 → length (file seed (record { text = []; state = seed })).text ≤ MOST_BYTES
file_short seed small = (file_grows seed small).fits (record { text = []; state = seed })
